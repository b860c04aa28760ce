-- What a session over a known store has done, and how it is printed.
use Rattle.std.proofs.Common.{arith, true, inl, inr, ◌≡◌, ◌≢◌, ℕ, MatchResult, Vec, List, get_or, Ok, Err, Result, refl, sym, ◌∙◌, ap, subst}
use Rattle.std.specs.declared.alloc.Global.{Global}
use Rattle.hdfs_model.specs.declared.commands.Command.{Command}
use Rattle.hdfs_model.specs.declared.commands.Command.TheVariants as commands
use Rattle.hdfs_model.specs.declared.commands.Reply.{Reply}
use Rattle.hdfs_model.specs.declared.commands.Settings.{Settings}
use Rattle.hdfs_model.specs.declared.commands.Fault.{Fault}
use Rattle.hdfs_cluster.specs.declared.errors.HdfsError.TheVariants as errors
use Rattle.hdfs_cluster.specs.Files.{State}
use Rattle.hdfs_model.specs.Folds.{Folded, Ends, Stops, fold}
use Rattle.hdfs_model.specs.Headline.{Ready, Ran, Stopped}
use Rattle.hdfs_model.specs.Limits.{are_settings}
use Rattle.hdfs_model.specs.Sessions.{AreLimited, Avoids, Complete, none_open, world_of}
use Rattle.hdfs_cluster.specs.Shown.{Shown, Later}
use Rattle.hdfs_model.specs.Steps.{World, target_of}
use Rattle.hdfs_script.specs.declared.entry.ScriptSettings.{ScriptSettings}
use Rattle.hdfs_script.specs.Scripts.{session_settings}
use Rattle.hdfs_script.specs.Texts.{replies_text, fault_text}
use Rattle.hdfs_streams.specs.declared.streams.IoFailed.{IoFailed}
use Rattle.hdfs_streams.specs.Streams.{SinkShown, Prints, Wrote}
use Rattle.hdfs_top.specs.Top.{IsClosed, StatusOf}
use Rattle.hdfs_top.specs.declared.note.Note.{Note}
use Rattle.hdfs_top.specs.Notes.{TellsStop}
use Rattle.hdfs_top.specs.Inside.{IsKnownStore, Concludes, ToEnd, ToFault, NotesStop, RanCommands, stage, world_ready}

-- the status of a print
pub concludes_from-Prints : {T : Type 0} (good : ℕ) (a c : SinkShown) (text : List ℕ) (r : Result T IoFailed) (status : ℕ) → Prints a text r c → MatchResult r (λ x. status ≡ good) (λ e. status ≡ 5) → Concludes good a text status c
concludes_from-Prints good a c text (Ok x) status p is = inl (record { is = is; wrote = p.ok; fine = p.fine })
concludes_from-Prints good a c text (Err e) status p is = inr (record { is = is; rose = p.failed; part = p.part })

-- the settings of a script make its world
pub world_is : (settings : Settings) (given : ScriptSettings) (s : Shown) → settings ≡ session_settings given → world_of settings s ≡ world_ready given s
world_is settings given s is = ap (λ (x : Settings). world_of x s) is

-- and are in their limits where the script's are
pub limited_settings : (settings : Settings) (given : ScriptSettings) → settings ≡ session_settings given → are_settings (session_settings given) ≡ true → are_settings settings ≡ true
limited_settings settings given is limited = ap are_settings is ∙ limited

-- where all files are closed no command names one that is being written
avoids_closed : (w : World) (state : State) (command : Command) → IsClosed state → Avoids w state command
avoids_closed w state (commands.Read path offset len) closed =
    λ strange. closed.written (target_of w (commands.Read path offset len)) strange.0 strange.1
avoids_closed w state (commands.Info path) closed =
    λ strange. closed.written (target_of w (commands.Info path)) strange.0 strange.1
avoids_closed w state command closed = tt

ready : (w : World) (old : Shown) (state : State) (commands : List Command) → IsKnownStore old state → Ready w (record { opened = none_open; shown = old }) state commands
ready w old state commands known = record {
  fits = known.fits;
  opened = known.closed.opened;
  avoids = λ k d within. avoids_closed w state (get_or commands k d) known.closed;
}

abbrev RanReady : World → List Command → Shown → Shown → Result (Vec Reply Global) Fault → Type 0
RanReady w commands old new result = (state : State) → Ready w (record { opened = none_open; shown = old }) state commands → Ran w state commands old new result

-- a session came to its end
pub ran_to_end : (w : World) (given : ScriptSettings) (commands : List Command) (old new : Shown) (before after : SinkShown) (status : ℕ) (replies : Vec Reply Global) → w ≡ world_ready given old → Later old new → RanReady w commands old new (Ok replies) → Concludes 0 before (replies_text replies.items) status after → RanCommands given commands (stage old before) status (stage new after)
ran_to_end w given commands old new before after status replies is later ran printed =
    let end : ToEnd given commands (stage old before) status (stage new after) = record {
      replies = replies.items;
      told = λ state known.
          let t = (ran state (ready w old state commands known)).ok in
          (t.0, ap (λ v. fold v state commands) (sym is) ∙ t.1, t.3);
      printed = printed;
    } in
    record { later = later; ending = inr (inl end) }

-- where nothing failed, a session stops at a command that is refused
refused_from-Complete : (T : Type 0) (r : Folded) (fault : Fault) → Complete {T = T} r (Err fault) → fault.error ≢ errors.NoMemory → StatusOf r 2
refused_from-Complete T (Ends replies last) fault complete other = absurd (other complete)
refused_from-Complete T (Stops replies last why) fault complete other = inl refl

-- a session stopped at a fault
to_fault : (w : World) (given : ScriptSettings) (commands : List Command) (old new : Shown) (before after : SinkShown) (status : ℕ) (fault : Fault) → w ≡ world_ready given old → RanReady w commands old new (Err fault) → fault.error ≢ errors.NoMemory → Concludes 2 before (fault_text fault) status after → ToFault given commands (stage old before) status (stage new after)
to_fault w given commands old new before after status fault is ran other printed = record {
  fault = fault;
  other = other;
  told = λ state known. subst (λ (v : World). Stopped v state commands old new fault) is (ran state (ready w old state commands known)).err;
  complete = λ state known limited none.
      (let within = subst (λ (v : World). AreLimited v state commands) (sym is) limited in
      refused_from-Complete (Vec Reply Global) (fold (world_ready given old) state commands) fault
      (subst (λ (v : World). Complete {T = Vec Reply Global} (fold v state commands) (Err fault)) is ((ran state (ready w old state commands known)).complete within none)) other);
  printed = printed;
}

pub ran_to_fault : (w : World) (given : ScriptSettings) (commands : List Command) (old new : Shown) (before after : SinkShown) (status : ℕ) (fault : Fault) → w ≡ world_ready given old → Later old new → RanReady w commands old new (Err fault) → fault.error ≢ errors.NoMemory → Concludes 2 before (fault_text fault) status after → RanCommands given commands (stage old before) status (stage new after)
ran_to_fault w given commands old new before after status fault is later ran other printed =
    record { later = later; ending = inr (inr (to_fault w given commands old new before after status fault is ran other printed)) }

-- and that was noted
pub notes_stop : (w : World) (given : ScriptSettings) (commands : List Command) (old new : Shown) (before after : SinkShown) (status : ℕ) (fault : Fault) (note : Note) → w ≡ world_ready given old → RanReady w commands old new (Err fault) → fault.error ≢ errors.NoMemory → Concludes 2 before (fault_text fault) status after → TellsStop note fault.at fault.error → NotesStop given commands (stage old before) status note (stage new after)
unfolding to_fault
notes_stop w given commands old new before after status fault note is ran other printed noted =
    record { stop = to_fault w given commands old new before after status fault is ran other printed; is = noted }

-- a print for another status doesn't end with status 2
pub not_status_2 : (good status : ℕ) (a c : SinkShown) (text : List ℕ) → Concludes good a text status c → (good ≡ 2 → ⊥) → status ≡ 2 → ⊥
not_status_2 good status a c text (inl whole) other two = other (sym whole.is ∙ two)
not_status_2 good status a c text (inr part) other two = omega (arith, part.is, two)

-- one that ends with it wrote the whole text
pub whole_at_2 : (status : ℕ) (a c : SinkShown) (text : List ℕ) → Concludes 2 a text status c → status ≡ 2 → Wrote a text c
whole_at_2 status a c text (inl whole) two = whole.wrote
whole_at_2 status a c text (inr part) two = absurd (omega (arith, part.is, two))
