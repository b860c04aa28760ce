-- How a session goes on from command to command, and where it stops.
use Rattle.std.proofs.Common.{◌≡◌, inr, ℕ, ◌+◌, ◌-◌, ◌<◌, List, [], ◌∷◌, ◌++◌, length, take, get_or, Ok, Err, refl, sym, ◌∙◌, ap, subst, arith}
use Rattle.std.specs.Prelude.{All}
use Rattle.std.specs.List.{slice_get}
use Rattle.std.proofs.lemmas.List.{take_more}
use Rattle.std.proofs.lemmas.List.Elements.{All-cons, All-nil}
use Rattle.std.proofs.lemmas.Option.{slice_get_read}
use Rattle.hdfs_model.specs.declared.commands.Command.{Command}
use Rattle.hdfs_model.specs.declared.commands.Reply.{Reply}
use Rattle.hdfs_model.specs.declared.commands.Fault.{Fault}
use Rattle.hdfs_cluster.specs.Counts.{NoneRose}
use Rattle.hdfs_cluster.specs.Files.{State}
use Rattle.hdfs_model.specs.Folds.{Ends, fold}
use Rattle.hdfs_model.specs.Headline.{Applied, Stopped}
use Rattle.hdfs_cluster.specs.Fitting.{Fits}
use Rattle.hdfs_model.specs.Sessions.{SameOpened, Avoids, AreLimited, Complete, none_open, spared}
use Rattle.hdfs_cluster.specs.Shown.{Shown, Later, SameReads}
use Rattle.hdfs_model.specs.Steps.{World, Done, step}
use Rattle.hdfs_model.proofs.Folding.{fold-push}
use Rattle.hdfs_model.proofs.Telling.{tells_on, tells_since}
use Rattle.hdfs_commands.specs.Acting.{Acts, IsReady, world_at}
use Rattle.hdfs_commands.specs.Session.{Carried, CarriesOpen, LeavesFiles, opened_of, scene_of}
use Rattle.hdfs_commands.specs.declared.session.Session.{Session}
use Rattle.hdfs_commands.proofs.Agreeing.{agrees_but, agrees_from-AgreesBut}
use Rattle.hdfs_commands.proofs.Onward.{cause_on, none_rose_earlier}
use Rattle.hdfs_commands.proofs.Avoiding.{avoids_next}
use Rattle.hdfs_session.proofs.Finishing.{are_limited_push, is_limited_at, complete_stopped}
use Rattle.hdfs_commands.proofs.Since.{cause_since, none_rose_later}

-- So many commands were done as the fold does them, and the session carries the state that they leave.
pub record GoneOn (w : World) (state : State) (commands : List Command) (n : ℕ) (replies : List Reply) (now : Shown) (session : Session) : Type 0 where
  pub last : State
  pub folds : fold w state (take n commands) ≡ Ends replies last
  pub limited : AreLimited w state (take n commands)
  pub fits : Fits now last
  pub opened : SameOpened (opened_of session) last
  pub avoids : All (Avoids w last) commands
  pub carried : Carried now session last
  pub world : world_at session now ≡ w

-- before the first command
pub gone_none : (w : World) (state : State) (commands : List Command) (now : Shown) (session : Session) → Fits now state → SameOpened (opened_of session) state → All (Avoids w state) commands
    → Carried now session state → world_at session now ≡ w → GoneOn w state commands 0 [] now session
gone_none w state commands now session fits opened avoids carried world =
    record { last = state; folds = refl; limited = tt; fits = fits; opened = opened; avoids = avoids; carried = carried; world = world }

-- at the next command
module _ (w : World) (state : State) (commands : List Command) (n : ℕ) (replies : List Reply) (now : Shown) (session : Session) (command : Command) (gone : GoneOn w state commands n replies now session)
    (below : n < length commands) (here : command ≡ get_or commands n command) where
  more : take (n + 1) commands ≡ take n commands ++ command ∷ []
  more = take_more commands n command below ∙ ap (λ (x : Command). take n commands ++ x ∷ []) (sym here)

  avoids : Avoids w gone.last command
  avoids = subst (Avoids w gone.last) (sym here) (gone.avoids n command below)

  pub is_ready : IsReady now session gone.last command
  is_ready = record {
    ready = record {
      fits = gone.fits;
      opened = gone.opened;
      avoids = All-cons (Avoids (world_at session now) gone.last) command [] (subst (λ (x : World). Avoids x gone.last command) (sym gone.world) avoids) (All-nil (Avoids (world_at session now) gone.last));
    };
    carried = gone.carried;
  }

  module _ (new : Shown) (session' : Session) where
    -- where it is done the fold goes on
    pub goes_on : (reply : Reply) → Acts command now session new session' (Ok reply) → GoneOn w state commands (n + 1) (replies ++ reply ∷ []) new session'
    goes_on reply acts =
        let applied = subst (λ (x : World). Applied x gone.last command (scene_of session now) (scene_of session' new) (Ok reply)) gone.world (acts.applied gone.last is_ready) in
        let done = applied.ok in
        let next = done.0 in
        let at_world = subst (λ (x : World). step x gone.last command ≡ Done reply next) (sym gone.world) done.1 in
        record {
          last = next;
          folds = ap (fold w state) more ∙ fold-push w state (take n commands) command replies gone.last reply next gone.folds done.1;
          limited = subst (AreLimited w state) (sym more) (are_limited_push w state (take n commands) command replies gone.last gone.folds gone.limited done.2);
          fits = done.3;
          opened = done.4;
          avoids = avoids_next w gone.last next command reply done.1 commands gone.avoids;
          carried = acts.carried gone.last is_ready next at_world;
          world = acts.world gone.last is_ready ∙ gone.world;
        }

    -- where it fails the session stops, once it has given up its files
    module _ (start final : Shown) (later : Later start now) (later' : Later now new) (later'' : Later new final) (reads : SameReads new final) (leaves : (state : State) → CarriesOpen new session' state → LeavesFiles new final state)
        (fault : Fault) (acts : Acts command now session new session' (Err fault.error)) (at : fault.at ≡ n + 1) where
      applied_err : Applied w gone.last command (scene_of session now) (scene_of session' new) (Err fault.error)
      applied_err = subst (λ (x : World). Applied x gone.last command (scene_of session now) (scene_of session' new) (Err fault.error)) gone.world (acts.applied gone.last is_ready)

      left : LeavesFiles new final gone.last
      left = leaves gone.last (acts.spares gone.last is_ready)

      pub stops_there : fault.done ≡ replies → final.last ≡ new.last → Stopped w state commands start final fault
      stops_there done last =
          let number : fault.at - 1 ≡ n = omega (arith, at) in
          record {
            last = gone.last;
            done = ap (λ (i : ℕ). fold w state (take i commands)) number ∙ gone.folds ∙ ap (λ (rs : List Reply). Ends rs gone.last) (sym done);
            cause = λ some. (
              command,
              ap (slice_get commands) number ∙ slice_get_read commands (length commands) n command refl below here,
              tells_since start now final later.counts command fault.error (tells_on now new final later'' last command fault.error acts.anywhere.tells),
              cause_since start now final later.counts w gone.last command fault.error (cause_on now new final later'' reads gone.last left w command avoids fault.error applied_err.err.0),
              left.agrees (spared w gone.last command fault.error) applied_err.err.1,
            );
            start = λ none. absurd (omega (arith, at, none));
          }

      -- and where no count rose, it stops as the fold does, but for want of memory
      pub complete_there : (T : Type 0) → AreLimited w state commands → NoneRose start.namenodes start.counts final.counts → Complete {T = T} (fold w state commands) (Err fault)
      complete_there T limited none =
          let until : NoneRose start.namenodes start.counts new.counts = none_rose_earlier start.namenodes start.counts new.counts final.counts later''.counts none in
          let since : NoneRose now.namenodes now.counts new.counts =
          subst (λ (i : ℕ). NoneRose i now.counts new.counts) (sym later.namenodes) (none_rose_later start.namenodes start.counts now.counts new.counts later.counts until) in
          let within = is_limited_at w state commands n command replies gone.last below here gone.folds limited in
          complete_stopped T w state commands n command replies gone.last fault below here gone.folds at (applied_err.complete within since)

-- a session that carries its files carries those of which it has a link
pub open_carried : (shown : Shown) (session : Session) (state : State) → Carried shown session state → CarriesOpen shown session state
open_carried shown session state carried = record { each = λ p told path writer is. inr (carried.each p told path writer is) }

-- all commands were done, and the files given up
pub ends_there : (w : World) (state : State) (commands : List Command) (n : ℕ) (replies : List Reply) (now final : Shown) (session : Session) (gone : GoneOn w state commands n replies now session)
    → take n commands ≡ commands → ((state : State) → CarriesOpen now session state → LeavesFiles now final state)
    → (last : State) × (fold w state commands ≡ Ends replies last) × AreLimited w state commands × Fits final last
ends_there w state commands n replies now final session gone all leaves =
    let left = leaves gone.last (open_carried now session gone.last gone.carried) in (
      gone.last,
      ap (fold w state) (sym all) ∙ gone.folds,
      subst (AreLimited w state) all gone.limited,
      record {
        is_state = gone.fits.is_state;
        agrees = agrees_from-AgreesBut none_open final.picture gone.last.files (λ path. refl) (left.agrees none_open (agrees_but none_open now.picture gone.last.files gone.fits.agrees));
      },
    )
