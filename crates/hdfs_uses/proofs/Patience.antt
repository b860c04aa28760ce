-- A new session over a cluster that has been read.
use Rattle.std.proofs.Common.{◌≡◌, ℕ, ◌&&◌, Bool, true, false, not, cond, List, [], ◌∷◌, Option, Some, None, is_some, Ok, Err, refl, sym, ◌∙◌, ap, subst, arith}
use Rattle.std.specs.Prelude.{IfSome}
use Rattle.std.proofs.lemmas.List.Elements.{All-cons, All-nil}
use Rattle.hdfs_model.specs.declared.commands.Command.{Command}
use Rattle.hdfs_model.specs.declared.commands.Command.TheVariants as commands
use Rattle.hdfs_model.specs.declared.commands.Reply.{Reply}
use Rattle.hdfs_model.specs.declared.commands.Settings.{Settings}
use Rattle.hdfs_cluster.specs.declared.errors.HdfsError.{HdfsError}
use Rattle.hdfs_cluster.specs.declared.messages.ServerDefaults.{ServerDefaults}
use Rattle.hdfs_cluster.specs.Files.{State, kinds_of, no_file}
use Rattle.hdfs_model.specs.Headline.{Ready, Scene}
use Rattle.hdfs_names.specs.Paths.{is_path, absolute}
use Rattle.hdfs_cluster.specs.Fitting.{Fits}
use Rattle.hdfs_model.specs.Sessions.{Avoids, IsStrange, defaults_of, does, is_before_asking, none_open, spared, world_of}
use Rattle.hdfs_cluster.specs.Shown.{Shown}
use Rattle.hdfs_model.specs.Steps.{World, Outcome, Refused, BadPath, WrongState, is_opened, read_file, step}
use Rattle.hdfs_commands.specs.Acting.{Acts, IsReady, world_at}
use Rattle.hdfs_commands.specs.Session.{defaults_known, settings_of, writer_of}
use Rattle.hdfs_commands.specs.declared.session.Session.{Session}
use Rattle.hdfs_commands.proofs.Agreeing.{agrees_from-AgreesBut}
use Rattle.hdfs_uses.specs.Trying.{Answered, IsRead}

nothing_known : (p : ServerDefaults) (o : Option ServerDefaults) → o ≡ None → IfSome o (λ known. known ≡ p)
nothing_known p None is = tt
nothing_known p (Some known) is = absurd (cc)

-- a read's step and what it avoids are told by the home alone
avoids_from : (w w' : World) (state : State) (command : Command) → IsRead command → w'.home ≡ w.home → Avoids w state command → Avoids w' state command
avoids_from w w' state (commands.Read path offset len) reads same avoids = subst (λ (home : List ℕ). IsStrange state (absolute home path) → ⊥) (sym same) avoids
avoids_from w w' state command reads same avoids = absurd reads

read_at : State → List ℕ → ℕ → ℕ → List ℕ → Outcome
read_at state path offset len home =
    cond (is_path (absolute home path)) (cond (is_opened state (absolute home path)) (Refused WrongState) (read_file state (absolute home path) (no_file (kinds_of state.files) (absolute home path)) offset len)) (Refused BadPath)

step_from : (w w' : World) (state : State) (command : Command) → IsRead command → w'.home ≡ w.home → step w' state command ≡ step w state command
unfolding read_at
step_from w w' state (commands.Read path offset len) reads same = ap (read_at state path offset len) same
step_from w w' state command reads same = absurd reads

both_false : (b : Bool) → (b && false) ≡ false
both_false true = refl
both_false false = refl

-- a read spares no path
none_spared : (w : World) (state : State) (command : Command) → IsRead command → (error : HdfsError) (path : List ℕ) → spared w state command error path ≡ false
none_spared w state (commands.Read text offset len) reads error path = both_false (not (is_before_asking error) && does (step w state (commands.Read text offset len)))
none_spared w state command reads error path = absurd reads

-- a session that was just made, for a read
module _ (start now : Shown) (settings : Settings) (session : Session) (command : Command) (reads : IsRead command) (same : settings_of session ≡ settings)
    (empty : (path : List ℕ) → writer_of session path ≡ None) (unknown : defaults_known session ≡ None) where
  abbrev start_scene : Scene
  start_scene = record { opened = none_open; shown = start }

  home_is : (world_at session now).home ≡ (world_of settings start).home
  home_is = ap (λ (s : Settings). s.home) same

  module _ (state : State) (ready : Ready (world_of settings start) start_scene state (command ∷ [])) (fits : Fits now state) where
    -- it is ready, if the session was at the start
    pub is_ready : IsReady now session state command
    is_ready = record {
      ready = record {
        fits = fits;
        opened = λ path. ready.opened path ∙ sym (ap (λ (o : Option _). is_some o) (empty path));
        avoids = All-cons (Avoids (world_at session now) state) command []
            (avoids_from (world_of settings start) (world_at session now) state command reads home_is (ready.avoids 0 command (omega arith))) (All-nil (Avoids (world_at session now) state));
      };
      carried = record {
        each = λ p told path writer is. (let none = empty path in absurd (cc (is, none)));
        defaults = nothing_known (defaults_of now.picture) (defaults_known session) unknown;
      };
    }

    -- a reply is that of the step
    pub answers_reply : (new : Shown) (session' : Session) (reply : Reply) → Acts command now session new session' (Ok reply) → Answered (world_of settings start) command new (Ok reply) state
    answers_reply new session' reply acts =
        let done = (acts.applied state is_ready).ok in
        record { ok = (done.0, sym (step_from (world_of settings start) (world_at session now) state command reads home_is) ∙ done.1, done.3); err = tt }

    -- an error leaves the files
    pub leaves_files : (new : Shown) (session' : Session) (error : HdfsError) → Acts command now session new session' (Err error) → Fits new state
    leaves_files new session' error acts =
        let failed = (acts.applied state is_ready).err in
        record {
          is_state = fits.is_state;
          agrees = agrees_from-AgreesBut (spared (world_at session now) state command error) new.picture state.files (none_spared (world_at session now) state command reads error) failed.1;
        }

    -- which is what a caller has of it
    pub answers_error : (new : Shown) (session' : Session) (error : HdfsError) → Acts command now session new session' (Err error) → Answered (world_of settings start) command new (Err error) state
    answers_error new session' error acts = record { ok = tt; err = leaves_files new session' error acts }
