-- A command that is refused before anything is asked.
use Rattle.std.proofs.Common.{◌≡◌, ◌⊎◌, inl, inr, ℕ, Bool, true, false, cond, List, Result, Ok, Err, refl, sym, ap, subst}
use Rattle.std.specs.Prelude.{IfErr}
use Rattle.hdfs_model.specs.declared.commands.Command.{Command}
use Rattle.hdfs_model.specs.declared.commands.Reply.{Reply}
use Rattle.hdfs_cluster.specs.declared.errors.ArgFault.TheVariants as args
use Rattle.hdfs_cluster.specs.declared.errors.HdfsError.{HdfsError}
use Rattle.hdfs_cluster.specs.declared.errors.HdfsError.TheVariants as errors
use Rattle.hdfs_model.specs.Causes.{Cause, Tells}
use Rattle.hdfs_cluster.specs.Files.{State}
use Rattle.hdfs_names.specs.Paths.{is_path}
use Rattle.hdfs_model.specs.Sessions.{Answers, spared}
use Rattle.hdfs_model.specs.Owing.{Owed, IsMisplaced, IsNotOwed, MeetsNoText}
use Rattle.hdfs_cluster.specs.Shown.{Shown}
use Rattle.hdfs_model.specs.Steps.{World, Outcome, Refused, Done, BadPath, path_of, step, step_at, target_of}
use Rattle.hdfs_model.proofs.Misplaced.{misplaced_step}
use Rattle.hdfs_cluster.proofs.Frames.{later_refl, same_reads_refl}
use Rattle.hdfs_commands.specs.Acting.{Acts, IsReady, world_at}
use Rattle.hdfs_commands.specs.Session.{Stands, after, opened_of}
use Rattle.hdfs_commands.specs.declared.session.Session.{Session}
use Rattle.hdfs_commands.proofs.Agreeing.{agrees_but}
use Rattle.hdfs_commands.proofs.Sized.{remembers_failed, remembers_refl, sized_still}
use Rattle.hdfs_commands.proofs.Tallying.{IsNoLimit, tallied_moved}

-- a result that is an error
abbrev error_result : HdfsError → Result Reply HdfsError
error_result error = Err error

-- a session that stands once a call of it has failed
pub failed_stands : (s : Shown) (session : Session) → Stands s session → Stands s (record session { failed = true })
failed_stands s session stands = record {
  limited = stands.limited;
  each = stands.each;
  fine = λ fine. absurd (cc (fine));
  apart = stands.apart;
  reaches = stands.reaches;
  name = stands.name;
  sized = λ path writer is.
      sized_still session (record session { failed = true }) (remembers_failed session session (remembers_refl session)) writer writer refl
      (stands.sized path writer is);
}

-- nothing was done
pub early_acts : (s : Shown) (session : Session) (command : Command) (error : HdfsError) → IsNoLimit error → Stands s session → Tells command s s error
    → ((state : State) → IsReady s session state command → Cause (world_at session s) state command s s error × Answers (step (world_at session s) state command) error)
    → Acts command s session s (after session (error_result error)) (Err error)
early_acts s session command error apart stands tells cause = record {
  anywhere = record { later = later_refl s; reads = same_reads_refl s; replies = tt; tells = tells; refused = λ early d. refl; idle = λ idle d. refl };
  links = record { others = λ link some foreign. refl; none = λ link was. was; fresh = λ link has. inl has };
  stands = failed_stands s session stands;
  tallied = tallied_moved (later_refl s) (λ r. refl);
  limit = λ start n is tally. absurd (apart n is);
  writers = λ r apart. refl;
  applied = λ state ready. record {
    ok = tt;
    err = ((cause state ready).0, agrees_but (spared (world_at session s) state command error) s.picture state.files ready.ready.fits.agrees);
    complete = λ limited none. (cause state ready).1;
  };
  world = λ state ready. tt;
  carried = λ state ready. tt;
  spares = λ state ready. record { each = λ p told path writer is. inr (ready.carried.each p told path writer is) };
}

memory_answers : (outcome : Outcome) → Answers outcome errors.NoMemory
memory_answers (Done reply next) = refl
memory_answers (Refused why) = inl refl

-- for want of memory
pub memory_acts : (s : Shown) (session : Session) (command : Command) → Stands s session → Acts command s session s (after session (error_result errors.NoMemory)) (Err errors.NoMemory)
memory_acts s session command stands = early_acts s session command errors.NoMemory (λ n is. cc (is)) stands (tt, (tt, tt)) (λ state ready. ((tt, tt), memory_answers (step (world_at session s) state command)))

bad_path : (w : World) (state : State) (command : Command) → is_path (target_of w command) ≡ false → step w state command ≡ Refused BadPath
bad_path w state command is = ap (λ (b : Bool). cond b (step_at w state (target_of w command) command) (Refused BadPath)) is

-- for the path rule
pub path_acts : (s : Shown) (session : Session) (command : Command) → Stands s session → is_path (target_of (world_at session s) command) ≡ false
    → Acts command s session s (after session (error_result (errors.InvalidPath (path_of command)))) (Err (errors.InvalidPath (path_of command)))
path_acts s session command stands is = early_acts s session command (errors.InvalidPath (path_of command)) (λ n is. cc (is)) stands (refl, (tt, tt)) (λ state ready.
    (let refused = bad_path (world_at session s) state command is in
    ((refused, tt), subst (λ (o : Outcome). Answers o (errors.InvalidPath (path_of command))) (sym refused) (inr tt))))

-- for what the session has open
pub state_acts : (s : Shown) (session : Session) (command : Command) → Stands s session → is_path (target_of (world_at session s) command) ≡ true
    → IsMisplaced (opened_of session) (target_of (world_at session s) command) command
    → Acts command s session s (after session (error_result (errors.InvalidArgument args.State))) (Err (errors.InvalidArgument args.State))
state_acts s session command stands is placed = early_acts s session command (errors.InvalidArgument args.State) (λ n is. cc (is)) stands (tt, (tt, tt)) (λ state ready.
    (let refused = misplaced_step (world_at session s) (opened_of session) state command ready.ready.opened is placed in
    ((refused, tt), subst (λ (o : Outcome). Answers o (errors.InvalidArgument args.State)) (sym refused) (inr tt))))

-- and where neither is broken
pub owed_other : (w : World) (opened : List ℕ → Bool) (command : Command) (error : HdfsError) → is_path (target_of w command) ≡ true
    → (IsMisplaced opened (target_of w command) command → ⊥) → IsNotOwed error ⊎ MeetsNoText command error → Owed w opened command error
owed_other w opened command error is placed owes = inr (inr (inr (is, placed, owes)))

-- of a call that says neither
pub owed_plain : {T : Type 0} (w : World) (opened : List ℕ → Bool) (command : Command) (result : Result T HdfsError) → is_path (target_of w command) ≡ true
    → (IsMisplaced opened (target_of w command) command → ⊥) → IfErr result IsNotOwed → IfErr result (Owed w opened command)
owed_plain w opened command (Ok value) is placed owes = tt
owed_plain w opened command (Err error) is placed owes = owed_other w opened command error is placed (inl owes)
