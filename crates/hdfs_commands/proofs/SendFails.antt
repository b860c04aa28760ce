-- A write or a close that fails.
use Rattle.std.proofs.Common.{◌≡◌, ◌⊎◌, inl, inr, ℕ, Bool, true, false, not, ◌&&◌, List, length, Option, Some, Err, refl, sym, ◌∙◌, ap, subst}
use Rattle.std.specs.Prelude.{IfSome}
use Rattle.std.specs.Str.{bytes_eq}
use Rattle.std.proofs.lemmas.Bool.{false≢true}
use Rattle.hdfs_cluster.specs.declared.asks.Answer.{Answer}
use Rattle.hdfs_cluster.specs.declared.asks.Ask.{Ask}
use Rattle.hdfs_cluster.specs.declared.errors.HdfsError.{HdfsError}
use Rattle.hdfs_cluster.specs.declared.errors.HdfsError.TheVariants as errors
use Rattle.hdfs_cluster.specs.Counts.{FaultCounts}
use Rattle.hdfs_cluster.specs.Failures.{MayReplace}
use Rattle.hdfs_cluster.specs.Files.{State, Content, Writing}
use Rattle.hdfs_cluster.specs.Picture.{Picture}
use Rattle.hdfs_cluster.specs.Shown.{Shown, SameNodes}
use Rattle.hdfs_cluster.specs.Stores.{AgreesAt}
use Rattle.hdfs_cluster.proofs.Frames.{later_trans}
use Rattle.hdfs_model.specs.declared.commands.Command.{Command}
use Rattle.hdfs_model.specs.declared.commands.Command.TheVariants as commands
use Rattle.hdfs_model.specs.declared.commands.Reply.TheVariants as replies
use Rattle.hdfs_model.specs.Causes.{CanMeetEncryption, Cause, IsClose, IsEarly, MovesBytes, ReplacesAt, Sends, Tells, TouchesNothing, CommandLost, IsDone}
use Rattle.hdfs_model.specs.Owing.{IsNotOwed}
use Rattle.hdfs_model.specs.Sessions.{does, spared, touched, is_before_asking}
use Rattle.hdfs_model.specs.Steps.{Outcome, World, is_opened, step, target_of}
use Rattle.hdfs_model.proofs.Completing.{cause_completes}
use Rattle.hdfs_names.specs.Paths.{is_path}
use Rattle.hdfs_namenode.specs.Clients.{name_of}
use Rattle.hdfs_rebuild.specs.declared.block_plan.RebuildSettings.{RebuildSettings}
use Rattle.hdfs_file_writer.specs.Failing.{TellsClose, CauseOfWrite}
use Rattle.hdfs_file_writer.specs.OnlyFiles.{OnlyFile}
use Rattle.hdfs_file_writer.specs.Writers as files
use Rattle.hdfs_file_writer.specs.declared.file_writer.FileWriter.{FileWriter}
use Rattle.hdfs_commands.specs.Acting.{world_at, IsReady}
use Rattle.hdfs_commands.specs.Asking.{AreAnswered}
use Rattle.hdfs_commands.specs.Executing.{Executes}
use Rattle.hdfs_commands.specs.declared.session.Session.{Session}
use Rattle.hdfs_commands.proofs.Beside.{links_of_one, others_open}
use Rattle.hdfs_commands.proofs.OneFile.{agrees_but_by_path, agrees_elsewhere, apart_by_test}
use Rattle.hdfs_commands.proofs.OpenFiles.{close_is_done, closed_state, write_is_done, written_state}
use Rattle.hdfs_commands.proofs.SendActs.{Called, OpenAt, call_of, called_stands, elsewhere, executes, open_at, some_of}
use Rattle.hdfs_commands.proofs.Sized.{encrypted_is}
use Rattle.hdfs_commands.proofs.Tallying.{linkless_tallies, tallied_call}
use Rattle.hdfs_commands.proofs.WholeBeside.{keeps_failed, stays_elsewhere}
use Rattle.hdfs_commands.proofs.WriteFaults.{is_after_asking, tells_sending, not_early, not_owed, cause_sending, unsupported}

-- a command that sends bytes touches its own path
touched_sending : (command : Command) → Sends command → (state : State) (path q : List ℕ) → touched state path command q ≡ bytes_eq path q
touched_sending (commands.Write name bytes) sends state path q = refl
touched_sending (commands.Close name) sends state path q = refl
touched_sending command sends state path q = absurd sends

-- asks for none
loses_none : (command : Command) → Sends command → (old : FaultCounts) (new : Shown) (path : List ℕ) (byte : ℕ) → CommandLost old new path command byte → ⊥
loses_none (commands.Read name offset len) sends old new path byte lost = absurd sends
loses_none command sends old new path byte lost = lost

-- and is done where its file is open
sending_done : (command : Command) → Sends command → (w : World) (state : State) (path : List ℕ) (content : Content) → target_of w command ≡ path → is_path path ≡ true → is_opened state path ≡ true
    → state.files path ≡ Some (Writing content) → IsDone (step w state command)
sending_done (commands.Write name more) sends w state path content called named opened filed =
    (replies.Written (length more), written_state state path content more, write_is_done w state name path content called named opened filed more)
sending_done (commands.Close name) sends w state path content called named opened filed = (replies.Closed, closed_state state path content, close_is_done w state name path content called named opened filed)
sending_done command sends w state path content called named opened filed = absurd sends

module _ {old new : Shown} {session session' : Session} {writer : FileWriter} {now : Option FileWriter} (c : Called old new session writer now session') (may_answer : Ask → Answer → Type 0)
    (command : Command) (sends : Sends command) (called : target_of (world_at session old) command ≡ files.path_of writer) (answered : AreAnswered may_answer session)
    (kept : IfSome now (files.IsAnswered may_answer (name_of session.namenode))) (failed : session'.failed ≡ true) (lost : IfSome now (λ w. files.has_failed w ≡ true))
    (idle : TouchesNothing command → SameNodes old new) where
  abbrev path : List ℕ
  path = files.path_of writer

  -- the step is done
  done : (state : State) → OpenAt old path writer state → IsDone (step (world_at session old) state command)
  done state o = sending_done command sends (world_at session old) state path o.file.content called c.named o.opened o.file.named

  -- once something was asked nothing is said of the path alone
  spared_at : (error : HdfsError) → is_before_asking error ≡ false → (state : State) → IsDone (step (world_at session old) state command) → (q : List ℕ) → spared (world_at session old) state command error q ≡ bytes_eq path q
  spared_at error asked state is q =
      ap (λ (b : Bool). not b && does (step (world_at session old) state command) && touched state (target_of (world_at session old) command) command q) asked
      ∙ ap (λ (o : Outcome). does o && touched state (target_of (world_at session old) command) command q) is.2
      ∙ touched_sending command sends state (target_of (world_at session old) command) q
      ∙ ap (λ (x : List ℕ). bytes_eq x q) called

  -- a datanode of its pipeline may have to be replaced, by the session's policy and the file's replication
  replaces_at : (state : State) → OpenAt old path writer state → MayReplace (files.sizes_of writer).rebuilding.replace.policy (files.sizes_of writer).replication
      → ReplacesAt (world_at session old) state path
  replaces_at state o may = (
    o.file.content,
    o.file.named,
    subst (λ (r : RebuildSettings). MayReplace r.replace.policy o.file.content.attributes.replication) (c.before.sized path writer c.here).rebuilding
        (subst (λ (n : ℕ). MayReplace (files.sizes_of writer).rebuilding.replace.policy n) o.file.replication may),
  )

  module _ (error : HdfsError) (touches : files.TouchesFile old writer new) where
    -- what isn't spared agrees still, once something was asked, and where nothing was done
    still_agrees : (state : State) (o : OpenAt old path writer state) (q : Picture) → new.picture ≡ Some q → OnlyFile path o.picture q → (is_before_asking error ≡ false) ⊎ (new ≡ old)
        → (other : List ℕ) → spared (world_at session old) state command error other ≡ false → AgreesAt q (q.names other) (state.files other)
    still_agrees state o q told only (inl asked) other free =
        agrees_elsewhere path o.picture q (c.sound o.picture o.told) only state.files o.agrees other (apart_by_test path other (sym (spared_at error asked state (done state o) other) ∙ free))
    still_agrees state o q told only (inr same) other free =
        let one : o.picture ≡ q = cc (o.told, told, ap (λ (s : Shown). s.picture) same) in
        subst (λ (x : Picture). AgreesAt x (x.names other) (state.files other)) one (o.agrees other)

    -- it failed for a cause
    pub fails_by : IsNotOwed error → Tells command old new error → (IsEarly command error → SameNodes old new) → (is_before_asking error ≡ false) ⊎ (new ≡ old) → files.EndsTally old writer error new
        → ((state : State) → IsReady old session state command → OpenAt old path writer state → Cause (world_at session old) state command old new error)
        → Executes may_answer command old session new session' (Err error)
    fails_by owes tells early asked limit cause =
        executes c may_answer command sends called answered kept (Err error) (failed, tt) owes
        (record {
          anywhere = record { later = c.own.later; reads = c.own.reads; replies = tt; tells = tells; refused = early; idle = idle };
          links = links_of_one old new session session' path (Some writer) now (call_of c);
          stands = called_stands c (λ fine. absurd (false≢true (sym fine ∙ failed)));
          tallied = tallied_call (call_of c) (λ start tally w is.
              linkless_tallies w ((some_of (λ x. files.Stands new x × files.Keeps writer x) now c.left w is).0.idle (some_of (λ x. files.has_failed x ≡ true) now lost w is)) (later_trans start old new tally.later c.own.later));
          limit = λ start n is tally. limit start n is (tally.each path writer c.here);
          writers = λ r apart. elsewhere c r (λ same. apart (same ∙ sym called));
          applied = λ state ready.
              (let o = open_at old session state command path writer ready c.here in
              let on = touches o.picture o.file.content.bytes o.told o.file.carries in
              record {
                ok = tt;
                err = (cause state ready o, agrees_but_by_path (spared (world_at session old) state command error) new.picture on.0 state.files on.1 (still_agrees state o on.0 on.1 on.2 asked));
                complete = λ limited none.
                    cause_completes (world_at session old) state command old new c.own.later.namenodes limited none
                    (loses_none command sends old.counts new (target_of (world_at session old) command)) error (cause state ready o);
              });
          world = λ state ready. tt;
          carried = λ state ready. tt;
          spares = λ state ready.
              (let o = open_at old session state command path writer ready c.here in
              let on = touches o.picture o.file.content.bytes o.told o.file.carries in
              others_open old new session session' path (Some writer) now (call_of c) (some_of (λ x. files.has_failed x ≡ true) now lost) o.picture on.0 o.told on.1 (c.sound o.picture o.told) on.2 state ready.carried);
        })
        (λ state ready.
        (let o = open_at old session state command path writer ready c.here in
        let on = touches o.picture o.file.content.bytes o.told o.file.carries in
        keeps_failed command old new session session' path o.picture on.0 o.told on.1 called
        (λ other apart. stays_elsewhere o.picture on.0 path other (c.sound o.picture o.told) on.2 apart) (elsewhere c) error))

    -- the cause of its error
    pub sending_fails : ((name : List ℕ) → error ≡ errors.OperationFailed name → IsClose command) → TellsClose path old new error → files.EndsTally old writer error new → files.HasCause old writer error new
        → Executes may_answer command old session new session' (Err error)
    sending_fails closes tells limit causes =
        let sized = c.before.sized path writer c.here in
        fails_by (not_owed path error tells.0) (tells_sending path command sends old new error closes tells) (λ early. absurd (not_early path command sends error tells.0 early))
        (inl (is_after_asking path error tells.0)) limit
        (λ state ready o.
        cause_sending path command sends old new (world_at session old) state called (done state o) (files.sizes_of writer)
        (ap (λ (r : RebuildSettings). r.rebuild_limit) sized.rebuilding) sized.setups (ap (λ (r : RebuildSettings). r.replace.best_effort) sized.rebuilding) (replaces_at state o) error tells (causes o.picture o.file.content.bytes o.told o.file.carries))

    -- its bytes are to be encrypted
    pub unsupported_fails : error ≡ unsupported → CanMeetEncryption command → MovesBytes command → SameNodes old new → files.HasCause old writer error new → Executes may_answer command old session new session' (Err error)
    unsupported_fails is can moves nodes causes =
        fails_by (subst IsNotOwed (sym is) tt) (subst (Tells command old new) (sym is) (can, (tt, tt))) (λ early. nodes) (inl (subst (λ (e : HdfsError). is_before_asking e ≡ false) (sym is) refl))
        (λ start n same. absurd (cc (is, same)))
        (λ state ready o.
        (let sized = encrypted_is session old writer (c.before.sized path writer c.here) state ready.carried in
        let wanted = sym sized ∙ subst (CauseOfWrite (files.sizes_of writer) path old new) is (causes o.picture o.file.content.bytes o.told o.file.carries) in
        subst (Cause (world_at session old) state command old new) (sym is) (inl (done state o, (moves, wanted)), tt)))
