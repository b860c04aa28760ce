-- What the call of the writer of an open file leaves, and what a command that sends bytes comes to that is done.
use Rattle.std.proofs.Common.{◌≡◌, ◌≢◌, ℕ, Bool, true, false, cond, List, Option, Some, Result, Ok, is_some, sym, ◌∙◌, ap, subst}
use Rattle.std.specs.Prelude.{IfErr, IfSome, OnErr, OnOk}
use Rattle.std.specs.Str.{bytes_eq}
use Rattle.std.proofs.lemmas.Bool.{false≢true}
use Rattle.std.proofs.lemmas.Result.{IfErr-weaker}
use Rattle.hdfs_cluster.specs.declared.asks.Answer.{Answer}
use Rattle.hdfs_cluster.specs.declared.asks.Ask.{Ask}
use Rattle.hdfs_cluster.specs.declared.errors.HdfsError.{HdfsError}
use Rattle.hdfs_cluster.specs.Files.{State}
use Rattle.hdfs_cluster.specs.Fitting.{Fits}
use Rattle.hdfs_cluster.specs.Picture.{Picture}
use Rattle.hdfs_cluster.specs.Shown.{Shown, SameNodes}
use Rattle.hdfs_cluster.specs.Sound.{IsSound}
use Rattle.hdfs_cluster.specs.Stores.{AgreesAt}
use Rattle.hdfs_model.specs.declared.commands.Command.{Command}
use Rattle.hdfs_model.specs.declared.commands.Command.TheVariants as commands
use Rattle.hdfs_model.specs.declared.commands.Reply.{Reply}
use Rattle.hdfs_model.specs.Anywhere.{IsReply}
use Rattle.hdfs_model.specs.Causes.{Sends, TouchesNothing}
use Rattle.hdfs_model.specs.Owing.{IsMisplaced, IsNotOwed}
use Rattle.hdfs_model.specs.Sessions.{SameOpened, IsLimited}
use Rattle.hdfs_model.specs.Steps.{Done, step, is_opened, target_of}
use Rattle.hdfs_names.specs.Paths.{is_path}
use Rattle.hdfs_namenode.specs.Clients.{SameClient, client_name, name_of}
use Rattle.hdfs_file_writer.specs.Writers as files
use Rattle.hdfs_file_writer.specs.declared.file_writer.FileWriter.{FileWriter}
use Rattle.hdfs_file_writer.proofs.Others.{stands_beside}
use Rattle.hdfs_commands.specs.Acting.{world_at, IsReady, Acts}
use Rattle.hdfs_commands.specs.Asking.{AreAnswered}
use Rattle.hdfs_commands.specs.Executing.{Executes}
use Rattle.hdfs_commands.specs.Preparing.{Remembers}
use Rattle.hdfs_commands.specs.Session.{has_failed, opened_of, settings_of, writer_of, Stands, CarriesFile, Carried}
use Rattle.hdfs_commands.specs.Whole.{KeepsBlocksWhole, KeepsWhole}
use Rattle.hdfs_commands.specs.declared.session.Session.{Session}
use Rattle.hdfs_commands.proofs.Agreeing.{agrees_told, is_told}
use Rattle.hdfs_commands.proofs.Answered.{answered_put, keeps_same}
use Rattle.hdfs_commands.proofs.Beside.{OneCall, link_in, links_of_one, stands_after}
use Rattle.hdfs_commands.proofs.Early.{owed_plain}
use Rattle.hdfs_commands.proofs.OneFile.{not_same, same_test}
use Rattle.hdfs_commands.proofs.Refused.{sent_so}
use Rattle.hdfs_commands.proofs.Sized.{sized_still}
use Rattle.hdfs_commands.proofs.Tallying.{tallied_call}

-- What a command that is done comes to, over a state.
pub record Comes (command : Command) (old : Shown) (session : Session) (new : Shown) (session' : Session) (reply : Reply) (state : State) : Type 0 where
  pub next : State
  pub done : step (world_at session old) state command ≡ Done reply next
  pub limited : IsLimited (world_at session old) state command
  pub fits : Fits new next
  pub opened : SameOpened (opened_of session') next
  pub world : world_at session' new ≡ world_at session old
  pub carried : Carried new session' next

-- What a state says of the file at a path that a session writes, over a cluster that tells its picture.
pub record OpenAt (old : Shown) (path : List ℕ) (writer : FileWriter) (state : State) : Type 0 where
  pub picture : Picture
  pub told : old.picture ≡ Some picture
  pub agrees : (other : List ℕ) → AgreesAt picture (picture.names other) (state.files other)
  pub file : CarriesFile picture state path writer
  pub opened : is_opened state path ≡ true

-- the same of a session that is ready for a command
pub open_at : (old : Shown) (session : Session) (state : State) (command : Command) (path : List ℕ) (writer : FileWriter) → IsReady old session state command → writer_of session path ≡ Some writer → OpenAt old path writer state
open_at old session state command path writer ready here =
    let told = is_told old.picture state.files ready.ready.fits.agrees in
    record {
      picture = told.0;
      told = told.1;
      agrees = agrees_told old.picture told.0 state.files ready.ready.fits.agrees told.1;
      file = ready.carried.each told.0 told.1 path writer here;
      opened = ready.ready.opened path ∙ ap is_some here;
    }

-- What is known of the call of the writer of an open file, of which this is left behind it.
pub record Called (old new : Shown) (session : Session) (writer : FileWriter) (now : Option FileWriter) (session' : Session) : Type 0 where
  pub here : writer_of session (files.path_of writer) ≡ Some writer
  pub writers : (other : List ℕ) → writer_of session' other ≡ cond (bytes_eq (files.path_of writer) other) now (writer_of session other)
  pub before : Stands old session
  pub sound : (p : Picture) → old.picture ≡ Some p → IsSound p
  pub named : is_path (files.path_of writer) ≡ true
  pub settings : settings_of session' ≡ settings_of session
  pub namenode : SameClient session.namenode session'.namenode
  pub own : files.OnlyOwnLink old (files.link_of writer) new (link_in now)
  pub left : IfSome now (λ w. files.Stands new w × files.Keeps writer w)

-- what holds of what there is
pub some_of : (P : FileWriter → Type 0) (o : Option FileWriter) → IfSome o P → (w : FileWriter) → o ≡ Some w → P w
some_of P o h w is = subst (λ (x : Option FileWriter). IfSome x P) is h

-- a command that sends bytes is misplaced only where its path isn't open
shut : (command : Command) → Sends command → (opened : List ℕ → Bool) (path : List ℕ) → IsMisplaced opened path command → opened path ≡ false
shut (commands.Write name bytes) sends opened path is = is
shut (commands.Close name) sends opened path is = is
shut command sends opened path is = absurd sends

module _ {old new : Shown} {session session' : Session} {writer : FileWriter} {now : Option FileWriter} (c : Called old new session writer now session') where
  -- it is one call of one writer
  pub call_of : OneCall old session (files.path_of writer) (Some writer) now new session'
  call_of = record { here = c.here; writers = c.writers; own = c.own }

  -- the session remembers what it is run with
  remembers_of : Remembers session session'
  remembers_of = record { settings = c.settings; name = c.namenode.name; service = c.namenode.service; known = λ defaults is. c.namenode.defaults ∙ is }

  -- no other writer is touched
  pub elsewhere : (r : List ℕ) → r ≢ files.path_of writer → writer_of session' r ≡ writer_of session r
  elsewhere r apart = c.writers r ∙ ap (λ (b : Bool). cond b now (writer_of session r)) (not_same (files.path_of writer) r apart)

  -- what writes the file at the path behind the call
  pub behind : writer_of session' (files.path_of writer) ≡ now
  behind = c.writers (files.path_of writer) ∙ ap (λ (b : Bool). cond b now (writer_of session (files.path_of writer))) (same_test (files.path_of writer))

  -- the session stands
  pub called_stands : (session'.failed ≡ false → (session.failed ≡ false) × IfSome now (λ w. files.has_failed w ≡ false)) → Stands new session'
  called_stands fine =
      stands_after old new session session' (files.path_of writer) (Some writer) now call_of c.before (stands_beside old new) remembers_of
      (λ w is. (let left = some_of (λ x. files.Stands new x × files.Keeps writer x) now c.left w is in (
        left.0,
        left.1.path,
        sized_still session session' remembers_of writer w left.1.sizes (c.before.sized (files.path_of writer) writer c.here),
      )))
      (λ not_failed. (let all = fine not_failed in (all.0, some_of (λ x. files.has_failed x ≡ false) now all.1)))

  module _ (may_answer : Ask → Answer → Type 0) (command : Command) (sends : Sends command) (called : target_of (world_at session old) command ≡ files.path_of writer) (answered : AreAnswered may_answer session)
      (kept : IfSome now (files.IsAnswered may_answer (name_of session.namenode))) where
    -- what a command that sends bytes comes to, by what it does and what it makes of blocks
    pub executes : (result : Result Reply HdfsError) → OnErr result (has_failed session' ≡ true) × OnOk result (has_failed session' ≡ false) → IfErr result IsNotOwed
        → Acts command old session new session' result → KeepsBlocksWhole command old session new session' result → Executes may_answer command old session new session' result
    executes result fails owed acts whole = record {
      acts = acts;
      whole = whole;
      owed =
          owed_plain (world_at session old) (opened_of session) command result (ap is_path called ∙ c.named)
          (λ out. false≢true (sym (shut command sends (opened_of session) (target_of (world_at session old) command) out) ∙ ap (opened_of session) called ∙ ap is_some c.here)) owed;
      refused = IfErr-weaker result _ _ (λ e tells. sent_so may_answer (client_name session.settings.client) (target_of (world_at session old) command) command sends e tells.0) acts.anywhere.tells;
      settings = c.settings;
      fails = fails;
      answered =
          answered_put session session' (files.path_of writer) now c.namenode.name c.writers kept (keeps_same may_answer session.namenode session'.namenode c.namenode answered.defaults) answered;
    }

    -- one that is done
    pub sent_done : session.failed ≡ false → session'.failed ≡ false → IfSome now (λ w. files.has_failed w ≡ false) → IfSome now (files.Tallies old writer new)
        → (TouchesNothing command → SameNodes old new) → (reply : Reply) → IsReply command reply
        → ((state : State) → IsReady old session state command → Comes command old session new session' reply state × KeepsWhole command old session new session' (Ok reply))
        → Executes may_answer command old session new session' (Ok reply)
    sent_done fine fine' well tallies idle reply replies comes =
        executes (Ok reply) (tt, fine') tt
        (record {
          anywhere = record { later = c.own.later; reads = c.own.reads; replies = replies; tells = tt; refused = tt; idle = idle };
          links = links_of_one old new session session' (files.path_of writer) (Some writer) now call_of;
          stands = called_stands (λ not_failed. (fine, well));
          tallied = tallied_call call_of (λ start tally w is. some_of (files.Tallies old writer new) now tallies w is start (tally.each (files.path_of writer) writer c.here));
          limit = tt;
          writers = λ r apart. elsewhere r (λ same. apart (same ∙ sym called));
          applied = λ state ready.
              (let one = (comes state ready).0 in
              record { ok = (one.next, one.done, one.limited, one.fits, one.opened); err = tt; complete = tt });
          world = λ state ready. (comes state ready).0.world;
          carried = λ state ready next is.
              (let one = (comes state ready).0 in
              let same : one.next ≡ next = cc (one.done, is) in
              subst (λ (s : State). Carried new session' s) same one.carried);
          spares = λ state ready. tt;
        })
        (λ state ready. (comes state ready).1)
