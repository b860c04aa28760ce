-- How often pipelines were rebuilt, from call to call of a session. A call that leaves the writers keeps the tally, since no count falls. A
-- writer that keeps no link, as a new one or one that has failed, has no pipeline, so none of it was rebuilt. And that a pipeline was rebuilt
-- as often as it may be is no error of a command that sends nothing.
use Rattle.std.proofs.Common.{◌≡◌, ◌≢◌, ⊎_elim, ℕ, List, Option, Some, None, refl, sym, ◌∙◌, subst}
use Rattle.hdfs_cluster.specs.declared.errors.HdfsError.{HdfsError}
use Rattle.hdfs_cluster.specs.declared.errors.HdfsError.TheVariants as errors
use Rattle.hdfs_cluster.specs.declared.errors.TransferFault.TheVariants as transfer
use Rattle.hdfs_cluster.specs.Failures.{NodesFailTimes}
use Rattle.hdfs_cluster.specs.Shown.{Shown, Later}
use Rattle.hdfs_cluster.proofs.Frames.{later_trans}
use Rattle.hdfs_cluster.proofs.Times.{fails_until}
use Rattle.hdfs_model.specs.declared.commands.Command.{Command}
use Rattle.hdfs_model.specs.Causes.{CanEnd, Sends, Tells}
use Rattle.hdfs_rebuild.specs.declared.block_plan.BlockPipeline.{BlockPipeline}
use Rattle.hdfs_block_writer.specs.BlockWriters as blocks
use Rattle.hdfs_file_writer.specs.declared.tails.Tail.{Tail}
use Rattle.hdfs_file_writer.specs.declared.tails.Tail.TheVariants.{Going}
use Rattle.hdfs_file_writer.specs.Writers as files
use Rattle.hdfs_file_writer.specs.declared.file_writer.FileWriter.{FileWriter}
use Rattle.hdfs_commands.specs.Session.{Tallied, writer_of}
use Rattle.hdfs_commands.specs.declared.session.Session.{Session}
use Rattle.hdfs_commands.proofs.Beside.{OneCall, cases_at}
use Rattle.hdfs_commands.proofs.Moved.{HasMore, writer_cases}

-- what keeps no link was never rebuilt
none_in : (pipe : Option BlockPipeline) → blocks.link_in pipe ≡ None → blocks.rebuilds_in pipe ≡ 0
none_in None idle = refl
none_in (Some pipe) idle = absurd (cc idle)

none_by : (tail : Tail) → files.link_by tail ≡ None → files.rebuilds_by tail ≡ 0
none_by (Going writer) idle = none_in writer.pipe idle
none_by tail idle = refl

-- so no datanode need have failed for it
pub linkless_tallies : {start new : Shown} (writer : FileWriter) → files.link_of writer ≡ None → Later start new
    → NodesFailTimes (files.rebuilds_of writer) start new
linkless_tallies {start} {new} writer idle later = subst (λ (n : ℕ). NodesFailTimes n start new) (sym (none_by writer.tail idle)) later

-- a session with the same writers
pub tallied_moved : {old new : Shown} {session session' : Session} → Later old new
    → ((r : List ℕ) → writer_of session' r ≡ writer_of session r) → (start : Shown) → Tallied start old session → Tallied start new session'
tallied_moved {old} {new} later same start tally = record {
  later = later_trans start old new tally.later later;
  each = λ r writer is. fails_until (files.rebuilds_of writer) start old new (tally.each r writer (sym (same r) ∙ is)) later;
}

-- one that has a writer more, which keeps no link
pub tallied_with : {old new : Shown} {session session' : Session} {path : List ℕ} {writer : FileWriter} → HasMore session session' path writer
    → files.link_of writer ≡ None → Later old new → (start : Shown) → Tallied start old session → Tallied start new session'
tallied_with {old} {new} {session} {session'} {path} {writer} more idle later start tally =
    let now = later_trans start old new tally.later later in
    record {
      later = now;
      each = λ r other is. ⊎_elim
          (λ here. subst (λ (w : FileWriter). NodesFailTimes (files.rebuilds_of w) start new) here.1 (linkless_tallies writer idle now))
          (λ away. fails_until (files.rebuilds_of other) start old new (tally.each r other away.1) later)
          (writer_cases new session session' path writer more r other is);
    }

-- one of whose writers made a call, where the tally of that one goes on
pub tallied_call : {old new : Shown} {session session' : Session} {path : List ℕ} {was now : Option FileWriter}
    → OneCall old session path was now new session'
    → ((start : Shown) → Tallied start old session → (writer : FileWriter) → now ≡ Some writer → NodesFailTimes (files.rebuilds_of writer) start new)
    → (start : Shown) → Tallied start old session → Tallied start new session'
tallied_call {old} {new} {session} {session'} {path} {was} {now} call mine start tally = record {
  later = later_trans start old new tally.later call.own.later;
  each = λ r writer is. ⊎_elim
      (λ here. mine start tally writer (sym here.1 ∙ is))
      (λ away. fails_until (files.rebuilds_of writer) start old new (tally.each r writer (sym away.1 ∙ is)) call.own.later)
      (cases_at old new session session' path was now call r);
}

-- the error isn't that a pipeline was rebuilt as often as it may be
abbrev pub IsNoLimit : HdfsError → Type 0
IsNoLimit error = (n : ℕ) → error ≢ errors.DataTransferError (transfer.RebuildLimit n)

-- a command that sends nothing doesn't end with that one
pub sends_none : (command : Command) (old new : Shown) (error : HdfsError) → (Sends command → ⊥) → Tells command old new error → IsNoLimit error
sends_none command old new error none tells n is = none (subst (λ (e : HdfsError). CanEnd command e) is tells.0)
