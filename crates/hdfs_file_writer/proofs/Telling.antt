-- What an ask of a namenode comes to, where a writer knows the file; what the errors of a writer of a block and of an ask tell for a writer
-- of a file; and their causes.
use Rattle.std.proofs.Common.{◌≡◌, ◌⊎◌, inl, inr, ℕ, ◌-◌, false, not, List, [], ◌∷◌, ◌++◌, Some, subst, true, Option}
use Rattle.hdfs_cluster.specs.declared.errors.TransferFault.TheVariants as transfer
use Rattle.hdfs_cluster.specs.declared.errors.HdfsError.{HdfsError}
use Rattle.hdfs_cluster.specs.declared.errors.HdfsError.TheVariants as errors
use Rattle.hdfs_cluster.specs.declared.errors.IoFault.TheVariants as io_faults
use Rattle.hdfs_cluster.specs.declared.picture.BlockEntry.{BlockEntry}
use Rattle.hdfs_cluster.specs.declared.picture.FileEntry.{FileEntry}
use Rattle.hdfs_cluster.specs.Failures.{CallsRose, IsOfAsk, MayReplace}
use Rattle.hdfs_cluster.specs.Lost.{LastBlockAt, PipelineFailed, SomeListedFailed}
use Rattle.hdfs_cluster.specs.Counts.{Rose}
use Rattle.hdfs_cluster.specs.Picture.{Picture, SameButActive}
use Rattle.hdfs_cluster.specs.Shown.{Shown}
use Rattle.hdfs_cluster.specs.Sound.{IsFileAt}
use Rattle.hdfs_names.specs.Replacements.{ShouldReplace}
use Rattle.hdfs_namenode.specs.Relaying.{TellsAsk, RelaysTold}
use Rattle.hdfs_rebuild.specs.declared.block_plan.BlockPlan.{BlockPlan}
use Rattle.hdfs_rebuild.specs.declared.block_plan.RebuildSettings.{RebuildSettings}
use Rattle.hdfs_rebuild.specs.Between.{HasLastError}
use Rattle.hdfs_block_writer.specs.OpenPipelines.{AllListedFail, HasCause, ListedFails, MayBeDue, NamenodeFails}
use Rattle.hdfs_cluster.proofs.Times.{some_fails}
use Rattle.hdfs_file_writer.specs.declared.sizes.WriteSizes.{WriteSizes}
use Rattle.hdfs_file_writer.specs.Failing.{TellsWrite, CauseOfWrite, IsNoRefusal, IsOfWrite}
use Rattle.std.specs.Prelude.{Ok, Err}
use Rattle.hdfs_cluster.specs.declared.asks.Answer.TheVariants as answers
use Rattle.hdfs_cluster.specs.declared.asks.Ask.{Ask}
use Rattle.hdfs_cluster.specs.Asks.{add_block_ask, complete_ask}
use Rattle.hdfs_cluster.specs.declared.messages.Block.{Block}
use Rattle.hdfs_cluster.specs.declared.messages.DatanodeInfo.{DatanodeInfo}
use Rattle.hdfs_cluster.specs.declared.messages.LocatedBlock.{LocatedBlock}
use Rattle.hdfs_cluster.specs.Effects.{AddsBlock, Completes}
use Rattle.hdfs_cluster.specs.Namenode.{Row}
use Rattle.hdfs_cluster.specs.Repeating.{DoneOrNot}
use Rattle.hdfs_namenode.proofs.Relayed.{relayed_row, relayed_done, relayed_rose}

-- an error of an ask is one of a writer
of_ask : (error : HdfsError) → IsOfAsk error → IsOfWrite error
of_ask (errors.IOError io_faults.Link) of = absurd of
of_ask (errors.DataTransferError fault) of = absurd of
of_ask (errors.UnsupportedFeature feature) of = absurd of
of_ask error of = of

-- as it is told
pub tells_asked : (a b : Shown) (error : HdfsError) → TellsAsk a b error → TellsWrite a b error
tells_asked a b error tells = (of_ask error tells.0, tells.1)

-- it is none for encryption
pub apart_asked : (error : HdfsError) → IsOfAsk error → IsNoRefusal error
apart_asked (errors.UnsupportedFeature feature) of refusal = of
apart_asked error of refusal = refusal

-- and where it has its cause, from an earlier call on
pub asked_cause : (sizes : WriteSizes) (path : List ℕ) (a b c : Shown) (error : HdfsError) → TellsAsk b c error
    → ((error ≡ errors.NoMemory → ⊥) → CallsRose a.counts c) → CauseOfWrite sizes path a c error
asked_cause sizes path a b c errors.NoMemory tells rose = tt
asked_cause sizes path a b c (errors.AlreadyExists message) tells rose = rose (λ same. absurd (cc same))
asked_cause sizes path a b c (errors.RPCError class message) tells rose = rose (λ same. absurd (cc same))
asked_cause sizes path a b c (errors.IOError io_faults.Link) tells rose = absurd tells.0
asked_cause sizes path a b c (errors.IOError (io_faults.Namenode last)) tells rose = tt
asked_cause sizes path a b c (errors.InvalidRPCResponse fault) tells rose = tt
asked_cause sizes path a b c (errors.FatalRPCError class message) tells rose = tt
asked_cause sizes path a b c error tells rose = absurd tells.0

-- what a fault tells by its cause
pub tells_fault : (a b : Shown) (settings : RebuildSettings) (plan : BlockPlan) (W : Picture → Type 0) (fault : HdfsError)
    → HasCause settings plan W a fault b → TellsWrite a b fault
tells_fault a b settings plan W errors.NoMemory cause = (tt, (tt, tt))
tells_fault a b settings plan W (errors.IOError io_faults.Link) cause = (tt, (tt, inl cause.1))
tells_fault a b settings plan W (errors.DataTransferError transfer.Setup) cause = (tt, (tt, inl cause.1))
tells_fault a b settings plan W (errors.DataTransferError (transfer.BadAck seqno)) cause = (tt, (tt, cause))
tells_fault a b settings plan W (errors.DataTransferError transfer.AllNodes) cause = (tt, (tt, cause.0))
tells_fault a b settings plan W (errors.DataTransferError transfer.NoReplacement) cause = (tt, (tt, cause.1))
tells_fault a b settings plan W (errors.DataTransferError (transfer.RebuildLimit rebuilds)) cause = (tt, (tt, some_fails (settings.rebuild_limit - plan.rebuilds) a b cause.1))
tells_fault a b settings plan W error cause = tells_asked a b error cause.0

-- and none is for encryption
pub apart_fault : (a b : Shown) (settings : RebuildSettings) (plan : BlockPlan) (W : Picture → Type 0) (fault : HdfsError)
    → HasCause settings plan W a fault b → IsNoRefusal fault
apart_fault a b settings plan W (errors.UnsupportedFeature feature) cause = absurd cause.0.0
apart_fault a b settings plan W error cause = λ refusal. refusal

-- a datanode more that may be due is one that the policy adds to a file's replicas
may_replace : (sizes : WriteSizes) (plan : BlockPlan) → plan.replication ≡ sizes.replication → MayBeDue sizes.rebuilding plan
    → MayReplace sizes.rebuilding.replace.policy sizes.replication
may_replace sizes plan same due = (
  due.0,
  not plan.created,
  subst (λ (replication : ℕ). ShouldReplace sizes.rebuilding.replace.policy replication due.0 (not plan.created) false) same due.1,
)

-- A block was given up over a picture, and is the last one of the file at a path still.
module _ (a b : Shown) (path : List ℕ) (file : FileEntry) (front : List ℕ) (plan : BlockPlan) (ends : file.blocks ≡ front ++ plan.block.b.block_id ∷ []) (q : Picture)
    (told' : b.picture ≡ Some q) (named : IsFileAt q path file) (W : Picture → Type 0) (p : Picture) (told : a.picture ≡ Some p) (w : W p) where
  -- the file's last block, by its entry in the same picture
  of_last : (r : Picture) (entry : BlockEntry) → b.picture ≡ Some r → r.table plan.block.b.block_id ≡ Some entry → LastBlockAt b path
  of_last r entry is at =
      let same : r ≡ q = cc (is, told') in
      record {
        picture = q;
        told = told';
        file = file;
        named = named;
        front = front;
        id = plan.block.b.block_id;
        last = ends;
        entry = entry;
        is = subst (λ (x : Picture). x.table plan.block.b.block_id ≡ Some entry) same at;
      }

  -- a datanode has failed that is listed for it
  listed_failed : ListedFails W plan.block.b.block_id a b → SomeListedFailed a.counts b path
  unfolding of_last
  listed_failed fails = let f = fails p told w in (of_last f.0 f.1 f.2 f.3, f.4)

  -- all have
  all_failed : AllListedFail W plan.block.b.block_id a b → PipelineFailed a.counts b path
  unfolding of_last
  all_failed fails = let f = fails p told w in (of_last f.0 f.1 f.2 f.3, f.4, f.5)

  -- the links have failed, or a namenode
  help_failed : Rose a.counts.links b.counts.links ⊎ (NamenodeFails W a b × HasLastError a b) → Rose a.counts.links b.counts.links ⊎ CallsRose a.counts b
  help_failed (inl links) = inl links
  help_failed (inr namenode) = inr (namenode.0 p told w)

  -- it was for this cause
  pub fault_cause : (sizes : WriteSizes) (fault : HdfsError) → plan.replication ≡ sizes.replication → HasCause sizes.rebuilding plan W a fault b
      → CauseOfWrite sizes path a b fault
  fault_cause sizes errors.NoMemory same cause = tt
  fault_cause sizes (errors.IOError io_faults.Link) same cause = inl cause.1
  fault_cause sizes (errors.DataTransferError transfer.Setup) same cause = inl cause.1
  fault_cause sizes (errors.DataTransferError (transfer.BadAck seqno)) same cause = tt
  fault_cause sizes (errors.DataTransferError transfer.AllNodes) same cause = all_failed cause.1
  fault_cause sizes (errors.DataTransferError transfer.NoReplacement) same cause = (cause.0, help_failed cause.2, listed_failed cause.3, may_replace sizes plan same cause.4)
  fault_cause sizes (errors.DataTransferError (transfer.RebuildLimit rebuilds)) same cause = (cause.0, listed_failed cause.2)
  fault_cause sizes error same cause =
      asked_cause sizes path a a b error cause.0 (λ some. cause.2 p told w)

same_file_at : (p : Picture) (path : List ℕ) (a b : FileEntry) → IsFileAt p path a → IsFileAt p path b → a ≡ b
same_file_at p path a b one two = cc (one, two)

module _ (risen : Type 0) (src client : List ℕ) (previous : Option Block) (excludes : List DatanodeInfo) (id : Option ℕ) (p : Picture) (file : FileEntry) (is : IsFileAt p src file) (q : Picture) where
  abbrev adding : Ask
  adding = add_block_ask src client previous excludes id

  adds_by : (found : LocatedBlock) → Row p adding (answers.AddBlock found) q → AddsBlock src file previous excludes found p q
  adds_by found row = subst (λ (f : FileEntry). AddsBlock src f previous excludes found p q) (same_file_at p src row.0 file row.1 is) row.2

  -- a block that was answered was added
  pub added : (found : LocatedBlock) → RelaysTold risen p adding (Ok (answers.AddBlock found)) q → AddsBlock src file previous excludes found p q
  added found told = adds_by found (relayed_row risen p adding (answers.AddBlock found) q (λ same. absurd (cc same)) (λ same. absurd (cc same)) told)

  may_be_added : DoneOrNot adding p q → SameButActive p q ⊎ ((found : LocatedBlock) × AddsBlock src file previous excludes found p q)
  may_be_added (inl same) = inl same
  may_be_added (inr (answers.AddBlock found, shaped, row)) = inr (found, adds_by found row)
  may_be_added (inr (answer, shaped, row)) = absurd row

  -- one that wasn't answered may have been
  pub not_added : (error : HdfsError) → RelaysTold risen p adding (Err error) q → SameButActive p q ⊎ ((found : LocatedBlock) × AddsBlock src file previous excludes found p q)
  not_added error told = may_be_added (relayed_done risen p adding (Err error) q tt told)

  -- and an error that is no want of memory comes only where a namenode has failed
  pub add_rose : (error : HdfsError) → (error ≡ errors.NoMemory → ⊥) → RelaysTold risen p adding (Err error) q → risen
  add_rose error some told = relayed_rose risen p adding error q some (λ refused. refused.2) told

module _ (risen : Type 0) (src client : List ℕ) (last : Option Block) (id : Option ℕ) (p : Picture) (file : FileEntry) (is : IsFileAt p src file) (q : Picture) where
  abbrev completing : Ask
  completing = complete_ask src client last id

  completes_by : Row p completing (answers.Complete true) q → Completes src file last p q
  completes_by row = subst (λ (f : FileEntry). Completes src f last p q) (same_file_at p src row.0 file row.1 is) row.2

  -- a file that was answered to be closed is
  pub completed : RelaysTold risen p completing (Ok (answers.Complete true)) q → Completes src file last p q
  completed told = completes_by (relayed_row risen p completing (answers.Complete true) q (λ same. absurd (cc same)) (λ same. absurd (cc same)) told)

  may_be_completed : DoneOrNot completing p q → SameButActive p q ⊎ Completes src file last p q
  may_be_completed (inl same) = inl same
  may_be_completed (inr (answers.Complete true, shaped, row)) = inr (completes_by row)
  may_be_completed (inr (answers.Complete false, shaped, row)) = absurd row
  may_be_completed (inr (answer, shaped, row)) = absurd row

  -- false comes only where a namenode has failed, and the file may be closed all the same
  pub not_completed : RelaysTold risen p completing (Ok (answers.Complete false)) q → risen × (SameButActive p q ⊎ Completes src file last p q)
  not_completed (inl row) = absurd row
  not_completed (inr (inl again)) = (let is = again.0 in absurd (cc is))
  not_completed (inr (inr denied)) = (denied.1, may_be_completed denied.2)

  -- the same without an answer
  pub not_answered : (error : HdfsError) → RelaysTold risen p completing (Err error) q → SameButActive p q ⊎ Completes src file last p q
  not_answered error told = may_be_completed (relayed_done risen p completing (Err error) q tt told)

  pub complete_rose : (error : HdfsError) → (error ≡ errors.NoMemory → ⊥) → RelaysTold risen p completing (Err error) q → risen
  complete_rose error some told = relayed_rose risen p completing error q some (λ refused. refused.2) told
