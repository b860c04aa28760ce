-- Tallies: how often the pipeline of the block that is being written was rebuilt, against how often datanodes have failed from some moment
-- on. A write of the block keeps a tally, as its pipeline is rebuilt once for each failure; where a block is begun or ended, none is left
-- of it but that time went on. And the limit is told only where datanodes have failed once more than the pipeline was rebuilt.
use Rattle.std.proofs.Common.{◌≡◌, inl, inr, ℕ, suc, ◌+◌, ◌-◌, ◌≤◌, List, Some, sym, ◌∙◌, ap, subst, arith}
use Rattle.hdfs_cluster.specs.declared.asks.LinkFault.{LinkFault}
use Rattle.hdfs_cluster.specs.declared.asks.LinkFault.TheVariants as link_faults
use Rattle.hdfs_cluster.specs.declared.errors.HdfsError.{HdfsError}
use Rattle.hdfs_cluster.specs.declared.errors.HdfsError.TheVariants as errors
use Rattle.hdfs_cluster.specs.declared.errors.TransferFault.TheVariants as transfer
use Rattle.hdfs_cluster.specs.Failures.{IsOfAsk, NodesFailTimes}
use Rattle.hdfs_cluster.specs.Picture.{Picture}
use Rattle.hdfs_cluster.specs.Shown.{Shown, Later}
use Rattle.hdfs_cluster.proofs.Frames.{later_trans}
use Rattle.hdfs_cluster.proofs.Times.{fails_enough, fails_join, fails_later, fails_until}
use Rattle.hdfs_rebuild.specs.declared.block_plan.BlockPipeline.{BlockPipeline}
use Rattle.hdfs_rebuild.specs.declared.block_plan.BlockPlan.{BlockPlan}
use Rattle.hdfs_rebuild.specs.declared.block_plan.RebuildSettings.{RebuildSettings}
use Rattle.hdfs_block_writer.specs.declared.block_writer.BlockWriter.{BlockWriter}
use Rattle.hdfs_block_writer.specs.BlockWriters.{rebuilds_in, Stands as StandsItself}
use Rattle.hdfs_block_writer.specs.OpenPipelines.{HasCause, IsSteady}
use Rattle.hdfs_block_writer.specs.Written.{GaveUp, IsCarrying, IsNew, Wrote as BlockWrote, fault_of}
use Rattle.hdfs_file_writer.specs.declared.file_writer.FileWriter.{FileWriter}
use Rattle.hdfs_file_writer.specs.declared.tails.Tail.TheVariants.{Going}
use Rattle.hdfs_file_writer.specs.Writers.{EndsTally, Tallies, Wrote, rebuilds_by, rebuilds_of}

-- nothing was done
pub tallies_refl : (a : Shown) (w : FileWriter) → Tallies a w a w
tallies_refl a w start fails = fails

-- calls after one another
pub tallies_trans : {a b c : Shown} {w x y : FileWriter} {one two : List ℕ} → Wrote a w one b x → Wrote b x two c y → Tallies a w c y
tallies_trans first then start fails = then.tallies start (first.tallies start fails)

-- a limit behind calls
pub limit_behind : {a b : Shown} {w x : FileWriter} {one : List ℕ} (c : Shown) (error : HdfsError) → Wrote a w one b x → EndsTally b x error c
    → EndsTally a w error c
limit_behind c error first then start n is fails = then start n is (first.tallies start fails)

-- no pipeline was rebuilt behind calls
pub tallies_anew : (a b : Shown) (w w' : FileWriter) → rebuilds_of w' ≡ 0 → Later a b → Tallies a w b w'
tallies_anew a b w w' none later start fails =
    subst (λ (times : ℕ). NodesFailTimes times start b) (sym none) (later_trans start a b (fails_later (rebuilds_of w) start a fails) later)

-- how often that of the block was that is being written
rebuilds_is : (w : FileWriter) {block : BlockWriter} {pipe : BlockPipeline} → w.tail ≡ Going block → block.pipe ≡ Some pipe
    → rebuilds_of w ≡ pipe.plan.rebuilds
rebuilds_is w going is = ap rebuilds_by going ∙ ap rebuilds_in is

-- not once, where the block was just begun
pub rebuilds_new : (w : FileWriter) {block : BlockWriter} {plan : BlockPlan} {settings : RebuildSettings} {size packet : ℕ} → w.tail ≡ Going block
    → IsNew plan settings size packet block → rebuilds_of w ≡ plan.rebuilds
rebuilds_new w going new = rebuilds_is w going new.is ∙ ap (λ (x : BlockPlan). x.rebuilds) new.plan

-- a pipeline goes on, as it was or rebuilt
steady_times : (start a b : Shown) (pipe pipe' : BlockPipeline) → Later a b → IsSteady a pipe b pipe' → NodesFailTimes pipe.plan.rebuilds start a
    → NodesFailTimes pipe'.plan.rebuilds start b
steady_times start a b pipe pipe' later (inl same) fails =
    subst (λ (plan : BlockPlan). NodesFailTimes plan.rebuilds start b) (sym same.0) (fails_until pipe.plan.rebuilds start a b fails later)
steady_times start a b pipe pipe' later (inr rebuilt) fails =
    let more : rebuilt.0 + pipe.plan.rebuilds ≡ pipe'.plan.rebuilds = omega (arith, rebuilt.2) in
    subst (λ (times : ℕ). NodesFailTimes times start b) more (fails_join pipe.plan.rebuilds rebuilt.0 start a b fails rebuilt.3)

-- more bytes went into the block
pub tallies_more : {a b : Shown} (w w' : FileWriter) {block block' : BlockWriter} {pipe : BlockPipeline} {more : List ℕ} → w.tail ≡ Going block
    → block.pipe ≡ Some pipe → w'.tail ≡ Going block' → BlockWrote a block more b block' → Tallies a w b w'
tallies_more {a} {b} w w' {pipe = pipe} going is going' wrote start fails =
    let stays = wrote.stays pipe is in
    subst (λ (times : ℕ). NodesFailTimes times start b) (sym (rebuilds_is w' going' stays.1))
    (steady_times start a b pipe stays.0 wrote.own.later stays.3
    (subst (λ (times : ℕ). NodesFailTimes times start a) (rebuilds_is w going is) fails))

-- no error of an ask is the limit
pub no_limit : {error : HdfsError} {n : ℕ} → IsOfAsk error → error ≡ errors.DataTransferError (transfer.RebuildLimit n) → ⊥
no_limit of is = subst IsOfAsk is of

-- and none of a set-up
pub unopened_no_limit : (fault : LinkFault) (n : ℕ) → fault_of fault ≡ errors.DataTransferError (transfer.RebuildLimit n) → ⊥
unopened_no_limit link_faults.NoMemory n is = cc is
unopened_no_limit link_faults.Broken n is = cc is
unopened_no_limit link_faults.Refused n is = cc is

-- a block was given up by a fault that is the limit
limit_fault : (start a b : Shown) (settings : RebuildSettings) (plan : BlockPlan) (W : Picture → Type 0) (n : ℕ) (fault : HdfsError)
    → plan.rebuilds ≤ settings.rebuild_limit → HasCause settings plan W a fault b → fault ≡ errors.DataTransferError (transfer.RebuildLimit n)
    → NodesFailTimes plan.rebuilds start a → NodesFailTimes (suc n) start b
limit_fault start a b settings plan W n (errors.DataTransferError (transfer.RebuildLimit rebuilds)) within cause is fails =
    let same : rebuilds ≡ n = cc is in
    fails_enough (suc n) plan.rebuilds (suc (settings.rebuild_limit - plan.rebuilds)) start a b fails cause.1 (omega (arith, same, cause.0, within))
limit_fault start a b settings plan W n error within cause is fails = absurd (cc is)

-- the block that is being written was given up
pub limit_given_up : (a b : Shown) (w : FileWriter) {block : BlockWriter} {pipe : BlockPipeline} (fault : HdfsError) → w.tail ≡ Going block
    → block.pipe ≡ Some pipe → StandsItself a block → GaveUp a block fault b → EndsTally a w fault b
limit_given_up a b w {block} {pipe} fault going is stands gave start n limit fails =
    limit_fault start a b block.settings pipe.plan (IsCarrying block) n fault (stands pipe is).1.standing.rebuilds (gave pipe is).cause limit
    (subst (λ (times : ℕ). NodesFailTimes times start a) (rebuilds_is w going is) fails)
