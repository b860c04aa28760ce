-- What comes of a pipeline that has ended, said from when it went on.
use Rattle.std.proofs.Common.{◌≡◌, inr, ℕ, ℤ, ◌^◌, ◌<◌, List, [], drop, Option, Some, None, IsSome, refl, sym, ◌∙◌, ap, subst}
use Rattle.std.proofs.lemmas.List.{append-nil}
use Rattle.hdfs_wire.specs.Outgoing.{Outgoing}
use Rattle.hdfs_cluster.specs.declared.errors.HdfsError.{HdfsError}
use Rattle.hdfs_cluster.specs.declared.errors.HdfsError.TheVariants as errors
use Rattle.hdfs_cluster.specs.declared.errors.TransferFault.TheVariants as transfer
use Rattle.hdfs_cluster.specs.Pipes.{WriteEnded}
use Rattle.hdfs_cluster.specs.Shown.{Shown}
use Rattle.hdfs_pipeline.specs.Cores.{IsCore}
use Rattle.hdfs_pipeline.specs.Driving.{Drove, StopsShort}
use Rattle.hdfs_pipeline.specs.Ends.{handed_back, end_of}
use Rattle.hdfs_pipeline.specs.Pipelines.{Bad, Done, End, Failed, Pipeline}
use Rattle.hdfs_pipeline.specs.declared.end.PipelineEnd.{PipelineEnd}
use Rattle.hdfs_pipeline.specs.declared.end.PipelineEnd.TheVariants as ends
use Rattle.hdfs_rebuild.specs.declared.block_plan.BlockPipeline.{BlockPipeline}
use Rattle.hdfs_rebuild.specs.declared.block_plan.BlockPlan.{BlockPlan}
use Rattle.hdfs_rebuild.specs.declared.block_plan.RebuildSettings.{RebuildSettings}
use Rattle.hdfs_rebuild.specs.Attempts.{GaveNoneAfter, RebuiltAfter, standing, task_of}
use Rattle.hdfs_block_writer.specs.OpenPipelines.{IsStanding}
use Rattle.hdfs_block_writer.specs.Pushing.{CameFrom, FallsEnded, RebuildsEnded, with_core}
use Rattle.hdfs_block_writer.proofs.GivenUp.{bad_given_up, given_up_after, stopped_given_up}
use Rattle.hdfs_block_writer.proofs.LettingGo.{long_plan}
use Rattle.hdfs_block_writer.proofs.Rebuilt.{FallsOff, have_failed, rebuilt_after}
use Rattle.hdfs_rebuild.proofs.Replaying.{drove_join}
use Rattle.hdfs_block_writer.proofs.Standing.{failed_places, standing_drove}

-- Where packets come back, datanodes have failed, at these places.
recovers_by : (o : Option End) (pending replay : List Outgoing) (failed : List ℕ) → IsSome o → handed_back o pending ≡ ends.Recover failed replay
    → (o ≡ Some (Failed failed)) × (replay ≡ pending)
recovers_by None pending replay failed has is = absurd (cc has)
recovers_by (Some Done) pending replay failed has is = absurd (cc is)
recovers_by (Some (Failed places)) pending replay failed has is = (cc is, cc is)
recovers_by (Some (Bad seqno)) pending replay failed has is = absurd (cc is)

pub recovers_is : (last : Pipeline) (end : PipelineEnd) (failed : List ℕ) (replay : List Outgoing) → IsCore last → IsSome last.end
    → end ≡ end_of last → end ≡ ends.Recover failed replay → (last.end ≡ Some (Failed failed)) × (replay ≡ last.pushed)
recovers_is last end failed replay is_core has of is =
    let r = recovers_by last.end (drop last.acked last.pushed) replay failed has (sym of ∙ is) in
    (r.0, r.1 ∙ ap (λ (n : ℕ). drop n last.pushed) is_core.forgets)

-- Where a bad acknowledgement comes back, it has ended the pipeline.
bad_by : (o : Option End) (pending : List Outgoing) (seqno : ℤ) → IsSome o → handed_back o pending ≡ ends.Bad seqno → o ≡ Some (Bad seqno)
bad_by None pending seqno has is = absurd (cc has)
bad_by (Some Done) pending seqno has is = absurd (cc is)
bad_by (Some (Failed places)) pending seqno has is = absurd (cc is)
bad_by (Some (Bad n)) pending seqno has is = cc is

pub bad_is : (last : Pipeline) (end : PipelineEnd) (seqno : ℤ) → IsSome last.end → end ≡ end_of last → end ≡ ends.Bad seqno
    → last.end ≡ Some (Bad seqno)
bad_is last end seqno has of is = bad_by last.end (drop last.acked last.pushed) seqno has (sym of ∙ is)

-- A pipeline that had ended has the same packets once it was driven to its end.
pub ended_same : (pipe : BlockPipeline) (old z : Shown) (last : Pipeline) → IsSome pipe.core.end → Drove pipe.link [] pipe.core old last z
    → last.pushed ≡ pipe.core.pushed
ended_same pipe old z last ended drove =
    drove.goes.pushed ∙ append-nil (drop drove.acknowledged pipe.core.pushed)
    ∙ ap (λ (n : ℕ). drop n pipe.core.pushed) (drove.goes.ended ended).1

-- A pipeline that had ended was driven to its end, and its link is ended.
module _ (settings : RebuildSettings) (pipe : BlockPipeline) (old z m : Shown) (last : Pipeline) (stands : IsStanding settings old pipe [])
    (ended : IsSome pipe.core.end) (drove : Drove pipe.link [] pipe.core old last z) (gone : WriteEnded z pipe.link m) (is_core : IsCore last) where
  module _ (before : Shown) (core : Pipeline) (came : List Outgoing) (from : CameFrom before core came old pipe) where
    pub since : Drove pipe.link came core before last z
    since =
        subst (λ (xs : List Outgoing). Drove pipe.link xs core before last z) (append-nil came)
        (drove_join pipe.link came [] core pipe.core last before old z from.drove drove (drove.goes.ended ended).1 (λ has. refl))

    pub fell : (failed : List ℕ) → last.end ≡ Some (Failed failed) → FallsOff before (with_core pipe core) came last z m failed
    fell failed is = record {
      drove = since;
      gone = gone;
      going = from.going;
      block = stands.block;
      places = failed_places settings (record pipe { core = last }) z (standing_drove settings pipe [] [] last old z drove is_core stands) failed is;
      have = have_failed before (with_core pipe core) came last z m failed since gone from.going is from.drives from.set_up;
    }

  -- Datanodes of it have failed.
  module _ (client failed : List ℕ) (replay : List Outgoing) (bytes unsent : ℕ) (below : bytes < 2 ^ 63) (plan : BlockPlan)
      (is : last.end ≡ Some (Failed failed)) (same : replay ≡ last.pushed) (long : plan ≡ long_plan pipe.plan bytes) where
    pub ended_rebuilt : (pipe' : BlockPipeline) (new : Shown)
        → RebuiltAfter (task_of settings client replay unsent) (standing plan failed m) pipe' new → RebuildsEnded settings old pipe new pipe'
    ended_rebuilt pipe' new after before core came from =
        rebuilt_after settings client before (with_core pipe core) came last z m failed (fell before core came from failed is) bytes unsent below pipe'
        new
        (subst (λ (xs : List Outgoing). RebuiltAfter (task_of settings client xs unsent) (standing (long_plan pipe.plan bytes) failed m) pipe' new) same
        (subst (λ (p : BlockPlan). RebuiltAfter (task_of settings client replay unsent) (standing p failed m) pipe' new) long after))

    pub ended_given_up : (error : HdfsError) (new : Shown)
        → GaveNoneAfter (task_of settings client replay unsent) (standing plan failed m) error new → FallsEnded settings old pipe error new
    ended_given_up error new after before core came from =
        given_up_after settings client before (with_core pipe core) came last z m failed (fell before core came from failed is) bytes unsent below
        error new
        (subst (λ (xs : List Outgoing). GaveNoneAfter (task_of settings client xs unsent) (standing (long_plan pipe.plan bytes) failed m) error new) same
        (subst (λ (p : BlockPlan). GaveNoneAfter (task_of settings client replay unsent) (standing p failed m) error new) long after))

  pub ended_bad : (seqno said : ℤ) → last.end ≡ Some (Bad seqno) → FallsEnded settings old pipe (errors.DataTransferError (transfer.BadAck said)) m
  ended_bad seqno said is before core came from =
      bad_given_up settings before (with_core pipe core) came last z m seqno said (since before core came from) gone from.going is stands.block.some

-- Memory was wanting for that.
pub ended_stopped : (settings : RebuildSettings) (pipe : BlockPipeline) (old y m : Shown) → StopsShort pipe.link [] pipe.core old y
    → WriteEnded y pipe.link m → FallsEnded settings old pipe errors.NoMemory m
ended_stopped settings pipe old y m stops gone before core came from =
    stopped_given_up settings before (with_core pipe core) came pipe.core old y m from.drove stops gone (inr from.going)
