-- A pipeline whose last packet was pushed is driven to its end.
use Rattle.std.proofs.Common.{◌≡◌, inl, ℕ, ℤ, ◌+◌, ◌^◌, ◌<◌, ◌≤◌, List, [], ◌∷◌, length, drop, Option, Some, None, IsSome, refl, sym, ◌∙◌, ap, subst, arith}
use Rattle.std.proofs.lemmas.List.{append-nil, length-map}
use Rattle.std.specs.List.{All, Any, slice_index_or}
use Rattle.hdfs_wire.specs.Outgoing.{Outgoing}
use Rattle.hdfs_cluster.specs.declared.errors.HdfsError.{HdfsError}
use Rattle.hdfs_cluster.specs.declared.errors.HdfsError.TheVariants as errors
use Rattle.hdfs_cluster.specs.declared.errors.TransferFault.TheVariants as transfer
use Rattle.hdfs_cluster.specs.Picture.{Picture}
use Rattle.hdfs_cluster.specs.Pipes.{WriteEnded}
use Rattle.hdfs_cluster.specs.Sending.{uuids}
use Rattle.hdfs_cluster.specs.Shown.{Shown}
use Rattle.hdfs_cluster.specs.Stores.{HoldsPrefix}
use Rattle.hdfs_pipeline.specs.Cores.{IsCore}
use Rattle.hdfs_pipeline.specs.Driving.{Drove, StopsShort}
use Rattle.hdfs_pipeline.specs.Ends.{handed_back, end_of}
use Rattle.hdfs_pipeline.specs.Pipelines.{Bad, Done, End, Failed, Pipeline}
use Rattle.hdfs_pipeline.specs.declared.end.PipelineEnd.{PipelineEnd}
use Rattle.hdfs_pipeline.specs.declared.end.PipelineEnd.TheVariants as ends
use Rattle.hdfs_pipeline.proofs.DrivingOn.{drove_refl}
use Rattle.hdfs_block_reader.specs.Carrying.{HoldsWhole, total}
use Rattle.hdfs_block_reader.specs.Rebuilding.{BlockWaits}
use Rattle.hdfs_block_reader.proofs.Prefixes.{take_whole, total_cut}
use Rattle.hdfs_rebuild.specs.declared.block_plan.BlockPipeline.{BlockPipeline}
use Rattle.hdfs_rebuild.specs.declared.block_plan.BlockPlan.{BlockPlan}
use Rattle.hdfs_rebuild.specs.declared.block_plan.RebuildSettings.{RebuildSettings}
use Rattle.hdfs_block_writer.specs.declared.pushing.Settled.TheVariants as settled
use Rattle.hdfs_rebuild.specs.Between.{OnlyBlockOf}
use Rattle.hdfs_rebuild.specs.Attempts.{GaveNoneAfter, RebuiltAfter, standing, task_of}
use Rattle.hdfs_block_writer.specs.OpenPipelines.{Finishes, Has, IsStanding, KeepsStamp, id_of}
use Rattle.hdfs_block_writer.specs.Pushing.{FallsFor, Settles}
use Rattle.hdfs_block_writer.proofs.GivenUp.{bad_given_up, given_up_after, stopped_given_up}
use Rattle.hdfs_block_writer.proofs.LettingGo.{gone_only, gone_picture, gone_table, gone_told, gone_waits, long_plan, now_safe, own_none, until_gone}
use Rattle.hdfs_block_writer.proofs.Rebuilt.{FallsOff, have_failed, rebuilt_after}
use Rattle.hdfs_block_writer.proofs.Standing.{failed_places, standing_drove}
use Rattle.hdfs_rebuild.proofs.Stepping.{keeps_links_refl}

-- Where a pipeline has ended with success, its last packet was acknowledged.
done_by : (o : Option End) (pending : List Outgoing) → IsSome o → handed_back o pending ≡ ends.Success → o ≡ Some Done
done_by None pending has is = absurd (cc has)
done_by (Some Done) pending has is = refl
done_by (Some (Failed places)) pending has is = absurd (cc is)
done_by (Some (Bad n)) pending has is = absurd (cc is)

pub done_is : (last : Pipeline) (end : PipelineEnd) → IsSome last.end → end ≡ end_of last → end ≡ ends.Success → last.end ≡ Some Done
done_is last end has of is = done_by last.end (drop last.acked last.pushed) has (sym of ∙ is)

-- A block that waits with some datanodes, all of whose bytes are safe, is held whole by each.
module _ (p : Picture) (id : ℕ) (nodes : List (List ℕ)) (safe : ℕ) (bytes : List ℕ) (w : BlockWaits p id nodes nodes safe bytes)
    (all : safe ≡ length bytes) (some : 0 < length nodes) where
  each_whole : All (λ node. p.held node id ≡ bytes) nodes
  each_whole k d lt =
      let node = slice_index_or nodes k d in
      (w.each k d lt).0 ∙ take_whole (length (p.held node id)) bytes (omega (arith, (w.each k d lt).1, all))

  any_whole : (listed : List (List ℕ)) → nodes ≡ listed → Any (λ node. p.held node id ≡ bytes) listed
  any_whole listed same =
      subst (Any (λ node. p.held node id ≡ bytes)) same
      (0, slice_index_or nodes 0 [], some, first nodes some, each_whole 0 [] some)
    where
      first : (xs : List (List ℕ)) → 0 < length xs → slice_index_or xs 0 (slice_index_or xs 0 []) ≡ slice_index_or xs 0 []
      first [] lt = absurd (omega (arith, lt))
      first (x ∷ xs) lt = refl

  pub waits_whole : HoldsWhole p id (length bytes) nodes bytes
  waits_whole = record {
    entry = w.lists.entry;
    is = w.lists.is;
    stores = record {
      length = refl;
      prefixes = subst (All (HoldsPrefix (λ node. p.held node id) bytes)) (sym w.lists.same_nodes) w.lists.prefixes;
      whole = any_whole w.lists.entry.nodes (sym w.lists.same_nodes);
    };
    whole = each_whole;
    some = some;
    same_listed = w.lists.same_nodes;
  }

-- A pipeline was driven to its end, and its link is ended.
module _ (settings : RebuildSettings) (pipe : BlockPipeline) (a z m : Shown) (last : Pipeline) (stands : IsStanding settings a pipe [])
    (going : pipe.core.end ≡ None) (drove : Drove pipe.link [] pipe.core a last z) (gone : WriteEnded z pipe.link m) (is_core : IsCore last) where
  -- All its packets are acknowledged.
  module _ (none : last.pushed ≡ []) where
    all_safe : (safe size : ℕ) → safe + total pipe.core.pushed ≡ size → now_safe pipe [] last a z m drove gone (inl refl) safe ≡ size
    all_safe safe size whole =
        let left : drop drove.acknowledged pipe.core.pushed ≡ [] =
        sym (drove.goes.pushed ∙ append-nil (drop drove.acknowledged pipe.core.pushed)) ∙ none in
        omega (arith, whole, total_cut pipe.core.pushed drove.acknowledged, ap total left)

    some_nodes : 0 < length (uuids pipe.plan.block.locs)
    some_nodes = omega (arith, stands.block.some, length-map pipe.plan.block.locs (λ node. node.id.datanode_uuid))

    whole_told : (p : Picture) (safe : ℕ) (bytes : List ℕ) → a.picture ≡ Some p → Has p pipe [] safe bytes
        → safe + total pipe.core.pushed ≡ length bytes → (q : Picture) × (m.picture ≡ Some q)
        × HoldsWhole q (id_of pipe) (length bytes) (uuids pipe.plan.block.locs) bytes × OnlyBlockOf (id_of pipe) p q
        × KeepsStamp p pipe.plan q pipe.plan
    whole_told p safe bytes told has whole =
        let q = gone_picture pipe [] last a z m drove gone (inl refl) stands.block.some [] p safe bytes told has in
        let w = gone_waits pipe [] last a z m drove gone (inl refl) stands.block.some [] p safe bytes told has 0 in (
          q,
          gone_told pipe [] last a z m drove gone (inl refl) stands.block.some [] p safe bytes told has,
          waits_whole q (id_of pipe) (uuids pipe.plan.block.locs) (now_safe pipe [] last a z m drove gone (inl refl) safe) bytes w.block
              (all_safe safe (length bytes) whole) some_nodes,
          gone_only pipe [] last a z m drove gone (inl refl) stands.block.some [] p safe bytes told has,
          λ s. (s.0, gone_table pipe [] last a z m drove gone (inl refl) stands.block.some [] p safe bytes told has ∙ s.1, s.2),
        )

    pub finishes : Finishes settings a pipe m pipe.plan
    finishes = record {
      own = own_none pipe.link a m m (until_gone pipe [] last a z m drove gone (inl refl)) gone.ended (keeps_links_refl m);
      keeps = record { src = refl; pool = refl; id = refl; replication = refl; created = refl; chunk = refl };
      within = stands.rebuilds;
      steady = inl refl;
      told = whole_told;
    }

  -- no more bytes are left than there were
  pub fewer_bytes : (bytes : ℕ) → total pipe.core.pushed ≤ bytes → total last.pushed + 0 ≤ bytes
  fewer_bytes bytes few =
      omega (
        arith,
        few,
        total_cut pipe.core.pushed drove.acknowledged,
        ap total (drove.goes.pushed ∙ append-nil (drop drove.acknowledged pipe.core.pushed)),
      )

  -- Datanodes of it have failed.
  module _ (failed : List ℕ) (is : last.end ≡ Some (Failed failed)) where
    fell : FallsOff a pipe [] last z m failed
    fell = record {
      drove = drove;
      gone = gone;
      going = going;
      block = stands.block;
      places = failed_places settings (record pipe { core = last }) z (standing_drove settings pipe [] [] last a z drove is_core stands) failed is;
      have = have_failed a pipe [] last z m failed drove gone going is stands.drives stands.set_up;
    }

    module _ (client : List ℕ) (replay : List Outgoing) (bytes unsent : ℕ) (below : bytes < 2 ^ 63) (plan : BlockPlan) (same : replay ≡ last.pushed)
        (long : plan ≡ long_plan pipe.plan bytes) where
      pub once_rebuilt : (pipe' : BlockPipeline) (new : Shown)
          → RebuiltAfter (task_of settings client replay unsent) (standing plan failed m) pipe' new → 0 < length replay
          → Settles settings a pipe (settled.Rebuilt pipe') new
      once_rebuilt pipe' new after some = (
        rebuilt_after settings client a pipe [] last z m failed fell bytes unsent below pipe' new
            (subst (λ (xs : List Outgoing). RebuiltAfter (task_of settings client xs unsent) (standing (long_plan pipe.plan bytes) failed m) pipe' new)
            same
            (subst (λ (p : BlockPlan). RebuiltAfter (task_of settings client replay unsent) (standing p failed m) pipe' new) long after)),
        omega (arith, some, ap length after.recovered.pushed),
      )

      pub once_given_up : (error : HdfsError) (new : Shown)
          → GaveNoneAfter (task_of settings client replay unsent) (standing plan failed m) error new → FallsFor settings a pipe [] error new
      once_given_up error new after =
          given_up_after settings client a pipe [] last z m failed fell bytes unsent below error new
          (subst (λ (xs : List Outgoing). GaveNoneAfter (task_of settings client xs unsent) (standing (long_plan pipe.plan bytes) failed m) error new)
          same
          (subst (λ (p : BlockPlan). GaveNoneAfter (task_of settings client replay unsent) (standing p failed m) error new) long after))

  pub once_bad : (seqno said : ℤ) → last.end ≡ Some (Bad seqno) → FallsFor settings a pipe [] (errors.DataTransferError (transfer.BadAck said)) m
  once_bad seqno said is = bad_given_up settings a pipe [] last z m seqno said drove gone going is stands.block.some

-- Memory was wanting for that.
pub once_stopped : (settings : RebuildSettings) (pipe : BlockPipeline) (a y m : Shown) → IsStanding settings a pipe []
    → StopsShort pipe.link [] pipe.core a y → WriteEnded y pipe.link m → FallsFor settings a pipe [] errors.NoMemory m
once_stopped settings pipe a y m stands stops gone =
    stopped_given_up settings a pipe [] pipe.core a y m (drove_refl pipe.link pipe.core a stands.drives) stops gone (inl refl)
