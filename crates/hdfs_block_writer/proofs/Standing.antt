-- The packets of a pipeline, once it was driven on, can be sent again, and others follow on them.
use Rattle.std.proofs.Common.{◌≡◌, ℕ, zero, suc, ◌+◌, ◌^◌, ◌<◌, ◌≤◌, List, [], ◌∷◌, ◌++◌, length, take, drop, Some, sym, ◌∙◌, ap, subst, arith, append_assoc}
use Rattle.std.proofs.lemmas.List.{append-nil, drop-append-le}
use Rattle.hdfs_wire.specs.Outgoing.{Outgoing}
use Rattle.hdfs_cluster.specs.declared.messages.Setup.{Setup}
use Rattle.hdfs_cluster.specs.declared.picture.OpenWrite.{OpenWrite}
use Rattle.hdfs_cluster.specs.Namenode.{IsToWrite}
use Rattle.hdfs_cluster.specs.Shown.{Shown}
use Rattle.hdfs_pipeline.specs.Cores.{IsCore}
use Rattle.hdfs_pipeline.specs.Driving.{Drove}
use Rattle.hdfs_pipeline.specs.Pipelines.{Failed, Pipeline}
use Rattle.hdfs_pipeline.specs.Places.{ArePlaces}
use Rattle.hdfs_block_reader.specs.Carrying.{FollowFrom, total}
use Rattle.hdfs_block_reader.proofs.Recovering.{follow_drop}
use Rattle.hdfs_rebuild.specs.declared.block_plan.BlockPipeline.{BlockPipeline}
use Rattle.hdfs_rebuild.specs.declared.block_plan.BlockPlan.{BlockPlan}
use Rattle.hdfs_rebuild.specs.declared.block_plan.RebuildSettings.{RebuildSettings}
use Rattle.hdfs_block_writer.specs.OpenPipelines.{IsStanding}
use Rattle.hdfs_rebuild.specs.Plans.{CanRebuild, NoneEndsBefore}
use Rattle.hdfs_block_writer.proofs.LettingGo.{long_plan}
use Rattle.hdfs_rebuild.proofs.Resuming.{some_is}

-- of packets of which none but the last ends the block, the same is so of those behind the first
ends_drop : (packets : List Outgoing) (k : ℕ) → NoneEndsBefore packets → NoneEndsBefore (drop k packets)
ends_drop [] zero ends = tt
ends_drop [] (suc k) ends = tt
ends_drop (p ∷ packets) zero ends = ends
ends_drop (p ∷ []) (suc k) ends = ends_drop [] k tt
ends_drop (p ∷ q ∷ packets) (suc k) ends = ends_drop (q ∷ packets) k ends.1

-- What follows behind some packets does so behind those that are left of them.
module _ (pushed came more pushed' : List Outgoing) (n : ℕ) (few : n ≤ length pushed) (is : pushed' ≡ drop n pushed ++ came) where
  whole : drop n (pushed ++ (came ++ more)) ≡ pushed' ++ more
  whole =
      drop-append-le n pushed (came ++ more) few ∙ sym (append_assoc (drop n pushed) came more)
      ∙ ap (λ (xs : List Outgoing). xs ++ more) (sym is)

  pub follow_left : (first : ℕ) → FollowFrom first (pushed ++ (came ++ more))
      → FollowFrom (first + total (take n (pushed ++ (came ++ more)))) (pushed' ++ more)
  follow_left first follow =
      subst (FollowFrom (first + total (take n (pushed ++ (came ++ more))))) whole (follow_drop (pushed ++ (came ++ more)) n first follow)

  pub ends_left : NoneEndsBefore (pushed ++ (came ++ more)) → NoneEndsBefore (pushed' ++ more)
  ends_left ends = subst NoneEndsBefore whole (ends_drop (pushed ++ (came ++ more)) n ends)

-- A pipeline that was driven on.
module _ (settings : RebuildSettings) (pipe : BlockPipeline) (came more : List Outgoing) (core' : Pipeline) (a b : Shown)
    (drove : Drove pipe.link came pipe.core a core' b) (is_core : IsCore core') (stands : IsStanding settings a pipe (came ++ more)) where
  -- it stands as before
  pub standing_drove : IsStanding settings b (record pipe { core = core' }) more
  standing_drove = record {
    drives = drove.drives;
    is_core = is_core;
    block = stands.block;
    set_up = λ write at.
        let still = drove.on.still_open stands.drives.0 stands.drives.1 in
        ap (λ (setup : Setup). setup.locs) (ap (λ (w : OpenWrite). w.setup) (some_is write still.0 (sym at ∙ still.1)) ∙ still.2)
        ∙ stands.set_up stands.drives.0 stands.drives.1;
    many = stands.many ∙ sym drove.goes.nodes;
    rebuilds = stands.rebuilds;
    window = drove.goes.window ∙ stands.window;
    first = stands.first + total (take drove.acknowledged (pipe.core.pushed ++ (came ++ more)));
    follow = follow_left pipe.core.pushed came more core'.pushed drove.acknowledged drove.goes.few drove.goes.pushed stands.first stands.follow;
    ends = ends_left pipe.core.pushed came more core'.pushed drove.acknowledged drove.goes.few drove.goes.pushed stands.ends;
  }

-- a block that can be written can be, however long it is
pub long_to_write : (plan : BlockPlan) (length : ℕ) → length < 2 ^ 63 → IsToWrite plan.block → IsToWrite (long_plan plan length).block
long_to_write plan length below to_write =
    record { some = to_write.some; few = to_write.few; types = to_write.types; ids = to_write.ids; below = below }

-- A pipeline that stands, and of which datanodes have failed.
module _ (settings : RebuildSettings) (pipe : BlockPipeline) (b : Shown) (stands : IsStanding settings b pipe []) (failed : List ℕ)
    (is : pipe.core.end ≡ Some (Failed failed)) where
  pub failed_places : ArePlaces (length pipe.plan.block.locs) failed
  failed_places = subst (λ (n : ℕ). ArePlaces n failed) (sym stands.many) (stands.is_core.failed failed is)

  -- it can be rebuilt
  pub can_rebuild_standing : (bytes unsent : ℕ) (replay : List Outgoing) → replay ≡ pipe.core.pushed
      → (total pipe.core.pushed + unsent ≤ bytes) × (bytes < 2 ^ 63)
      → CanRebuild (record { plan = long_plan pipe.plan bytes; failed = failed; replay = replay }) settings unsent
  can_rebuild_standing bytes unsent replay same few =
      subst (λ (packets : List Outgoing). CanRebuild (record { plan = long_plan pipe.plan bytes; failed = failed; replay = packets }) settings unsent)
      (sym same)
      (record {
        block = long_to_write pipe.plan bytes few.1 stands.block;
        places = failed_places;
        rebuilds = stands.rebuilds;
        window = (omega (arith, stands.is_core.window, stands.window), omega (arith, stands.is_core.window, stands.window));
        packets = record {
          few = omega (arith, stands.is_core.few, stands.window);
          start = stands.first;
          follow = subst (FollowFrom stands.first) (append-nil pipe.core.pushed) stands.follow;
          ends = subst NoneEndsBefore (append-nil pipe.core.pushed) stands.ends;
        };
        few = few.0;
      })
