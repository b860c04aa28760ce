-- Attempts to rebuild a pipeline have failed, one behind another.
use Rattle.std.proofs.Common.{◌≡◌, ℕ, zero, suc, ◌+◌, List, [], length, Some, refl, sym, ◌∙◌, subst, arith}
use Rattle.std.specs.List.{slice_index_or}
use Rattle.hdfs_cluster.specs.Failures.{SomeNodeRose, NodesFailTimes}
use Rattle.hdfs_cluster.specs.Namenode.{IsToWrite}
use Rattle.hdfs_cluster.specs.Picture.{Picture}
use Rattle.hdfs_cluster.specs.Sending.{uuids}
use Rattle.hdfs_cluster.specs.Shown.{Shown, Later}
use Rattle.hdfs_cluster.proofs.Frames.{later_refl, later_trans, rose_since}
use Rattle.hdfs_pipeline.specs.Places.{ArePlaces}
use Rattle.hdfs_block_reader.specs.Carrying.{AreSlices}
use Rattle.hdfs_rebuild.specs.declared.block_plan.BlockPlan.{BlockPlan}
use Rattle.hdfs_rebuild.specs.Attempts.{Missed, MissedTimes, Standing, Task}
use Rattle.hdfs_rebuild.specs.Between.{KeepsLinks, OnlyBlockOf}
use Rattle.hdfs_rebuild.specs.Plans.{KeepsPlan, Waits}
use Rattle.hdfs_rebuild.specs.Trying.{HaveFailed}
use Rattle.hdfs_block_writer.proofs.LettingGo.{known_of}
use Rattle.hdfs_rebuild.proofs.Stepping.{keeps_links_refl, keeps_links_trans, only_block_of_refl, only_block_of_trans}

pub keeps_plan_refl : (plan : BlockPlan) → KeepsPlan plan plan
keeps_plan_refl plan = record { src = refl; pool = refl; id = refl; length = refl; replication = refl; created = refl; chunk = refl }

pub keeps_plan_trans : (x y z : BlockPlan) → KeepsPlan x y → KeepsPlan y z → KeepsPlan x z
keeps_plan_trans x y z f g = record {
  src = g.src ∙ f.src;
  pool = g.pool ∙ f.pool;
  id = g.id ∙ f.id;
  length = g.length ∙ f.length;
  replication = g.replication ∙ f.replication;
  created = g.created ∙ f.created;
  chunk = g.chunk ∙ f.chunk;
}

-- some datanode of a pipeline has, where there is a failed place
some_failed : (a b : Shown) (plan : BlockPlan) (places : List ℕ) → ArePlaces (length plan.block.locs) places → HaveFailed plan places a b
    → SomeNodeRose a.counts b
some_failed a b plan places are have = (slice_index_or (uuids plan.block.locs) (slice_index_or places 0 0) [], have 0 0 are.some)

-- What came of some attempts, since this was shown: the links stay, datanodes have failed once before and once with each attempt, each
-- failed datanode of the last pipeline has failed, and over a told picture the block waits with the datanodes of this pipeline, which are
-- listed.
pub record MissedSince (a : Shown) (task : Task) (before last : Standing) : Type 0 where
  pub later : Later a last.shown
  pub links : KeepsLinks before.shown last.shown
  pub keeps : KeepsPlan before.plan last.plan
  pub block : IsToWrite last.plan.block
  pub times : ℕ
  pub rebuilds : last.plan.rebuilds ≡ before.plan.rebuilds + times
  pub fails : NodesFailTimes (suc times) a last.shown
  pub places : ArePlaces (length last.plan.block.locs) last.failed
  pub failed : HaveFailed last.plan last.failed a last.shown
  pub told : (p : Picture) (safe : ℕ) (bytes : List ℕ) → before.shown.picture ≡ Some p
      → Waits p before.plan (known_of before.plan safe bytes) → AreSlices bytes safe task.replay
      → (q : Picture) × (last.shown.picture ≡ Some q) × Waits q last.plan (known_of last.plan safe bytes)
      × OnlyBlockOf before.plan.block.b.block_id p q

-- none was made yet
pub none_missed : (a : Shown) (task : Task) (before : Standing) → Later a before.shown → IsToWrite before.plan.block
    → ArePlaces (length before.plan.block.locs) before.failed → HaveFailed before.plan before.failed a before.shown
    → MissedSince a task before before
none_missed a task before later block places failed = record {
  later = later;
  links = keeps_links_refl before.shown;
  keeps = keeps_plan_refl before.plan;
  block = block;
  times = 0;
  rebuilds = omega arith;
  fails = (a, later_refl a, later, some_failed a before.shown before.plan before.failed places failed);
  places = places;
  failed = failed;
  told = λ p safe bytes is waits slices. (p, is, waits, only_block_of_refl before.plan.block.b.block_id p);
}

-- one more has failed
pub one_missed : (a : Shown) (task : Task) (before between after : Standing) → MissedSince a task before between → Missed task between after
    → MissedSince a task before after
one_missed a task before between after f g =
    let id = before.plan.block.b.block_id in
    record {
      later = later_trans a between.shown after.shown f.later g.begins.later;
      links =
          keeps_links_trans before.shown between.shown after.shown f.links
          (record { later = g.begins.later; reads = g.begins.reads; writes = g.writes });
      keeps = keeps_plan_trans before.plan between.plan after.plan f.keeps g.begins.next.keeps;
      block = g.begins.next.block;
      times = suc f.times;
      rebuilds = omega (arith, f.rebuilds, g.begins.next.once);
      fails = (between.shown, f.fails, g.begins.later, some_failed between.shown after.shown after.plan after.failed g.places g.failed);
      places = g.places;
      failed = λ k d lt.
          let node = slice_index_or (uuids after.plan.block.locs) (slice_index_or after.failed k d) [] in
          rose_since (a.counts.nodes node) (between.shown.counts.nodes node) (after.shown.counts.nodes node) (after.shown.counts.nodes node)
          (f.later.counts.nodes node) (g.failed k d lt) (omega arith);
      told = λ p safe bytes is waits slices.
          let x = f.told p safe bytes is waits slices in
          let y = g.told x.0 (known_of between.plan safe bytes) x.1 x.2 slices in (
            y.0,
            y.1,
            y.2,
            only_block_of_trans id p x.0 y.0 x.3 (subst (λ (i : ℕ). OnlyBlockOf i x.0 y.0) f.keeps.id y.3),
          );
    }

-- so many have
pub times_missed : (times : ℕ) (a : Shown) (task : Task) (before last : Standing) → MissedSince a task before before
    → MissedTimes times task before last → MissedSince a task before last
times_missed zero a task before last none same = subst (MissedSince a task before) (sym same) none
times_missed (suc times) a task before last none (between, missed, one) =
    one_missed a task before between last (times_missed times a task before between none missed) one
