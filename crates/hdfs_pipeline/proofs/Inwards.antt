-- What the fields of a core say of what it shows.
use Rattle.std.proofs.Common.{◌≡◌, List, ℕ, Option, Some, None, refl, subst}
use Rattle.hdfs_pipeline.specs.Pipelines.{Failed}
use Rattle.hdfs_pipeline.specs.Places.{ArePlaces}
use Rattle.hdfs_pipeline.specs.Cores.{IsCore}
use Rattle.hdfs_pipeline.specs.Inside.{shown, end_with, IsKept}
use Rattle.hdfs_pipeline.specs.declared.pipeline_core.PipelineCore.TheInside.{Inside}
use Rattle.hdfs_pipeline.specs.declared.pipeline_core.Closed.{Closed}
use Rattle.hdfs_pipeline.specs.declared.pipeline_core.Closed.TheVariants as closes

failed_places : (nodes : ℕ) (failed places : List ℕ) (closed : Option Closed) → (closed ≡ Some closes.Failed → ArePlaces nodes failed) → end_with failed closed ≡ Some (Failed places) → ArePlaces nodes places
failed_places nodes failed places None kept is = absurd (cc)
failed_places nodes failed places (Some closes.Done) kept is = absurd (cc)
failed_places nodes failed places (Some closes.Failed) kept is = let same : failed ≡ places = cc in subst (ArePlaces nodes) same (kept refl)
failed_places nodes failed places (Some (closes.Bad seqno)) kept is = absurd (cc)

pub is_core : (a : Inside) → IsKept a → IsCore (shown a)
is_core a kept = record {
  window = kept.window;
  nodes = kept.nodes;
  forgets = refl;
  few = kept.few;
  sent = kept.sent;
  one = kept.one;
  within = kept.within;
  heartbeats = kept.heartbeats;
  failed = λ places is. failed_places a.nodes a.failed.items places a.closed kept.some_failed is;
}
