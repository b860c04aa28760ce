-- How the set-up of a pipeline is counted.
use Rattle.std.specs.Prelude.{◌≡◌, ◌≢◌, ℕ, List, [], ◌∷◌, Option, Some, None}
use Rattle.hdfs_cluster.specs.declared.asks.LinkFault.{LinkFault}
use Rattle.hdfs_cluster.specs.declared.asks.LinkFault.TheVariants as link_faults
use Rattle.hdfs_cluster.specs.declared.messages.DatanodeInfo.{DatanodeInfo}
use Rattle.hdfs_cluster.specs.declared.messages.Setup.{Setup}
use Rattle.hdfs_cluster.specs.declared.messages.Stage.{Stage}
use Rattle.hdfs_cluster.specs.declared.messages.Stage.TheVariants as stages
use Rattle.hdfs_cluster.specs.declared.store.LinkKind.{LinkKind}
use Rattle.hdfs_mem_faults.specs.declared.fault_plan.FaultPlan.{FaultPlan}
use Rattle.hdfs_mem_faults.specs.Plans.{Forgets, SamePlan, SetsUp}
use Rattle.hdfs_mem_cluster.specs.Failures.{planned_failure}

-- The datanode to which the failure of a set-up at this stage is put down: the first one of a new pipeline. That of one that is gone on with
-- is put down to the links.
abbrev pub blamed_at : Stage → List DatanodeInfo → Option (List ℕ)
blamed_at stages.Create [] = None
blamed_at stages.Create (first ∷ rest) = Some first.id.datanode_uuid
blamed_at stages.Append nodes = None
blamed_at stages.Recovery nodes = None

-- the same of a set-up
abbrev pub blamed : Setup → Option (List ℕ)
blamed setup = blamed_at setup.stage setup.locs

-- What was planned of a link that was there before is forgotten. Then its set-up was counted, and failed exactly as it is planned to, which is
-- put down to this datanode, if to one; or there was no memory, and it wasn't counted.
pub record CountsSetUp (old : FaultPlan) (link : ℕ) (first : Option (List ℕ)) (fault : Option LinkFault) (new : FaultPlan) : Type 0 where
  pub mid : FaultPlan
  pub forgets : Forgets old link mid
  pub memory : fault ≡ Some link_faults.NoMemory → SamePlan mid new
  pub counts : fault ≢ Some link_faults.NoMemory → (kind : Option LinkKind) × SetsUp mid link first kind new × (fault ≡ planned_failure kind)
