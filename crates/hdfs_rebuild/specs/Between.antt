-- What happens to a block between two pipelines.
use Rattle.std.specs.Prelude.{◌≡◌, ◌≢◌, ◌⊎◌, ℕ, List, Some}
use Rattle.hdfs_cluster.specs.declared.errors.HdfsError.{HdfsError}
use Rattle.hdfs_cluster.specs.declared.errors.HdfsError.TheVariants as errors
use Rattle.hdfs_namenode.specs.Relaying.{TellsAsk}
use Rattle.hdfs_cluster.specs.Failures.{CallsRose}
use Rattle.hdfs_cluster.specs.Counts.{Rose}
use Rattle.hdfs_cluster.specs.Picture.{Picture}
use Rattle.hdfs_cluster.specs.Sending.{WritePlace}
use Rattle.hdfs_cluster.specs.Shown.{Shown, Later, SameReads}
use Rattle.hdfs_rebuild.specs.declared.block_plan.BlockPlan.{BlockPlan}
use Rattle.hdfs_rebuild.specs.Plans.{Known, Waits}

-- no count fell, and the open links are those of before
pub record KeepsLinks (old new : Shown) : Type 0 where
  pub later : Later old new
  pub reads : SameReads old new
  pub writes : (link : ℕ) → new.writes link ≡ old.writes link

-- Nothing changed but one block: its entry in the block table, what datanodes hold of it, and write links that have it.
pub record OnlyBlockOf (id : ℕ) (old new : Picture) : Type 0 where
  pub names : (path : List ℕ) → new.names path ≡ old.names path
  pub table : (other : ℕ) → other ≢ id → new.table other ≡ old.table other
  pub defaults : new.defaults ≡ old.defaults
  pub held : (node : List ℕ) (other : ℕ) → other ≢ id → new.held node other ≡ old.held node other
  pub reads : (link : ℕ) → new.reads link ≡ old.reads link
  pub writes : (link : ℕ) (place : WritePlace) → old.writes link ≡ Some place → place.block ≢ id → new.writes link ≡ Some place

-- over a told picture, where a block waits: nothing changed but this block
abbrev pub Touches : BlockPlan → Shown → Shown → Type 0
Touches plan old new = (p : Picture) (known : Known) → old.picture ≡ Some p → Waits p plan known
    → (q : Picture) × (new.picture ≡ Some q) × OnlyBlockOf plan.block.b.block_id p q

-- Over a told picture, where a block waits: it waits still, with the datanodes of another plan, and stands in the block table as before;
-- nothing changed but what datanodes hold of it.
abbrev pub WaitsOn : BlockPlan → Shown → BlockPlan → Shown → Type 0
WaitsOn plan old plan' new = (p : Picture) (known : Known) → old.picture ≡ Some p → Waits p plan known
    → (q : Picture) × (new.picture ≡ Some q) × Waits q plan' known × (q.table plan.block.b.block_id ≡ p.table plan.block.b.block_id)
    × OnlyBlockOf plan.block.b.block_id p q

-- over a told picture, where a block waits: it stands in the block table as before
abbrev pub KeepsEntry : BlockPlan → Shown → Shown → Type 0
KeepsEntry plan old new = (p : Picture) (known : Known) → old.picture ≡ Some p → Waits p plan known
    → (q : Picture) × (new.picture ≡ Some q) × (q.table plan.block.b.block_id ≡ p.table plan.block.b.block_id)

-- over a told picture, where a block waits: a namenode has failed
abbrev pub NamenodeFailed : BlockPlan → Shown → Shown → Type 0
NamenodeFailed plan old new = (p : Picture) (known : Known) → old.picture ≡ Some p → Waits p plan known → CallsRose old.counts new

-- the links have failed, as a transfer or a set-up does, or a namenode has
abbrev pub HelpFailed : BlockPlan → Shown → Shown → Type 0
HelpFailed plan old new = Rose old.counts.links new.counts.links ⊎ NamenodeFailed plan old new

-- the last answer of a namenode stands for an error, and not for want of memory
abbrev pub HasLastError : Shown → Shown → Type 0
HasLastError old new = (error : HdfsError) × (error ≢ errors.NoMemory) × TellsAsk old new error

-- why no datanode was added: the links have failed, as a transfer does, or a namenode has answered an error last, and one has failed
abbrev pub HelpLacks : BlockPlan → Shown → Shown → Type 0
HelpLacks plan old new = Rose old.counts.links new.counts.links ⊎ (NamenodeFailed plan old new × HasLastError old new)
