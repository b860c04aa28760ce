-- The link that a writer keeps is open.
use Rattle.std.proofs.Common.{◌≡◌, ℕ, Option, Some, None, IsSome, refl, sym, subst}
use Rattle.hdfs_cluster.specs.Shown.{Shown}
use Rattle.hdfs_block_writer.specs.BlockWriters.{link_in}
use Rattle.hdfs_block_writer.specs.declared.block_writer.BlockWriter.{BlockWriter}
use Rattle.hdfs_rebuild.specs.declared.block_plan.BlockPipeline.{BlockPipeline}
use Rattle.hdfs_file_writer.specs.declared.tails.Tail.{Tail}
use Rattle.hdfs_file_writer.specs.declared.tails.Tail.TheVariants.{Going}
use Rattle.hdfs_file_writer.specs.Writers.{Stands, link_of, link_by}
use Rattle.hdfs_file_writer.specs.declared.file_writer.FileWriter.{FileWriter}

-- the link that a writer keeps is open
pub link_is_open : (shown : Shown) (writer : FileWriter) → Stands shown writer → (link : ℕ) → link_of writer ≡ Some link → IsSome (shown.writes link)
link_is_open shown writer stands link is = by_tail writer.tail refl is
  where
    by_pipe : (block : BlockWriter) → writer.tail ≡ Going block → (o : Option BlockPipeline) → block.pipe ≡ o → link_in o ≡ Some link → IsSome (shown.writes link)
    by_pipe block going None pipe at = absurd (cc)
    by_pipe block going (Some pipe) kept at =
        let drives = ((stands.going block going).stands pipe kept).1.standing.drives in
        let same : pipe.link ≡ link = cc in
        subst IsSome (sym (subst (λ (l : ℕ). shown.writes l ≡ Some drives.0) same drives.1)) refl

    by_tail : (tail : Tail) → writer.tail ≡ tail → link_by tail ≡ Some link → IsSome (shown.writes link)
    by_tail (Going block) going at = by_pipe block going block.pipe refl at
    by_tail tail going at = absurd (cc at)
