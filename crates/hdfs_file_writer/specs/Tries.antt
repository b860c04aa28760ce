-- Tries of a new block's first pipeline.
use Rattle.std.specs.Prelude.{◌≡◌, ◌⊎◌, ℕ, ◌+◌, ◌-◌, ◌≤◌, Bool, true, List, [], ◌∷◌, ◌++◌, Some, Result, Ok, Err, slice_get}
use Rattle.hdfs_cluster.specs.declared.asks.Answer.{Answer}
use Rattle.hdfs_cluster.specs.declared.asks.Answer.TheVariants as answers
use Rattle.hdfs_cluster.specs.declared.asks.Ask.{Ask}
use Rattle.hdfs_cluster.specs.Asks.{abandon_block_ask}
use Rattle.hdfs_cluster.specs.declared.errors.HdfsError.{HdfsError}
use Rattle.hdfs_cluster.specs.declared.errors.HdfsError.TheVariants as errors
use Rattle.hdfs_cluster.specs.declared.messages.Block.{Block}
use Rattle.hdfs_cluster.specs.declared.messages.LocatedBlock.{LocatedBlock}
use Rattle.hdfs_cluster.specs.declared.messages.Setup.{Setup}
use Rattle.hdfs_cluster.specs.Counts.{FaultCounts, NodesRoseTimes, Rose}
use Rattle.hdfs_cluster.specs.Requests.{AreFirst, IsFirstSetup}
use Rattle.hdfs_cluster.specs.Shown.{Shown}
use Rattle.hdfs_namenode.specs.Relaying.{Came}
use Rattle.hdfs_rebuild.specs.Opening.{OpensNone}
use Rattle.hdfs_file_writer.specs.declared.file_writer.FileWriter.{FileWriter}
use Rattle.hdfs_file_writer.specs.declared.new_block.Candidate.{Candidate}
use Rattle.hdfs_file_writer.specs.declared.new_block.Tries.{Tries}
use Rattle.hdfs_file_writer.specs.Faults.{is_of_setup}
use Rattle.hdfs_file_writer.specs.Writers.{Wrote}

-- what is kept of a block: its name, and its first datanode
abbrev pub IsCandidate : LocatedBlock → Candidate → Type 0
IsCandidate located candidate = (candidate.block ≡ located.b) × (slice_get located.locs 0 ≡ Some candidate.first)

-- The first pipeline of a block wasn't set up, which is a new one or one that is gone on with: nothing changed but counts of failures.
pub record NotSetUp (client : List ℕ) (created : Bool) (located : LocatedBlock) (old : Shown) (fault : HdfsError) (new : Shown) : Type 0 where
  pub setup : Setup
  pub first : IsFirstSetup created located client setup
  pub none : OpensNone old setup fault new

-- so many first pipelines couldn't be set up, one behind another: the links have failed, or a datanode each time
abbrev pub HaveFailed : ℕ → FaultCounts → FaultCounts → Type 0
HaveFailed times old new = Rose old.links new.links ⊎ NodesRoseTimes times old new

-- All tries so far of the writer's next block have failed, and it carries what it did.
pub record HasTried (start : Shown) (writer : FileWriter) (tries : Tries) (now : Shown) : Type 0 where
  pub within : tries.left ≤ writer.sizes.setup_limit
  pub failed : HaveFailed (writer.sizes.setup_limit - tries.left) start.counts now.counts
  pub wrote : Wrote start writer [] now writer

-- A try has failed, and another one may follow, on none of the first datanodes of those that have failed.
pub record TriesOn (may_answer : Ask → Answer → Type 0) (client : List ℕ) (old : Shown) (writer : FileWriter) (tries : Tries) (new : Shown)
    (writer' : FileWriter) (tries' : Tries) : Type 0 where
  pub same : writer' ≡ writer
  pub fewer : tries'.left + 1 ≡ tries.left
  pub first : AreFirst may_answer client writer.path writer.file_id tries'.excluded
  pub tried : (start : Shown) → HasTried start writer tries old → HasTried start writer tries' new

-- the ask to give up a block of a writer's file
abbrev pub giving_up : List ℕ → FileWriter → Block → Ask
giving_up client writer block = abandon_block_ask block writer.path client writer.file_id

-- The block of a try was given up, whose first pipeline couldn't be set up, and another try may follow.
pub record LeavesCandidate (client : List ℕ) (writer : FileWriter) (tries : Tries) (candidate : Candidate) (fault : HdfsError) (old : Shown)
    (tries' : Tries) (new : Shown) : Type 0 where
  pub of_setup : is_of_setup fault ≡ true
  pub fewer : tries'.left + 1 ≡ tries.left
  pub excluded : tries'.excluded ≡ tries.excluded ++ candidate.first ∷ []
  pub came : Came old (giving_up client writer candidate.block) (Ok answers.AbandonBlock) new

-- its block was to be given up, and no answer came to that, or memory was wanting
abbrev pub GivesUpNot : List ℕ → FileWriter → Candidate → Shown → HdfsError → Shown → Type 0
GivesUpNot client writer candidate old error new =
    (result : Result Answer HdfsError) × Came old (giving_up client writer candidate.block) result new
    × ((result ≡ Err error) ⊎ (error ≡ errors.NoMemory))

-- No other try follows: none may, so that the error is that of this one, or its block wasn't given up.
abbrev pub EndsTries : List ℕ → FileWriter → Tries → Candidate → HdfsError → Shown → HdfsError → Shown → Type 0
EndsTries client writer tries candidate fault old error new =
    ((error ≡ fault) × (is_of_setup fault ≡ true → tries.left ≡ 0) × (new ≡ old))
    ⊎ ((is_of_setup fault ≡ true) × GivesUpNot client writer candidate old error new)
