-- A look-up of the blocks of a file.
use Rattle.std.specs.Prelude.{◌≡◌, ◌⊎◌, ◌<◌, ◌-◌, ◌^◌, ℕ, false, List, Option, Some, None, Result, Ok, Err}
use Rattle.hdfs_cluster.specs.declared.asks.Answer.{Answer}
use Rattle.hdfs_cluster.specs.declared.asks.Answer.TheVariants as answers
use Rattle.hdfs_cluster.specs.declared.asks.AskFault.{AskFault}
use Rattle.hdfs_cluster.specs.declared.asks.Ask.{Ask}
use Rattle.hdfs_cluster.specs.declared.asks.Ask.TheVariants as asks
use Rattle.hdfs_cluster.specs.declared.errors.HdfsError.{HdfsError}
use Rattle.hdfs_cluster.specs.declared.errors.HdfsError.TheVariants as errors
use Rattle.hdfs_cluster.specs.declared.messages.LocatedBlocks.{LocatedBlocks}
use Rattle.hdfs_cluster.specs.declared.picture.LastAnswer.TheVariants as last_answers
use Rattle.hdfs_cluster.specs.Failures.{CallsRose}
use Rattle.hdfs_cluster.specs.Files.{OpenFile}
use Rattle.hdfs_cluster.specs.Namenode.{Follow, IsNoFile, Locates}
use Rattle.hdfs_cluster.specs.Picture.{Picture, SameFiles, kinds}
use Rattle.hdfs_cluster.specs.Shown.{Shown, Later, SameLinks, SameNodes}
use Rattle.hdfs_namenode.specs.Asked.{AskedOnce, Through, as_answer}
use Rattle.hdfs_namenode.specs.Relaying.{RefusedBy, TellsAsk}

-- what a look-up leaves: the counts don't fall, and no read is opened or ended, and no datanode's count rises
pub record OnlyLooks (old new : Shown) : Type 0 where
  pub later : Later old new
  pub links : SameLinks old new
  pub nodes : SameNodes old new

-- no client is writing the file at a path
abbrev pub IsClosed : Picture → List ℕ → Type 0
IsClosed p path = kinds p path ≡ Some OpenFile → ⊥

-- over a told picture in which nobody writes the file at a path, the files stay
abbrev pub FilesStay : List ℕ → Shown → Shown → Type 0
FilesStay path old new =
    (p : Picture) → old.picture ≡ Some p → IsClosed p path → (q : Picture) × (new.picture ≡ Some q) × SameFiles p q

-- the blocks of a whole file: they follow one another from its start to its end, which is below 2^63
pub record AreBlocksOf (found : LocatedBlocks) : Type 0 where
  pub below : found.file_length < 2 ^ 63
  pub follow : Follow 0 found.file_length found.blocks

-- over a told picture in which nobody writes the file at a path, these are the blocks of that file
abbrev pub LocatesFile : List ℕ → Shown → LocatedBlocks → Type 0
LocatesFile path shown found = (p : Picture) → shown.picture ≡ Some p → IsClosed p path → Locates p path found

-- What the caller of a look-up has of what was answered: the blocks; that there is no file, by the name that the caller has for it, or that
-- there was no memory to say so; or the error of the ask.
abbrev pub GivesBlocks : List ℕ → Result (Option LocatedBlocks) HdfsError → Result LocatedBlocks HdfsError → Type 0
GivesBlocks name (Ok (Some found)) result = result ≡ Ok found
GivesBlocks name (Ok None) result = (result ≡ Err (errors.FileNotFound name)) ⊎ (result ≡ Err errors.NoMemory)
GivesBlocks name (Err error) result = result ≡ Err error

-- A service was asked once for all blocks of a file, or there was no memory for that, and this is what the caller has of what it came to.
pub record LooksUp {C : Type 0} (serves : C → ℕ → Ask → Result Answer AskFault → C → Type 0) (name path : List ℕ) (old : Through C)
    (result : Result LocatedBlocks HdfsError) (new : Through C) : Type 0 where
  pub outcome : Result (Option LocatedBlocks) HdfsError
  pub asked : AskedOnce serves false (asks.GetBlockLocations path 0 (2 ^ 63 - 1)) old (as_answer answers.GetBlockLocations outcome) new
  pub gives : GivesBlocks name outcome result

-- the error of a look-up: a namenode has answered that there is no such file, by the name that the caller has for it, or the ask has failed
abbrev pub TellsLookUp : List ℕ → Shown → HdfsError → Shown → Type 0
TellsLookUp name old error new = ((error ≡ errors.FileNotFound name) × (new.last ≡ last_answers.Fine)) ⊎ TellsAsk old new error

-- what was answered to a look-up that gives these blocks, or says that there is no file
abbrev pub AnswersLookUp : (Ask → Answer → Type 0) → List ℕ → Result LocatedBlocks HdfsError → Type 0
AnswersLookUp may_answer path (Ok found) = may_answer (asks.GetBlockLocations path 0 (2 ^ 63 - 1)) (answers.GetBlockLocations (Some found))
AnswersLookUp may_answer path (Err (errors.FileNotFound name)) =
    may_answer (asks.GetBlockLocations path 0 (2 ^ 63 - 1)) (answers.GetBlockLocations None)
AnswersLookUp may_answer path (Err error) = Unit {0}

-- why there are none, over a told picture: no file is there; or an ask failed, for want of memory, since it was refused, or since a namenode
-- has failed
abbrev pub LacksBlocks : Picture → List ℕ → List ℕ → Shown → HdfsError → Shown → Type 0
LacksBlocks p name path old error new =
    ((error ≡ errors.FileNotFound name) × IsNoFile p path)
    ⊎ (TellsAsk old new error
    × ((error ≡ errors.NoMemory) ⊎ RefusedBy p (asks.GetBlockLocations path 0 (2 ^ 63 - 1)) error ⊎ CallsRose old.counts new))

-- Why a look-up gives no blocks: what its error tells over any cluster, and the cause of that over a told picture in which nobody writes the
-- file.
pub record LooksInVain (name path : List ℕ) (old : Shown) (error : HdfsError) (new : Shown) : Type 0 where
  pub tells : TellsLookUp name old error new
  pub why : (p : Picture) → old.picture ≡ Some p → IsClosed p path → LacksBlocks p name path old error new
