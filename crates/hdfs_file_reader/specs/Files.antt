-- The blocks of a file, as they are kept to be read from.
use Rattle.std.specs.Prelude.{◌≡◌, ◌⊎◌, ◌+◌, ◌<◌, ◌-◌, ◌^◌, ℕ, List, [], All}
use Rattle.hdfs_cluster.specs.declared.asks.Answer.{Answer}
use Rattle.hdfs_cluster.specs.declared.asks.Ask.{Ask}
use Rattle.hdfs_cluster.specs.declared.asks.Ask.TheVariants as asks
use Rattle.hdfs_cluster.specs.declared.errors.ArgFault.TheVariants as args
use Rattle.hdfs_cluster.specs.declared.errors.HdfsError.{HdfsError}
use Rattle.hdfs_cluster.specs.declared.errors.HdfsError.TheVariants as errors
use Rattle.hdfs_cluster.specs.declared.errors.TransferFault.TheVariants as transfer
use Rattle.hdfs_cluster.specs.declared.messages.LocatedBlock.{LocatedBlock}
use Rattle.hdfs_cluster.specs.Namenode.{Follow}
use Rattle.hdfs_cluster.specs.Lost.{AllFailed, ByteLost}
use Rattle.hdfs_cluster.specs.Picture.{SameFiles, Told}
use Rattle.hdfs_cluster.specs.Requests.{Request, AskOf, IsLocated}
use Rattle.hdfs_cluster.specs.Shown.{Shown, Later, SameLinks, SameNodes}
use Rattle.hdfs_block_reader.specs.Reader.{LetsRead}
use Rattle.hdfs_namenode.specs.Asked.{ReachesAll}
use Rattle.hdfs_namenode.specs.Clients.{defaults_of, proxy_of}
use Rattle.hdfs_namenode.specs.declared.protocol.NamenodeProtocol.{NamenodeProtocol}
use Rattle.hdfs_file_reader.specs.Ranges.{FailsAt, Stored}
use Rattle.hdfs_file_reader.specs.Transferring.{LacksTransfer, SameButKnown, StaysKnown}
use Rattle.hdfs_file_reader.specs.declared.file_blocks.FileBlocks.{FileBlocks}

-- its blocks, in order
abbrev pub blocks_of : FileBlocks → List LocatedBlock
blocks_of file = file.located.blocks

-- how many bytes the file has
abbrev pub length_of : FileBlocks → ℕ
length_of file = file.located.file_length

-- the blocks follow one another from the file's start to its end, which is below 2^63
pub record IsWholeFile (file : FileBlocks) : Type 0 where
  pub below : length_of file < 2 ^ 63
  pub follow : Follow 0 (length_of file) (blocks_of file)

-- leave to read some blocks, from the datanodes that are listed for them, in no client's name
abbrev pub LetsReadBlocks : (Request → Type 0) → List LocatedBlock → Type 0
LetsReadBlocks allows blocks = All (λ block. (end : ℕ) → LetsRead allows block [] end) blocks

-- A read of so many bytes of the file at a path: all blocks of the file; where there are some bytes the defaults; and the blocks that were
-- answered, from the datanodes that are listed for them, in no client's name.
pub record LetsReadFile (allows : Request → Type 0) (may_answer : Ask → Answer → Type 0) (path : List ℕ) (len : ℕ) : Type 0 where
  pub locates : allows (AskOf (asks.GetBlockLocations path 0 (2 ^ 63 - 1)))
  pub defaults : 0 < len → allows (AskOf asks.GetServerDefaults)
  pub reads : (block : LocatedBlock) → IsLocated may_answer path block → (end : ℕ) → LetsRead allows block [] end

-- What reading a file leaves. Of the cluster: the counts don't fall, no link was changed, and no read is left open. Of the client: it asks
-- the same service in the same name, and knows the defaults that it knew. Where it asks all namenodes, the files stay, and the defaults that
-- it knows are the cluster's, where those were that it knew.
pub record OnlyReadsFile (old : Shown) (namenode : NamenodeProtocol) (new : Shown) (namenode' : NamenodeProtocol) : Type 0 where
  pub later : Later old new
  pub links : SameLinks old new
  pub same : SameButKnown namenode namenode'
  pub files : ReachesAll (proxy_of namenode) old → Told SameFiles old.picture new.picture
  pub known : ReachesAll (proxy_of namenode) old → StaysKnown old (defaults_of namenode) new (defaults_of namenode')

-- the error of a range that ends behind a file of this length
abbrev pub EndsBehind : ℕ → ℕ → ℕ → HdfsError → Type 0
EndsBehind offset len length error = error ≡ errors.InvalidArgument (args.Range offset len length)

-- Why a range of a file isn't given: it ends behind the file; its bytes may not be moved, and no datanode was touched; or there was no
-- memory, or no datanode gave a byte of it.
abbrev pub LacksRange : ℕ → ℕ → ℕ → Shown → NamenodeProtocol → HdfsError → Shown → NamenodeProtocol → Type 0
LacksRange length offset len old namenode error new namenode' =
    (EndsBehind offset len length error × (length < offset + len))
    ⊎ (LacksTransfer len old namenode error new namenode' × SameNodes old new)
    ⊎ FailsAt (λ byte. 0 < len) error

-- the byte that an error names is one of a block's part of the range, and each datanode that holds the block whole has failed
abbrev pub LosesByte : Shown → List LocatedBlock → ℕ → ℕ → HdfsError → Shown → Type 0
LosesByte old blocks offset end error new =
    (content : List ℕ) (stored : Stored old blocks content) (byte : ℕ) → error ≡ errors.DataTransferError (transfer.Read byte)
    → ByteLost stored.picture stored.ids offset end (AllFailed old.counts new.counts stored.picture) byte
