-- Readers of files, and what a client has read by one.
use Rattle.std.specs.Prelude.{◌≡◌, ◌⊎◌, ◌+◌, ◌≤◌, ℕ, List, All, length, Option, Some, None, IsSome, is_some, true, IfSome, Result, Ok, Err, IfOk, IfErr, OnOk}
use Rattle.hdfs_cluster.specs.declared.asks.Answer.{Answer}
use Rattle.hdfs_cluster.specs.declared.asks.Ask.{Ask}
use Rattle.hdfs_cluster.specs.declared.errors.HdfsError.{HdfsError}
use Rattle.hdfs_cluster.specs.declared.errors.HdfsError.TheVariants as errors
use Rattle.hdfs_cluster.specs.declared.messages.LocatedBlock.{LocatedBlock}
use Rattle.hdfs_cluster.specs.declared.messages.LocatedBlocks.{LocatedBlocks}
use Rattle.hdfs_cluster.specs.declared.picture.Entry.TheVariants as entries
use Rattle.hdfs_cluster.specs.declared.picture.FileEntry.{FileEntry}
use Rattle.hdfs_cluster.specs.Picture.{Picture}
use Rattle.hdfs_cluster.specs.Reading.{range_of}
use Rattle.hdfs_cluster.specs.Requests.{IsLocated}
use Rattle.hdfs_cluster.specs.Shown.{OnlyReads, Shown}
use Rattle.hdfs_cluster.specs.Stores.{StoresBlocks}
use Rattle.hdfs_names.specs.declared.mounts.Resolved.{Resolved}
use Rattle.hdfs_namenode.specs.Asked.{ReachesAll}
use Rattle.hdfs_namenode.specs.Clients.{defaults_of, proxy_of}
use Rattle.hdfs_namenode.specs.Views.{View, HasView, see}
use Rattle.hdfs_namenode.specs.declared.protocol.NamenodeProtocol.{NamenodeProtocol}
use Rattle.hdfs_file_reader.specs.Files.{IsWholeFile, LacksRange, LosesByte, OnlyReadsFile}
use Rattle.hdfs_file_reader.specs.Files as files
use Rattle.hdfs_file_reader.specs.Looking.{IsClosed, LooksInVain}
use Rattle.hdfs_file_reader.specs.declared.file_blocks.FileBlocks.{FileBlocks}
use Rattle.hdfs_file_reader.specs.Ranges.{Stored}
use Rattle.hdfs_file_reader.specs.Transferring.{MayMove, Unsupported}
use Rattle.hdfs_client.specs.Clients.{SameBut, leads_to, service_at}
use Rattle.hdfs_client.specs.declared.client.Client.{Client}
use Rattle.hdfs_client.specs.declared.file_reader.FileReader.{FileReader}

-- the blocks of its file, as they were answered
abbrev pub blocks_of : FileReader → List LocatedBlock
blocks_of reader = files.blocks_of reader.file

-- how many bytes its file has
abbrev pub length_of : FileReader → ℕ
length_of reader = files.length_of reader.file

-- the offset of the byte that it reads next
abbrev pub position_of : FileReader → ℕ
position_of reader = reader.position

-- the number of the service by which its file was found
abbrev pub service_of : FileReader → ℕ
service_of reader = reader.service

-- the same reader at another position
abbrev pub at_position : FileReader → ℕ → FileReader
at_position reader position = record reader { position = position }

-- Its position is in its file, and the blocks follow one another from the file's start to its end, which is below 2^63.
pub record Stands (reader : FileReader) : Type 0 where
  pub whole : IsWholeFile reader.file
  pub inside : position_of reader ≤ length_of reader

-- the client has the service by which the reader's file was found
abbrev pub ReadsBy : Client → FileReader → Type 0
ReadsBy client reader = IsSome (service_at client (service_of reader))

-- a reader at the start of a file that isn't encrypted, of which these blocks were answered
pub record IsReaderOf (located : LocatedBlocks) (reader : FileReader) : Type 0 where
  pub its_blocks : blocks_of reader ≡ located.blocks
  pub its_length : length_of reader ≡ located.file_length
  pub start : position_of reader ≡ 0
  pub plain : located.encryption ≡ None

-- What a caller has of the look-up of a file's blocks: a reader of them, or that the file is encrypted; that there is none, by the path that
-- was given; or the error of the ask.
abbrev pub Opens : List ℕ → Result (Option LocatedBlocks) HdfsError → Result FileReader HdfsError → Type 0
Opens given (Ok (Some located)) result =
    IfOk result (IsReaderOf located) × IfErr result (λ error. Unsupported error × (is_some located.encryption ≡ true))
Opens given (Ok None) result = (result ≡ Err (errors.FileNotFound given)) ⊎ (result ≡ Err errors.NoMemory)
Opens given (Err error) result = result ≡ Err error

-- Why a client has no reader of the file at a path: the file is encrypted; or there are no blocks, as the service sees it to which the path
-- leads.
abbrev pub LacksReader : Client → List ℕ → Shown → HdfsError → Shown → Type 0
LacksReader client src old error new =
    Unsupported error
    ⊎ ((to : Resolved) → leads_to client src ≡ Some to → (namenode : NamenodeProtocol) → service_at client to.service ≡ Some namenode
    → (view : View) → HasView (proxy_of namenode) old view → LooksInVain src to.path (see view old) error (see view new))

-- a reader of the file at a path was made: it stands, and has its file from the service to which the path leads
pub record IsMadeFor (client : Client) (src : List ℕ) (client' : Client) (reader : FileReader) : Type 0 where
  pub stands : Stands reader
  pub by : ReadsBy client' reader
  pub service : (to : Resolved) → leads_to client src ≡ Some to → service_of reader ≡ to.service

-- its blocks were answered for what a path is called where it leads
abbrev pub AreLocated : (Ask → Answer → Type 0) → Client → List ℕ → FileReader → Type 0
AreLocated may_answer client src reader =
    (to : Resolved) → leads_to client src ≡ Some to → All (λ block. IsLocated may_answer to.path block) (blocks_of reader)

-- Over a told picture, where the service to which a path leads is all namenodes, and nobody writes the file there: the reader's blocks store
-- what that file stores.
abbrev pub ShowsFile : Client → List ℕ → Shown → Shown → FileReader → Type 0
ShowsFile client src old new reader =
    (to : Resolved) → leads_to client src ≡ Some to → (namenode : NamenodeProtocol) → service_at client to.service ≡ Some namenode
    → ReachesAll (proxy_of namenode) old → (p : Picture) → old.picture ≡ Some p → IsClosed p to.path
    → (file : FileEntry) × (p.names to.path ≡ Some (entries.File file))
    × ((content : List ℕ) → StoresBlocks p file.blocks content → Stored new (blocks_of reader) content)

-- What a client has read of a range of a file by the service of this number; every other service is what it was. Over any cluster: as many
-- bytes as were wanted, of a range that ends within the file, and they were moved only where the defaults don't want them encrypted, or why not (`LacksRange`); no link is left
-- open, nothing but reads was done where the defaults were known, and for no bytes the cluster and the service are what they were. Over a
-- told picture, where the service is all namenodes: the bytes are those of the file that the blocks store, or a byte is lost with all
-- datanodes that hold its block whole.
pub record ReadsBlocks (old : Shown) (client : Client) (file : FileBlocks) (service offset len : ℕ) (result : Result (List ℕ) HdfsError)
    (new : Shown) (client' : Client) : Type 0 where
  pub before : NamenodeProtocol
  pub was : service_at client service ≡ Some before
  pub after : NamenodeProtocol
  pub is : service_at client' service ≡ Some after
  pub others : SameBut service client client'
  pub count : IfOk result (λ bytes. length bytes ≡ len)
  pub within : OnOk result (offset + len ≤ files.length_of file)
  pub plain : OnOk result (MayMove len after)
  pub idle : len ≡ 0 → (new ≡ old) × (after ≡ before)
  pub err : IfErr result (λ error. LacksRange (files.length_of file) offset len old before error new after)
  pub leaves : OnlyReadsFile old before new after
  pub known : IfSome (defaults_of before) (λ _. OnlyReads old new × (after ≡ before))
  pub bytes : IfOk result (λ bytes. ReachesAll (proxy_of before) old → (content : List ℕ) → Stored old (files.blocks_of file) content
      → offset + len ≤ length content → bytes ≡ range_of content offset len)
  pub lost : IfErr result (λ error. ReachesAll (proxy_of before) old
      → LosesByte old (files.blocks_of file) offset (offset + len) error new)

-- what it has read of a reader's range
abbrev pub ReadsRange : Shown → Client → FileReader → ℕ → ℕ → Result (List ℕ) HdfsError → Shown → Client → Type 0
ReadsRange old client reader = ReadsBlocks old client reader.file (service_of reader)
