-- Trees that are copied.
use Rattle.std.specs.Prelude.{◌≡◌, ◌⊎◌, ℕ, ◌+◌, ◌-◌, ◌^◌, Bool, true, false, min, List, [], ◌∷◌, ◌++◌, length, Some, Result, Ok}
use Rattle.hdfs_cluster.specs.declared.asks.Answer.{Answer}
use Rattle.hdfs_cluster.specs.declared.asks.Answer.TheVariants as answers
use Rattle.hdfs_cluster.specs.declared.asks.Ask.{Ask}
use Rattle.hdfs_cluster.specs.declared.asks.Ask.TheVariants as asks
use Rattle.hdfs_cluster.specs.declared.asks.AskFault.{AskFault}
use Rattle.hdfs_cluster.specs.declared.errors.HdfsError.{HdfsError}
use Rattle.hdfs_cluster.specs.declared.errors.HdfsError.TheVariants as errors
use Rattle.hdfs_cluster.specs.Shown.{Shown}
use Rattle.hdfs_file_writer.specs.Writers as files
use Rattle.hdfs_file_writer.specs.declared.file_writer.FileWriter as inner
use Rattle.hdfs_names.specs.declared.mounts.MountTable.{MountTable}
use Rattle.hdfs_client.specs.Calls.{Gives}
use Rattle.hdfs_client.specs.Clients.{mounts_of}
use Rattle.hdfs_client.specs.Listing.{HasAll, Lists}
use Rattle.hdfs_client.specs.Readers.{ShowsFile, length_of}
use Rattle.hdfs_client.specs.Streams.{GivesPiece, IsStreamOf, end_of, is_over, place_of}
use Rattle.hdfs_client.specs.Writing.{GoesOn, open_of}
use Rattle.hdfs_client.specs.declared.client.Client.{Client}
use Rattle.hdfs_client.specs.declared.file_reader.FileReader.{FileReader}
use Rattle.hdfs_client.specs.declared.range_stream.RangeStream.{RangeStream}
use Rattle.hdfs_client.specs.declared.status.FileStatus.{FileStatus}
use Rattle.hdfs_client.specs.declared.writing.FileWriter.{FileWriter}
use Rattle.hdfs_uses.specs.Footers.{Looks}
use Rattle.hdfs_uses.specs.Writing.{BegunNew, CreatedAt}

-- what stands at a path below one directory is copied to the same place below another one
abbrev pub IsTarget : List ℕ → List ℕ → List ℕ → List ℕ → Type 0
IsTarget from to path target = (rest : List ℕ) × (path ≡ from ++ 47 ∷ rest) × (target ≡ to ++ 47 ∷ rest)

-- a path has no target: it doesn't lie below the directory; or there was no memory
abbrev pub IsUntold : List ℕ → HdfsError → Type 0
IsUntold path error = (error ≡ errors.InvalidPath path) ⊎ (error ≡ errors.NoMemory)

-- A stream has given these bytes, piece by piece, and each was written before the next one was read: from a client, what the cluster showed, a
-- stream and a writer to those that are left.
pub data Pours (client : Client) (old : Shown) (stream : RangeStream) (writer : FileWriter) : List ℕ → Client → Shown → RangeStream → FileWriter
    → Type 0 where
  nothing : Pours client old stream writer [] client old stream writer
  piece : (bytes : List ℕ) (client1 : Client) (shown1 : Shown) (stream1 : RangeStream) (writer1 : FileWriter) (more : List ℕ) (client2 : Client)
      (shown2 : Shown) (stream2 : RangeStream) (writer2 : FileWriter) (client3 : Client) (shown3 : Shown)
      → Pours client old stream writer bytes client1 shown1 stream1 writer1
      → GivesPiece shown1 client1 stream1 (Some (Ok more)) shown2 client2 stream2
      → GoesOn (λ file file'. files.Wrote shown2 file more shown3 file') writer1 writer2
      → Pours client old stream writer (bytes ++ more) client3 shown3 stream2 writer2

-- a piece was read and written
pub record PoursOne (client : Client) (old : Shown) (stream : RangeStream) (writer : FileWriter) (new : Shown) (stream' : RangeStream)
    (writer' : FileWriter) : Type 0 where
  pub bytes : List ℕ
  pub client' : Client
  pub between : Shown
  pub gives : GivesPiece old client stream (Some (Ok bytes)) between client' stream'
  pub wrote : GoesOn (λ file file'. files.Wrote between file bytes new file') writer writer'

-- a stream was poured until it was over
pub record PoursAll (client : Client) (old : Shown) (stream : RangeStream) (writer : FileWriter) (client' : Client) (new : Shown)
    (stream' : RangeStream) (writer' : FileWriter) : Type 0 where
  pub bytes : List ℕ
  pub pours : Pours client old stream writer bytes client' new stream' writer'
  pub over : is_over stream' ≡ true
  pub all : place_of stream + length bytes ≡ end_of stream

-- All of a reader's file was read and written so, in order, and the new file was closed.
pub record Fills (reader : FileReader) (client : Client) (old : Shown) (writer : FileWriter) (bytes : List ℕ) (new : Shown) : Type 0 where
  pub stream : RangeStream
  pub of : IsStreamOf reader 0 (length_of reader) stream
  pub client' : Client
  pub last : Shown
  pub stream' : RangeStream
  pub writer' : FileWriter
  pub pours : Pours client old stream writer bytes client' last stream' writer'
  pub over : is_over stream' ≡ true
  pub all : length bytes ≡ length_of reader
  pub closed : (file : inner.FileWriter) → open_of writer' ≡ Some file → files.Closed last file new

module _ {C : Type 0} (shown : C → Shown) (may_answer : Ask → Answer → Type 0) (serves : C → ℕ → Ask → Result Answer AskFault → C → Type 0) where
  -- a directory was made at a path, with those above it
  abbrev pub Makes : Client → List ℕ → C → Client → C → Type 0
  Makes client path old client' new =
      Gives serves true (λ at. asks.Mkdirs at 493 true) answers.Mkdirs client path old client' new (λ made. (there : Bool) × (made ≡ Ok there))

  -- a new file was asked for, filled with what a reader's file has, and closed
  pub record WritesFile (client : Client) (reader : FileReader) (to : List ℕ) (old new : C) : Type 0 where
    pub writer : FileWriter
    pub between : Client
    pub mid : C
    pub created : CreatedAt shown may_answer serves client to old writer between mid
    pub begun : BegunNew client to (shown old) writer between (shown mid)
    pub bytes : List ℕ
    pub fills : Fills reader between (shown mid) writer bytes (shown new)

  -- a file was copied that has so many bytes: its blocks were asked for, and then it was written
  pub record CopiesFile (client : Client) (from to : List ℕ) (old : C) (count : ℕ) (new : C) : Type 0 where
    pub reader : FileReader
    pub between : Client
    pub mid : C
    pub asked : Looks shown serves client from old (Ok reader) between mid
    pub shows : ShowsFile client from (shown old) (shown mid) reader
    pub counts : count ≡ length_of reader
    pub writes : WritesFile between reader to mid new

  -- of what was found a directory was made, or a file copied
  abbrev pub Copies : Bool → Client → List ℕ → List ℕ → C → ℕ → Client → C → Type 0
  Copies true client from to old count client' new = (count ≡ 0) × Makes client to old client' new
  Copies false client from to old count client' new = CopiesFile client from to old count new

  -- what was found was copied by these mounts, from below one directory to below another one
  pub record IsCopied (mounts : MountTable) (from to : List ℕ) (status : FileStatus) (count : ℕ) : Type 0 where
    pub client : Client
    pub old : C
    pub client' : Client
    pub new : C
    pub by : mounts_of client ≡ mounts
    pub target : List ℕ
    pub is : IsTarget from to status.path target
    pub copies : Copies status.isdir client status.path target old count client' new

-- each of these was copied, in their order, and these are all their bytes
pub data AreCopied (IsOne : FileStatus → ℕ → Type 0) : List FileStatus → ℕ → Type 0 where
  none : AreCopied IsOne [] 0
  more : (found : List FileStatus) (count : ℕ) (status : FileStatus) (n : ℕ) → AreCopied IsOne found count → IsOne status n
      → AreCopied IsOne (found ++ status ∷ []) (count + n)

-- A directory was made, and what was found was copied to below it: so many bytes, or 2^64 - 1 where they are more.
pub record CopiesAll {C : Type 0} (shown : C → Shown) (may_answer : Ask → Answer → Type 0) (serves : C → ℕ → Ask → Result Answer AskFault → C → Type 0) (mounts : MountTable)
    (found : List FileStatus) (from to : List ℕ) (copied : ℕ) : Type 0 where
  pub client : Client
  pub old : C
  pub client' : Client
  pub new : C
  pub by : mounts_of client ≡ mounts
  pub makes : Makes shown may_answer serves client to old client' new
  pub count : ℕ
  pub copies : AreCopied (IsCopied shown may_answer serves mounts from to) found count
  pub counts : copied ≡ min count (2 ^ 64 - 1)

-- that, of all that was found from a path on
pub record CopiesTree {C : Type 0} (shown : C → Shown) (serves : C → ℕ → Ask → Result Answer AskFault → C → Type 0)
    (may_answer : Ask → Answer → Type 0) (mounts : MountTable) (from to : List ℕ) (copied : ℕ) : Type 0 where
  pub found : List FileStatus
  pub lists : Lists (HasAll may_answer mounts) true from found
  pub all : CopiesAll shown may_answer serves mounts found from to copied
