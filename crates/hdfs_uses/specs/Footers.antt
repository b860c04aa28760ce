-- The last bytes of files.
use Rattle.std.specs.Prelude.{◌≡◌, ◌⊎◌, ℕ, ◌-◌, ◌^◌, true, false, min, List, [], ◌∷◌, ◌++◌, length, drop, Some, Result, Ok, Err}
use Rattle.hdfs_cluster.specs.declared.asks.Answer.{Answer}
use Rattle.hdfs_cluster.specs.declared.asks.Answer.TheVariants as answers
use Rattle.hdfs_cluster.specs.declared.asks.Ask.{Ask}
use Rattle.hdfs_cluster.specs.declared.asks.Ask.TheVariants as asks
use Rattle.hdfs_cluster.specs.declared.asks.AskFault.{AskFault}
use Rattle.hdfs_cluster.specs.declared.errors.HdfsError.{HdfsError}
use Rattle.hdfs_cluster.specs.declared.errors.HdfsError.TheVariants as errors
use Rattle.hdfs_cluster.specs.declared.picture.Entry.TheVariants as entries
use Rattle.hdfs_cluster.specs.declared.picture.FileEntry.{FileEntry}
use Rattle.hdfs_cluster.specs.Picture.{Picture}
use Rattle.hdfs_cluster.specs.Requests.{AskOf, Request}
use Rattle.hdfs_cluster.specs.Shown.{Shown}
use Rattle.hdfs_cluster.specs.Stores.{StoresBlocks}
use Rattle.hdfs_file_reader.specs.Files.{LetsReadFile}
use Rattle.hdfs_file_reader.specs.Looking.{IsClosed}
use Rattle.hdfs_names.specs.declared.mounts.MountTable.{MountTable}
use Rattle.hdfs_names.specs.declared.mounts.Resolved.{Resolved}
use Rattle.hdfs_client.specs.Calls.{Gives}
use Rattle.hdfs_client.specs.Clients.{leads_to, mounts_of}
use Rattle.hdfs_client.specs.Globbing.{Globs, IsGlobFault}
use Rattle.hdfs_client.specs.Listing.{leads_by}
use Rattle.hdfs_client.specs.Readers.{Opens, ReadsRange, length_of}
use Rattle.hdfs_client.specs.Writing.{ReachesWhole}
use Rattle.hdfs_client.specs.declared.client.Client.{Client}
use Rattle.hdfs_client.specs.declared.errors.ClientError.{ClientError}
use Rattle.hdfs_client.specs.declared.errors.ClientError.TheVariants.{Hdfs}
use Rattle.hdfs_client.specs.declared.file_reader.FileReader.{FileReader}
use Rattle.hdfs_client.specs.declared.status.FileStatus.{FileStatus}
use Rattle.hdfs_uses.specs.declared.footers.Footer.{Footer}

-- the last eight of some bytes, or all of them where they are fewer
abbrev pub end_of : List ℕ → List ℕ
end_of content = drop (length content - 8) content

-- Over a told picture, where the service to which a path leads is whole, and nobody writes the file there: these are the last bytes that it
-- stores.
abbrev pub EndsFile : Client → List ℕ → Shown → List ℕ → Type 0
EndsFile client path old bytes =
    (to : Resolved) → leads_to client path ≡ Some to → ReachesWhole client path old → (p : Picture) → old.picture ≡ Some p → IsClosed p to.path
    → (file : FileEntry) × (p.names to.path ≡ Some (entries.File file))
    × ((content : List ℕ) → StoresBlocks p file.blocks content → bytes ≡ end_of content)

-- leave to read any file to which a path leads by these mounts
abbrev pub LetsReadAny : (Request → Type 0) → (Ask → Answer → Type 0) → MountTable → Type 0
LetsReadAny allows may_answer mounts =
    allows (AskOf asks.GetServerDefaults)
    × ((path : List ℕ) (to : Resolved) → leads_by mounts path to → LetsReadFile allows may_answer to.path 1)

-- how many bytes are read at the end of a file of this length
abbrev pub end_len : ℕ → ℕ
end_len length = min length 8

-- from where on they are read
abbrev pub end_from : ℕ → ℕ
end_from length = length - end_len length

module _ {C : Type 0} (shown : C → Shown) (serves : C → ℕ → Ask → Result Answer AskFault → C → Type 0) where
  -- a client asked for the blocks of the file at a path, once, and of what came of that it has this
  abbrev pub Looks : Client → List ℕ → C → Result FileReader HdfsError → Client → C → Type 0
  Looks client path old result between mid =
      Gives serves false (λ at. asks.GetBlockLocations at 0 (2 ^ 63 - 1)) answers.GetBlockLocations client path old between mid
      (λ found. Opens path found result)

  -- the end of the file at a path was read: its blocks were asked for, and then its last bytes, which are these
  pub record ReadsEnd (client : Client) (path : List ℕ) (old : C) (bytes : List ℕ) (client' : Client) (new : C) : Type 0 where
    pub reader : FileReader
    pub between : Client
    pub mid : C
    pub asked : Looks client path old (Ok reader) between mid
    pub reads : ReadsRange (shown mid) between reader (end_from (length_of reader)) (end_len (length_of reader)) (Ok bytes) (shown new) client'
    pub ends : EndsFile client path (shown old) bytes

  -- a file's last bytes were asked for in vain
  pub record ReadsNoEnd (client : Client) (path : List ℕ) (old : C) (error : HdfsError) : Type 0 where
    pub reader : FileReader
    pub between : Client
    pub mid : C
    pub asked : Looks client path old (Ok reader) between mid
    pub client' : Client
    pub new : C
    pub reads : ReadsRange (shown mid) between reader (end_from (length_of reader)) (end_len (length_of reader)) (Err error) (shown new) client'

  -- why the end of the file at a path wasn't read: it has no reader, or its bytes couldn't be read, or there was no memory
  abbrev pub IsEndUnread : Client → List ℕ → C → HdfsError → Type 0
  IsEndUnread client path old error = ((between : Client) × (mid : C) × Looks client path old (Err error) between mid)
      ⊎ (ReadsNoEnd client path old error ⊎ (error ≡ errors.NoMemory))

  -- a footer is the end of a file that was found, as it was read by these mounts
  pub record IsEndRead (mounts : MountTable) (status : FileStatus) (footer : Footer) : Type 0 where
    pub client : Client
    pub old : C
    pub client' : Client
    pub new : C
    pub by : mounts_of client ≡ mounts
    pub of : footer.path ≡ status.path
    pub reads : ReadsEnd client status.path old footer.bytes client' new

  -- the end of a file that was found couldn't be read by these mounts
  pub record IsUnread (mounts : MountTable) (status : FileStatus) (error : HdfsError) : Type 0 where
    pub file : status.isdir ≡ false
    pub client : Client
    pub old : C
    pub by : mounts_of client ≡ mounts
    pub unread : IsEndUnread client status.path old error

  -- that of one of these couldn't, or there was no memory
  abbrev pub LacksEnd : MountTable → List FileStatus → HdfsError → Type 0
  LacksEnd mounts found error =
      ((before : List FileStatus) × (status : FileStatus) × (behind : List FileStatus) × (found ≡ before ++ status ∷ behind)
      × IsUnread mounts status error)
      ⊎ (error ≡ errors.NoMemory)

-- the end of what was found stands behind others now, if it is a file
abbrev pub PutsEnd : (FileStatus → Footer → Type 0) → FileStatus → List Footer → List Footer → Type 0
PutsEnd IsEnd status footers footers' = ((status.isdir ≡ true) × (footers' ≡ footers))
    ⊎ ((status.isdir ≡ false) × ((footer : Footer) × IsEnd status footer × (footers' ≡ footers ++ footer ∷ [])))

-- the ends of the files among what was found, in its order
pub data AreEnds (IsEnd : FileStatus → Footer → Type 0) : List FileStatus → List Footer → Type 0 where
  none : AreEnds IsEnd [] []
  passed : (found : List FileStatus) (footers : List Footer) (status : FileStatus) → AreEnds IsEnd found footers → status.isdir ≡ true
      → AreEnds IsEnd (found ++ status ∷ []) footers
  read : (found : List FileStatus) (footers : List Footer) (status : FileStatus) (footer : Footer) → AreEnds IsEnd found footers
      → status.isdir ≡ false → IsEnd status footer → AreEnds IsEnd (found ++ status ∷ []) (footers ++ footer ∷ [])

-- the ends of the files that a pattern names
pub record FindsEnds {C : Type 0} (shown : C → Shown) (serves : C → ℕ → Ask → Result Answer AskFault → C → Type 0)
    (may_answer : Ask → Answer → Type 0) (mounts : MountTable) (limit : ℕ) (pattern : List ℕ) (footers : List Footer) : Type 0 where
  pub found : List FileStatus
  pub globs : Globs serves may_answer mounts limit pattern found
  pub ends : AreEnds (IsEndRead shown serves mounts) found footers

-- one of these files couldn't be read
pub record FindsUnread {C : Type 0} (shown : C → Shown) (serves : C → ℕ → Ask → Result Answer AskFault → C → Type 0)
    (may_answer : Ask → Answer → Type 0) (mounts : MountTable) (limit : ℕ) (pattern : List ℕ) (error : ClientError) : Type 0 where
  pub found : List FileStatus
  pub globs : Globs serves may_answer mounts limit pattern found
  pub cause : HdfsError
  pub is : error ≡ Hdfs cause
  pub lacks : LacksEnd shown serves mounts found cause

-- why there are none: the pattern's files can't be told, or one of them couldn't be read
abbrev pub FindsNoEnds : {C : Type 0} → (C → Shown) → (C → ℕ → Ask → Result Answer AskFault → C → Type 0) → (Ask → Answer → Type 0)
    → MountTable → ℕ → List ℕ → ClientError → Type 0
FindsNoEnds shown serves may_answer mounts limit pattern error =
    IsGlobFault serves may_answer mounts limit pattern error ⊎ FindsUnread shown serves may_answer mounts limit pattern error
