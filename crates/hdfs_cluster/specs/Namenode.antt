-- What a namenode may answer to an ask, and what its answer does to the picture.
use Rattle.std.specs.Prelude.{◌≡◌, ◌≢◌, ◌⊎◌, ℕ, ◌+◌, ◌-◌, ◌<◌, ◌≤◌, ◌^◌, ◌==◌, ◌||◌, Bool, true, false, length, List, [], ◌∷◌, All, Contains, IfSome, IsSome, is_some, IsUtf8, Option, Some, None, Result, Ok, Err, codes}
use Rattle.std.specs.Str.{bytes_eq}
use Rattle.hdfs_cluster.specs.declared.messages.LocatedBlock.{LocatedBlock}
use Rattle.hdfs_cluster.specs.declared.messages.LocatedBlocks.{LocatedBlocks}
use Rattle.hdfs_cluster.specs.declared.asks.Ask.{Ask}
use Rattle.hdfs_cluster.specs.declared.asks.Ask.TheVariants as asks
use Rattle.hdfs_cluster.specs.declared.asks.Answer.{Answer}
use Rattle.hdfs_cluster.specs.declared.asks.Answer.TheVariants as answers
use Rattle.hdfs_cluster.specs.declared.asks.AskFault.{AskFault}
use Rattle.hdfs_cluster.specs.declared.asks.AskFault.TheVariants as faults
use Rattle.hdfs_cluster.specs.declared.picture.LastAnswer.{LastAnswer}
use Rattle.hdfs_cluster.specs.declared.picture.LastAnswer.TheVariants as last_answers
use Rattle.hdfs_cluster.specs.declared.picture.Entry.TheVariants as entries
use Rattle.hdfs_cluster.specs.declared.picture.BlockEntry.{BlockEntry}
use Rattle.hdfs_cluster.specs.declared.picture.FileEntry.{FileEntry}
use Rattle.hdfs_cluster.specs.Deleting.{DeletesFrom, IsNotEmpty}
use Rattle.hdfs_cluster.specs.Effects.{Changes, KeepsBytes, HasStatus, HasBlock, IsLast, Creates, Opens, AddsBlock, Abandons, IsEmptyLast, Completes, HasGreaterStamp, IsBeingWritten, HasOneMore, AddsOneOf, NamesPipeline}
use Rattle.hdfs_cluster.specs.Files.{Kind, Directory, ClosedFile, NoFile, NotDirectory, Missing, NotFile, no_file, OpenFile}
use Rattle.hdfs_cluster.specs.Listing.{IsMissing, TellsListing, TellsStatus}
use Rattle.hdfs_cluster.specs.Picture.{Picture, SameButActive, SamePicture, kinds}
use Rattle.hdfs_cluster.specs.Refusals.{Refusal, BadPath, WrongState, Exists, Lacks, BadRange, NotEmpty, TooMany, create_refusal, append_refusal, above_refusal, mkdirs_refusal, with_parents}
use Rattle.hdfs_cluster.specs.Sending.{uuids}
use Rattle.hdfs_cluster.specs.Sound.{IsFileAt}
use Rattle.hdfs_names.specs.Paths.{root}

-- the exceptions by their Java classes
abbrev pub standby : List ℕ
standby = codes "org.apache.hadoop.ipc.StandbyException"

-- an observer, which answers reads alone, hands this on to the active namenode
abbrev pub observer_retry : List ℕ
observer_retry = codes "org.apache.hadoop.ipc.ObserverRetryOnActiveException"

-- the exception says that another namenode is to be asked
abbrev pub is_retriable : List ℕ → Bool
is_retriable class = bytes_eq class standby || bytes_eq class observer_retry

-- something stands at the path already
abbrev pub already_exists : List ℕ
already_exists = codes "org.apache.hadoop.fs.FileAlreadyExistsException"

-- the file is open for writing
abbrev pub being_created : List ℕ
being_created = codes "org.apache.hadoop.hdfs.protocol.AlreadyBeingCreatedException"

-- the exception says that something stands at the path already, or is being written
abbrev pub is_taken : List ℕ → Bool
is_taken class = bytes_eq class already_exists || bytes_eq class being_created

-- nothing stands at the path
abbrev pub not_found : List ℕ
not_found = codes "java.io.FileNotFoundException"

-- a file stands above the path
abbrev pub parent_not_directory : List ℕ
parent_not_directory = codes "org.apache.hadoop.fs.ParentNotDirectoryException"

-- the directory isn't empty
abbrev pub not_empty : List ℕ
not_empty = codes "org.apache.hadoop.fs.PathIsNotEmptyDirectoryException"

-- a name from which a directory is listed isn't UTF-8
abbrev pub bad_argument : List ℕ
bad_argument = codes "java.lang.IllegalArgumentException"

-- what is told of the answer to the last ask
abbrev pub last_of : Result Answer AskFault → LastAnswer
last_of (Ok answer) = last_answers.Fine
last_of (Err faults.NoMemory) = last_answers.NoMemory
last_of (Err faults.Broken) = last_answers.Broken
last_of (Err (faults.BadReply fault)) = last_answers.BadReply fault
last_of (Err (faults.Exception class message)) = last_answers.Exception class message
last_of (Err (faults.Fatal class message)) = last_answers.Fatal class message

-- the class of the exception that stands for a path without a file
abbrev pub class_for : NoFile → List ℕ
class_for NotDirectory = parent_not_directory
class_for Missing = not_found
class_for NotFile = not_found

-- there is no file at a path
abbrev pub IsNoFile : Picture → List ℕ → Type 0
IsNoFile p path = (why : NoFile) × (no_file (kinds p) path ≡ Some why)

-- an exception of this class stands for that
abbrev pub StandsForNoFile : (List ℕ → Option Kind) → List ℕ → List ℕ → Type 0
StandsForNoFile kinds path class = (why : NoFile) × (no_file kinds path ≡ Some why) × (class ≡ class_for why)

-- a block as it stands in the table, at this offset of its file
pub record LocatesBlock (entry : BlockEntry) (at id : ℕ) (block : LocatedBlock) : Type 0 where
  pub same_id : block.b.block_id ≡ id
  pub stamp : block.b.generation_stamp ≡ entry.stamp
  pub length : block.b.num_bytes ≡ entry.length
  pub offset : block.offset ≡ at
  pub nodes : uuids block.locs ≡ entry.nodes

-- the blocks in order, one behind another from this offset to the end
abbrev pub LocatesBlocks : (ℕ → Option BlockEntry) → ℕ → ℕ → List ℕ → List LocatedBlock → Type 0
LocatesBlocks table at end [] [] = end ≡ at
LocatesBlocks table at end (id ∷ ids) (block ∷ blocks) =
    ((entry : BlockEntry) × (table id ≡ Some entry) × LocatesBlock entry at id block)
    × LocatesBlocks table (at + block.b.num_bytes) end ids blocks
LocatesBlocks table at end [] (block ∷ blocks) = ⊥
LocatesBlocks table at end (id ∷ ids) [] = ⊥

-- the path is that of a closed file, of which the answer has the length and the blocks, and encryption information where it is encrypted
pub record Locates (p : Picture) (src : List ℕ) (found : LocatedBlocks) : Type 0 where
  pub allowed : no_file (kinds p) src ≡ None
  pub file : FileEntry
  pub named : p.names src ≡ Some (entries.File file)
  pub encryption : is_some found.encryption ≡ file.attributes.encrypted
  pub blocks : LocatesBlocks p.table 0 found.file_length file.blocks found.blocks

-- a range that asks for all blocks of a file
abbrev pub AsksWhole : ℕ → ℕ → Type 0
AsksWhole offset length = (offset ≡ 0) × (length ≡ 2 ^ 63 - 1)

-- a flag of create asks for overwriting
abbrev pub overwrites : ℕ → Bool
overwrites flag = flag == 3

-- a file as it is created, not encrypted
abbrev pub new_file : ℕ → ℕ → ℕ → FileEntry
new_file permission replication block_size = record {
  attributes = record { permission = permission; replication = replication; block_size = block_size; encrypted = false };
  blocks = [];
  is_open = true;
}

-- a block that is to be written has from 1 to 256 locations, as many storages, and below 2^63 bytes
pub record IsToWrite (block : LocatedBlock) : Type 0 where
  pub some : 0 < length block.locs
  pub few : length block.locs ≤ 256
  pub types : length block.storage_types ≡ length block.locs
  pub ids : length block.storage_ids ≡ length block.locs
  pub below : block.b.num_bytes < 2 ^ 63

-- An answer's shape, whether the picture is told or not: the blocks of a whole file stand one behind another from its
-- start to its end, and no length or end reaches 2^63.
abbrev pub Follow : ℕ → ℕ → List LocatedBlock → Type 0
Follow at end [] = end ≡ at
Follow at end (block ∷ blocks) = (block.offset ≡ at) × Follow (at + block.b.num_bytes) end blocks

-- An answer is that of its ask. Its lengths and offsets are in their limits, the blocks of a whole file follow one another, a
-- block that is to be written has its locations, and a new one is empty.
abbrev pub IsShaped : Ask → Answer → Type 0
IsShaped (asks.GetBlockLocations src offset length) (answers.GetBlockLocations None) = Unit {0}
IsShaped (asks.GetBlockLocations src offset length) (answers.GetBlockLocations (Some found)) =
    (found.file_length < 2 ^ 63)
    × All (λ block. block.offset + block.b.num_bytes < 2 ^ 63) found.blocks
    × (AsksWhole offset length → Follow 0 found.file_length found.blocks)
IsShaped asks.GetServerDefaults (answers.GetServerDefaults defaults) = Unit {0}
IsShaped (asks.Create ask) (answers.Create status) = Unit {0}
IsShaped (asks.Append src client flag) (answers.Append appended) = IfSome appended.block IsToWrite
IsShaped (asks.AddBlock ask) (answers.AddBlock block) = IsToWrite block × (block.b.num_bytes ≡ 0)
IsShaped (asks.AbandonBlock ask) answers.AbandonBlock = Unit {0}
IsShaped (asks.Complete ask) (answers.Complete done) = Unit {0}
IsShaped (asks.UpdateBlockForPipeline block client) (answers.UpdateBlockForPipeline located) = Unit {0}
IsShaped (asks.GetAdditionalDatanode ask) (answers.GetAdditionalDatanode located) =
    IsToWrite located × HasOneMore ask.existings located.locs
IsShaped (asks.UpdatePipeline ask) answers.UpdatePipeline = Unit {0}
IsShaped (asks.GetFileInfo src) (answers.GetFileInfo status) = Unit {0}
IsShaped (asks.GetListing src behind located) (answers.GetListing page) = Unit {0}
IsShaped asks.GetDataEncryptionKey (answers.GetDataEncryptionKey key) = Unit {0}
IsShaped (asks.Mkdirs src masked parents) (answers.Mkdirs done) = Unit {0}
IsShaped (asks.Rename src dst overwrite) answers.Rename = Unit {0}
IsShaped (asks.Delete src recursive) (answers.Delete done) = Unit {0}
IsShaped (asks.RenewLease client namespaces) answers.RenewLease = Unit {0}
IsShaped (asks.SetTimes src mtime atime) answers.SetTimes = Unit {0}
IsShaped (asks.SetOwner src owner group) answers.SetOwner = Unit {0}
IsShaped (asks.SetPermission src permission) answers.SetPermission = Unit {0}
IsShaped (asks.SetReplication src replication) (answers.SetReplication done) = Unit {0}
IsShaped (asks.GetContentSummary path) (answers.GetContentSummary summary) = Unit {0}
IsShaped (asks.ModifyAclEntries src entries) answers.ModifyAclEntries = Unit {0}
IsShaped (asks.RemoveAclEntries src entries) answers.RemoveAclEntries = Unit {0}
IsShaped (asks.RemoveDefaultAcl src) answers.RemoveDefaultAcl = Unit {0}
IsShaped (asks.RemoveAcl src) answers.RemoveAcl = Unit {0}
IsShaped (asks.SetAcl src entries) answers.SetAcl = Unit {0}
IsShaped (asks.GetAclStatus src) (answers.GetAclStatus status) = Unit {0}
IsShaped asks.Msync answers.Msync = Unit {0}
IsShaped asks.GetHaServiceState (answers.GetHaServiceState state) = Unit {0}
IsShaped ask answer = ⊥

-- The row of an ask: what an active namenode answers, and what it does to all but which namenode is active. A look-up
-- changes nothing, and says which blocks a file has where all of them are asked for: of a narrower range a namenode answers the blocks that
-- it finds there. A status and a page tell what stands at a path. A directory is made at a path and above it, where nothing refuses that. What
-- is deleted goes with all below it; where nothing stands, or of the root, the answer is false, and nothing changes. False is no answer of the
-- row to `complete`, nor to `mkdirs`.
abbrev pub Row : Picture → Ask → Answer → Picture → Type 0
Row old (asks.GetBlockLocations src offset length) (answers.GetBlockLocations None) new = IsNoFile old src × SameButActive old new
Row old (asks.GetBlockLocations src offset length) (answers.GetBlockLocations (Some found)) new =
    (no_file (kinds old) src ≡ None) × (AsksWhole offset length → Locates old src found) × SameButActive old new
Row old asks.GetServerDefaults (answers.GetServerDefaults defaults) new = (defaults ≡ old.defaults) × SameButActive old new
Row old (asks.Create ask) (answers.Create status) new =
    (create_refusal (kinds old) ask.src (overwrites ask.create_flag) ask.create_parent ≡ None)
    × HasStatus (new_file ask.masked ask.replication ask.block_size) status
    × Creates ask.src (new_file ask.masked ask.replication ask.block_size) old new
Row old (asks.Append src client flag) (answers.Append appended) new =
    (append_refusal (kinds old) src ≡ None)
    × ((file : FileEntry) × IsFileAt old src file × HasStatus file appended.stat × Opens src file appended.block old new)
Row old (asks.AddBlock ask) (answers.AddBlock block) new =
    (file : FileEntry) × IsFileAt old ask.src file × AddsBlock ask.src file ask.previous ask.excludes block old new
Row old (asks.AbandonBlock ask) answers.AbandonBlock new =
    (file : FileEntry) × IsFileAt old ask.src file × (file.is_open ≡ true) × Abandons ask.src file ask.block old new
Row old (asks.Complete ask) (answers.Complete true) new =
    (file : FileEntry) × IsFileAt old ask.src file × Completes ask.src file ask.last old new
Row old (asks.UpdateBlockForPipeline block client) (answers.UpdateBlockForPipeline located) new =
    HasGreaterStamp old block located × SameButActive old new
Row old (asks.GetAdditionalDatanode ask) (answers.GetAdditionalDatanode located) new =
    IsBeingWritten old ask.src ask.blk × AddsOneOf ask.existings ask.excludes located.locs × SameButActive old new
Row old (asks.UpdatePipeline ask) answers.UpdatePipeline new = NamesPipeline ask.old_block ask.new_block ask.new_nodes old new
Row old (asks.GetFileInfo src) (answers.GetFileInfo status) new = TellsStatus old.names old.table src status × SameButActive old new
Row old (asks.GetListing src from located) (answers.GetListing page) new =
    TellsListing old.names old.table src from page × SameButActive old new
Row old (asks.Mkdirs src masked parents) (answers.Mkdirs true) new =
    (mkdirs_refusal (kinds old) src parents ≡ None)
    × Changes old new (with_parents old.names entries.Dir src entries.Dir) old.table
Row old (asks.Delete src recursive) (answers.Delete true) new =
    DeletesFrom old.names old.table src recursive new.names new.table × KeepsBytes old new
Row old (asks.Delete src recursive) (answers.Delete false) new = ((src ≡ root) ⊎ IsMissing old.names src) × SameButActive old new
Row old (asks.RenewLease client namespaces) answers.RenewLease new = SameButActive old new
Row old asks.Msync answers.Msync new = SameButActive old new
Row old asks.GetHaServiceState (answers.GetHaServiceState state) new = SameButActive old new
Row old ask answer new = ⊥

-- the class of the exception that stands for what is in the way at a path
abbrev pub class_in_the_way : Option Kind → List ℕ
class_in_the_way None = already_exists
class_in_the_way (Some Directory) = already_exists
class_in_the_way (Some ClosedFile) = already_exists
class_in_the_way (Some OpenFile) = being_created

-- an exception of this class stands for a refusal at a path at which this stands
abbrev pub StandsForRefusal : Option Kind → Refusal → List ℕ → Type 0
StandsForRefusal kind Exists class = class ≡ class_in_the_way kind
StandsForRefusal kind (Lacks why) class = class ≡ class_for why
StandsForRefusal kind BadPath class = ⊥
StandsForRefusal kind WrongState class = ⊥
StandsForRefusal kind BadRange class = ⊥
StandsForRefusal kind NotEmpty class = class ≡ not_empty
StandsForRefusal kind TooMany class = ⊥

-- an exception of this class stands for what refuses something at a path
abbrev pub StandsForAny : Option Kind → Option Refusal → List ℕ → Type 0
StandsForAny kind refusal class = (why : Refusal) × (refusal ≡ Some why) × StandsForRefusal kind why class

-- an exception of this class stands for a file above a path
abbrev pub StandsForAbove : Picture → List ℕ → List ℕ → Type 0
StandsForAbove p path class = StandsForAny (kinds p path) (above_refusal (kinds p) path) class

-- the exception of this class stands for a refusal of the ask
abbrev pub IsRefusal : Picture → Ask → List ℕ → Type 0
IsRefusal p (asks.GetBlockLocations src offset length) class = StandsForNoFile (kinds p) src class
IsRefusal p (asks.Create ask) class =
    StandsForAny (kinds p ask.src) (create_refusal (kinds p) ask.src (overwrites ask.create_flag) ask.create_parent) class
IsRefusal p (asks.Append src client flag) class = StandsForAny (kinds p src) (append_refusal (kinds p) src) class
IsRefusal p (asks.GetFileInfo src) class = StandsForAbove p src class
IsRefusal p (asks.GetListing src from located) class = StandsForAbove p src class ⊎ ((IsUtf8 from → ⊥) × (class ≡ bad_argument))
IsRefusal p (asks.Mkdirs src masked parents) class = StandsForAny (Some Directory) (mkdirs_refusal (kinds p) src parents) class
IsRefusal p (asks.Delete src recursive) class =
    StandsForAbove p src class ⊎ (IsNotEmpty p.names src recursive × (class ≡ not_empty))
IsRefusal p ask class = ⊥

-- The answer is the implementation's own: the blocks of a file that is being written; a block more of what is no open file,
-- or behind a block that it doesn't have; to give up a block of what is no open file, or one that it has and isn't its last or isn't empty; the
-- closing of what is no file with this last block; a pipeline of a block that isn't listed, or that no open file has; and all answers to asks
-- that have no row.
abbrev pub IsOwn : Picture → Ask → Type 0
IsOwn p (asks.GetBlockLocations src offset length) = kinds p src ≡ Some OpenFile
IsOwn p asks.GetServerDefaults = ⊥
IsOwn p (asks.Create ask) = ⊥
IsOwn p (asks.Append src client flag) = ⊥
IsOwn p (asks.AddBlock ask) =
    (file : FileEntry) → IsFileAt p ask.src file → file.is_open ≡ true → HasBlock file.blocks ask.previous → ⊥
IsOwn p (asks.AbandonBlock ask) =
    (file : FileEntry) → IsFileAt p ask.src file → file.is_open ≡ true
    → IsEmptyLast p.table file.blocks ask.block ⊎ (Contains file.blocks ask.block.block_id → ⊥) → ⊥
IsOwn p (asks.Complete ask) = (file : FileEntry) → IsFileAt p ask.src file → IsLast file.blocks ask.last → ⊥
IsOwn p (asks.UpdateBlockForPipeline block client) = p.table block.block_id ≡ None
IsOwn p (asks.GetAdditionalDatanode ask) = IsBeingWritten p ask.src ask.blk → ⊥
IsOwn p (asks.UpdatePipeline ask) = (ask.old_block.block_id ≡ ask.new_block.block_id) × IsSome (p.table ask.old_block.block_id) → ⊥
IsOwn p (asks.GetFileInfo src) = ⊥
IsOwn p (asks.GetListing src from located) = ⊥
IsOwn p (asks.Mkdirs src masked parents) = ⊥
IsOwn p (asks.Delete src recursive) = ⊥
IsOwn p (asks.RenewLease client namespaces) = ⊥
IsOwn p asks.Msync = ⊥
IsOwn p asks.GetHaServiceState = ⊥
IsOwn p ask = Unit {0}

-- the path that an ask of a session names; one that names none has the empty text, at which nothing stands
abbrev pub src_of : Ask → Option (List ℕ)
src_of (asks.GetBlockLocations src offset length) = Some src
src_of asks.GetServerDefaults = Some []
src_of (asks.Create ask) = Some ask.src
src_of (asks.Append src client flag) = Some src
src_of (asks.AddBlock ask) = Some ask.src
src_of (asks.AbandonBlock ask) = Some ask.src
src_of (asks.Complete ask) = Some ask.src
src_of (asks.UpdateBlockForPipeline block client) = Some []
src_of (asks.GetAdditionalDatanode ask) = Some ask.src
src_of (asks.UpdatePipeline ask) = Some []
src_of (asks.GetFileInfo src) = Some src
src_of (asks.GetListing src from located) = Some src
src_of (asks.Mkdirs src masked parents) = Some src
src_of (asks.Delete src recursive) = Some src
src_of ask = None

-- the block is one of the file at this path
abbrev pub IsBlockOf : Picture → List ℕ → ℕ → Type 0
IsBlockOf p path id = (file : FileEntry) × (p.names path ≡ Some (entries.File file)) × Contains file.blocks id

-- all is left but the file at this path, and its blocks
pub record KeepsOthers (path : List ℕ) (old new : Picture) : Type 0 where
  pub names : (other : List ℕ) → other ≢ path → new.names other ≡ old.names other
  pub table : (id : ℕ) → (IsBlockOf old path id → ⊥) → new.table id ≡ old.table id
  pub held : (node : List ℕ) (id : ℕ) → new.held node id ≡ old.held node id
  pub defaults : new.defaults ≡ old.defaults
  pub reads : (link : ℕ) → new.reads link ≡ old.reads link
  pub writes : (link : ℕ) → new.writes link ≡ old.writes link

-- what an answer of the implementation's own leaves: all but the file that a session's ask names; of other asks all but names and blocks
abbrev pub OwnKeeps : Option (List ℕ) → Picture → Picture → Type 0
OwnKeeps (Some path) old new = KeepsOthers path old new
OwnKeeps None old new = KeepsBytes old new

-- an answer of the implementation's own, and what it leaves
abbrev pub IsOwnOf : Ask → Picture → Picture → Type 0
IsOwnOf ask old new = IsOwn old ask × OwnKeeps (src_of ask) old new

-- An ask whose answer is missing: it had no effect, or the effect of its row, or one of the implementation's own.
abbrev pub MayBeDone : Ask → Picture → Picture → Type 0
MayBeDone ask old new = SameButActive old new ⊎ ((answer : Answer) × IsShaped ask answer × Row old ask answer new) ⊎ IsOwnOf ask old new

-- the answer that a file isn't closed, which is by no row
abbrev pub IsFalse : Answer → Type 0
IsFalse answer = answer ≡ answers.Complete false

-- the answer of a deletion that has found nothing, as one does that is done once more
abbrev pub FoundNothing : Answer → Type 0
FoundNothing answer = answer ≡ answers.Delete false

-- what only a namenode gives that has failed: no answer, or false to `complete`
abbrev pub IsFailure : Result Answer AskFault → Type 0
IsFailure (Ok answer) = IsFalse answer
IsFailure (Err faults.NoMemory) = ⊥
IsFailure (Err faults.Broken) = Unit {0}
IsFailure (Err (faults.BadReply fault)) = Unit {0}
IsFailure (Err (faults.Exception class message)) = ⊥
IsFailure (Err (faults.Fatal class message)) = Unit {0}

-- From one picture to the next, for an ask of namenode i whose count has risen or not. Only the active namenode answers,
-- and only where the count has risen does another one answer or become active, does an exception come that nothing
-- explains, does no answer come, or false to `complete`. Then the ask may have had its effect all the same.
abbrev pub ServesTold : Type 0 → Picture → ℕ → Ask → Result Answer AskFault → Picture → Type 0
ServesTold risen old i ask (Ok answer) new =
    (((i ≡ old.active) ⊎ risen) × ((new.active ≡ old.active) ⊎ risen) × (Row old ask answer new ⊎ IsOwnOf ask old new))
    ⊎ (IsFalse answer × risen × MayBeDone ask old new)
ServesTold risen old i ask (Err faults.NoMemory) new = (new.active ≡ old.active) × MayBeDone ask old new
ServesTold risen old i ask (Err (faults.Exception class message)) new =
    ((i ≢ old.active) × (class ≡ standby) × SamePicture old new)
    ⊎ ((i ≡ old.active) × IsRefusal old ask class × SamePicture old new)
    ⊎ ((i ≡ old.active) × (new.active ≡ old.active) × IsOwnOf ask old new)
    ⊎ (risen × MayBeDone ask old new)
ServesTold risen old i ask (Err faults.Broken) new = risen × MayBeDone ask old new
ServesTold risen old i ask (Err (faults.BadReply fault)) new = risen × MayBeDone ask old new
ServesTold risen old i ask (Err (faults.Fatal class message)) new = risen × MayBeDone ask old new
