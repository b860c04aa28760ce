-- How a service opens a file to be written: a new one, and one that is gone on with.
use Rattle.std.specs.Prelude.{◌≡◌, ◌⊎◌, ℕ, true, false, List, [], Option, Some, None, is_some, unwrap_or, Result, Ok, Err, IfErr, OnOk}
use Rattle.hdfs_cluster.specs.declared.asks.Answer.{Answer}
use Rattle.hdfs_cluster.specs.declared.asks.Answer.TheVariants as answers
use Rattle.hdfs_cluster.specs.declared.asks.Ask.{Ask}
use Rattle.hdfs_cluster.specs.declared.asks.Ask.TheVariants as asks
use Rattle.hdfs_cluster.specs.declared.asks.AskFault.{AskFault}
use Rattle.hdfs_cluster.specs.declared.errors.ArgFault.TheVariants as args
use Rattle.hdfs_cluster.specs.declared.errors.Feature.TheVariants as features
use Rattle.hdfs_cluster.specs.declared.errors.HdfsError.{HdfsError}
use Rattle.hdfs_cluster.specs.declared.errors.HdfsError.TheVariants as errors
use Rattle.hdfs_cluster.specs.declared.messages.Appended.{Appended}
use Rattle.hdfs_cluster.specs.declared.messages.FileStatusMsg.{FileStatusMsg}
use Rattle.hdfs_cluster.specs.declared.messages.LocatedBlock.{LocatedBlock}
use Rattle.hdfs_cluster.specs.declared.messages.ServerDefaults.{ServerDefaults}
use Rattle.hdfs_cluster.specs.declared.picture.FileEntry.{FileEntry}
use Rattle.hdfs_cluster.specs.Effects.{Creates, Opens}
use Rattle.hdfs_cluster.specs.Limits.{are_defaults}
use Rattle.hdfs_cluster.specs.Namenode.{new_file}
use Rattle.hdfs_cluster.specs.Picture.{Picture, SameButActive}
use Rattle.hdfs_cluster.specs.Requests.{id_in}
use Rattle.hdfs_cluster.specs.Shown.{SameNodes, Shown}
use Rattle.hdfs_cluster.specs.Sound.{IsFileAt}
use Rattle.hdfs_cluster.specs.Stores.{StoresBlocks}
use Rattle.hdfs_file_writer.specs.Tails.{FileCarries}
use Rattle.hdfs_file_writer.specs.declared.tails.Tail.{Tail}
use Rattle.hdfs_file_writer.specs.declared.tails.Tail.TheVariants.{Bare}
use Rattle.hdfs_file_writer.specs.Writers.{Closed, FailsToClose, file_id_of, has_failed, link_of, path_of, sizes_of, tail_of, tail_opened}
use Rattle.hdfs_file_writer.specs.declared.file_writer.FileWriter.{FileWriter}
use Rattle.hdfs_file_writer.specs.declared.sizes.WriteSizes.{WriteSizes}
use Rattle.hdfs_file_writer.specs.Sizing.{sizes_by}
use Rattle.hdfs_model.specs.Opening.{AnswersDefaults, appending, creating, tells_encryption}
use Rattle.hdfs_model.specs.declared.commands.WriteOptions.{WriteOptions}
use Rattle.hdfs_namenode.specs.Asked.{Asked, AskedOnce, SameService}
use Rattle.hdfs_namenode.specs.Clients.{defaults_of, key_of, leases_of, name_of, proxy_of, through}
use Rattle.hdfs_namenode.specs.Views.{Seen}
use Rattle.hdfs_namenode.specs.declared.protocol.NamenodeProtocol.{NamenodeProtocol}
use Rattle.hdfs_opening.specs.declared.opened_file.ToldFile.{ToldFile}
use Rattle.hdfs_opening.specs.declared.opened_file.WriteTerms.{WriteTerms}

-- it asks the same service in the same name, and has the key that it had
pub record KeepsService (before after : NamenodeProtocol) : Type 0 where
  pub service : SameService (proxy_of before) (proxy_of after)
  pub name : name_of after ≡ name_of before
  pub key : key_of after ≡ key_of before

-- it holds the leases that it held as well
abbrev pub KeepsName : NamenodeProtocol → NamenodeProtocol → Type 0
KeepsName before after = KeepsService before after × (leases_of after ≡ leases_of before)

-- there are as many namenodes, and each link to write over is what it was
pub record LeavesLinks (old new : Shown) : Type 0 where
  pub namenodes : new.namenodes ≡ old.namenodes
  pub writes : (link : ℕ) → new.writes link ≡ old.writes link

-- these defaults of the cluster were answered, or a service has kept them
abbrev pub IsKnown : (Ask → Answer → Type 0) → NamenodeProtocol → ServerDefaults → Type 0
IsKnown may_answer namenode defaults = AnswersDefaults may_answer defaults ⊎ (defaults_of namenode ≡ Some defaults)

-- A service has the cluster's defaults, and keeps them: it knew them, and asked for nothing, or it asked for them, and these were answered.
pub record HasDefaults {C : Type 0} (may_answer : Ask → Answer → Type 0) (serves : C → ℕ → Ask → Result Answer AskFault → C → Type 0)
    (before : NamenodeProtocol) (old : C)
    (defaults : ServerDefaults) (after : NamenodeProtocol) (new : C) : Type 0 where
  pub known : (kept : ServerDefaults) → defaults_of before ≡ Some kept → (defaults ≡ kept) × (after ≡ before) × (new ≡ old)
  pub asked : defaults_of before ≡ None
      → Asked serves false asks.GetServerDefaults (through before old) (Ok (answers.GetServerDefaults defaults)) (through after new)
  pub kept : defaults_of after ≡ Some defaults
  pub answered : IsKnown may_answer before defaults

-- it has such that are in their limits
pub record HasLimitedDefaults {C : Type 0} (may_answer : Ask → Answer → Type 0) (serves : C → ℕ → Ask → Result Answer AskFault → C → Type 0)
    (before : NamenodeProtocol) (old : C)
    (defaults : ServerDefaults) (after : NamenodeProtocol) (new : C) : Type 0 where
  pub has : HasDefaults may_answer serves before old defaults after new
  pub limited : are_defaults defaults ≡ true

-- it has none: it knew none, and has asked for them in vain
pub record AsksInVain {C : Type 0} (serves : C → ℕ → Ask → Result Answer AskFault → C → Type 0) (before : NamenodeProtocol) (old : C)
    (error : HdfsError) (after : NamenodeProtocol) (new : C) : Type 0 where
  pub unknown : defaults_of before ≡ None
  pub asked : Asked serves false asks.GetServerDefaults (through before old) (Err error) (through after new)
  pub still : defaults_of after ≡ None

-- it has such that are out of their limits
pub record HasBadDefaults {C : Type 0} (may_answer : Ask → Answer → Type 0) (serves : C → ℕ → Ask → Result Answer AskFault → C → Type 0)
    (before : NamenodeProtocol) (old : C)
    (error : HdfsError) (after : NamenodeProtocol) (new : C) : Type 0 where
  pub defaults : ServerDefaults
  pub has : HasDefaults may_answer serves before old defaults after new
  pub unlimited : are_defaults defaults ≡ false
  pub is : error ≡ errors.InvalidArgument args.Defaults

-- why no file is asked for at all
abbrev pub LacksDefaults : {C : Type 0} → (Ask → Answer → Type 0) → (C → ℕ → Ask → Result Answer AskFault → C → Type 0) → NamenodeProtocol → C
    → HdfsError → NamenodeProtocol → C
    → Type 0
LacksDefaults may_answer serves before old error after new =
    AsksInVain serves before old error after new ⊎ HasBadDefaults may_answer serves before old error after new

-- A writer that has written nothing yet: of the file at this path, which has this id, with these sizes, and whose last block stands so.
pub record IsFresh (path : List ℕ) (file_id : Option ℕ) (sizes : WriteSizes) (tail : Tail) (writer : FileWriter) : Type 0 where
  pub at : path_of writer ≡ path
  pub id : file_id_of writer ≡ file_id
  pub with : sizes_of writer ≡ sizes
  pub stands : tail_of writer ≡ tail
  pub idle : link_of writer ≡ None
  pub fine : has_failed writer ≡ false

-- the namespace in which a file stands of which a status tells, if it stands in one
abbrev pub namespace_in : Option FileStatusMsg → Option (List ℕ)
namespace_in None = None
namespace_in (Some status) = status.namespace

-- This is what a status tells of its file, where one is told: its id, its namespace, and whether it is encrypted.
pub record IsTold (status : Option FileStatusMsg) (told : ToldFile) : Type 0 where
  pub id : told.file_id ≡ id_in status
  pub namespace : told.namespace ≡ namespace_in status
  pub encrypted : told.encrypted ≡ tells_encryption status

-- A service was asked for a new file at a path, with these options, and with the defaults where they say nothing. It isn't encrypted.
pub record CreatesBy {C : Type 0} (may_answer : Ask → Answer → Type 0) (serves : C → ℕ → Ask → Result Answer AskFault → C → Type 0) (path : List ℕ)
    (options : WriteOptions)
    (terms : WriteTerms) (before : NamenodeProtocol) (old : C) (writer : FileWriter) (told : ToldFile) (after : NamenodeProtocol)
    (new : C) : Type 0 where
  pub defaults : ServerDefaults
  pub between : NamenodeProtocol
  pub mid : C
  pub knows : HasLimitedDefaults may_answer serves before old defaults between mid
  pub status : Option FileStatusMsg
  pub asked : AskedOnce serves true (creating path (name_of before) options
      (unwrap_or options.replication defaults.replication) (unwrap_or options.block_size defaults.block_size))
      (through between mid) (Ok (answers.Create status)) (through after new)
  pub plain : tells_encryption status ≡ false
  pub fresh : IsFresh path (id_in status) (sizes_by terms.rebuilding terms.setup_limit defaults
      (unwrap_or options.replication defaults.replication) (unwrap_or options.block_size defaults.block_size)) Bare writer
  pub tells : IsTold status told
  pub kept : defaults_of after ≡ Some defaults

-- A service was asked for the file at a path, to be gone on with. It is there, and isn't encrypted.
pub record OpensBy {C : Type 0} (may_answer : Ask → Answer → Type 0) (serves : C → ℕ → Ask → Result Answer AskFault → C → Type 0) (path : List ℕ)
    (terms : WriteTerms)
    (before : NamenodeProtocol) (old : C) (writer : FileWriter) (told : ToldFile) (after : NamenodeProtocol) (new : C) : Type 0 where
  pub defaults : ServerDefaults
  pub between : NamenodeProtocol
  pub mid : C
  pub knows : HasLimitedDefaults may_answer serves before old defaults between mid
  pub block : Option LocatedBlock
  pub status : FileStatusMsg
  pub asked : AskedOnce serves true (appending path (name_of before) 4) (through between mid)
      (Ok (answers.Append (record { block = block; stat = Some status }))) (through after new)
  pub plain : is_some status.encryption ≡ false
  pub fresh : IsFresh path status.file_id (sizes_by terms.rebuilding terms.setup_limit defaults
      (unwrap_or status.block_replication 0) (unwrap_or status.blocksize 0)) (tail_opened block None) writer
  pub tells : IsTold (Some status) told
  pub kept : defaults_of after ≡ Some defaults

-- what is answered of an encrypted file, behind what was done to leave it as it was: want of memory for that goes first
abbrev pub refusal : {T : Type 0} → Result T HdfsError → HdfsError
refusal (Err errors.NoMemory) = errors.NoMemory
refusal result = errors.UnsupportedFeature features.Encryption

-- A file that was created was answered to be encrypted: it is refused, behind an ask to delete it again, whatever came of that but want of
-- memory.
pub record RefusesCreated {C : Type 0} (may_answer : Ask → Answer → Type 0) (serves : C → ℕ → Ask → Result Answer AskFault → C → Type 0)
    (path : List ℕ) (ask : Ask)
    (before : NamenodeProtocol) (old : C) (error : HdfsError) (after : NamenodeProtocol) (new : C) : Type 0 where
  pub status : Option FileStatusMsg
  pub between : NamenodeProtocol
  pub mid : C
  pub asked : AskedOnce serves true ask (through before old) (Ok (answers.Create status)) (through between mid)
  pub answered : may_answer ask (answers.Create status)
  pub encrypted : tells_encryption status ≡ true
  pub outcome : Result Answer HdfsError
  pub deleted : AskedOnce serves true (asks.Delete path false) (through between mid) outcome (through after new)
  pub is : error ≡ refusal outcome

-- Behind its defaults, which it keeps, a service creates no file: just this ask for it failed, or the file is encrypted.
pub record CreateFails {C : Type 0} (may_answer : Ask → Answer → Type 0) (serves : C → ℕ → Ask → Result Answer AskFault → C → Type 0)
    (path : List ℕ) (options : WriteOptions)
    (before : NamenodeProtocol) (old : C) (error : HdfsError) (after : NamenodeProtocol) (new : C) : Type 0 where
  pub defaults : ServerDefaults
  pub between : NamenodeProtocol
  pub mid : C
  pub knows : HasLimitedDefaults may_answer serves before old defaults between mid
  pub why : let ask = creating path (name_of before) options (unwrap_or options.replication defaults.replication)
      (unwrap_or options.block_size defaults.block_size) in
      AskedOnce serves true ask (through between mid) (Err error) (through after new)
      ⊎ RefusesCreated may_answer serves path ask between mid error after new
  pub kept : defaults_of after ≡ Some defaults

-- why a service creates no file: it has no defaults, or behind them so
abbrev pub FailsToCreate : {C : Type 0} → (Ask → Answer → Type 0) → (C → ℕ → Ask → Result Answer AskFault → C → Type 0) → List ℕ → WriteOptions
    → NamenodeProtocol → C → HdfsError
    → NamenodeProtocol → C → Type 0
FailsToCreate may_answer serves path options before old error after new =
    LacksDefaults may_answer serves before old error after new ⊎ CreateFails may_answer serves path options before old error after new

-- A file was opened of which nothing is told: it isn't there, by the name that the caller has for it.
pub record LacksStatus {C : Type 0} (may_answer : Ask → Answer → Type 0) (serves : C → ℕ → Ask → Result Answer AskFault → C → Type 0) (ask : Ask)
    (name : List ℕ)
    (before : NamenodeProtocol) (old : C) (error : HdfsError) (after : NamenodeProtocol) (new : C) : Type 0 where
  pub block : Option LocatedBlock
  pub asked : AskedOnce serves true ask (through before old) (Ok (answers.Append (record { block = block; stat = None }))) (through after new)
  pub answered : may_answer ask (answers.Append (record { block = block; stat = None }))
  pub is : (error ≡ errors.FileNotFound name) ⊎ (error ≡ errors.NoMemory)

-- a writer was closed, or this is why not
pub record ClosesAgain (old : Shown) (writer : FileWriter) (result : Result Unit HdfsError) (new : Shown) : Type 0 where
  pub closed : OnOk result (Closed old writer new)
  pub failed : IfErr result (λ error. FailsToClose old writer error new)

-- A file that was opened was answered to be encrypted: it is refused, and closed again, whatever came of that but want of memory.
pub record RefusesOpened {C : Type 0} (shown : C → Shown) (may_answer : Ask → Answer → Type 0)
    (serves : C → ℕ → Ask → Result Answer AskFault → C → Type 0) (path : List ℕ) (ask : Ask)
    (before : NamenodeProtocol) (old : C) (error : HdfsError) (new : C) : Type 0 where
  pub appended : Appended
  pub between : NamenodeProtocol
  pub mid : C
  pub asked : AskedOnce serves true ask (through before old) (Ok (answers.Append appended)) (through between mid)
  pub answered : may_answer ask (answers.Append appended)
  pub encrypted : tells_encryption appended.stat ≡ true
  pub writer : FileWriter
  pub at : path_of writer ≡ path
  pub id : file_id_of writer ≡ id_in appended.stat
  pub stands : tail_of writer ≡ tail_opened appended.block None
  pub idle : link_of writer ≡ None
  pub service : SameService (proxy_of before) (proxy_of between)
  pub result : Result Unit HdfsError
  pub closes : Seen shown (through between mid) new (λ old new. ClosesAgain old writer result new)
  pub nodes : SameNodes (shown mid) (shown new)
  pub is : error ≡ refusal result

-- Behind its defaults, which it keeps, a service opens no file: just this ask for it failed, or nothing is told of the file, or it is encrypted.
pub record AppendFails {C : Type 0} (shown : C → Shown) (may_answer : Ask → Answer → Type 0)
    (serves : C → ℕ → Ask → Result Answer AskFault → C → Type 0) (path name : List ℕ)
    (before : NamenodeProtocol) (old : C) (error : HdfsError) (after : NamenodeProtocol) (new : C) : Type 0 where
  pub defaults : ServerDefaults
  pub between : NamenodeProtocol
  pub mid : C
  pub knows : HasLimitedDefaults may_answer serves before old defaults between mid
  pub why : let ask = appending path (name_of before) 4 in
      AskedOnce serves true ask (through between mid) (Err error) (through after new)
      ⊎ LacksStatus may_answer serves ask name between mid error after new
      ⊎ RefusesOpened shown may_answer serves path ask between mid error new
  pub kept : defaults_of after ≡ Some defaults

-- why a service opens no file to be gone on with: it has no defaults, or behind them so
abbrev pub FailsToAppend : {C : Type 0} → (C → Shown) → (Ask → Answer → Type 0) → (C → ℕ → Ask → Result Answer AskFault → C → Type 0) → List ℕ
    → List ℕ → NamenodeProtocol → C
    → HdfsError → NamenodeProtocol → C → Type 0
FailsToAppend shown may_answer serves path name before old error after new =
    LacksDefaults may_answer serves before old error after new ⊎ AppendFails shown may_answer serves path name before old error after new

-- Over a told picture: behind an ask that changed nothing, a file was created at a path, with the options' permission bits and the writer's
-- replication and block size. It has no bytes, and its writer carries it.
abbrev pub BeginsNew : Shown → List ℕ → WriteOptions → FileWriter → Shown → Type 0
BeginsNew old path options writer new = (p : Picture) → old.picture ≡ Some p → (between : Picture) × (q : Picture) × SameButActive p between
    × (new.picture ≡ Some q)
    × Creates path (new_file options.permission (sizes_of writer).replication (sizes_of writer).block_size) between q
    × FileCarries q path (tail_of writer) []

-- Over a told picture, of a file that stores these bytes: behind an ask that changed nothing, it was opened, and its writer carries them.
abbrev pub BeginsAgain : Shown → List ℕ → FileWriter → Shown → Type 0
BeginsAgain old path writer new = (p : Picture) (file : FileEntry) (bytes : List ℕ) → old.picture ≡ Some p → IsFileAt p path file
    → StoresBlocks p file.blocks bytes → (between : Picture) × (q : Picture) × SameButActive p between × (new.picture ≡ Some q)
    × ((block : Option LocatedBlock) × Opens path file block between q) × FileCarries q path (tail_of writer) bytes
