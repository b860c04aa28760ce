-- What callers see of a session.
use Rattle.std.specs.Prelude.{◌≡◌, ◌≢◌, ◌⊎◌, ℕ, Bool, false, true, List, Contains, Option, Some, None, IsSome, IfSome, is_some, Result, Ok, Err}
use Rattle.std.specs.BTreeMap.{get_by_text}
use Rattle.hdfs_model.specs.declared.commands.Settings.{Settings}
use Rattle.hdfs_cluster.specs.declared.errors.ArgFault.TheVariants as args
use Rattle.hdfs_model.specs.declared.commands.Fault.{Fault}
use Rattle.hdfs_cluster.specs.declared.errors.HdfsError.{HdfsError}
use Rattle.hdfs_cluster.specs.declared.errors.HdfsError.TheVariants as errors
use Rattle.hdfs_cluster.specs.declared.messages.ServerDefaults.{ServerDefaults}
use Rattle.hdfs_cluster.specs.Failures.{NodesFailTimes}
use Rattle.hdfs_cluster.specs.Files.{State, File, Writing, Content}
use Rattle.hdfs_model.specs.Headline.{Scene}
use Rattle.hdfs_model.specs.Limits.{are_settings}
use Rattle.hdfs_model.specs.Sessions.{defaults_of}
use Rattle.hdfs_cluster.specs.Picture.{Picture}
use Rattle.hdfs_cluster.specs.Shown.{Shown, Later}
use Rattle.hdfs_cluster.specs.Sound.{IsFileAt}
use Rattle.hdfs_cluster.specs.Stores.{AgreesBut}
use Rattle.hdfs_cluster.specs.Writing.{SameRecords}
use Rattle.hdfs_cluster.specs.declared.picture.FileEntry.{FileEntry}
use Rattle.hdfs_namenode.specs.Asked.{ReachesAll}
use Rattle.hdfs_namenode.specs.Clients as namenode
use Rattle.hdfs_file_writer.specs.Tails.{FileCarries}
use Rattle.hdfs_file_writer.specs.Writers as files
use Rattle.hdfs_rebuild.specs.declared.block_plan.RebuildSettings.{RebuildSettings}
use Rattle.hdfs_file_writer.specs.declared.file_writer.FileWriter.{FileWriter}
use Rattle.hdfs_opening.specs.declared.opened_file.WriteTerms.{WriteTerms}
use Rattle.hdfs_commands.specs.declared.session.Session.{Session}

-- what it is run with
abbrev pub settings_of : Session → Settings
settings_of session = session.settings

-- whether a command has failed
abbrev pub has_failed : Session → Bool
has_failed session = session.failed

-- the writer of the file that it has open at a path
abbrev pub writer_of : Session → List ℕ → Option FileWriter
writer_of session = get_by_text session.writers

-- the cluster's defaults, where they were asked for
abbrev pub defaults_known : Session → Option ServerDefaults
defaults_known session = namenode.defaults_of session.namenode

-- the paths that it has open
abbrev pub opened_of : Session → List ℕ → Bool
opened_of session path = is_some (writer_of session path)

-- a session and what its cluster shows
abbrev pub scene_of : Session → Shown → Scene
scene_of session shown = record { opened = opened_of session; shown = shown }

-- the error of a session that isn't begun: want of memory, or a setting that is out of its limits
abbrev pub IsNotBegun : Settings → HdfsError → Type 0
IsNotBegun settings error = (error ≡ errors.NoMemory) ⊎ ((error ≡ errors.InvalidArgument args.Settings) × (are_settings settings ≡ false))

-- no command was run, for want of memory or for a setting that is out of its limits
abbrev pub StopsAtOnce : {T : Type 0} → Settings → Result T Fault → Type 0
StopsAtOnce settings (Ok done) = ⊥
StopsAtOnce settings (Err fault) = (fault.at ≡ 0) × IsNotBegun settings fault.error

-- one of its writers keeps this write link
abbrev pub HasLink : Session → ℕ → Type 0
HasLink session link = (path : List ℕ) × (writer : FileWriter) × (writer_of session path ≡ Some writer) × (files.link_of writer ≡ Some link)

-- a session whose call had this result: after an error it has failed
abbrev pub after : {T : Type 0} → Session → Result T HdfsError → Session
after session (Ok value) = session
after session (Err error) = record session { failed = true }

-- how the pipelines of a session's files are rebuilt, by its settings
abbrev pub rebuilding_by : Settings → RebuildSettings
rebuilding_by settings = record { window = settings.window; rebuild_limit = settings.rebuild_limit; replace = settings.replace }

-- what is settled of its writers before their files are opened
abbrev pub terms_of : Settings → WriteTerms
terms_of settings = record { rebuilding = rebuilding_by settings; setup_limit = settings.setup_limit }

-- A writer sets up and rebuilds pipelines as the session's settings say, has the sizes of packets of the cluster's defaults, which the session
-- knows, and goes by them on whether data is to be encrypted.
pub record IsSized (session : Session) (writer : FileWriter) : Type 0 where
  pub known : ServerDefaults
  pub is_known : defaults_known session ≡ Some known
  pub rebuilding : (files.sizes_of writer).rebuilding ≡ rebuilding_by session.settings
  pub setups : (files.sizes_of writer).setup_limit ≡ session.settings.setup_limit
  pub chunk : (files.sizes_of writer).chunk ≡ known.bytes_per_checksum
  pub packet_size : (files.sizes_of writer).packet_size ≡ known.write_packet_size
  pub encrypted : (files.sizes_of writer).encrypted ≡ known.encrypt_data_transfer

-- What a session is between calls: its settings are in their limits, each writer stands and is that of the file at its path, and
-- no two keep one link. As long as no command has failed, no writer has. It asks all namenodes of the cluster in the name of its client, and its writers rebuild
-- pipelines as its settings say, with its window, and write with the sizes of packets of the cluster's defaults.
pub record Stands (shown : Shown) (session : Session) : Type 0 where
  pub limited : are_settings session.settings ≡ true
  pub each : (path : List ℕ) (writer : FileWriter) → writer_of session path ≡ Some writer → files.Stands shown writer × (files.path_of writer ≡ path)
  pub fine : session.failed ≡ false → (path : List ℕ) (writer : FileWriter) → writer_of session path ≡ Some writer → files.has_failed writer ≡ false
  pub apart : (path other : List ℕ) (writer writer' : FileWriter) → writer_of session path ≡ Some writer → writer_of session other ≡ Some writer'
      → path ≢ other → (link : ℕ) → files.link_of writer ≡ Some link → files.link_of writer' ≡ Some link → ⊥
  pub reaches : ReachesAll (namenode.proxy_of session.namenode) shown
  pub name : namenode.name_of session.namenode ≡ namenode.client_name session.settings.client
  pub sized : (path : List ℕ) (writer : FileWriter) → writer_of session path ≡ Some writer → IsSized session writer

-- Calls on the cluster in the session's name: the write links that were open and aren't its own stay; one that wasn't open, or was its
-- own, isn't open, or is its own; and its own were its own before, or weren't open.
pub record OnlyOwnLinks (old : Shown) (session : Session) (new : Shown) (session' : Session) : Type 0 where
  pub others : (link : ℕ) → IsSome (old.writes link) → (HasLink session link → ⊥) → new.writes link ≡ old.writes link
  pub none : (link : ℕ) → (old.writes link ≡ None) ⊎ HasLink session link → (new.writes link ≡ None) ⊎ HasLink session' link
  pub fresh : (link : ℕ) → HasLink session' link → HasLink session link ⊎ (old.writes link ≡ None)

-- From a moment on no count fell, and the pipeline of each writer was rebuilt no more often than datanodes have failed.
pub record Tallied (start shown : Shown) (session : Session) : Type 0 where
  pub later : Later start shown
  pub each : (path : List ℕ) (writer : FileWriter) → writer_of session path ≡ Some writer → NodesFailTimes (files.rebuilds_of writer) start shown

-- The writer of the file at a path carries the bytes that the state has there, and writes with the file's own attributes.
pub record CarriesFile (p : Picture) (state : State) (path : List ℕ) (writer : FileWriter) : Type 0 where
  pub content : Content
  pub named : state.files path ≡ Some (Writing content)
  pub carries : FileCarries p path (files.tail_of writer) content.bytes
  pub replication : (files.sizes_of writer).replication ≡ content.attributes.replication
  pub block_size : (files.sizes_of writer).block_size ≡ content.attributes.block_size

-- The session's writers carry the bytes of the files that the state has open, and the defaults that it knows are the cluster's.
pub record Carried (shown : Shown) (session : Session) (state : State) : Type 0 where
  pub each : (p : Picture) → shown.picture ≡ Some p → (path : List ℕ) (writer : FileWriter) → writer_of session path ≡ Some writer → CarriesFile p state path writer
  pub defaults : IfSome (defaults_known session) (λ known. known ≡ defaults_of shown.picture)

-- Each of the session's writers that hasn't failed carries the bytes of the file that the state has open at its path.
pub record CarriesOpen (shown : Shown) (session : Session) (state : State) : Type 0 where
  pub each : (p : Picture) → shown.picture ≡ Some p → (path : List ℕ) (writer : FileWriter) → writer_of session path ≡ Some writer
      → (files.has_failed writer ≡ true) ⊎ CarriesFile p state path writer

-- Over a state: nothing changed but what datanodes hold of the blocks of files that are being written.
pub record LeavesFiles (old new : Shown) (state : State) : Type 0 where
  pub agrees : (spared : List ℕ → Bool) → AgreesBut spared old.picture state.files → AgreesBut spared new.picture state.files
  pub records : (p q : Picture) → old.picture ≡ Some p → new.picture ≡ Some q → SameRecords p q
  pub closed : (p q : Picture) → old.picture ≡ Some p → new.picture ≡ Some q → (path : List ℕ) (content : Content) → state.files path ≡ Some (File content)
      → (file : FileEntry) → IsFileAt p path file → (id : ℕ) → Contains file.blocks id → (node : List ℕ) → q.held node id ≡ p.held node id
