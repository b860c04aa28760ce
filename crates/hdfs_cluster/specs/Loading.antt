-- The lines that are loaded into a store: which it takes, and what they make of the files.
use Rattle.std.specs.Prelude.{◌≡◌, ℕ, ◌<◌, ◌≤◌, ◌^◌, Bool, true, false, ◌&&◌, List, [], ◌∷◌, ◌++◌, length, take, Option, Some, None, is_none, IsSome, if◌then◌else◌}
use Rattle.std.specs.Str.{bytes_eq}
use Rattle.hdfs_cluster.specs.declared.mem_settings.MemSettings.{MemSettings}
use Rattle.hdfs_cluster.specs.declared.messages.ServerDefaults.{ServerDefaults}
use Rattle.hdfs_cluster.specs.declared.store.Line.{Line}
use Rattle.hdfs_cluster.specs.declared.store.Line.TheVariants as lines
use Rattle.hdfs_cluster.specs.Limits.{in_limits, is_block_size, is_replication}
use Rattle.hdfs_names.specs.Paths.{is_path, parent_of}
use Rattle.hdfs_cluster.specs.Files.{Files, Content, Node, Dir, File, Writing, State}
use Rattle.hdfs_cluster.specs.Counts.{SameCounts}
use Rattle.hdfs_cluster.specs.Picture.{Picture, SamePicture, Told}
use Rattle.hdfs_cluster.specs.Replicas.{LieAs, takes_short}
use Rattle.hdfs_cluster.specs.Shown.{Loaded, Shown}
use Rattle.hdfs_cluster.specs.Stores.{Agrees}
use Rattle.hdfs_cluster.specs.Writing.{OnlyBlock}

-- whether a directory stands there
abbrev pub is_directory : Option Node → Bool
is_directory None = false
is_directory (Some Dir) = true
is_directory (Some (File content)) = false
is_directory (Some (Writing content)) = false

-- nothing stands at the path, whose parent is a directory
abbrev pub is_free : Files → List ℕ → Bool
is_free files path = is_path path && is_none (files path) && is_directory (files (parent_of path))

-- of how many datanodes lines are loaded
abbrev pub nodes_in : Loaded → ℕ
nodes_in loaded = nodes_or_none loaded.settings
  where
    nodes_or_none : Option MemSettings → ℕ
    nodes_or_none None = 0
    nodes_or_none (Some settings) = settings.nodes

-- what was loaded, and one line more
abbrev pub with_loaded : Loaded → Line → Loaded
with_loaded loaded line = record loaded { lines = loaded.lines ++ line ∷ [] }

-- A directory or a file is taken at a free path; a short replica where there is one to be cut, behind what was loaded; a line with a
-- fault always.
abbrev pub takes : Loaded → Files → Line → Bool
takes loaded files (lines.Dir path) = is_free files path
takes loaded files (lines.File path attributes bytes) = is_free files path && in_limits attributes (length bytes)
takes loaded files (lines.Short path block node len) = takes_short (nodes_in loaded) loaded.lines (files path) path block node len
takes loaded files (lines.Fault fault) = true

-- the files lie in the picture as what was loaded says
abbrev pub AreLoaded : Shown → Files → Type 0
AreLoaded shown files = (p : Picture) → shown.picture ≡ Some p → LieAs (nodes_in shown.loaded) shown.loaded.lines p files

-- What is needed to know whether a line is taken: for a short replica that the files lie as they were loaded.
abbrev pub IsDecided : Shown → Files → Line → Type 0
IsDecided shown files (lines.Short path block node len) = AreLoaded shown files
IsDecided shown files _ = Unit {0}

-- the state with a directory or a file at a path at which nothing stood
abbrev pub with_new : State → List ℕ → Node → State
with_new state path node = record {
  files = λ q. if bytes_eq path q then Some node else state.files q;
  paths = path ∷ state.paths;
  opened = state.opened;
}

-- the state with one more file
abbrev pub with_file : State → List ℕ → Content → State
with_file state path content = with_new state path (File content)

-- what a line makes of the state
abbrev pub with_line : State → Line → State
with_line state (lines.Dir path) = with_new state path Dir
with_line state (lines.File path attributes bytes) = with_file state path (record { bytes = bytes; attributes = attributes })
with_line state (lines.Short path block node len) = state
with_line state (lines.Fault fault) = state

-- what lines make of the state, one after another
abbrev pub with_lines : State → List Line → State
with_lines state [] = state
with_lines state (line ∷ lines) = with_lines (with_line state line) lines

-- a fault changes nothing of the picture; a directory or a file nothing but the names, and blocks that weren't in the table before
pub record LoadsAt (old new : Picture) : Type 0 where
  pub active : new.active ≡ old.active
  pub defaults : new.defaults ≡ old.defaults
  pub reads : (link : ℕ) → new.reads link ≡ old.reads link
  pub writes : (link : ℕ) → new.writes link ≡ old.writes link
  pub table : (id : ℕ) → IsSome (old.table id) → new.table id ≡ old.table id
  pub held : (node : List ℕ) (id : ℕ) → IsSome (old.table id) → new.held node id ≡ old.held node id

-- A replica of a block has lost its end: its datanode holds so many bytes of it. Nothing else changed, but for write links that have
-- the block.
pub record CutsAt (len : ℕ) (old new : Picture) : Type 0 where
  pub node : List ℕ
  pub id : ℕ
  pub only : OnlyBlock id (node ∷ []) old new
  pub cut : new.held node id ≡ take len (old.held node id)

-- what a line leaves as it was in the picture
abbrev pub LoadsLine : Line → Picture → Picture → Type 0
LoadsLine (lines.Dir path) old new = LoadsAt old new
LoadsLine (lines.File path attributes bytes) old new = LoadsAt old new
LoadsLine (lines.Short path block node len) old new = CutsAt len old new
LoadsLine (lines.Fault fault) old new = SamePicture old new

-- everything but the picture and the lines stays
pub record SameRest (old new : Shown) : Type 0 where
  pub counts : SameCounts old.counts new.counts
  pub last : new.last ≡ old.last
  pub namenodes : new.namenodes ≡ old.namenodes
  pub reads : (link : ℕ) → new.reads link ≡ old.reads link
  pub writes : (link : ℕ) → new.writes link ≡ old.writes link

-- a line was loaded
pub record Loads (old : Shown) (line : Line) (new : Shown) : Type 0 where
  pub rest : SameRest old new
  pub settings : new.loaded.settings ≡ old.loaded.settings
  pub lines : new.loaded.lines ≡ old.loaded.lines ++ line ∷ []
  pub picture : Told (LoadsLine line) old.picture new.picture
  pub files : (state : State) → Agrees old.picture state.files → Agrees new.picture (with_line state line).files
  pub replicas : (state : State) → Agrees old.picture state.files → AreLoaded old state.files → AreLoaded new (with_line state line).files

-- A line was not loaded. What the files of the picture agree with, they still agree with.
pub record LoadsNothing (old new : Shown) : Type 0 where
  pub rest : SameRest old new
  pub lines : new.loaded ≡ old.loaded
  pub picture : Told LoadsAt old.picture new.picture
  pub files : (state : State) → Agrees old.picture state.files → Agrees new.picture state.files

-- nothing changed
pub record SameShown (old new : Shown) : Type 0 where
  pub rest : SameRest old new
  pub lines : new.loaded ≡ old.loaded
  pub picture : Told SamePicture old.picture new.picture

-- the defaults of the cluster over which scripts run that set nothing: those of HDFS
abbrev pub script_defaults : ServerDefaults
script_defaults =
    record { block_size = 134217728; bytes_per_checksum = 512; write_packet_size = 65536; replication = 3; encrypt_data_transfer = false }

-- Settings with which a store can be made: from 1 to 16 namenodes, one of which is active; from 1 to 64 datanodes; and
-- defaults within their limits, where a packet need not have room for a chunk.
pub record AreValid (settings : MemSettings) : Type 0 where
  pub active : settings.active < settings.namenodes
  pub namenodes : settings.namenodes ≤ 16
  pub some : 0 < settings.nodes
  pub nodes : settings.nodes ≤ 64
  pub replication : is_replication settings.defaults.replication ≡ true
  pub block_size : is_block_size settings.defaults.block_size ≡ true
  pub chunk : 0 < settings.defaults.bytes_per_checksum
  pub bound : settings.defaults.bytes_per_checksum ≤ 2 ^ 30
  pub packet : settings.defaults.write_packet_size < 2 ^ 31

-- the picture has other settings, and all else of it stays
pub record PreparesAt (settings : MemSettings) (old new : Picture) : Type 0 where
  pub active : new.active ≡ settings.active
  pub defaults : new.defaults ≡ settings.defaults
  pub names : (path : List ℕ) → new.names path ≡ old.names path
  pub table : (id : ℕ) → new.table id ≡ old.table id
  pub held : (node : List ℕ) (id : ℕ) → new.held node id ≡ old.held node id
  pub reads : (link : ℕ) → new.reads link ≡ old.reads link
  pub writes : (link : ℕ) → new.writes link ≡ old.writes link

-- a store has other settings, and all else of it stays
pub record Prepares (old : Shown) (settings : MemSettings) (new : Shown) : Type 0 where
  pub counts : SameCounts old.counts new.counts
  pub last : new.last ≡ old.last
  pub namenodes : new.namenodes ≡ settings.namenodes
  pub reads : (link : ℕ) → new.reads link ≡ old.reads link
  pub writes : (link : ℕ) → new.writes link ≡ old.writes link
  pub loaded : new.loaded ≡ record { settings = Some settings; lines = old.loaded.lines }
  pub picture : Told (PreparesAt settings) old.picture new.picture
