-- What one command does to the state of the files, and what it is answered.
use Rattle.std.specs.Prelude.{ℕ, ◌+◌, nat_lt, Bool, true, false, not, ◌&&◌, ◌||◌, List, [], ◌∷◌, ◌++◌, length, map, filter, Option, Some, None, is_some, unwrap_or, if◌then◌else◌}
use Rattle.std.specs.List.{list_any}
use Rattle.std.specs.Str.{bytes_eq}
use Rattle.hdfs_cluster.specs.declared.messages.ServerDefaults.{ServerDefaults}
use Rattle.hdfs_model.specs.declared.commands.Command.{Command}
use Rattle.hdfs_model.specs.declared.commands.Command.TheVariants as commands
use Rattle.hdfs_model.specs.declared.commands.PathEntry.{PathEntry}
use Rattle.hdfs_model.specs.declared.commands.Reply.{Reply}
use Rattle.hdfs_model.specs.declared.commands.Reply.TheVariants as replies
use Rattle.hdfs_model.specs.declared.commands.WriteOptions.{WriteOptions}
use Rattle.hdfs_names.specs.Paths.{root, is_path, absolute, ancestors}
use Rattle.hdfs_names.specs.declared.replacement.Policy.{Policy}
use Rattle.hdfs_cluster.specs.Files.{State, Node, Dir, File, Writing, Content, NoFile, Missing, no_file, kinds_of}
use Rattle.hdfs_cluster.specs.Loading.{is_directory}
use Rattle.hdfs_cluster.specs.Names.{is_below, is_within}
use Rattle.hdfs_cluster.specs.Reading.{range_of}
pub use Rattle.hdfs_cluster.specs.Refusals.{Refusal, BadPath, WrongState, Exists, Lacks, BadRange, NotEmpty, TooMany, create_refusal, append_refusal, mkdirs_refusal, delete_refusal, look_refusal, with_parents}
use Rattle.hdfs_model.specs.Walks.{walk}

-- what a step comes to: a refusal, or a reply and the next state
pub data Outcome : Type 0 where
  Refused : Refusal → Outcome
  Done : Reply → State → Outcome

-- What a step takes beside the state: the directory under which relative paths stand, and the cluster's defaults. Causes name four
-- settings more, which no step uses: how often a block's pipeline is rebuilt at most, how often another first one is tried at most, the policy
-- by which datanodes are replaced, and whether writes go on in best effort.
pub record World : Type 0 where
  pub home : List ℕ
  pub defaults : ServerDefaults
  pub rebuild_limit : ℕ
  pub setup_limit : ℕ
  pub policy : Policy
  pub best_effort : Bool

-- the content of a file, closed or open
abbrev pub content_of : Option Node → Option Content
content_of None = None
content_of (Some Dir) = None
content_of (Some (File content)) = Some content
content_of (Some (Writing content)) = Some content

-- whether the session of a state has a path open
abbrev pub is_opened : State → List ℕ → Bool
is_opened state path = list_any (bytes_eq path) state.opened

-- the range is read where it ends within the content
abbrev pub read_content : State → Option Content → ℕ → ℕ → Outcome
read_content state None offset len = Refused (Lacks Missing)
read_content state (Some content) offset len =
    if nat_lt (length content.bytes) (offset + len) then Refused BadRange else Done (replies.Bytes (range_of content.bytes offset len)) state

-- the range is read where there is a file
abbrev pub read_file : State → List ℕ → Option NoFile → ℕ → ℕ → Outcome
read_file state path (Some why) offset len = Refused (Lacks why)
read_file state path None offset len = read_content state (content_of (state.files path)) offset len

-- a file as it is created: no bytes, and the attributes that the options say, or else the defaults; it isn't encrypted
abbrev pub created : World → WriteOptions → Content
created world options = record {
  bytes = [];
  attributes = record {
    permission = options.permission;
    replication = unwrap_or options.replication world.defaults.replication;
    block_size = unwrap_or options.block_size world.defaults.block_size;
    encrypted = false;
  };
}

-- the state in which the session writes this at a path, and directories stand above it
abbrev pub with_writing : State → List ℕ → Content → State
with_writing state path content = record {
  files = with_parents state.files Dir path (Writing content);
  paths = path ∷ (ancestors path ++ state.paths);
  opened = path ∷ state.opened;
}

-- a file is created where nothing refuses it
abbrev pub create_file : State → List ℕ → Content → Option Refusal → Outcome
create_file state path content (Some why) = Refused why
create_file state path content None = Done replies.Created (with_writing state path content)

-- what stands at a path is opened where it is a closed file
abbrev pub open_node : State → List ℕ → Option Node → Outcome
open_node state path None = Refused (Lacks Missing)
open_node state path (Some Dir) = Refused (Lacks Missing)
open_node state path (Some (Writing content)) = Refused Exists
open_node state path (Some (File content)) = Done replies.Appended (with_writing state path content)

-- a file is opened where nothing refuses it
abbrev pub append_file : State → List ℕ → Option Refusal → Outcome
append_file state path (Some why) = Refused why
append_file state path None = open_node state path (state.files path)

-- the state with this at a path at which something stands
abbrev pub with_node : State → List ℕ → Node → State
with_node state path node = record state { files = λ q. if bytes_eq path q then Some node else state.files q }

-- bytes go behind those of the file that is being written
abbrev pub write_node : State → List ℕ → Option Node → List ℕ → Outcome
write_node state path None more = Refused WrongState
write_node state path (Some Dir) more = Refused WrongState
write_node state path (Some (File content)) more = Refused WrongState
write_node state path (Some (Writing content)) more =
    Done (replies.Written (length more)) (with_node state path (Writing (record content { bytes = content.bytes ++ more })))

-- the paths without one
abbrev pub without : List ℕ → List (List ℕ) → List (List ℕ)
without path paths = filter (λ q. not (bytes_eq path q)) paths

-- the file that is being written is closed, and the session has it open no more
abbrev pub close_node : State → List ℕ → Option Node → Outcome
close_node state path None = Refused WrongState
close_node state path (Some Dir) = Refused WrongState
close_node state path (Some (File content)) = Refused WrongState
close_node state path (Some (Writing content)) =
    Done replies.Closed (record (with_node state path (File content)) { opened = without path state.opened })

-- the state with a directory at a path, and above it
abbrev pub with_directory : State → List ℕ → State
with_directory state path = record state {
  files = with_parents state.files Dir path Dir;
  paths = path ∷ (ancestors path ++ state.paths);
}

-- a directory is made where nothing refuses it; one that is there stays
abbrev pub make_directory : State → List ℕ → Option Refusal → Outcome
make_directory state path (Some why) = Refused why
make_directory state path None = Done replies.Made (with_directory state path)

-- the map without what stands at a path and below it
abbrev pub files_without : {X : Type 0} → (List ℕ → Option X) → List ℕ → List ℕ → Option X
files_without map path q = if is_within path q then None else map q

-- something stands below a path
abbrev pub has_below : State → List ℕ → Bool
has_below state path = list_any (λ q. is_below path q && is_some (state.files q)) state.paths

-- what stands at a path and below it goes where nothing refuses it
abbrev pub delete_files : State → List ℕ → Option Refusal → Outcome
delete_files state path (Some why) = Refused why
delete_files state path None = Done replies.Deleted (record state { files = files_without state.files path })

-- the session of a state has a path open, or one below it
abbrev pub is_opened_within : State → List ℕ → Bool
is_opened_within state path = list_any (is_within path) state.opened

-- what is told of a file: how many bytes it has, and its attributes
abbrev pub file_info : Content → Reply
file_info content =
    replies.Info false (length content.bytes) content.attributes.permission content.attributes.replication content.attributes.block_size

-- what is told of what stands at a path; of a directory no more than that it is one
abbrev pub info_of : Node → Reply
info_of Dir = replies.Info true 0 0 0 0
info_of (File content) = file_info content
info_of (Writing content) = file_info content

-- it is told of what stands at a path where nothing refuses it
abbrev pub info_node : State → Option Refusal → Option Node → Outcome
info_node state (Some why) _ = Refused why
info_node state None None = Refused (Lacks Missing)
info_node state None (Some node) = Done (info_of node) state

-- an entry of a listing: a path, and whether a directory stands there
abbrev pub entry_at : State → List ℕ → PathEntry
entry_at state path = record { path = path; isdir = is_directory (state.files path) }

-- the entries at these paths, where they are no more than are allowed
abbrev pub list_paths : State → List (List ℕ) → ℕ → Outcome
list_paths state paths limit =
    if nat_lt limit (length paths) then Refused TooMany else Done (replies.Listed (map (entry_at state) paths)) state

-- a directory is listed by its walk, and a file by itself
abbrev pub list_node : State → List ℕ → Option Refusal → Option Node → Bool → ℕ → Outcome
list_node state path (Some why) _ recursive limit = Refused why
list_node state path None None recursive limit = Refused (Lacks Missing)
list_node state path None (Some Dir) recursive limit = list_paths state (walk state.files state.paths path recursive) limit
list_node state path None (Some (File content)) recursive limit = list_paths state (path ∷ []) limit
list_node state path None (Some (Writing content)) recursive limit = list_paths state (path ∷ []) limit

-- A command at its path. A write and a close are refused where the session hasn't the path open. A deletion is refused where it has the path
-- or one below it open, and of the root. A listing is never refused for what is open, and all others are where the session has the path open.
abbrev pub step_at : World → State → List ℕ → Command → Outcome
step_at world state path (commands.Create text options) =
    if is_opened state path then Refused WrongState
    else create_file state path (created world options) (create_refusal (kinds_of state.files) path options.overwrite options.create_parent)
step_at world state path (commands.Append text) =
    if is_opened state path then Refused WrongState else append_file state path (append_refusal (kinds_of state.files) path)
step_at world state path (commands.Write text bytes) =
    if is_opened state path then write_node state path (state.files path) bytes else Refused WrongState
step_at world state path (commands.Close text) =
    if is_opened state path then close_node state path (state.files path) else Refused WrongState
step_at world state path (commands.Read text offset len) =
    if is_opened state path then Refused WrongState else read_file state path (no_file (kinds_of state.files) path) offset len
step_at world state path (commands.Mkdirs text permission create_parent) =
    if is_opened state path then Refused WrongState
    else make_directory state path (mkdirs_refusal (kinds_of state.files) path create_parent)
step_at world state path (commands.Delete text recursive) =
    if bytes_eq root path || is_opened_within state path then Refused WrongState
    else delete_files state path (delete_refusal (kinds_of state.files) path (has_below state path) recursive)
step_at world state path (commands.Info text) =
    if is_opened state path then Refused WrongState
    else info_node state (look_refusal (kinds_of state.files) path) (state.files path)
step_at world state path (commands.List text recursive limit) =
    list_node state path (look_refusal (kinds_of state.files) path) (state.files path) recursive limit

-- the path that a command names, as it is written
abbrev pub path_of : Command → List ℕ
path_of (commands.Create path options) = path
path_of (commands.Append path) = path
path_of (commands.Write path bytes) = path
path_of (commands.Close path) = path
path_of (commands.Read path offset len) = path
path_of (commands.Mkdirs path permission create_parent) = path
path_of (commands.Delete path recursive) = path
path_of (commands.Info path) = path
path_of (commands.List path recursive limit) = path

-- the path at which a command is done
abbrev pub target_of : World → Command → List ℕ
target_of world command = absolute world.home (path_of command)

-- one command: the first refusal that holds, else what it does
abbrev pub step : World → State → Command → Outcome
step world state command =
    if is_path (target_of world command) then step_at world state (target_of world command) command else Refused BadPath
