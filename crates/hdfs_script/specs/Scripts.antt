-- What a whole script says: settings, lines to load, and commands to run. Settings stand before lines with directories and files,
-- these before lines with faults, and these before the commands. Or else which of its lines is the first bad one, counted from 1.
use Rattle.std.specs.Prelude.{ℕ, ◌+◌, nat_le, nat_lt, Bool, true, false, ◌&&◌, ◌||◌, ◌==◌, List, [], ◌∷◌, ◌++◌, length, take, map, replicate, codes, Option, Some, None, Result, Ok, Err, if◌then◌else◌}
use Rattle.std.specs.List.{slice_split}
use Rattle.hdfs_cluster.specs.declared.store.Line.{Line}
use Rattle.hdfs_cluster.specs.declared.store.Line.TheVariants as lines
use Rattle.hdfs_model.specs.declared.commands.Command.{Command}
use Rattle.hdfs_model.specs.declared.commands.Settings.{Settings}
use Rattle.hdfs_cluster.specs.declared.messages.ServerDefaults.{ServerDefaults}
use Rattle.hdfs_cluster.specs.Files.{State}
use Rattle.hdfs_cluster.specs.Loading.{script_defaults, takes, with_line}
use Rattle.hdfs_model.specs.Sessions.{defaults_of, world_with}
use Rattle.hdfs_cluster.specs.Shown.{Loaded, Shown}
use Rattle.hdfs_model.specs.Steps.{World}
use Rattle.hdfs_names.specs.declared.replacement.Policy.TheVariants as policies
use Rattle.hdfs_script.specs.declared.entry.Entry.{Entry}
use Rattle.hdfs_script.specs.declared.entry.Entry.TheVariants.{Sets, Loads, Runs, Bad}
use Rattle.hdfs_script.specs.declared.entry.Place.{Place}
use Rattle.hdfs_script.specs.declared.entry.ScriptSettings.{ScriptSettings}
use Rattle.hdfs_script.specs.declared.entry.Setting.{Setting}
use Rattle.hdfs_script.specs.declared.entry.Setting.TheVariants as settings
use Rattle.hdfs_script.specs.Entries.{entry_of}

-- the settings of a script, the lines that it loads, and the commands that it runs, in order
pub record Script : Type 0 where
  pub settings : ScriptSettings
  pub lines : List Line
  pub commands : List Command

-- how many bytes a script may have
abbrev pub script_limit : ℕ
script_limit = 16777216

-- the entry of each line
abbrev pub line_entries : List ℕ → List Entry
line_entries bytes = map entry_of (slice_split (λ b. b == 10) bytes)

-- the last entry is bad, whatever its line says
abbrev pub ends_bad : List Entry → List Entry
ends_bad [] = []
ends_bad (entry ∷ []) = Bad ∷ []
ends_bad (entry ∷ next ∷ rest) = entry ∷ ends_bad (next ∷ rest)

-- The entries of a script. Where it has too many bytes, the line that passes the limit is bad, and none behind it counts.
abbrev pub entries_in : List ℕ → List Entry
entries_in bytes =
    if nat_le (length bytes) script_limit then line_entries bytes else ends_bad (line_entries (take script_limit bytes))

-- the settings of a script that sets nothing: those of the cluster are the defaults of HDFS
abbrev pub no_settings : ScriptSettings
no_settings = record {
  user = codes "user";
  replace = record { policy = policies.Default; best_effort = false };
  rebuild_limit = 8;
  window = 100;
  cluster = record { namenodes = 1; active = 0; nodes = 3; defaults = script_defaults };
}

-- settings with other defaults of the cluster
abbrev pub with_defaults : ScriptSettings → ServerDefaults → ScriptSettings
with_defaults given defaults = record given { cluster = record given.cluster { defaults = defaults } }

-- settings with one of them given anew
abbrev pub with_setting : ScriptSettings → Setting → ScriptSettings
with_setting given (settings.User name) = record given { user = name }
with_setting given (settings.Namenodes n) = record given { cluster = record given.cluster { namenodes = n } }
with_setting given (settings.Active i) = record given { cluster = record given.cluster { active = i } }
with_setting given (settings.Nodes n) = record given { cluster = record given.cluster { nodes = n } }
with_setting given (settings.Block n) = with_defaults given (record given.cluster.defaults { block_size = n })
with_setting given (settings.Chunk n) = with_defaults given (record given.cluster.defaults { bytes_per_checksum = n })
with_setting given (settings.Packet n) = with_defaults given (record given.cluster.defaults { write_packet_size = n })
with_setting given (settings.Replication n) = with_defaults given (record given.cluster.defaults { replication = n })
with_setting given (settings.Encrypt encrypt) = with_defaults given (record given.cluster.defaults { encrypt_data_transfer = encrypt })
with_setting given (settings.Rebuilds n) = record given { rebuild_limit = n }
with_setting given (settings.Window n) = record given { window = n }
with_setting given (settings.Policy policy) = record given { replace = record given.replace { policy = policy } }
with_setting given (settings.BestEffort best_effort) = record given { replace = record given.replace { best_effort = best_effort } }

-- the settings behind entries: of two that set the same, the later one counts
abbrev pub settings_from : ScriptSettings → List Entry → ScriptSettings
settings_from given [] = given
settings_from given (Sets setting ∷ entries) = settings_from (with_setting given setting) entries
settings_from given (_ ∷ entries) = settings_from given entries

-- the lines that are loaded
abbrev pub lines_of : List Entry → List Line
lines_of [] = []
lines_of (Loads line ∷ entries) = line ∷ lines_of entries
lines_of (_ ∷ entries) = lines_of entries

-- the commands that are run
abbrev pub commands_of : List Entry → List Command
commands_of [] = []
commands_of (Runs command ∷ entries) = command ∷ commands_of entries
commands_of (_ ∷ entries) = commands_of entries

-- whether a line plans a fault
abbrev pub is_fault : Line → Bool
is_fault (lines.Fault fault) = true
is_fault _ = false

-- the part of the script at an entry: settings, then files, then faults, then commands; a blank line may stand in any
abbrev pub part_of : ℕ → Entry → ℕ
part_of now (Sets setting) = 0
part_of now (Loads line) = if is_fault line then 2 else 1
part_of now (Runs command) = 3
part_of now _ = now

-- how many namenodes there are behind a setting, where there were so many
abbrev pub namenodes_with : ℕ → Setting → ℕ
namenodes_with namenodes (settings.Namenodes n) = n
namenodes_with namenodes _ = namenodes

-- the number of the active namenode behind a setting, where it was this one
abbrev pub active_with : ℕ → Setting → ℕ
active_with active (settings.Active i) = i
active_with active _ = active

-- the number of namenodes behind an entry
abbrev pub namenodes_behind : ℕ → Entry → ℕ
namenodes_behind namenodes (Sets setting) = namenodes_with namenodes setting
namenodes_behind namenodes _ = namenodes

-- the number of the active namenode behind an entry
abbrev pub active_behind : ℕ → Entry → ℕ
active_behind active (Sets setting) = active_with active setting
active_behind active _ = active

-- where a script begins: with one namenode, which is active
abbrev pub first_place : Place
first_place = record { part = 0; namenodes = 1; active = 0 }

-- the place behind an entry
abbrev pub place_behind : Place → Entry → Place
place_behind place entry = record {
  part = part_of place.part entry;
  namenodes = namenodes_behind place.namenodes entry;
  active = active_behind place.active entry;
}

-- a setting leaves a namenode that is active
abbrev pub may_set : Place → Setting → Bool
may_set place (settings.Namenodes n) = nat_lt place.active n
may_set place (settings.Active i) = nat_lt i place.namenodes
may_set place _ = true

-- An entry may stand at this place where its line is known, its part isn't an earlier one, and the active namenode is then one of
-- those that there are.
abbrev pub may_stand : Place → Entry → Bool
may_stand place Bad = false
may_stand place (Sets setting) = nat_le place.part 0 && may_set place setting
may_stand place entry = nat_le place.part (part_of place.part entry)

-- what the entries so far have come to: the settings, the lines that are loaded, and the files
pub record SoFar : Type 0 where
  pub given : ScriptSettings
  pub lines : List Line
  pub state : State

-- nothing so far, over these files
abbrev pub begins : State → SoFar
begins state = record { given = no_settings; lines = []; state = state }

-- what is loaded so far
abbrev pub loaded_so_far : SoFar → Loaded
loaded_so_far so_far = record { settings = Some so_far.given.cluster; lines = so_far.lines }

-- The store takes what an entry sets or loads behind what is loaded so far. One that isn't fresh takes faults alone.
abbrev pub is_taken : Bool → SoFar → Entry → Bool
is_taken fresh so_far (Sets setting) = fresh
is_taken fresh so_far (Loads line) = (fresh || is_fault line) && takes (loaded_so_far so_far) so_far.state.files line
is_taken fresh so_far _ = true

-- what it comes to behind an entry
abbrev pub with_entry : SoFar → Entry → SoFar
with_entry so_far (Sets setting) = record so_far { given = with_setting so_far.given setting }
with_entry so_far (Loads line) = record so_far { lines = so_far.lines ++ line ∷ []; state = with_line so_far.state line }
with_entry so_far _ = so_far

-- the number of the first bad line, where the next line stands at this place and has this number
abbrev pub first_bad : Bool → SoFar → Place → ℕ → List Entry → Option ℕ
first_bad fresh so_far place number [] = None
first_bad fresh so_far place number (entry ∷ entries) =
    if may_stand place entry && is_taken fresh so_far entry
    then first_bad fresh (with_entry so_far entry) (place_behind place entry) (number + 1) entries
    else Some number

-- what entries say
abbrev pub script_of : List Entry → Script
script_of entries = record { settings = settings_from no_settings entries; lines = lines_of entries; commands = commands_of entries }

-- what entries say, unless a line is bad
abbrev pub unless_bad : Option ℕ → List Entry → Result Script ℕ
unless_bad None entries = Ok (script_of entries)
unless_bad (Some line) entries = Err line

-- the script that bytes are over a store with these files, or the number of the first bad line, from 1 on
abbrev pub script : Bool → State → List ℕ → Result Script ℕ
script fresh state bytes = unless_bad (first_bad fresh (begins state) first_place 1 (entries_in bytes)) (entries_in bytes)

-- the settings of a script's session, whose home is that of its user
abbrev pub session_settings : ScriptSettings → Settings
session_settings given = record {
  home = codes "/user/" ++ given.user;
  client = replicate 16 0;
  replace = given.replace;
  rebuild_limit = given.rebuild_limit;
  window = given.window;
  setup_limit = 3;
}

-- The defaults over which a script's session runs: its own, or those of a store that isn't fresh.
abbrev pub defaults_in : Bool → Shown → ScriptSettings → ServerDefaults
defaults_in true store given = given.cluster.defaults
defaults_in false store given = defaults_of store.picture

-- the world of a script's session over a store that is fresh or isn't
abbrev pub script_world : Bool → Shown → ScriptSettings → World
script_world fresh store given = world_with (session_settings given) (defaults_in fresh store given)
