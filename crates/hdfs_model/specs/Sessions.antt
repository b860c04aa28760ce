-- A session's words: when a cluster fits a state of files, what an error spares, and how errors stand for refusals.
use Rattle.std.specs.Prelude.{◌≡◌, ◌≢◌, ◌⊎◌, ℕ, ◌+◌, ◌≤◌, Bool, true, false, not, ◌&&◌, ◌||◌, List, [], ◌∷◌, length, Option, Some, None, is_none, Result, IfErr, MatchResult}
use Rattle.std.specs.List.{list_any}
use Rattle.std.specs.Str.{bytes_eq}
use Rattle.hdfs_model.specs.declared.commands.Command.{Command}
use Rattle.hdfs_model.specs.declared.commands.Command.TheVariants as commands
use Rattle.hdfs_model.specs.declared.commands.Reply.{Reply}
use Rattle.hdfs_model.specs.declared.commands.Settings.{Settings}
use Rattle.hdfs_model.specs.declared.commands.Fault.{Fault}
use Rattle.hdfs_cluster.specs.declared.errors.HdfsError.{HdfsError}
use Rattle.hdfs_cluster.specs.declared.errors.HdfsError.TheVariants as errors
use Rattle.hdfs_cluster.specs.declared.messages.ServerDefaults.{ServerDefaults}
use Rattle.hdfs_names.specs.Paths.{ancestors}
use Rattle.hdfs_cluster.specs.Files.{State, Writing, Content}
use Rattle.hdfs_cluster.specs.Limits.{are_attributes}
use Rattle.hdfs_model.specs.Limits.{are_numbers}
use Rattle.hdfs_cluster.specs.Names.{is_within}
use Rattle.hdfs_cluster.specs.Picture.{Picture}
use Rattle.hdfs_model.specs.Steps.{World, Outcome, Refused, Done, target_of, is_opened, step}
use Rattle.hdfs_model.specs.Folds.{Folded, Ends, Stops}
use Rattle.hdfs_cluster.specs.Shown.{Shown}
use Rattle.hdfs_model.specs.Causes.{IsKind, MovesEncrypted, OpensEncrypted}

-- the defaults of a cluster that tells them
abbrev pub defaults_of : Option Picture → ServerDefaults
defaults_of None = record { block_size = 0; bytes_per_checksum = 0; write_packet_size = 0; replication = 0; encrypt_data_transfer = false }
defaults_of (Some picture) = picture.defaults

-- the world of a session with these settings, and of a cluster with these defaults
abbrev pub world_with : Settings → ServerDefaults → World
world_with settings defaults = record {
  home = settings.home;
  defaults = defaults;
  rebuild_limit = settings.rebuild_limit;
  setup_limit = settings.setup_limit;
  policy = settings.replace.policy;
  best_effort = settings.replace.best_effort;
}

-- the same over a cluster that shows this
abbrev pub world_of : Settings → Shown → World
world_of settings shown = world_with settings (defaults_of shown.picture)

-- no path is open
abbrev pub none_open : List ℕ → Bool
none_open path = false

-- a session has the paths open that the state says
abbrev pub SameOpened : (List ℕ → Bool) → State → Type 0
SameOpened opened state = (path : List ℕ) → is_opened state path ≡ opened path

-- another client is writing the file at a path
abbrev pub IsStrange : State → List ℕ → Type 0
IsStrange state path = (content : Content) × (state.files path ≡ Some (Writing content)) × (is_opened state path ≡ false)

-- the command neither reads a file that another client is writing nor asks how long that is
abbrev pub Avoids : World → State → Command → Type 0
Avoids world state (commands.Read path offset len) = IsStrange state (target_of world (commands.Read path offset len)) → ⊥
Avoids world state (commands.Info path) = IsStrange state (target_of world (commands.Info path)) → ⊥
Avoids world state command = Unit {0}

-- the attributes of the file that a write of some bytes goes on with are in their limits
abbrev pub WritesInLimits : State → List ℕ → Command → Type 0
WritesInLimits state path (commands.Write text bytes) =
    bytes ≢ [] → (content : Content) → state.files path ≡ Some (Writing content) → are_attributes content.attributes ≡ true
WritesInLimits state path command = Unit {0}

-- the command moves no bytes that are to be encrypted on their way, and opens no encrypted file
pub record MeetsNoEncryption (world : World) (state : State) (command : Command) : Type 0 where
  pub bytes : MovesEncrypted world command → ⊥
  pub file : OpensEncrypted state (target_of world command) command → ⊥

-- what a command brings or uses over a state is in its limits, and it meets no encryption
pub record IsLimited (world : World) (state : State) (command : Command) : Type 0 where
  pub numbers : are_numbers world.defaults command ≡ true
  pub attributes : WritesInLimits state (target_of world command) command
  pub plain : MeetsNoEncryption world state command

-- the same of each command up to the first that is refused, over the state that those before it leave
abbrev pub AreLimited : World → State → List Command → Type 0
AreLimited world state [] = Unit {0}
AreLimited world state (command ∷ commands) =
    IsLimited world state command × ((reply : Reply) (next : State) → step world state command ≡ Done reply next
    → AreLimited world next commands)

-- a path, and those above it at which nothing stands
abbrev pub is_or_above : State → List ℕ → List ℕ → Bool
is_or_above state path q = bytes_eq path q || (is_none (state.files q) && list_any (bytes_eq q) (ancestors path))

-- The paths that a command touches: its own where it writes; where it creates a file or makes a directory, also those above it at which
-- nothing stood; where it deletes, also those below it. One that only reads or lists touches none.
abbrev pub touched : State → List ℕ → Command → List ℕ → Bool
touched state path (commands.Create text options) q = is_or_above state path q
touched state path (commands.Mkdirs text permission create_parent) q = is_or_above state path q
touched state path (commands.Delete text recursive) q = is_within path q
touched state path (commands.Read text offset len) q = false
touched state path (commands.Info text) q = false
touched state path (commands.List text recursive limit) q = false
touched state path command q = bytes_eq path q

-- whether an error comes before anything is asked that has an effect
abbrev pub is_before_asking : HdfsError → Bool
is_before_asking (errors.InvalidPath text) = true
is_before_asking (errors.InvalidArgument fault) = true
is_before_asking error = false

-- whether a step does what the command asks
abbrev pub does : Outcome → Bool
does (Refused why) = false
does (Done reply next) = true

-- Whether nothing is said of a path once a command over a state has failed with an error: the step would change something there, and was
-- asked for.
abbrev pub spared : World → State → Command → HdfsError → List ℕ → Bool
spared world state command error path =
    not (is_before_asking error) && does (step world state command) && touched state (target_of world command) command path

-- Where nothing failed, a command that is not refused is done, and one that is refused answers the error of that kind. Want
-- of memory may always come.
abbrev pub Answers : Outcome → HdfsError → Type 0
Answers (Done reply next) error = error ≡ errors.NoMemory
Answers (Refused why) error = (error ≡ errors.NoMemory) ⊎ IsKind why error

-- the same of a whole session
abbrev pub Complete : {T : Type 0} → Folded → Result T Fault → Type 0
Complete (Ends replies last) result = IfErr result (λ fault. fault.error ≡ errors.NoMemory)
Complete (Stops replies last why) result =
    MatchResult result (λ done. ⊥) (λ fault. ((fault.error ≡ errors.NoMemory) × (fault.at ≤ length replies + 1))
    ⊎ ((fault.at ≡ length replies + 1) × IsKind why fault.error))
