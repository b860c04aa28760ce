-- What the plain program answers, in the words of the fold.
use Rattle.std.specs.Prelude.{◌≡◌, ℕ, Bool, false, not, List, [], ◌∷◌, Option, Some, None, if◌then◌else◌}
use Rattle.hdfs_model.specs.declared.commands.Command.{Command}
use Rattle.hdfs_model.specs.declared.commands.Command.TheVariants as commands
use Rattle.hdfs_model.specs.declared.commands.Reply.{Reply}
use Rattle.hdfs_cluster.specs.Files.{State, NotDirectory, Missing, NotFile}
use Rattle.hdfs_model.specs.Steps.{World, Refusal, BadPath, WrongState, Exists, Lacks, BadRange, NotEmpty, TooMany, Outcome, Refused, Done}
use Rattle.hdfs_cluster.specs.Loading.{is_directory}
use Rattle.hdfs_model.specs.Folds.{Folded, Ends, Stops}
use Rattle.hdfs_model.specs.Walks.{walk}
use Rattle.hdfs_plain.specs.declared.files.PlainFiles.{PlainFiles}
use Rattle.hdfs_plain.specs.declared.outcome.PlainRefusal.{PlainRefusal}
use Rattle.hdfs_plain.specs.declared.outcome.PlainRefusal.TheVariants as refusals
use Rattle.hdfs_plain.specs.declared.outcome.PlainOutcome.{PlainOutcome}
use Rattle.hdfs_plain.specs.declared.outcome.PlainOutcome.TheVariants as outcomes
use Rattle.hdfs_plain.specs.declared.running.PlainFold.{PlainFold}
use Rattle.hdfs_plain.specs.declared.running.PlainWorld.{PlainWorld}
use Rattle.hdfs_names.specs.declared.replacement.Policy.TheVariants.{Never}
use Rattle.hdfs_plain.specs.Plain.{Holds}

-- the world that a plain one stands for
abbrev pub world_of : PlainWorld → World
world_of plain = record { home = plain.home; defaults = plain.defaults; rebuild_limit = 0; setup_limit = 0; policy = Never; best_effort = false }

-- the refusal that a plain one stands for
abbrev pub refusal_of : PlainRefusal → Refusal
refusal_of refusals.BadPath = BadPath
refusal_of refusals.WrongState = WrongState
refusal_of refusals.Exists = Exists
refusal_of refusals.NotDirectory = Lacks NotDirectory
refusal_of refusals.Missing = Lacks Missing
refusal_of refusals.NotFile = Lacks NotFile
refusal_of refusals.BadRange = BadRange
refusal_of refusals.NotEmpty = NotEmpty
refusal_of refusals.TooMany = TooMany

-- A command finds its own path open where it wants it closed, or closed where it wants it open. A deletion looks at more than its own path, and
-- a listing at nothing of the kind.
abbrev pub is_misplaced : Command → Bool → Bool
is_misplaced (commands.Write path bytes) is_open = not is_open
is_misplaced (commands.Close path) is_open = not is_open
is_misplaced (commands.Delete path recursive) is_open = false
is_misplaced (commands.List path recursive limit) is_open = false
is_misplaced command is_open = is_open

-- the paths that are listed with what stands at a path: of a directory its walk, else the path itself
abbrev pub listed_with : State → List ℕ → Bool → List (List ℕ)
listed_with state path recursive = if is_directory (state.files path) then walk state.files state.paths path recursive else path ∷ []

-- A plain answer to a command over a state stands for an outcome: a refusal, over files that stay, or a reply, with the files
-- of the next state.
abbrev pub Comes : PlainOutcome → Outcome → State → PlainFiles → Type 0
Comes (outcomes.Refused why) outcome state new = (outcome ≡ Refused (refusal_of why)) × Holds new state
Comes (outcomes.Done reply) outcome state new = (next : State) × (outcome ≡ Done reply next) × Holds new next

-- a fold that ended, or was stopped by a refusal
abbrev pub folded : List Reply → Option PlainRefusal → State → Folded
folded replies None last = Ends replies last
folded replies (Some why) last = Stops replies last (refusal_of why)

-- the fold that a plain answer stands for, with this last state
abbrev pub folded_of : PlainFold → State → Folded
folded_of answer last = folded answer.replies answer.refused last
