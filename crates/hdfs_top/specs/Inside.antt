-- No public clause cites this module: what the steps of the program have done.
use Rattle.std.specs.Prelude.{◌≡◌, ◌≢◌, ◌⊎◌, ℕ, ◌+◌, Bool, true, false, List, [], ◌++◌, Option, Some, None}
use Rattle.hdfs_model.specs.declared.commands.Command.{Command}
use Rattle.hdfs_model.specs.declared.commands.Reply.{Reply}
use Rattle.hdfs_model.specs.declared.commands.Fault.{Fault}
use Rattle.hdfs_cluster.specs.declared.errors.HdfsError.TheVariants as errors
use Rattle.hdfs_cluster.specs.Counts.{NoneRose, Rose, SameCounts}
use Rattle.hdfs_cluster.specs.Files.{State, only_root}
use Rattle.hdfs_model.specs.Folds.{Ends, fold}
use Rattle.hdfs_model.specs.Headline.{Stopped}
use Rattle.hdfs_cluster.specs.declared.mem_settings.MemSettings.{MemSettings}
use Rattle.hdfs_cluster.specs.Loading.{AreLoaded, Prepares, SameShown, with_lines}
use Rattle.hdfs_cluster.specs.Picture.{Picture}
use Rattle.hdfs_cluster.specs.Stores.{Agrees}
use Rattle.hdfs_cluster.specs.Fitting.{Fits}
use Rattle.hdfs_model.specs.Sessions.{AreLimited, defaults_of, world_of}
use Rattle.hdfs_cluster.specs.Shown.{Shown, Later}
use Rattle.hdfs_model.specs.Steps.{World}
use Rattle.hdfs_script.specs.declared.entry.NumberedLine.{NumberedLine}
use Rattle.hdfs_script.specs.declared.entry.Parsed.{Parsed}
use Rattle.hdfs_script.specs.declared.entry.ScriptSettings.{ScriptSettings}
use Rattle.hdfs_script.specs.Parsing.{untaken_set, first_untaken, or_else, plain_lines}
use Rattle.hdfs_script.specs.Scripts.{script_limit, session_settings}
use Rattle.hdfs_script.specs.Texts.{replies_text, fault_text}
use Rattle.hdfs_streams.specs.Streams.{SourceShown, SinkShown, TookAtMost, IsFront, Wrote, WrotePart}
use Rattle.hdfs_top.specs.declared.note.Note.{Note}
use Rattle.hdfs_top.specs.Notes.{TellsStop}
use Rattle.hdfs_top.specs.Top.{IsSession, IsClosed, Outside, RanProgram, StatusOf}

-- the words were those of a session
abbrev pub RanSession : Outside → ℕ → Outside → Type 0
RanSession before status after = (words : List (List ℕ)) → IsSession words → RanProgram words before status after

-- the source gave these bytes: all that it had, or one more than a script may have
pub record Gave (before : SourceShown) (bytes : List ℕ) (after : SourceShown) : Type 0 where
  pub taken : TookAtMost (script_limit + 1) before after
  pub fine : after.failures ≡ before.failures
  pub front : IsFront (script_limit + 1) before bytes

-- The store tells its picture, and agrees with this state, whose files are all closed.
pub record IsKnownStore (store : Shown) (state : State) : Type 0 where
  pub fits : Fits store state
  pub closed : IsClosed state

-- lines were loaded, in order
pub record LoadsAll (old : Shown) (lines : List NumberedLine) (new : Shown) : Type 0 where
  pub namenodes : new.namenodes ≡ old.namenodes
  pub counts : SameCounts old.counts new.counts
  pub defaults : defaults_of new.picture ≡ defaults_of old.picture
  pub settings : new.loaded.settings ≡ old.loaded.settings
  pub loaded : new.loaded.lines ≡ old.loaded.lines ++ plain_lines lines
  pub taken : (state : State) → Fits old state → AreLoaded old state.files → first_untaken true old.loaded state lines ≡ None
  pub fits : (state : State) → Fits old state → Fits new (with_lines state (plain_lines lines))
  pub replicas : (state : State) → Fits old state → AreLoaded old state.files → AreLoaded new (with_lines state (plain_lines lines)).files

-- a store that tells its picture has the root alone and no line
abbrev pub IsBare : Shown → Type 0
IsBare store = (p : Picture) → store.picture ≡ Some p → (store.loaded.lines ≡ []) × Agrees (Some p) only_root

-- a fresh store has a script's settings, and any other is as it was
abbrev pub Readies : Bool → Shown → MemSettings → Shown → Type 0
Readies true old settings new = Prepares old settings new
Readies false old settings new = new ≡ old

-- the number of the first line that a store refuses that is fresh or isn't, of those that were read of a script
abbrev pub first_refused : Bool → State → Parsed → Option ℕ
first_refused fresh state read =
    or_else (untaken_set fresh read.sets)
    (or_else (first_untaken fresh (record { settings = Some read.settings.cluster; lines = [] }) state read.lines) read.bad)

-- a script that was read was loaded, and none of its lines is bad
pub record LoadsScript (fresh : Bool) (old : Shown) (read : Parsed) (new : Shown) : Type 0 where
  pub ready : Shown
  pub readies : Readies fresh old read.settings.cluster ready
  pub loads : LoadsAll ready read.lines new
  pub none : (state : State) → Fits old state → first_refused fresh state read ≡ None

-- the first bad line of a script that was read has this number, and a store that isn't fresh is as it was
pub record RefusesScript (fresh : Bool) (old : Shown) (read : Parsed) (number : ℕ) (new : Shown) : Type 0 where
  pub first : (state : State) → Fits old state → first_refused fresh state read ≡ Some number
  pub same : (state : State) → Fits old state → fresh ≡ false → SameShown old new

-- a text was printed, and no write failed
pub record PrintsWhole (good : ℕ) (before : SinkShown) (text : List ℕ) (status : ℕ) (after : SinkShown) : Type 0 where
  pub is : status ≡ good
  pub wrote : Wrote before text after
  pub fine : after.failures ≡ before.failures

-- the sink failed behind a prefix of the text
pub record PrintsPart (before : SinkShown) (text : List ℕ) (status : ℕ) (after : SinkShown) : Type 0 where
  pub is : status ≡ 5
  pub rose : Rose before.failures after.failures
  pub part : WrotePart before text after

-- a text was printed, which this good status tells, or the sink failed
abbrev pub Concludes : ℕ → SinkShown → List ℕ → ℕ → SinkShown → Type 0
Concludes good before text status after = PrintsWhole good before text status after ⊎ PrintsPart before text status after

-- the world of commands over a store that has their script's settings
abbrev pub world_ready : ScriptSettings → Shown → World
world_ready given store = world_of (session_settings given) store

-- what commands run over and what they print to: a store and a sink
pub record Stage : Type 0 where
  pub store : Shown
  pub sink : SinkShown

-- these two together
abbrev pub stage : Shown → SinkShown → Stage
stage store sink = record { store = store; sink = sink }

-- commands came to their end
pub record ToEnd (given : ScriptSettings) (commands : List Command) (old : Stage) (status : ℕ) (new : Stage) : Type 0 where
  pub replies : List Reply
  pub told : (state : State) → IsKnownStore old.store state
      → (last : State) × (fold (world_ready given old.store) state commands ≡ Ends replies last) × Fits new.store last
  pub printed : Concludes 0 old.sink (replies_text replies) status new.sink

-- commands stopped at a fault other than want of memory
pub record ToFault (given : ScriptSettings) (commands : List Command) (old : Stage) (status : ℕ) (new : Stage) : Type 0 where
  pub fault : Fault
  pub other : fault.error ≢ errors.NoMemory
  pub told : (state : State) → IsKnownStore old.store state
      → Stopped (world_ready given old.store) state commands old.store new.store fault
  pub complete : (state : State) → IsKnownStore old.store state → AreLimited (world_ready given old.store) state commands
      → NoneRose old.store.namenodes old.store.counts new.store.counts → StatusOf (fold (world_ready given old.store) state commands) 2
  pub printed : Concludes 2 old.sink (fault_text fault) status new.sink

-- a note tells of the fault at which commands stopped, and whose text was printed
pub record NotesStop (given : ScriptSettings) (commands : List Command) (old : Stage) (status : ℕ) (note : Note) (new : Stage) : Type 0 where
  pub stop : ToFault given commands old status new
  pub is : TellsStop note stop.fault.at stop.fault.error

-- commands were run, and what they answered was printed; for want of memory nothing was
pub record RanCommands (given : ScriptSettings) (commands : List Command) (old : Stage) (status : ℕ) (new : Stage) : Type 0 where
  pub later : Later old.store new.store
  pub ending : PrintsWhole 3 old.sink [] status new.sink
      ⊎ ToEnd given commands old status new ⊎ ToFault given commands old status new
