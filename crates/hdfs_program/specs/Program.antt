-- What the program does over a new cluster in memory.
use Rattle.std.specs.Prelude.{◌≡◌, ◌≢◌, ◌⊎◌, ℕ, ◌+◌, ◌≤◌, Bool, true, false, List, [], Ok, Err}
use Rattle.std.specs.List.{list_any}
use Rattle.hdfs_model.specs.declared.commands.Reply.{Reply}
use Rattle.hdfs_model.specs.declared.commands.Fault.{Fault}
use Rattle.hdfs_cluster.specs.declared.errors.HdfsError.TheVariants as errors
use Rattle.hdfs_cluster.specs.Counts.{FaultCounts, Rose}
use Rattle.hdfs_cluster.specs.Files.{State, empty_state}
use Rattle.hdfs_model.specs.Folds.{Ends, fold}
use Rattle.hdfs_model.specs.Headline.{Stopped}
use Rattle.hdfs_cluster.specs.Loading.{with_lines}
use Rattle.hdfs_cluster.specs.Fitting.{Fits}
use Rattle.hdfs_model.specs.Sessions.{AreLimited, world_with}
use Rattle.hdfs_cluster.specs.Shown.{Shown}
use Rattle.hdfs_model.specs.Steps.{World}
use Rattle.hdfs_mem_faults.specs.Series.{link_fault_count, node_fault_count}
use Rattle.hdfs_mem_cluster.specs.Lines.{NeedsFault}
use Rattle.hdfs_script.specs.Scripts.{Script, is_fault, script, session_settings}
use Rattle.hdfs_script.specs.Texts.{replies_text, fault_text, refusal_text}
use Rattle.hdfs_streams.specs.Streams.{SourceShown, SinkShown, Wrote}
use Rattle.hdfs_top.specs.declared.note.Note.{Note}
use Rattle.hdfs_top.specs.Notes.{TellsStop}
use Rattle.hdfs_top.specs.Top.{RanProgram, StatusOf, outside}

-- what is seen of a source and a sink
pub record Streams : Type 0 where
  pub source : SourceShown
  pub sink : SinkShown

-- nothing has failed
pub record IsUnfailed (counts : FaultCounts) : Type 0 where
  pub calls : (i : ℕ) → counts.calls i ≡ 0
  pub links : counts.links ≡ 0
  pub nodes : (d : List ℕ) → counts.nodes d ≡ 0

-- the world of a script over a new cluster in memory: its session's settings, and the defaults that it sets
abbrev pub memory_world : Script → World
memory_world parsed = world_with (session_settings parsed.settings) parsed.settings.cluster.defaults

-- A store as it is made for a script: it holds the root alone, and has never failed.
pub record IsNew (store : Shown) : Type 0 where
  pub fits : Fits store empty_state
  pub no_line : store.loaded.lines ≡ []
  pub unfailed : IsUnfailed store.counts

-- The count of the links has risen no more often than fault lines were loaded for them, and with it that of a datanode no more often than
-- lines were for the two; and none of a namenode before one was loaded.
pub record FailsAsPlanned (store : Shown) : Type 0 where
  pub calls : (i : ℕ) → NeedsFault store.loaded.lines (store.counts.calls i)
  pub links : store.counts.links ≤ link_fault_count store.loaded.lines
  pub nodes : (d : List ℕ) → store.counts.nodes d + store.counts.links
      ≤ node_fault_count store.loaded.lines d + link_fault_count store.loaded.lines

-- no line of the script plans a fault
abbrev pub IsFaultless : Script → Type 0
IsFaultless parsed = list_any is_fault parsed.lines ≡ false

-- there was no memory for a store, and nothing was done
pub record HadNoStore (before : Streams) (status : ℕ) (after : Streams) : Type 0 where
  pub is : status ≡ 3
  pub source : after.source ≡ before.source
  pub sink : after.sink ≡ before.sink

-- a run of the program over a store that was new and fresh, and that fails as planned
pub record RanStore (words : List (List ℕ)) (before : Streams) (status : ℕ) (after : Streams) : Type 0 where
  pub old : Shown
  pub new : Shown
  pub fresh : Bool
  pub is_new : IsNew old
  pub planned : FailsAsPlanned new
  pub ran : RanProgram words (outside before.source before.sink old true) status (outside after.source after.sink new fresh)

-- a run of the program over a new store
abbrev pub RanNew : List (List ℕ) → Streams → ℕ → Streams → Type 0
RanNew words before status after = HadNoStore before status after ⊎ RanStore words before status after

-- the refusal of the script's first bad line over no files
pub record PrintsRefusal (bytes : List ℕ) (before after : SinkShown) : Type 0 where
  pub line : ℕ
  pub is : script true empty_state bytes ≡ Err line
  pub wrote : Wrote before (refusal_text line) after

-- the replies of the script's commands over its files, which stand below a root that was empty
pub record PrintsReplies (bytes : List ℕ) (before after : SinkShown) : Type 0 where
  pub parsed : Script
  pub is : script true empty_state bytes ≡ Ok parsed
  pub replies : List Reply
  pub last : State
  pub folds : fold (memory_world parsed) (with_lines empty_state parsed.lines) parsed.commands ≡ Ends replies last
  pub wrote : Wrote before (replies_text replies) after

-- The replies up to a fault other than want of memory, which has its cause over a store that was new, and its line. The store has loaded
-- the script's lines, and fails as they plan.
pub record PrintsFault (bytes : List ℕ) (before after : SinkShown) : Type 0 where
  pub parsed : Script
  pub is : script true empty_state bytes ≡ Ok parsed
  pub fault : Fault
  pub other : fault.error ≢ errors.NoMemory
  pub old : Shown
  pub new : Shown
  pub is_new : IsNew old
  pub lines : new.loaded.lines ≡ parsed.lines
  pub planned : FailsAsPlanned new
  pub stopped : Stopped (memory_world parsed) (with_lines empty_state parsed.lines) parsed.commands old new fault
  pub wrote : Wrote before (fault_text fault) after

-- a note tells of the fault at which the script stopped, and whose text was printed
pub record NotesPrinted (bytes : List ℕ) (before : SinkShown) (note : Note) (after : SinkShown) : Type 0 where
  pub printed : PrintsFault bytes before after
  pub is : TellsStop note printed.fault.at printed.fault.error

-- a script without a fault line, whose numbers are in their limits, ends as the fold says, where no read and no write failed
abbrev pub FaultlessDecides : List ℕ → Streams → ℕ → Streams → Type 0
FaultlessDecides bytes before status after = (parsed : Script) → script true empty_state bytes ≡ Ok parsed → IsFaultless parsed
    → AreLimited (memory_world parsed) (with_lines empty_state parsed.lines) parsed.commands
    → (Rose before.source.failures after.source.failures → ⊥) → (Rose before.sink.failures after.sink.failures → ⊥)
    → StatusOf (fold (memory_world parsed) (with_lines empty_state parsed.lines) parsed.commands) status
