-- What the program does, from the bytes of a script to the bytes of its replies: the main theorem, for bytes in and bytes out.
use Rattle.std.specs.Prelude.{◌≡◌, ◌≢◌, ◌⊎◌, ◌≤◌, ◌+◌, ℕ, Bool, true, false, List, [], ◌∷◌, ◌++◌, Some, Ok, Err, codes}
use Rattle.hdfs_model.specs.declared.commands.Reply.{Reply}
use Rattle.hdfs_model.specs.declared.commands.Fault.{Fault}
use Rattle.hdfs_cluster.specs.declared.errors.HdfsError.TheVariants as errors
use Rattle.hdfs_cluster.specs.Counts.{NeverFall, NoneRose, Rose}
use Rattle.hdfs_cluster.specs.Files.{State, Content, Writing}
use Rattle.hdfs_model.specs.Folds.{Folded, Ends, Stops, fold}
use Rattle.hdfs_model.specs.Headline.{Stopped}
use Rattle.hdfs_cluster.specs.Loading.{SameShown, with_lines}
use Rattle.hdfs_cluster.specs.Fitting.{Fits}
use Rattle.hdfs_model.specs.Sessions.{SameOpened, AreLimited, none_open}
use Rattle.hdfs_cluster.specs.Shown.{Shown}
use Rattle.hdfs_model.specs.Steps.{World}
use Rattle.hdfs_script.specs.Scripts.{Script, script, script_limit, script_world}
use Rattle.hdfs_script.specs.Texts.{replies_text, fault_text, refusal_text}
use Rattle.hdfs_streams.specs.Streams.{SourceShown, SinkShown, TookAtMost, Wrote, WrotePart}
use Rattle.hdfs_top.specs.declared.note.Note.{Note}
use Rattle.hdfs_top.specs.Notes.{TellsStop}

-- the one word that is known
abbrev pub IsSession : List (List ℕ) → Type 0
IsSession words = words ≡ codes "session" ∷ []

-- what is seen of the program's outside: its source, its sink, its store, and whether nothing was ever stored there
pub record Outside : Type 0 where
  pub source : SourceShown
  pub sink : SinkShown
  pub store : Shown
  pub fresh : Bool

-- the same, from its parts
abbrev pub outside : SourceShown → SinkShown → Shown → Bool → Outside
outside source sink store fresh = record { source = source; sink = sink; store = store; fresh = fresh }

-- no file of the state is open, and none is being written
pub record IsClosed (state : State) : Type 0 where
  pub opened : SameOpened none_open state
  pub written : (path : List ℕ) (content : Content) → state.files path ≡ Some (Writing content) → ⊥

-- The source tells these bytes. The store tells its picture, and agrees with this state, whose files are all closed.
pub record IsKnown (before : Outside) (bytes : List ℕ) (state : State) : Type 0 where
  pub told : before.source.left ≡ Some bytes
  pub fits : Fits before.store state
  pub closed : IsClosed state

-- the bytes are a script over the store, its lines were loaded, in order, and a fresh store has its settings
pub record Loaded (before : Outside) (bytes : List ℕ) (state : State) (parsed : Script) (after : Outside) : Type 0 where
  pub is : script before.fresh state bytes ≡ Ok parsed
  pub settings : before.fresh ≡ true → after.store.loaded.settings ≡ Some parsed.settings.cluster
  pub lines : after.store.loaded.lines ≡ before.store.loaded.lines ++ parsed.lines

-- the world of a script over what was there before it
abbrev pub world_over : Outside → Script → World
world_over before parsed = script_world before.fresh before.store parsed.settings

-- The session came to its end: the text is that of the fold's replies, and the store agrees with the fold's last state.
pub record Finishes (before : Outside) (bytes : List ℕ) (state : State) (text : List ℕ) (after : Outside) : Type 0 where
  pub parsed : Script
  pub loaded : Loaded before bytes state parsed after
  pub replies : List Reply
  pub last : State
  pub folds : fold (world_over before parsed) (with_lines state parsed.lines) parsed.commands ≡ Ends replies last
  pub fits : Fits after.store last
  pub is_text : text ≡ replies_text replies

-- The session stopped at a fault other than want of memory: the text is that of the fold's replies up to it and of the fault,
-- which has its cause.
pub record Halts (before : Outside) (bytes : List ℕ) (state : State) (text : List ℕ) (after : Outside) : Type 0 where
  pub parsed : Script
  pub loaded : Loaded before bytes state parsed after
  pub fault : Fault
  pub other : fault.error ≢ errors.NoMemory
  pub stopped : Stopped (world_over before parsed) (with_lines state parsed.lines) parsed.commands before.store after.store fault
  pub is_text : text ≡ fault_text fault

-- the bytes are no script over the store: the text tells the number of their first bad line
pub record Refuses (before : Outside) (bytes : List ℕ) (state : State) (text : List ℕ) : Type 0 where
  pub line : ℕ
  pub is : script before.fresh state bytes ≡ Err line
  pub is_text : text ≡ refusal_text line

-- a text that the program may write
abbrev pub IsText : Outside → List ℕ → State → List ℕ → Outside → Type 0
IsText before bytes state text after =
    Refuses before bytes state text ⊎ Finishes before bytes state text after ⊎ Halts before bytes state text after

-- the whole text of a session that came to its end was written
abbrev pub WroteReplies : Outside → Outside → Type 0
WroteReplies before after = (bytes : List ℕ) (state : State) → IsKnown before bytes state
    → (text : List ℕ) × Finishes before bytes state text after × Wrote before.sink text after.sink

-- the whole text of a session that stopped was written
abbrev pub WroteFault : Outside → Outside → Type 0
WroteFault before after = (bytes : List ℕ) (state : State) → IsKnown before bytes state
    → (text : List ℕ) × Halts before bytes state text after × Wrote before.sink text after.sink

-- A note tells of the fault at which a session stopped: its text was written, and it is the one at which the script stops.
pub record NotesFault (before : Outside) (note : Note) (after : Outside) : Type 0 where
  pub fault : Fault
  pub is : TellsStop note fault.at fault.error
  pub wrote : Wrote before.sink (fault_text fault) after.sink
  pub halts : (bytes : List ℕ) (state : State) → IsKnown before bytes state
      → (halted : Halts before bytes state (fault_text fault) after) × (halted.fault ≡ fault)

-- a prefix of a text was written
abbrev pub WroteSome : Outside → Outside → Type 0
WroteSome before after = (bytes : List ℕ) (state : State) → IsKnown before bytes state
    → (text : List ℕ) × IsText before bytes state text after × WrotePart before.sink text after.sink

-- the refusal of some line was written
abbrev pub WroteRefusal : Outside → Outside → Type 0
WroteRefusal before after = (line : ℕ) × Wrote before.sink (refusal_text line) after.sink

-- The bytes are refused: the number of their first bad line was written, and a store that isn't fresh is as it was.
abbrev pub RefusedScript : Outside → Outside → Type 0
RefusedScript before after = (bytes : List ℕ) (state : State) → IsKnown before bytes state
    → (line : ℕ) × (script before.fresh state bytes ≡ Err line) × Wrote before.sink (refusal_text line) after.sink
    × (before.fresh ≡ false → SameShown before.store after.store)

-- Other words are refused, at line 0: nothing is read, the store is as it was, and the refusal was written, or a prefix of it.
pub record RefusedWords (before : Outside) (status : ℕ) (after : Outside) : Type 0 where
  pub statuses : (status ≡ 1) ⊎ (status ≡ 5)
  pub source : after.source ≡ before.source
  pub store : SameShown before.store after.store
  pub whole : status ≡ 1 → Wrote before.sink (refusal_text 0) after.sink
  pub part : WrotePart before.sink (refusal_text 0) after.sink

-- The source failed: nothing was written, and the store is as it was.
pub record FailedSource (before after : Outside) : Type 0 where
  pub rose : Rose before.source.failures after.source.failures
  pub wrote : Wrote before.sink [] after.sink
  pub store : SameShown before.store after.store

-- No read, no write and no call of the store failed. (It has as many namenodes as the script says, or as it had where it isn't fresh.)
pub record NoneFailed (before after : Outside) : Type 0 where
  pub reads : Rose before.source.failures after.source.failures → ⊥
  pub writes : Rose before.sink.failures after.sink.failures → ⊥
  pub calls : NoneRose after.store.namenodes before.store.counts after.store.counts

-- the status where nothing fails: done where the fold refuses nothing, else the fault; want of memory may always come
abbrev pub StatusOf : Folded → ℕ → Type 0
StatusOf (Ends replies last) status = (status ≡ 0) ⊎ (status ≡ 3)
StatusOf (Stops replies last why) status = (status ≡ 2) ⊎ (status ≡ 3)

-- where nothing failed, and the numbers are in their limits, the script decides
abbrev pub ScriptDecides : Outside → ℕ → Outside → Type 0
ScriptDecides before status after = (bytes : List ℕ) (state : State) (parsed : Script) → IsKnown before bytes state
    → script before.fresh state bytes ≡ Ok parsed
    → AreLimited (world_over before parsed) (with_lines state parsed.lines) parsed.commands → NoneFailed before after
    → StatusOf (fold (world_over before parsed) (with_lines state parsed.lines) parsed.commands) status

-- What a run of the program over some words has done, by its status. All but `done`, `no_script`, `stopped`, `prefix` and
-- `complete` holds over any source, sink and store.
pub record RanProgram (words : List (List ℕ)) (before : Outside) (status : ℕ) (after : Outside) : Type 0 where
  pub statuses : status ≤ 5
  pub counts : NeverFall before.store.counts after.store.counts
  pub read : TookAtMost (script_limit + 1) before.source after.source
  pub other : (IsSession words → ⊥) → RefusedWords before status after
  -- 0: every reply was written
  pub done : status ≡ 0 → WroteReplies before after
  -- 1: words or script are refused, and that was written
  pub refused : status ≡ 1 → WroteRefusal before after
  pub no_script : status ≡ 1 → IsSession words → RefusedScript before after
  -- 2: a command failed; the replies before it and a line with the fault were written
  pub stopped : status ≡ 2 → WroteFault before after
  -- 3: for want of memory; nothing was written
  pub memory : status ≡ 3 → Wrote before.sink [] after.sink
  -- 4: the source failed, and comes only then
  pub source : status ≡ 4 → FailedSource before after
  pub read_fine : status ≢ 4 → after.source.failures ≡ before.source.failures
  -- 5: the sink failed, and comes only then; a prefix of a text was written
  pub sink : status ≡ 5 → Rose before.sink.failures after.sink.failures
  pub prefix : status ≡ 5 → IsSession words → WroteSome before after
  pub write_fine : status ≢ 5 → after.sink.failures ≡ before.sink.failures
  pub complete : IsSession words → ScriptDecides before status after
