-- What a namenode of a cluster in memory responds, and when it fails.
use Rattle.std.specs.Prelude.{◌≡◌, ◌⊎◌, ℕ, Bool, true, false, ◌&&◌, ◌||◌, List, [], Option, Some, None, is_some, Result, Ok, Err, IfOk, codes, if◌then◌else◌}
use Rattle.std.specs.List.{list_any}
use Rattle.std.specs.Str.{bytes_eq}
use Rattle.hdfs_cluster.specs.declared.asks.Ask.{Ask}
use Rattle.hdfs_cluster.specs.declared.asks.Ask.TheVariants as asks
use Rattle.hdfs_cluster.specs.declared.asks.Answer.{Answer}
use Rattle.hdfs_cluster.specs.declared.asks.Answer.TheVariants as answers
use Rattle.hdfs_cluster.specs.declared.asks.AskFault.{AskFault}
use Rattle.hdfs_cluster.specs.declared.asks.AskFault.TheVariants as faults
use Rattle.hdfs_cluster.specs.declared.mem_settings.MemSettings.{MemSettings}
use Rattle.hdfs_cluster.specs.declared.store.AskKind.{AskKind}
use Rattle.hdfs_cluster.specs.declared.store.AskKind.TheVariants as ask_kinds
use Rattle.hdfs_cluster.specs.declared.store.Line.{Line}
use Rattle.hdfs_cluster.specs.Effects.{IsBeingWritten}
use Rattle.hdfs_cluster.specs.Namenode.{IsShaped}
use Rattle.hdfs_cluster.specs.Picture.{Picture, SamePicture}
use Rattle.hdfs_mem_faults.specs.Calls.{after_one}
use Rattle.hdfs_mem_faults.specs.Series.{is_fault}
use Rattle.hdfs_mem_namenode.specs.declared.namespace.Namespace.{Namespace}
use Rattle.hdfs_mem_datanodes.specs.declared.datanodes.Datanodes.{Datanodes}
use Rattle.hdfs_mem_cluster.specs.declared.mem_links.MemLinks.{MemLinks}
use Rattle.hdfs_mem_namenode.specs.Answering.{Answers, AnswersAbout, no_such_method, space_in}
use Rattle.hdfs_mem_namenode.specs.Pipelines.{AreBarred, LacksPlace, is_barred}
use Rattle.hdfs_mem_cluster.specs.MemShown.{picture_at}

-- a command of a session makes the ask
abbrev pub is_of_session : Ask → Bool
is_of_session (asks.GetBlockLocations src offset length) = true
is_of_session asks.GetServerDefaults = true
is_of_session (asks.Create ask) = true
is_of_session (asks.Append src client flag) = true
is_of_session (asks.AddBlock ask) = true
is_of_session (asks.AbandonBlock ask) = true
is_of_session (asks.Complete ask) = true
is_of_session (asks.UpdateBlockForPipeline block client) = true
is_of_session (asks.GetAdditionalDatanode ask) = true
is_of_session (asks.UpdatePipeline ask) = true
is_of_session ask = false

-- What the active namenode answers to any other ask: it renews leases that it doesn't keep, what it did is known, it is the active one, and
-- else it has no answer.
abbrev pub other_answer : Ask → Result Answer AskFault
other_answer (asks.RenewLease client namespaces) = Ok answers.RenewLease
other_answer asks.Msync = Ok answers.Msync
other_answer asks.GetHaServiceState = Ok (answers.GetHaServiceState 1)
other_answer ask = Err (faults.Exception no_such_method [])

-- that, or want of memory
abbrev pub StandsForOther : Ask → Result Answer AskFault → Type 0
StandsForOther ask result = (result ≡ other_answer ask) ⊎ (result ≡ Err faults.NoMemory)

-- The active namenode answers so, with this effect on the names and the blocks, whatever the datanodes hold and whichever links
-- are open.
abbrev pub AnswersHere : Namespace → Ask → Result Answer AskFault → Namespace → Type 0
AnswersHere old ask result new = (nodes : Datanodes) (settings : MemSettings) (links : MemLinks) (i : ℕ) → i ≡ settings.active
    → Answers (picture_at old nodes settings links) i ask result (picture_at new nodes settings links)

-- the class of the exception of a namenode that finds no datanode
abbrev pub io_exception : List ℕ
io_exception = codes "java.io.IOException"

-- whether this is the answer of a namenode that has failed and wasn't planned to
abbrev pub is_failure : Result Answer AskFault → Bool
is_failure (Ok answer) = false
is_failure (Err (faults.Exception class message)) = bytes_eq class io_exception
is_failure (Err fault) = false

-- how often a namenode has failed, once it has failed again or not
abbrev pub failed_after : Bool → ℕ → ℕ
failed_after failed calls = if failed then after_one calls else calls

-- Want of memory, or the exception of a namenode that finds no datanode, which has no message. That comes once a fault was loaded.
abbrev pub StandsForNone : List Line → AskFault → Type 0
StandsForNone loaded faults.NoMemory = Unit {0}
StandsForNone loaded (faults.Exception class message) = (list_any is_fault loaded ≡ true) × (class ≡ io_exception) × (message ≡ [])
StandsForNone loaded fault = ⊥

-- A datanode more is asked for, of a block of an open file, and each of so many datanodes is existing or excluded; or a block more of an open
-- file that has no empty one to be given again, and each of them is excluded.
abbrev pub LacksDatanode : ℕ → Picture → Ask → Type 0
LacksDatanode count p (asks.AddBlock ask) = LacksPlace (space_in p) count ask.src ask.previous ask.excludes
LacksDatanode count p (asks.GetAdditionalDatanode ask) =
    IsBeingWritten p ask.src ask.blk × AreBarred (is_barred ask.existings ask.excludes) count
LacksDatanode count p ask = ⊥

-- The active namenode fails: it finds none of so many datanodes, and answers an exception. Nothing changes.
pub record Fails (loaded : List Line) (count : ℕ) (p : Picture) (i : ℕ) (ask : Ask) (result : Result Answer AskFault) (q : Picture)
    : Type 0 where
  pub here : i ≡ p.active
  pub lacks : LacksDatanode count p ask
  pub planned : list_any is_fault loaded ≡ true
  pub is : result ≡ Err (faults.Exception io_exception [])
  pub same : SamePicture p q

-- a namenode answers, or the active one fails, or answers an ask about names
abbrev pub Responds : List Line → ℕ → Picture → ℕ → Ask → Result Answer AskFault → Picture → Type 0
Responds loaded count p i ask result q = Answers p i ask result q ⊎ Fails loaded count p i ask result q ⊎ AnswersAbout p i ask result q

-- the same of the active namenode, whatever the datanodes hold and whichever links are open
abbrev pub RespondsHere : List Line → ℕ → Namespace → Ask → Result Answer AskFault → Type 0
RespondsHere loaded count space ask result =
    (nodes : Datanodes) (settings : MemSettings) (links : MemLinks) (i : ℕ) → i ≡ settings.active
    → Responds loaded count (picture_at space nodes settings links) i ask result (picture_at space nodes settings links)

-- the same where names and blocks may change, beside these datanodes
abbrev pub RespondsBeside : List Line → Datanodes → Namespace → Ask → Result Answer AskFault → Namespace → Type 0
RespondsBeside loaded nodes old ask result new =
    (settings : MemSettings) (links : MemLinks) (i : ℕ) → i ≡ settings.active
    → Responds loaded nodes.count (picture_at old nodes settings links) i ask result (picture_at new nodes settings links)

-- there was memory for an ask, and so it is counted
abbrev pub is_answered : Result Answer AskFault → Bool
is_answered (Ok answer) = true
is_answered (Err faults.NoMemory) = false
is_answered (Err fault) = true

-- `complete` is answered that the file isn't closed, and another ask is lost
abbrev pub false_answer : Ask → Result Answer AskFault
false_answer (asks.Complete ask) = Ok (answers.Complete false)
false_answer ask = Err faults.Broken

-- what a namenode answers that is planned to fail so: an exception has no message
abbrev pub planned_answer : AskKind → Ask → Result Answer AskFault
planned_answer ask_kinds.Lost ask = Err faults.Broken
planned_answer ask_kinds.Late ask = Err faults.Broken
planned_answer ask_kinds.FalseAnswer ask = false_answer ask
planned_answer ask_kinds.Fatal ask = Err (faults.Fatal [] [])
planned_answer (ask_kinds.Exception class) ask = Err (faults.Exception class [])

-- What it does: the ask, where its answer is late, whatever that would have been; and else nothing.
abbrev pub DoesPlanned : List Line → ℕ → AskKind → Picture → ℕ → Ask → Picture → Type 0
DoesPlanned loaded count ask_kinds.Lost p i ask q = SamePicture p q
DoesPlanned loaded count ask_kinds.Late p i ask q =
    (given : Result Answer AskFault) × IfOk given (IsShaped ask) × Responds loaded count p i ask given q
DoesPlanned loaded count ask_kinds.FalseAnswer p i ask q = SamePicture p q
DoesPlanned loaded count ask_kinds.Fatal p i ask q = SamePicture p q
DoesPlanned loaded count (ask_kinds.Exception class) p i ask q = SamePicture p q

-- What an ask comes to that is planned to fail so, or isn't planned to. For want of memory a planned one does nothing.
abbrev pub AskComesTo : List Line → ℕ → Option AskKind → Picture → ℕ → Ask → Result Answer AskFault → Picture → Type 0
AskComesTo loaded count None p i ask result q = Responds loaded count p i ask result q
AskComesTo loaded count (Some kind) p i ask result q =
    ((result ≡ Err faults.NoMemory) × SamePicture p q) ⊎ ((result ≡ planned_answer kind ask) × DoesPlanned loaded count kind p i ask q)

-- whether a namenode has failed that wasn't planned to
abbrev pub own_failure : Option AskKind → Result Answer AskFault → Bool
own_failure None result = is_failure result
own_failure (Some kind) result = false

-- whether a namenode has failed, that was planned to fail so or wasn't; for want of memory it hasn't
abbrev pub has_failed : Option AskKind → Result Answer AskFault → Bool
has_failed kind result = is_answered result && (is_some kind || is_failure result)
