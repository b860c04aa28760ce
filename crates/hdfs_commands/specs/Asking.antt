-- What a session may ask a cluster for, command by command. It asks for nothing else, whatever comes of it, but that any namenode may always
-- be asked for its state, and to be in step (`keeps_up`). It names no block and no file's id but those that it was answered, for this path.
-- How often is not said.
use Rattle.std.specs.Prelude.{◌≡◌, ℕ, true, false, List, Option, Some}
use Rattle.hdfs_cluster.specs.declared.asks.Answer.{Answer}
use Rattle.hdfs_cluster.specs.declared.asks.Ask.{Ask}
use Rattle.hdfs_cluster.specs.declared.asks.Ask.TheVariants as asks
use Rattle.hdfs_cluster.specs.Limits.{is_permission}
use Rattle.hdfs_cluster.specs.Requests.{AskOf, Request, IsAnsweredId, LetsClose, LetsWrite}
use Rattle.hdfs_model.specs.declared.commands.Command.{Command}
use Rattle.hdfs_model.specs.declared.commands.Command.TheVariants as commands
use Rattle.hdfs_model.specs.declared.commands.Settings.{Settings}
use Rattle.hdfs_model.specs.Limits.{are_options}
use Rattle.hdfs_model.specs.Listings.{LetsList}
use Rattle.hdfs_model.specs.Owing.{IsMisplaced}
use Rattle.hdfs_model.specs.Steps.{path_of}
use Rattle.hdfs_names.specs.Paths.{absolute, is_path}
use Rattle.hdfs_namenode.specs.Clients.{KeepsAnswered, client_name, name_of}
use Rattle.hdfs_file_reader.specs.Files.{LetsReadFile}
use Rattle.hdfs_file_writer.specs.Writers.{IsAnswered}
use Rattle.hdfs_file_writer.specs.declared.file_writer.FileWriter.{FileWriter}
use Rattle.hdfs_model.specs.Opening.{AnswersDefaults, LetsAppend, LetsCreate}
use Rattle.hdfs_commands.specs.Session.{has_failed, opened_of, settings_of, writer_of}
use Rattle.hdfs_commands.specs.declared.session.Session.{Session}

-- what a command may ask for at a path, in the name of a client
abbrev pub LetsAt : (Request → Type 0) → (Ask → Answer → Type 0) → List ℕ → List ℕ → Command → Type 0
LetsAt allows may_answer client path (commands.Create name options) = are_options options ≡ true → LetsCreate allows may_answer (AnswersDefaults may_answer) client path options
LetsAt allows may_answer client path (commands.Append name) = LetsAppend allows may_answer client path
LetsAt allows may_answer client path (commands.Write name bytes) =
    (file_id : Option ℕ) → IsAnsweredId may_answer client path file_id → LetsWrite allows may_answer client path file_id
LetsAt allows may_answer client path (commands.Close name) =
    (file_id : Option ℕ) → IsAnsweredId may_answer client path file_id → LetsClose allows may_answer client path file_id
LetsAt allows may_answer client path (commands.Read name offset len) = LetsReadFile allows may_answer path len
LetsAt allows may_answer client path (commands.Mkdirs name permission create_parent) =
    is_permission permission ≡ true → allows (AskOf (asks.Mkdirs path permission create_parent))
LetsAt allows may_answer client path (commands.Delete name recursive) = allows (AskOf (asks.Delete path recursive))
LetsAt allows may_answer client path (commands.Info name) = allows (AskOf (asks.GetFileInfo path))
LetsAt allows may_answer client path (commands.List name recursive limit) = LetsList allows may_answer recursive path

-- what a command may ask for in a session with these settings: at its own path, and where that is none nothing
abbrev pub Lets : (Request → Type 0) → (Ask → Answer → Type 0) → Settings → Command → Type 0
Lets allows may_answer settings command = is_path (absolute settings.home (path_of command)) ≡ true
    → LetsAt allows may_answer (client_name settings.client) (absolute settings.home (path_of command)) command

-- what any command may ask for in a session with any settings
abbrev pub LetsAny : (Request → Type 0) → (Ask → Answer → Type 0) → Type 0
LetsAny allows may_answer = (settings : Settings) (command : Command) → Lets allows may_answer settings command

-- the same in this session: nothing where the command is misplaced
abbrev pub LetsPlaced : (Request → Type 0) → (Ask → Answer → Type 0) → Session → Command → Type 0
LetsPlaced allows may_answer session command =
    (IsMisplaced (opened_of session) (absolute (settings_of session).home (path_of command)) command → ⊥)
    → Lets allows may_answer (settings_of session) command

-- the same, and nothing behind an error
abbrev pub LetsApply : (Request → Type 0) → (Ask → Answer → Type 0) → Session → Command → Type 0
LetsApply allows may_answer session command = has_failed session ≡ false → LetsPlaced allows may_answer session command

-- the files that a session has open were answered to it, the blocks that it writes, and the cluster's defaults, if it knows any
pub record AreAnswered (may_answer : Ask → Answer → Type 0) (session : Session) : Type 0 where
  pub files : (path : List ℕ) (writer : FileWriter) → writer_of session path ≡ Some writer → IsAnswered may_answer (name_of session.namenode) writer
  pub defaults : KeepsAnswered may_answer session.namenode
