-- What a program has of the files that it has open over a told cluster, and what calls on files do, in the words of a session's step.
use Rattle.std.specs.Prelude.{◌≡◌, ℕ, Bool, true, false, not, ◌&&◌, ◌||◌, List, [], ◌∷◌, Some, Result, Ok, Err, IfOk}
use Rattle.std.specs.Str.{bytes_eq}
use Rattle.hdfs_cluster.specs.declared.asks.Answer.{Answer}
use Rattle.hdfs_cluster.specs.declared.asks.Ask.{Ask}
use Rattle.hdfs_cluster.specs.declared.errors.HdfsError.{HdfsError}
use Rattle.hdfs_cluster.specs.Files.{State}
use Rattle.hdfs_cluster.specs.Picture.{Picture}
use Rattle.hdfs_cluster.specs.Requests.{Request}
use Rattle.hdfs_cluster.specs.Shown.{Shown}
use Rattle.hdfs_names.specs.Paths.{is_path}
use Rattle.hdfs_names.specs.declared.mounts.Resolved.{Resolved}
use Rattle.hdfs_file_reader.specs.Files.{LetsReadFile}
use Rattle.hdfs_model.specs.declared.commands.Command.{Command}
use Rattle.hdfs_model.specs.declared.commands.Command.TheVariants as commands
use Rattle.hdfs_model.specs.declared.commands.Reply.{Reply}
use Rattle.hdfs_model.specs.declared.commands.Reply.TheVariants as replies
use Rattle.hdfs_model.specs.Scenes.{Ready}
use Rattle.hdfs_model.specs.Sessions.{defaults_of}
use Rattle.hdfs_model.specs.Steps.{Done, World, step}
use Rattle.hdfs_file_writer.specs.Writers as files
use Rattle.hdfs_file_writer.specs.declared.file_writer.FileWriter as inner
use Rattle.hdfs_client.specs.Clients.{leads_to, replacement_of}
use Rattle.hdfs_client.specs.Writing.{WritesWhole, open_of, rebuilding_of}
use Rattle.hdfs_client.specs.declared.client.Client.{Client}
use Rattle.hdfs_client.specs.declared.writing.FileWriter.{FileWriter}
use Rattle.hdfs_commands.specs.Session.{CarriesFile}
use Rattle.hdfs_client_steps.specs.Steps.{Does, Knows, KnowsStill, WhereReadyAt, holding, replied}

-- ---- what is open

-- a path more is open
abbrev pub opened_with : List ℕ → (List ℕ → Bool) → List ℕ → Bool
opened_with path opened other = bytes_eq path other || opened other

-- a path is open no more
abbrev pub opened_without : List ℕ → (List ℕ → Bool) → List ℕ → Bool
opened_without path opened other = not (bytes_eq path other) && opened other

-- it is where a call has a result
abbrev pub if_ok : {T : Type 0} → Result T HdfsError → (List ℕ → Bool) → (List ℕ → Bool) → List ℕ → Bool
if_ok (Ok value) after before = after
if_ok (Err error) after before = before

-- The world of the files that a client writes: the cluster's defaults, the client's policy, at most eight rebuilds of a block's pipeline, and
-- three further first ones. Its home is any.
pub record IsWorldOf (client : Client) (shown : Shown) (world : World) : Type 0 where
  pub defaults : world.defaults ≡ defaults_of shown.picture
  pub rebuilds : world.rebuild_limit ≡ 8
  pub setups : world.setup_limit ≡ 3
  pub policy : world.policy ≡ (replacement_of client).policy
  pub best_effort : world.best_effort ≡ (replacement_of client).best_effort

-- A writer holds the file that a program has open at a path: it hasn't failed, writes as the client does and by the cluster's defaults, and carries
-- the bytes that the state has there.
pub record Holds (client : Client) (shown : Shown) (state : State) (path : List ℕ) (writer : FileWriter) : Type 0 where
  pub file : inner.FileWriter
  pub is_open : open_of writer ≡ Some file
  pub at : files.path_of file ≡ path
  pub fine : files.has_failed file ≡ false
  pub rebuilding : (files.sizes_of file).rebuilding ≡ rebuilding_of client
  pub setups : (files.sizes_of file).setup_limit ≡ 3
  pub encrypted : (files.sizes_of file).encrypted ≡ (defaults_of shown.picture).encrypt_data_transfer
  pub carries : (p : Picture) → shown.picture ≡ Some p → CarriesFile p state path file

-- behind a reply a writer holds the file that the step's next state has at the path
abbrev pub HoldsNext : World → State → Command → Reply → Client → Shown → List ℕ → FileWriter → Type 0
HoldsNext world state command reply client shown path writer =
    (next : State) → step world state command ≡ Done reply next → Holds client shown next path writer

-- ---- what calls do

-- A call that opens a file did what the command does at the path. The path is open then, and the writer that it gives holds the file.
abbrev pub OpensAs : Client → List ℕ → (List ℕ → Command) → Reply → Shown → Client → Shown → Result FileWriter HdfsError → Type 0
OpensAs client src command reply old client' new result = Knows client old → WhereReadyAt client src command old (λ opened path world state.
    IsWorldOf client old world
    → Does world state (command path) path opened old (if_ok result (opened_with path opened) opened) new (replied (λ writer. reply) result)
    × Knows client' new × IfOk result (λ writer. HoldsNext world state (command path) reply client' new path writer))

-- This is so of a writer of a file of a whole service which holds the file that a program has open at a path, in each world of its client, where the
-- program is ready for the command.
abbrev pub WhereHeld : Client → FileWriter → (List ℕ → Command) → Shown → ((List ℕ → Bool) → List ℕ → World → State → Type 0) → Type 0
WhereHeld client writer command old IsSo =
    WritesWhole client old writer → (path : List ℕ) → is_path path ≡ true → (opened : List ℕ → Bool) → opened path ≡ true
    → (world : World) → IsWorldOf client old world → (state : State) → Ready world (holding opened old) state (command path ∷ [])
    → Holds client old state path writer → IsSo opened path world state

-- A write did what the command does at the path of its file, and its writer holds that still.
abbrev pub WritesAs : Client → FileWriter → List ℕ → Shown → Client → Shown → Result ℕ HdfsError → FileWriter → Type 0
WritesAs client writer bytes old client' new result writer' =
    WhereHeld client writer (λ at. commands.Write at bytes) old (λ opened path world state.
    Does world state (commands.Write path bytes) path opened old opened new (replied (λ n. replies.Written n) result)
    × KnowsStill client old client' new
    × IfOk result (λ n. HoldsNext world state (commands.Write path bytes) (replies.Written n) client' new path writer'))

-- A close did what the command does at the path of its file, which is open no more.
abbrev pub ClosesAs : Client → FileWriter → Shown → Client → Shown → Result Unit HdfsError → Type 0
ClosesAs client writer old client' new result =
    WhereHeld client writer (λ at. commands.Close at) old (λ opened path world state.
    Does world state (commands.Close path) path opened old (if_ok result (opened_without path opened) opened) new
    (replied (λ done. replies.Closed) result)
    × KnowsStill client old client' new)

-- leave for a read of so many bytes of the file where a path leads
abbrev pub LetsReadAt : (Request → Type 0) → (Ask → Answer → Type 0) → Client → List ℕ → ℕ → Type 0
LetsReadAt allows may_answer client src len = (to : Resolved) → leads_to client src ≡ Some to → LetsReadFile allows may_answer to.path len

-- A read of a range of the file at a path did what the command does there.
abbrev pub ReadsAs : Client → List ℕ → ℕ → ℕ → Shown → Client → Shown → Result (List ℕ) HdfsError → Type 0
ReadsAs client src offset len old client' new result = Knows client old
    → WhereReadyAt client src (λ at. commands.Read at offset len) old (λ opened path world state.
    world.defaults ≡ defaults_of old.picture
    → Does world state (commands.Read path offset len) path opened old opened new (replied (λ bytes. replies.Bytes bytes) result)
    × Knows client' new)
