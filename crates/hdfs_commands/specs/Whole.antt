-- What one command makes of the blocks of files: those that were whole wherever they are listed stay so, and those of one size.
use Rattle.std.specs.Prelude.{◌≡◌, ◌≢◌, ℕ, ◌≤◌, List, Some, None, Result, OnOk, OnErr}
use Rattle.hdfs_model.specs.declared.commands.Command.{Command}
use Rattle.hdfs_model.specs.declared.commands.Command.TheVariants as commands
use Rattle.hdfs_model.specs.declared.commands.Reply.{Reply}
use Rattle.hdfs_model.specs.declared.commands.WriteOptions.{WriteOptions}
use Rattle.hdfs_cluster.specs.declared.errors.HdfsError.{HdfsError}
use Rattle.hdfs_cluster.specs.declared.picture.FileEntry.{FileEntry}
use Rattle.hdfs_cluster.specs.Effects.{blocks_at}
use Rattle.hdfs_cluster.specs.Files.{State}
use Rattle.hdfs_cluster.specs.Picture.{Picture}
use Rattle.hdfs_cluster.specs.Shown.{Shown}
use Rattle.hdfs_cluster.specs.Sound.{IsFileAt}
use Rattle.hdfs_model.specs.Steps.{target_of}
use Rattle.hdfs_cluster.specs.WholeBlocks.{AreFull, IsWhole, IsOfSize, AllBehind, AllBetween}
use Rattle.hdfs_file_writer.specs.Tails.{tail_length}
use Rattle.hdfs_file_writer.specs.Writers.{sizes_of, tail_of}
use Rattle.hdfs_file_writer.specs.declared.file_writer.FileWriter.{FileWriter}
use Rattle.hdfs_commands.specs.Acting.{IsReady, world_at}
use Rattle.hdfs_commands.specs.Session.{writer_of}
use Rattle.hdfs_commands.specs.declared.session.Session.{Session}

-- The blocks of the file at a path are whole but for the first so many, and for the last one of a file that the session has open.
pub record AreWhole (shown : Shown) (session : Session) (path : List ℕ) (from : ℕ) : Type 0 where
  pub closed : writer_of session path ≡ None → (p : Picture) → shown.picture ≡ Some p → AllBehind (IsWhole p) from (blocks_at (p.names path))
  pub going : (writer : FileWriter) → writer_of session path ≡ Some writer
      → (p : Picture) → shown.picture ≡ Some p → AllBetween (IsWhole p) from (blocks_at (p.names path))

-- They are of the file's block size, but for the last one, which is no longer. Of a file that is open its writer says how long that is.
pub record AreFilled (shown : Shown) (session : Session) (path : List ℕ) : Type 0 where
  pub closed : writer_of session path ≡ None → (p : Picture) (file : FileEntry) → shown.picture ≡ Some p → IsFileAt p path file
      → AreFull p file.attributes.block_size file.blocks
  pub going : (writer : FileWriter) → writer_of session path ≡ Some writer → (p : Picture) → shown.picture ≡ Some p
      → (tail_length (tail_of writer) ≤ (sizes_of writer).block_size)
      × AllBetween (IsOfSize p (sizes_of writer).block_size) 0 (blocks_at (p.names path))

-- One command: the blocks of files stay so, those of an error's path apart, and those of a new file are so.
pub record KeepsWhole (command : Command) (old : Shown) (session : Session) (new : Shown) (session' : Session) (result : Result Reply HdfsError)
    : Type 0 where
  pub whole : (path : List ℕ) → OnErr result (path ≢ target_of (world_at session old) command)
      → (from : ℕ) → AreWhole old session path from → AreWhole new session' path from
  pub filled : (path : List ℕ) → OnErr result (path ≢ target_of (world_at session old) command)
      → AreFilled old session path → AreFilled new session' path
  pub created : OnOk result ((name : List ℕ) (options : WriteOptions) → command ≡ commands.Create name options
      → let path = target_of (world_at session old) command in AreWhole new session' path 0 × AreFilled new session' path)

-- the same over a state that the session is ready for
abbrev pub KeepsBlocksWhole : Command → Shown → Session → Shown → Session → Result Reply HdfsError → Type 0
KeepsBlocksWhole command old session new session' result =
    (state : State) → IsReady old session state command → KeepsWhole command old session new session' result
