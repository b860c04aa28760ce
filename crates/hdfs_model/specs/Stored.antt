-- What is stored after a session: the blocks that it added are whole wherever they are listed, and all but a file's last are full.
use Rattle.std.specs.Prelude.{◌≡◌, ◌⊎◌, ℕ, ◌-◌, ◌≤◌, Bool, false, List, length, take, Contains, Some, Result, Ok, Err, slice_get, Vec}
use Rattle.std.specs.Str.{bytes_eq}
use Rattle.std.specs.declared.alloc.Global.{Global}
use Rattle.hdfs_model.specs.declared.commands.Command.{Command}
use Rattle.hdfs_model.specs.declared.commands.Command.TheVariants as commands
use Rattle.hdfs_model.specs.declared.commands.Reply.{Reply}
use Rattle.hdfs_model.specs.declared.commands.WriteOptions.{WriteOptions}
use Rattle.hdfs_model.specs.declared.commands.Fault.{Fault}
use Rattle.hdfs_cluster.specs.declared.picture.FileEntry.{FileEntry}
use Rattle.hdfs_cluster.specs.Effects.{blocks_at}
use Rattle.hdfs_cluster.specs.Files.{State, File, Content}
use Rattle.hdfs_model.specs.Folds.{Ends, fold}
use Rattle.hdfs_names.specs.Paths.{absolute}
use Rattle.hdfs_cluster.specs.Picture.{Picture}
use Rattle.hdfs_model.specs.Sessions.{none_open}
use Rattle.hdfs_cluster.specs.Shown.{Shown}
use Rattle.hdfs_cluster.specs.Sound.{IsFileAt}
use Rattle.hdfs_model.specs.Steps.{World, target_of}
use Rattle.hdfs_cluster.specs.WholeBlocks.{IsWhole, AllBehind, AreFull}

-- one of these commands creates the file at this path
abbrev pub Creates : World → List Command → List ℕ → Type 0
Creates world done path =
    (name : List ℕ) × (options : WriteOptions) × Contains done (commands.Create name options) × (absolute world.home name ≡ path)

-- These commands have added each block of the file at a path but the first so many: one of them created the file, or it had at most so
-- many blocks before them.
abbrev pub HasAdded : World → List Command → Shown → List ℕ → ℕ → Type 0
HasAdded world commands old path from =
    Creates world commands path ⊎ ((p : Picture) → old.picture ≡ Some p → length (blocks_at (p.names path)) ≤ from)

-- What these commands have made of a closed file: each datanode that is listed for a block which they added holds the whole block. Where
-- they created the file, its blocks are full.
pub record IsWellDone (world : World) (commands : List Command) (old : Shown) (path : List ℕ) (p : Picture) (file : FileEntry) : Type 0 where
  pub whole : (from : ℕ) → HasAdded world commands old path from → AllBehind (IsWhole p) from file.blocks
  pub full : Creates world commands path → AreFull p file.attributes.block_size file.blocks

-- so is each file that is closed behind them, but at the paths that are spared
abbrev pub AreWellDone : World → State → List Command → (List ℕ → Bool) → Shown → Shown → Type 0
AreWellDone world state commands spared old new =
    (replies : List Reply) (last : State) → fold world state commands ≡ Ends replies last
    → (path : List ℕ) (content : Content) → last.files path ≡ Some (File content) → spared path ≡ false
    → (p : Picture) (file : FileEntry) → new.picture ≡ Some p → IsFileAt p path file → IsWellDone world commands old path p file

-- What a whole session leaves of the files that it has closed. Behind an error that is said of all but the one at the path of the command
-- that failed.
abbrev pub LeavesWhole : World → State → List Command → Shown → Shown → Result (Vec Reply Global) Fault → Type 0
LeavesWhole world state commands old new (Ok replies) = AreWellDone world state commands none_open old new
LeavesWhole world state commands old new (Err fault) =
    (command : Command) → slice_get commands (fault.at - 1) ≡ Some command
    → AreWellDone world state (take (fault.at - 1) commands) (bytes_eq (target_of world command)) old new
