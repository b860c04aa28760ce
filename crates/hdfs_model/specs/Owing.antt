-- What a command is refused for before anything is asked: the path rule, and what the session has open.
use Rattle.std.specs.Prelude.{◌≡◌, ◌⊎◌, ℕ, Bool, true, false, List}
use Rattle.hdfs_model.specs.declared.commands.Command.{Command}
use Rattle.hdfs_model.specs.declared.commands.Command.TheVariants as commands
use Rattle.hdfs_cluster.specs.declared.errors.ArgFault.TheVariants as args
use Rattle.hdfs_cluster.specs.declared.errors.HdfsError.{HdfsError}
use Rattle.hdfs_cluster.specs.declared.errors.HdfsError.TheVariants as errors
use Rattle.hdfs_cluster.specs.Names.{is_within}
use Rattle.hdfs_names.specs.Paths.{root, is_path}
use Rattle.hdfs_model.specs.Steps.{World, path_of, target_of}

-- one of the paths that are open is this one, or lies below it
abbrev pub IsOpenWithin : (List ℕ → Bool) → List ℕ → Type 0
IsOpenWithin opened path = (other : List ℕ) × (opened other ≡ true) × (is_within path other ≡ true)

-- A write and a close want the path open. A deletion wants neither the path nor one below it open, and isn't one of the root; a listing takes
-- each path as it is; all others want the path not open.
abbrev pub IsMisplaced : (List ℕ → Bool) → List ℕ → Command → Type 0
IsMisplaced opened path (commands.Write text bytes) = opened path ≡ false
IsMisplaced opened path (commands.Close text) = opened path ≡ false
IsMisplaced opened path (commands.Delete text recursive) = (path ≡ root) ⊎ IsOpenWithin opened path
IsMisplaced opened path (commands.List text recursive limit) = ⊥
IsMisplaced opened path command = opened path ≡ true

-- the error says neither of the path rule nor of what the session has open
abbrev pub IsNotOwed : HdfsError → Type 0
IsNotOwed (errors.InvalidPath text) = ⊥
IsNotOwed (errors.InvalidArgument args.State) = ⊥
IsNotOwed error = Unit {0}

-- a listing may meet a name that is no text, over a cluster that tells no picture
abbrev pub MeetsNoText : Command → HdfsError → Type 0
MeetsNoText (commands.List text recursive limit) error = error ≡ errors.InvalidPath text
MeetsNoText command error = ⊥

-- The error that is owed at a path: where that breaks the path rule, where the command is misplaced there, and elsewhere.
abbrev pub OwedAt : (List ℕ → Bool) → List ℕ → Command → HdfsError → Type 0
OwedAt opened path command error =
    ((is_path path ≡ false) × (error ≡ errors.InvalidPath (path_of command)))
    ⊎ ((is_path path ≡ true) × IsMisplaced opened path command × (error ≡ errors.InvalidArgument args.State))
    ⊎ ((is_path path ≡ true) × (IsMisplaced opened path command → ⊥) × (IsNotOwed error ⊎ MeetsNoText command error))

-- What a command is refused for before anything is asked, exactly: the path rule comes first, then what the session has open.
-- Want of memory may come instead.
abbrev pub Owed : World → (List ℕ → Bool) → Command → HdfsError → Type 0
Owed world opened command error = (error ≡ errors.NoMemory) ⊎ OwedAt opened (target_of world command) command error
