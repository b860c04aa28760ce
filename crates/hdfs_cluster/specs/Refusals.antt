-- Why a command or an ask is refused by what stands at paths, whether in a state or in a picture.
use Rattle.std.specs.Prelude.{ℕ, Bool, true, false, not, ◌&&◌, List, Option, Some, None, is_none, unwrap_or, if◌then◌else◌}
use Rattle.std.specs.List.{list_any}
use Rattle.std.specs.Str.{bytes_eq}
use Rattle.hdfs_names.specs.Paths.{ancestors, parent_of}
use Rattle.hdfs_cluster.specs.Files.{Kind, Directory, ClosedFile, OpenFile, NoFile, NotDirectory, Missing, no_file, is_file}

-- why a command is refused
pub data Refusal : Type 0 where
  -- its path breaks the path rule
  BadPath : Refusal
  -- the session has the path open, or hasn't
  WrongState : Refusal
  -- something stands at its path that may not, or is being written
  Exists : Refusal
  -- there is no file at its path, or none can stand there
  Lacks : NoFile → Refusal
  -- its range ends behind the file
  BadRange : Refusal
  -- something stands below the directory at its path, and isn't to go with it
  NotEmpty : Refusal
  -- its directory has more entries than it allows
  TooMany : Refusal

-- what stands at a path keeps a file from being created there: a directory always, a file where it isn't overwritten
abbrev pub is_in_the_way : Bool → Option Kind → Bool
is_in_the_way overwrite None = false
is_in_the_way overwrite (Some Directory) = true
is_in_the_way overwrite (Some ClosedFile) = not overwrite
is_in_the_way overwrite (Some OpenFile) = not overwrite

-- why no file is created at a path: something is in the way; an ancestor is a file; the parent isn't there and isn't made
abbrev pub create_refusal : (List ℕ → Option Kind) → List ℕ → Bool → Bool → Option Refusal
create_refusal kinds path overwrite create_parent =
    if is_in_the_way overwrite (kinds path) then Some Exists
    else if list_any (λ ancestor. is_file (kinds ancestor)) (ancestors path) then Some (Lacks NotDirectory)
    else if not create_parent && is_none (kinds (parent_of path)) then Some (Lacks Missing)
    else None

-- a file stands above the path
abbrev pub above_refusal : (List ℕ → Option Kind) → List ℕ → Option Refusal
above_refusal kinds path = if list_any (λ ancestor. is_file (kinds ancestor)) (ancestors path) then Some (Lacks NotDirectory) else None

-- why nothing can be told of a path: a file stands above it; nothing stands there
abbrev pub look_refusal : (List ℕ → Option Kind) → List ℕ → Option Refusal
look_refusal kinds path =
    if list_any (λ ancestor. is_file (kinds ancestor)) (ancestors path) then Some (Lacks NotDirectory)
    else if is_none (kinds path) then Some (Lacks Missing)
    else None

-- why no directory is made at a path: a file stands there; an ancestor is a file; the parent isn't there and isn't made
abbrev pub mkdirs_refusal : (List ℕ → Option Kind) → List ℕ → Bool → Option Refusal
mkdirs_refusal kinds path create_parent =
    if is_file (kinds path) then Some Exists
    else if list_any (λ ancestor. is_file (kinds ancestor)) (ancestors path) then Some (Lacks NotDirectory)
    else if not create_parent && is_none (kinds (parent_of path)) then Some (Lacks Missing)
    else None

-- Why what stands at a path isn't deleted: an ancestor is a file; something stands below it, and isn't to go with it. Where nothing stands
-- there, nothing is to be done.
abbrev pub delete_refusal : (List ℕ → Option Kind) → List ℕ → Bool → Bool → Option Refusal
delete_refusal kinds path full recursive =
    if list_any (λ ancestor. is_file (kinds ancestor)) (ancestors path) then Some (Lacks NotDirectory)
    else if full && not recursive then Some NotEmpty
    else None

-- a file that is being written isn't opened again
abbrev pub open_refusal : Option NoFile → Option Kind → Option Refusal
open_refusal (Some why) kind = Some (Lacks why)
open_refusal None None = None
open_refusal None (Some Directory) = None
open_refusal None (Some ClosedFile) = None
open_refusal None (Some OpenFile) = Some Exists

-- why a file isn't opened to be appended to: there is none; it is being written
abbrev pub append_refusal : (List ℕ → Option Kind) → List ℕ → Option Refusal
append_refusal kinds path = open_refusal (no_file kinds path) (kinds path)

-- a map in which this stands at a path, and a directory at each path above it at which nothing stood
abbrev pub with_parents : {X : Type 0} → (List ℕ → Option X) → X → List ℕ → X → List ℕ → Option X
with_parents map dir path x q =
    if bytes_eq path q then Some x else if list_any (bytes_eq q) (ancestors path) then Some (unwrap_or (map q) dir) else map q
