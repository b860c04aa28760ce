-- Small sessions on names, as the fold does them.
use Rattle.std.proofs.Common.{◌≡◌, ℕ, Bool, true, false, List, [], ◌∷◌, Option, Some, None, refl}
use Rattle.std.specs.Prelude.{codes, if◌then◌else◌}
use Rattle.std.specs.Str.{bytes_eq}
use Rattle.hdfs_cluster.specs.Files.{State, Node, Dir, File, Writing, Content, Missing, NotDirectory}
use Rattle.hdfs_model.specs.declared.commands.Command.{Command}
use Rattle.hdfs_model.specs.declared.commands.Command.TheVariants as commands
use Rattle.hdfs_model.specs.declared.commands.PathEntry.{PathEntry}
use Rattle.hdfs_model.specs.declared.commands.Reply.{Reply}
use Rattle.hdfs_model.specs.declared.commands.Reply.TheVariants as replies
use Rattle.hdfs_model.specs.Folds.{Folded, Ends, Stops, fold}
use Rattle.hdfs_model.specs.Steps.{World, Refusal, WrongState, Exists, Lacks, NotEmpty, TooMany}
use Rattle.hdfs_model.specs.Walks.{walk}
use Rattle.hdfs_names.specs.Paths.{root}
use Rattle.hdfs_names.specs.declared.replacement.Policy.TheVariants.{Never}

abbrev world : World
world = record {
  home = codes "/user/user";
  defaults = record { block_size = 8; bytes_per_checksum = 4; write_packet_size = 41; replication = 3; encrypt_data_transfer = false };
  rebuild_limit = 8;
  setup_limit = 3;
  policy = Never;
  best_effort = false;
}

abbrev content : Content
content = record { bytes = 0 ∷ []; attributes = record { permission = 420; replication = 1; block_size = 8; encrypted = false } }

-- `/a`, a file of one byte
abbrev one_file : State
one_file = record {
  files = λ q. if bytes_eq root q then Some Dir else if bytes_eq (codes "/a") q then Some (File content) else None;
  paths = codes "/a" ∷ root ∷ [];
  opened = [];
}

-- `/d` and `/d/e`, directories
abbrev two_dirs : State
two_dirs = record {
  files = λ q. if bytes_eq root q then Some Dir else if bytes_eq (codes "/d") q then Some Dir else if bytes_eq (codes "/d/e") q then Some Dir else None;
  paths = codes "/d/e" ∷ codes "/d" ∷ root ∷ [];
  opened = [];
}

abbrev replies_of : Folded → List Reply
replies_of (Ends done state) = done
replies_of (Stops done state why) = done

abbrev refusal_of : Folded → Option Refusal
refusal_of (Ends done state) = None
refusal_of (Stops done state why) = Some why

abbrev file_at : List ℕ → PathEntry
file_at path = record { path = path; isdir = false }

abbrev dir_at : List ℕ → PathEntry
dir_at path = record { path = path; isdir = true }

-- directories are made, listed and deleted, and it is told of a file
abbrev long : List Command
long =
    commands.Mkdirs (codes "/d/e") 493 true ∷ commands.List root true 10 ∷ commands.Info (codes "/a") ∷ commands.Delete (codes "/d") true
    ∷ commands.List root false 10 ∷ []

pub long_replies : replies_of (fold world one_file long)
    ≡ replies.Made ∷ replies.Listed (file_at (codes "/a") ∷ dir_at (codes "/d") ∷ dir_at (codes "/d/e") ∷ []) ∷ replies.Info false 1 420 1 8 ∷ replies.Deleted
    ∷ replies.Listed (file_at (codes "/a") ∷ []) ∷ []
long_replies = refl

-- a directory below which something stands goes only with that
pub full : refusal_of (fold world two_dirs (commands.Delete (codes "/d") false ∷ [])) ≡ Some NotEmpty
full = refl

-- two entries are more than one, and one is just enough
pub too_many : refusal_of (fold world two_dirs (commands.List root true 1 ∷ [])) ≡ Some TooMany
too_many = refl

pub just_enough : replies_of (fold world two_dirs (commands.List root false 1 ∷ [])) ≡ replies.Listed (dir_at (codes "/d") ∷ []) ∷ []
just_enough = refl

-- it isn't told of what isn't there, nor of what would stand below a file
pub missing : refusal_of (fold world one_file (commands.Info (codes "/x") ∷ [])) ≡ Some (Lacks Missing)
missing = refl

pub below_file : refusal_of (fold world one_file (commands.List (codes "/a/b") true 9 ∷ [])) ≡ Some (Lacks NotDirectory)
below_file = refl

-- a file is listed alone, and no directory is made in its place
pub of_file : replies_of (fold world one_file (commands.List (codes "/a") true 1 ∷ [])) ≡ replies.Listed (file_at (codes "/a") ∷ []) ∷ []
of_file = refl

pub on_file : refusal_of (fold world one_file (commands.Mkdirs (codes "/a") 493 true ∷ [])) ≡ Some Exists
on_file = refl

pub without_parent : refusal_of (fold world one_file (commands.Mkdirs (codes "/x/y") 493 false ∷ [])) ≡ Some (Lacks Missing)
without_parent = refl

abbrev creating : Command
creating = commands.Create (codes "/d/n") (record { block_size = None; replication = None; permission = 420; overwrite = false; create_parent = true })

-- a file that the session has open may be listed; it is neither told of nor deleted, nor is what stands above it
pub listed_open : replies_of (fold world two_dirs (creating ∷ commands.List (codes "/d") false 5 ∷ []))
    ≡ replies.Created ∷ replies.Listed (dir_at (codes "/d/e") ∷ file_at (codes "/d/n") ∷ []) ∷ []
listed_open = refl

pub above_open : refusal_of (fold world two_dirs (creating ∷ commands.Delete (codes "/d") true ∷ [])) ≡ Some WrongState
above_open = refl

pub told_open : refusal_of (fold world two_dirs (creating ∷ commands.Info (codes "/d/n") ∷ [])) ≡ Some WrongState
told_open = refl

-- the root stays, and what isn't there is gone already
pub of_root : refusal_of (fold world two_dirs (commands.Delete root true ∷ [])) ≡ Some WrongState
of_root = refl

pub of_nothing : replies_of (fold world two_dirs (commands.Delete (codes "/x/y") false ∷ [])) ≡ replies.Deleted ∷ []
of_nothing = refl

-- what lies in a directory comes right behind it: the order of texts is another one
abbrev three : List ℕ → Option Node
three q = if bytes_eq (codes "/a") q then Some Dir else if bytes_eq (codes "/a-b") q then Some Dir else if bytes_eq (codes "/a/c") q then Some Dir else None

pub deep_first : walk three (codes "/a-b" ∷ codes "/a" ∷ codes "/a/c" ∷ codes "/a" ∷ []) root true ≡ codes "/a" ∷ codes "/a/c" ∷ codes "/a-b" ∷ []
deep_first = refl
