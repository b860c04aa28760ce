-- What the lines of a script say that run a command.
use Rattle.std.specs.Prelude.{ℕ, ◌^◌, Bool, true, false, List, Option, Some, None, option_map, if◌then◌else◌, codes}
use Rattle.std.specs.Str.{bytes_eq}
use Rattle.hdfs_model.specs.declared.commands.Command.TheVariants as commands
use Rattle.hdfs_model.specs.declared.commands.WriteOptions.{WriteOptions}
use Rattle.hdfs_script.specs.declared.entry.Entry.{Entry}
use Rattle.hdfs_script.specs.declared.entry.Entry.TheVariants.{Runs, Bad}
use Rattle.hdfs_script.specs.Numbers.{number}
use Rattle.hdfs_script.specs.Words.{is_word}

-- `true` or `false`
abbrev pub flag_of : List ℕ → Option Bool
flag_of text = if bytes_eq text (codes "true") then Some true else if bytes_eq text (codes "false") then Some false else None

-- `-` for the cluster's replication, or else a number
abbrev pub given_replication : List ℕ → Option (Option ℕ)
given_replication text = if bytes_eq text (codes "-") then Some None else option_map (λ n. Some n) (number 10 (2 ^ 32) text)

-- `-` for the cluster's block size, or else a number
abbrev pub given_block_size : List ℕ → Option (Option ℕ)
given_block_size text = if bytes_eq text (codes "-") then Some None else option_map (λ n. Some n) (number 10 (2 ^ 64) text)

-- the options of a new file, where each is what it has to be
abbrev pub options : Option ℕ → Option (Option ℕ) → Option (Option ℕ) → Option Bool → Option Bool → Option WriteOptions
options (Some permission) (Some replication) (Some block_size) (Some overwrite) (Some create_parent) = Some (record {
  block_size = block_size;
  replication = replication;
  permission = permission;
  overwrite = overwrite;
  create_parent = create_parent;
})
options _ _ _ _ _ = None

-- `PERM REPL BLOCK OVER PARENT`: permission bits in octal digits, the replication and the block size, whether an older file is
-- overwritten, and whether directories that aren't there are made
abbrev pub options_of : List ℕ → List ℕ → List ℕ → List ℕ → List ℕ → Option WriteOptions
options_of permission replication block_size overwrite parent =
    options (number 8 (2 ^ 32) permission) (given_replication replication) (given_block_size block_size) (flag_of overwrite) (flag_of parent)

-- `do create PATH PERM REPL BLOCK OVER PARENT`
abbrev pub create_entry : List ℕ → Option WriteOptions → Entry
create_entry path None = Bad
create_entry path (Some options) = if is_word path then Runs (commands.Create path options) else Bad

-- `do append PATH`
abbrev pub append_entry : List ℕ → Entry
append_entry path = if is_word path then Runs (commands.Append path) else Bad

-- `do write PATH HEX`
abbrev pub write_entry : List ℕ → Option (List ℕ) → Entry
write_entry path None = Bad
write_entry path (Some bytes) = if is_word path then Runs (commands.Write path bytes) else Bad

-- `do close PATH`
abbrev pub close_entry : List ℕ → Entry
close_entry path = if is_word path then Runs (commands.Close path) else Bad

-- `do read PATH OFFSET LEN`
abbrev pub read_entry : List ℕ → Option ℕ → Option ℕ → Entry
read_entry path (Some offset) (Some len) = if is_word path then Runs (commands.Read path offset len) else Bad
read_entry _ _ _ = Bad

-- `do mkdirs PATH PERM PARENT`: permission bits in octal digits, and whether directories above that aren't there are made
abbrev pub mkdirs_entry : List ℕ → Option ℕ → Option Bool → Entry
mkdirs_entry path (Some permission) (Some create_parent) = if is_word path then Runs (commands.Mkdirs path permission create_parent) else Bad
mkdirs_entry _ _ _ = Bad

-- `do delete PATH RECURSIVE`: whether what lies below goes too
abbrev pub delete_entry : List ℕ → Option Bool → Entry
delete_entry path None = Bad
delete_entry path (Some recursive) = if is_word path then Runs (commands.Delete path recursive) else Bad

-- `do info PATH`
abbrev pub info_entry : List ℕ → Entry
info_entry path = if is_word path then Runs (commands.Info path) else Bad

-- `do list PATH RECURSIVE LIMIT`: whether what lies below is listed too, and how many entries are allowed
abbrev pub list_entry : List ℕ → Option Bool → Option ℕ → Entry
list_entry path (Some recursive) (Some limit) = if is_word path then Runs (commands.List path recursive limit) else Bad
list_entry _ _ _ = Bad
