-- What each line of a script says.
use Rattle.std.specs.Prelude.{ℕ, ◌^◌, ◌+◌, nat_le, nat_lt, Bool, false, ◌&&◌, ◌||◌, ◌==◌, List, [], ◌∷◌, length, Option, Some, None, if◌then◌else◌, codes}
use Rattle.std.specs.List.{list_all, slice_split}
use Rattle.std.specs.Str.{bytes_eq}
use Rattle.hdfs_cluster.specs.declared.attributes.Attributes.{Attributes}
use Rattle.hdfs_cluster.specs.declared.store.Line.TheVariants as lines
use Rattle.hdfs_cluster.specs.declared.store.AskKind.{AskKind}
use Rattle.hdfs_cluster.specs.declared.store.AskKind.TheVariants as ask_kinds
use Rattle.hdfs_cluster.specs.declared.store.FaultLine.{FaultLine}
use Rattle.hdfs_cluster.specs.declared.store.FaultLine.TheVariants as faults
use Rattle.hdfs_cluster.specs.declared.store.LinkKind.{LinkKind}
use Rattle.hdfs_cluster.specs.declared.store.LinkKind.TheVariants as link_kinds
use Rattle.hdfs_cluster.specs.declared.store.ReadKind.{ReadKind}
use Rattle.hdfs_cluster.specs.declared.store.ReadKind.TheVariants as read_kinds
use Rattle.hdfs_names.specs.declared.replacement.Policy.{Policy}
use Rattle.hdfs_names.specs.declared.replacement.Policy.TheVariants as policies
use Rattle.hdfs_script.specs.declared.entry.Entry.{Entry}
use Rattle.hdfs_script.specs.declared.entry.Entry.TheVariants.{Blank, Sets, Loads, Runs, Bad}
use Rattle.hdfs_script.specs.declared.entry.Setting.{Setting}
use Rattle.hdfs_script.specs.declared.entry.Setting.TheVariants as settings
use Rattle.hdfs_script.specs.Commands.{append_entry, close_entry, create_entry, delete_entry, flag_of, info_entry, list_entry, mkdirs_entry, options_of, read_entry, write_entry}
use Rattle.hdfs_script.specs.Numbers.{number, hex_bytes}
use Rattle.hdfs_script.specs.Words.{is_word}

-- an entry that isn't bad
abbrev pub good : Entry → Option Entry
good Bad = None
good Blank = Some Blank
good (Sets setting) = Some (Sets setting)
good (Loads line) = Some (Loads line)
good (Runs command) = Some (Runs command)

-- the attributes of a file, where each is a number; it isn't encrypted
abbrev pub attributes : Option ℕ → Option ℕ → Option ℕ → Option Attributes
attributes (Some permission) (Some replication) (Some block_size) =
    Some (record { permission = permission; replication = replication; block_size = block_size; encrypted = false })
attributes _ _ _ = None

-- `PERM REPL BLOCK`: permission bits in octal digits, the replication and the block size
abbrev pub attributes_of : List ℕ → List ℕ → List ℕ → Option Attributes
attributes_of permission replication block_size = attributes (number 8 (2 ^ 32) permission) (number 10 (2 ^ 32) replication) (number 10 (2 ^ 64) block_size)

-- `file PATH PERM REPL BLOCK HEX`
abbrev pub file_entry : List ℕ → Option Attributes → Option (List ℕ) → Entry
file_entry path (Some attributes) (Some bytes) = if is_word path then Loads (lines.File path attributes bytes) else Bad
file_entry _ _ _ = Bad

-- `dir PATH`
abbrev pub dir_entry : List ℕ → Entry
dir_entry path = if is_word path then Loads (lines.Dir path) else Bad

-- a replica of a file's block that is cut to a length
abbrev pub short_of : List ℕ → Option ℕ → Option ℕ → Option ℕ → Entry
short_of path (Some block) (Some node) (Some len) = if is_word path then Loads (lines.Short path block node len) else Bad
short_of path _ _ _ = Bad

-- `short PATH K D LEN`
abbrev pub short_entry : List ℕ → List ℕ → List ℕ → List ℕ → Entry
short_entry path block node len = short_of path (number 10 (2 ^ 32) block) (number 10 (2 ^ 32) node) (number 10 (2 ^ 64) len)

-- a letter or a digit
abbrev pub is_alphanumeric : ℕ → Bool
is_alphanumeric c = (nat_le 48 c && nat_le c 57) || (nat_le 65 c && nat_le c 90) || (nat_le 97 c && nat_le c 122)

-- `set user NAME`: one or more letters and digits
abbrev pub user_entry : List ℕ → Entry
user_entry name = if nat_le 1 (length name) && list_all is_alphanumeric name then Sets (settings.User name) else Bad

-- a setting that is a number from 1 on
abbrev pub from_one : (ℕ → Setting) → Option ℕ → Entry
from_one setting None = Bad
from_one setting (Some n) = if nat_le 1 n then Sets (setting n) else Bad

-- a setting that is a number from 0 on
abbrev pub from_zero : (ℕ → Setting) → Option ℕ → Entry
from_zero setting None = Bad
from_zero setting (Some n) = Sets (setting n)

-- the policy of this name, in capital letters
abbrev pub policy_named : List ℕ → Option Policy
policy_named name =
    if bytes_eq name (codes "DEFAULT") then Some policies.Default
    else if bytes_eq name (codes "NEVER") then Some policies.Never
    else if bytes_eq name (codes "ALWAYS") then Some policies.Always
    else if bytes_eq name (codes "DISABLE") then Some policies.Disable
    else None

-- `set policy POLICY`
abbrev pub policy_entry : Option Policy → Entry
policy_entry None = Bad
policy_entry (Some policy) = Sets (settings.Policy policy)

-- `set besteffort BEST_EFFORT`: `true` or `false`
abbrev pub best_effort_entry : Option Bool → Entry
best_effort_entry None = Bad
best_effort_entry (Some best_effort) = Sets (settings.BestEffort best_effort)

-- `set encrypt ENCRYPT`: `true` or `false`
abbrev pub encrypt_entry : Option Bool → Entry
encrypt_entry None = Bad
encrypt_entry (Some encrypt) = Sets (settings.Encrypt encrypt)

-- `set KEY VALUE` of the session's writes: from 1 to 1,000 rebuilds of a pipeline, and a window of 1 packet to 1,000
abbrev pub writing_entry : List ℕ → List ℕ → Entry
writing_entry key value =
    if bytes_eq key (codes "rebuilds") then from_one settings.Rebuilds (number 10 1001 value)
    else if bytes_eq key (codes "window") then from_one settings.Window (number 10 1001 value)
    else if bytes_eq key (codes "policy") then policy_entry (policy_named value)
    else if bytes_eq key (codes "besteffort") then best_effort_entry (flag_of value)
    else Bad

-- `set KEY VALUE` of the cluster's defaults: blocks of 1 byte to 2^63 - 1, chunks of 1 byte to 2^30, packets of fewer than 2^31, from 1
-- to 65,535 replicas, and whether data is encrypted on its way; or of the session's writes
abbrev pub default_entry : List ℕ → List ℕ → Entry
default_entry key value =
    if bytes_eq key (codes "block") then from_one settings.Block (number 10 (2 ^ 63) value)
    else if bytes_eq key (codes "chunk") then from_one settings.Chunk (number 10 (2 ^ 30 + 1) value)
    else if bytes_eq key (codes "packet") then from_zero settings.Packet (number 10 (2 ^ 31) value)
    else if bytes_eq key (codes "replication") then from_one settings.Replication (number 10 65536 value)
    else if bytes_eq key (codes "encrypt") then encrypt_entry (flag_of value)
    else writing_entry key value

-- `set KEY VALUE` of the cluster: from 1 to 16 namenodes, the number of the active one, from 1 to 64 datanodes, and the defaults; or of
-- the session's writes
abbrev pub cluster_entry : List ℕ → List ℕ → Entry
cluster_entry key value =
    if bytes_eq key (codes "namenodes") then from_one settings.Namenodes (number 10 17 value)
    else if bytes_eq key (codes "active") then from_zero settings.Active (number 10 16 value)
    else if bytes_eq key (codes "nodes") then from_one settings.Nodes (number 10 65 value)
    else default_entry key value

-- `set KEY VALUE`
abbrev pub set_entry : List ℕ → List ℕ → Entry
set_entry key value = if bytes_eq key (codes "user") then user_entry value else cluster_entry key value

-- how the set-up of a pipeline fails
abbrev pub link_kind : List ℕ → Option LinkKind
link_kind text =
    if bytes_eq text (codes "broken") then Some link_kinds.Broken
    else if bytes_eq text (codes "refused") then Some link_kinds.Refused
    else if bytes_eq text (codes "badack") then Some link_kinds.BadAck
    else None

-- `fault link N KIND`
abbrev pub link_entry : Option ℕ → Option LinkKind → Entry
link_entry (Some nth) (Some kind) = if nat_le 1 nth then Loads (lines.Fault (faults.Link nth kind)) else Bad
link_entry _ _ = Bad

-- a fault of the object with a number in its Nth call of some kind
abbrev pub node_entry : (ℕ → ℕ → FaultLine) → Option ℕ → Option ℕ → Entry
node_entry fault (Some node) (Some nth) = if nat_le 1 nth then Loads (lines.Fault (fault node nth)) else Bad
node_entry fault _ _ = Bad

-- the same of what two words write
abbrev pub node_fault : (ℕ → ℕ → FaultLine) → List ℕ → List ℕ → Entry
node_fault fault node nth = node_entry fault (number 10 (2 ^ 32) node) (number 10 (2 ^ 64) nth)

-- how a datanode fails in a read
abbrev pub read_kind : List ℕ → Option ReadKind
read_kind text =
    if bytes_eq text (codes "broken") then Some read_kinds.Broken
    else if bytes_eq text (codes "damaged") then Some read_kinds.Damaged
    else if bytes_eq text (codes "gap") then Some read_kinds.Gap
    else if bytes_eq text (codes "refused") then Some read_kinds.Refused
    else None

-- a fault of a read that is of this kind
abbrev pub read_of : ReadKind → ℕ → ℕ → FaultLine
read_of kind node nth = faults.ReadOf node nth kind

-- `fault read D N KIND`
abbrev pub read_fault : Option ReadKind → List ℕ → List ℕ → Entry
read_fault None node nth = Bad
read_fault (Some kind) node nth = node_fault (read_of kind) node nth

-- how a namenode fails an ask, but for an exception
abbrev pub ask_kind : List ℕ → Option AskKind
ask_kind text =
    if bytes_eq text (codes "lost") then Some ask_kinds.Lost
    else if bytes_eq text (codes "late") then Some ask_kinds.Late
    else if bytes_eq text (codes "false") then Some ask_kinds.FalseAnswer
    else if bytes_eq text (codes "fatal") then Some ask_kinds.Fatal
    else None

-- a fault of an ask that is of this kind
abbrev pub ask_of : AskKind → ℕ → ℕ → FaultLine
ask_of kind namenode nth = faults.Ask namenode nth kind

-- `fault ask I N KIND`
abbrev pub ask_fault : Option AskKind → List ℕ → List ℕ → Entry
ask_fault None namenode nth = Bad
ask_fault (Some kind) namenode nth = node_fault (ask_of kind) namenode nth

-- `fault ask I N exception CLASS`
abbrev pub exception_fault : List ℕ → List ℕ → List ℕ → List ℕ → Entry
exception_fault namenode nth kind class =
    if bytes_eq kind (codes "exception") && is_word class then node_fault (ask_of (ask_kinds.Exception class)) namenode nth else Bad

-- two words: `dir PATH`
abbrev pub two_words : List ℕ → List ℕ → Entry
two_words a b = if bytes_eq a (codes "dir") then dir_entry b else Bad

-- `do append PATH`, `do close PATH` or `do info PATH`
abbrev pub path_command : List ℕ → List ℕ → Entry
path_command call path =
    if bytes_eq call (codes "append") then append_entry path
    else if bytes_eq call (codes "close") then close_entry path
    else if bytes_eq call (codes "info") then info_entry path
    else Bad

-- three words: `set KEY VALUE`, or a command with its path alone
abbrev pub three_words : List ℕ → List ℕ → List ℕ → Entry
three_words a b c =
    if bytes_eq a (codes "set") then set_entry b c else if bytes_eq a (codes "do") then path_command b c else Bad

-- `fault link N KIND`, `fault ack D N` or `fault send D N`
abbrev pub fault_entry : List ℕ → List ℕ → List ℕ → Entry
fault_entry call a b =
    if bytes_eq call (codes "link") then link_entry (number 10 (2 ^ 64) a) (link_kind b)
    else if bytes_eq call (codes "ack") then node_fault faults.AckOf a b
    else if bytes_eq call (codes "send") then node_fault faults.SendTo a b
    else Bad

-- `do write PATH HEX` or `do delete PATH RECURSIVE`
abbrev pub word_command : List ℕ → List ℕ → List ℕ → Entry
word_command call path a =
    if bytes_eq call (codes "write") then write_entry path (hex_bytes a)
    else if bytes_eq call (codes "delete") then delete_entry path (flag_of a)
    else Bad

-- four words: a fault of a pipeline, or a command with its path and a word more
abbrev pub four_words : List ℕ → List ℕ → List ℕ → List ℕ → Entry
four_words a b c d =
    if bytes_eq a (codes "fault") then fault_entry b c d else if bytes_eq a (codes "do") then word_command b c d else Bad

-- `do read PATH OFFSET LEN`, `do mkdirs PATH PERM PARENT` or `do list PATH RECURSIVE LIMIT`
abbrev pub words_command : List ℕ → List ℕ → List ℕ → List ℕ → Entry
words_command call path a b =
    if bytes_eq call (codes "read") then read_entry path (number 10 (2 ^ 64) a) (number 10 (2 ^ 64) b)
    else if bytes_eq call (codes "mkdirs") then mkdirs_entry path (number 8 (2 ^ 32) a) (flag_of b)
    else if bytes_eq call (codes "list") then list_entry path (flag_of a) (number 10 (2 ^ 64) b)
    else Bad

-- five words: `fault read D N KIND`, `fault ask I N KIND`, a command with its path and two words more, or `short PATH K D LEN`
abbrev pub five_words : List ℕ → List ℕ → List ℕ → List ℕ → List ℕ → Entry
five_words a b c d e =
    if bytes_eq a (codes "fault") && bytes_eq b (codes "read") then read_fault (read_kind e) c d
    else if bytes_eq a (codes "fault") && bytes_eq b (codes "ask") then ask_fault (ask_kind e) c d
    else if bytes_eq a (codes "do") then words_command b c d e
    else if bytes_eq a (codes "short") then short_entry b c d e
    else Bad

-- six words: `file PATH PERM REPL BLOCK HEX` or `fault ask I N exception CLASS`
abbrev pub six_words : List ℕ → List ℕ → List ℕ → List ℕ → List ℕ → List ℕ → Entry
six_words a b c d e f =
    if bytes_eq a (codes "file") then file_entry b (attributes_of c d e) (hex_bytes f)
    else if bytes_eq a (codes "fault") && bytes_eq b (codes "ask") then exception_fault c d e f
    else Bad

-- The entry that the words of a line are. Eight words are a new file.
abbrev pub words_entry : List (List ℕ) → Entry
words_entry (a ∷ b ∷ c ∷ d ∷ e ∷ f ∷ g ∷ h ∷ []) =
    if bytes_eq a (codes "do") && bytes_eq b (codes "create") then create_entry c (options_of d e f g h) else Bad
words_entry (a ∷ b ∷ c ∷ d ∷ e ∷ f ∷ []) = six_words a b c d e f
words_entry (a ∷ b ∷ c ∷ d ∷ e ∷ []) = five_words a b c d e
words_entry (a ∷ b ∷ c ∷ d ∷ []) = four_words a b c d
words_entry (a ∷ b ∷ c ∷ []) = three_words a b c
words_entry (a ∷ b ∷ []) = two_words a b
words_entry words = Bad

-- an empty line, a comment, or words with one space between them
abbrev pub ascii_entry : List ℕ → Entry
ascii_entry [] = Blank
ascii_entry (c ∷ rest) = if c == 35 then Blank else words_entry (slice_split (λ b. b == 32) (c ∷ rest))

-- what a line says, which is bad where a byte isn't ASCII
abbrev pub entry_of : List ℕ → Entry
entry_of line = if list_all (λ b. nat_lt b 128) line then ascii_entry line else Bad
