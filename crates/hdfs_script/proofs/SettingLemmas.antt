-- The settings of a script are in their limits, since each line's are.
use Rattle.std.proofs.Common.{◌≡◌, ℕ, ◌+◌, ◌^◌, ◌<◌, ◌≤◌, Bool, true, false, ◌&&◌, ◌==◌, nat_le, nat_lt, List, [], ◌∷◌, length, take, map, Option, Some, None, IfSome, if◌then◌else◌, codes, refl, sym, subst, arith, lit≤, lit<}
use Rattle.std.specs.List.{list_all, slice_split}
use Rattle.std.specs.Str.{bytes_eq}
use Rattle.std.proofs.lemmas.Bool.Decides.{nat_tests}
use Rattle.hdfs_cluster.specs.declared.attributes.Attributes.{Attributes}
use Rattle.hdfs_model.specs.declared.commands.WriteOptions.{WriteOptions}
use Rattle.hdfs_cluster.specs.declared.store.AskKind.{AskKind}
use Rattle.hdfs_cluster.specs.declared.store.AskKind.TheVariants as ask_kinds
use Rattle.hdfs_cluster.specs.declared.store.FaultLine.{FaultLine}
use Rattle.hdfs_cluster.specs.declared.store.FaultLine.TheVariants as faults
use Rattle.hdfs_cluster.specs.declared.store.LinkKind.{LinkKind}
use Rattle.hdfs_cluster.specs.declared.store.ReadKind.{ReadKind}
use Rattle.hdfs_cluster.specs.Limits.{is_block_size, is_replication}
use Rattle.hdfs_model.specs.Limits.{are_settings, is_small}
use Rattle.hdfs_cluster.specs.Loading.{AreValid}
use Rattle.hdfs_names.specs.declared.replacement.Policy.{Policy}
use Rattle.hdfs_script.specs.declared.entry.Entry.{Entry}
use Rattle.hdfs_script.specs.declared.entry.Entry.TheVariants.{Blank, Sets, Loads, Runs, Bad}
use Rattle.hdfs_script.specs.declared.entry.Place.{Place}
use Rattle.hdfs_script.specs.declared.entry.ScriptSettings.{ScriptSettings}
use Rattle.hdfs_script.specs.declared.entry.Setting.{Setting}
use Rattle.hdfs_script.specs.declared.entry.Setting.TheVariants as settings
use Rattle.hdfs_script.specs.Commands.{create_entry, delete_entry, flag_of, list_entry, mkdirs_entry, options_of, read_entry, write_entry}
use Rattle.hdfs_script.specs.Entries.{ascii_entry, ask_fault, ask_kind, ask_of, attributes_of, best_effort_entry, cluster_entry, default_entry, encrypt_entry, entry_of, exception_fault, fault_entry, file_entry, from_one, from_zero, link_entry, link_kind, node_entry, node_fault, policy_entry, policy_named, read_fault, read_kind, read_of, set_entry, short_entry, short_of, three_words, path_command, word_command, words_command, words_entry, writing_entry}
use Rattle.hdfs_script.specs.Numbers.{hex_bytes, is_number, number, value_from}
use Rattle.hdfs_script.specs.Parsing.{good_front}
use Rattle.hdfs_script.specs.Scripts.{ends_bad, entries_in, first_place, line_entries, may_set, may_stand, no_settings, place_behind, script_limit, session_settings, settings_from, with_setting}
use Rattle.hdfs_script.specs.Words.{is_word}

-- a setting is in its limits
abbrev IsAllowed : Setting → Type 0
IsAllowed (settings.User name) = Unit {0}
IsAllowed (settings.Namenodes n) = (0 < n) × (n ≤ 16)
IsAllowed (settings.Active i) = Unit {0}
IsAllowed (settings.Nodes n) = (0 < n) × (n ≤ 64)
IsAllowed (settings.Block n) = is_block_size n ≡ true
IsAllowed (settings.Chunk n) = (0 < n) × (n ≤ 2 ^ 30)
IsAllowed (settings.Packet n) = n < 2 ^ 31
IsAllowed (settings.Replication n) = is_replication n ≡ true
IsAllowed (settings.Encrypt encrypt) = Unit {0}
IsAllowed (settings.Rebuilds n) = is_small n ≡ true
IsAllowed (settings.Window n) = is_small n ≡ true
IsAllowed (settings.Policy policy) = Unit {0}
IsAllowed (settings.BestEffort best_effort) = Unit {0}

-- what an entry sets is in its limits
abbrev SetsAllowed : Entry → Type 0
SetsAllowed (Sets setting) = IsAllowed setting
SetsAllowed _ = Unit {0}

-- so is what each of them sets
abbrev AllAllowed : List Entry → Type 0
AllAllowed [] = Unit {0}
AllAllowed (entry ∷ rest) = SetsAllowed entry × AllAllowed rest

-- a choice of two entries
allowed_if : (b : Bool) (x y : Entry) → SetsAllowed x → SetsAllowed y → SetsAllowed (if b then x else y)
allowed_if true x y one two = one
allowed_if false x y one two = two

-- a number is below its limit
number_below : (base limit : ℕ) (text : List ℕ) → IfSome (number base limit text) (λ n. n < limit)
number_below base limit text = by_tests (is_number base text) (nat_lt (value_from base 0 text) limit) refl
  where
    by_tests : (digits fits : Bool) → nat_lt (value_from base 0 text) limit ≡ fits → IfSome (if digits && fits then Some (value_from base 0 text) else None) (λ n. n < limit)
    by_tests true true is = grind (arith, nat_tests)
    by_tests true false is = tt
    by_tests false fits is = tt

-- a number with a limit, from 1 on and from 0 on
allowed_from_one : (setting : ℕ → Setting) (limit : ℕ) → ((n : ℕ) → 0 < n → n < limit → IsAllowed (setting n)) → (found : Option ℕ) → IfSome found (λ n. n < limit) → SetsAllowed (from_one setting found)
allowed_from_one setting limit allowed None below = tt
allowed_from_one setting limit allowed (Some n) below = by_test (nat_le 1 n) refl
  where
    by_test : (some : Bool) → nat_le 1 n ≡ some → SetsAllowed (if some then Sets (setting n) else Bad)
    by_test true is = allowed n (grind (arith, nat_tests)) below
    by_test false is = tt

allowed_from_zero : (setting : ℕ → Setting) (limit : ℕ) → ((n : ℕ) → n < limit → IsAllowed (setting n)) → (found : Option ℕ) → IfSome found (λ n. n < limit) → SetsAllowed (from_zero setting found)
allowed_from_zero setting limit allowed None below = tt
allowed_from_zero setting limit allowed (Some n) below = allowed n below

-- the limits of a block size, of a replication, and of a small number
block_size_allowed : (n : ℕ) → 0 < n → n < 2 ^ 63 → is_block_size n ≡ true
block_size_allowed n some below = grind (arith, nat_tests)

replication_allowed : (n : ℕ) → 0 < n → n < 65536 → is_replication n ≡ true
replication_allowed n some below = grind (arith, nat_tests)

small_allowed : (n : ℕ) → 0 < n → n < 1001 → is_small n ≡ true
small_allowed n some below = grind (arith, nat_tests)

-- encryption, a policy, and best effort
allowed_encrypt : (found : Option Bool) → SetsAllowed (encrypt_entry found)
allowed_encrypt None = tt
allowed_encrypt (Some encrypt) = tt

allowed_policy : (found : Option Policy) → SetsAllowed (policy_entry found)
allowed_policy None = tt
allowed_policy (Some policy) = tt

allowed_best_effort : (found : Option Bool) → SetsAllowed (best_effort_entry found)
allowed_best_effort None = tt
allowed_best_effort (Some best_effort) = tt

-- a line that sets something of the session's writes,
allowed_writing : (key value : List ℕ) → SetsAllowed (writing_entry key value)
allowed_writing key value =
    allowed_if (bytes_eq key (codes "rebuilds")) _ _
    (allowed_from_one settings.Rebuilds 1001 small_allowed (number 10 1001 value) (number_below 10 1001 value))
    (allowed_if (bytes_eq key (codes "window")) _ _
    (allowed_from_one settings.Window 1001 small_allowed (number 10 1001 value) (number_below 10 1001 value))
    (allowed_if (bytes_eq key (codes "policy")) _ _ (allowed_policy (policy_named value))
    (allowed_if (bytes_eq key (codes "besteffort")) _ _ (allowed_best_effort (flag_of value)) tt)))

-- or a default of the cluster,
allowed_default : (key value : List ℕ) → SetsAllowed (default_entry key value)
allowed_default key value =
    allowed_if (bytes_eq key (codes "block")) _ _
    (allowed_from_one settings.Block (2 ^ 63) block_size_allowed (number 10 (2 ^ 63) value) (number_below 10 (2 ^ 63) value))
    (allowed_if (bytes_eq key (codes "chunk")) _ _
    (allowed_from_one settings.Chunk (2 ^ 30 + 1) (λ n some below. (some, omega (arith, below))) (number 10 (2 ^ 30 + 1) value) (number_below 10 (2 ^ 30 + 1) value))
    (allowed_if (bytes_eq key (codes "packet")) _ _
    (allowed_from_zero settings.Packet (2 ^ 31) (λ n below. below) (number 10 (2 ^ 31) value) (number_below 10 (2 ^ 31) value))
    (allowed_if (bytes_eq key (codes "replication")) _ _
    (allowed_from_one settings.Replication 65536 replication_allowed (number 10 65536 value) (number_below 10 65536 value))
    (allowed_if (bytes_eq key (codes "encrypt")) _ _ (allowed_encrypt (flag_of value)) (allowed_writing key value)))))

-- or another setting of the cluster,
allowed_cluster : (key value : List ℕ) → SetsAllowed (cluster_entry key value)
allowed_cluster key value =
    allowed_if (bytes_eq key (codes "namenodes")) _ _
    (allowed_from_one settings.Namenodes 17 (λ n some below. (some, omega (arith, below))) (number 10 17 value) (number_below 10 17 value))
    (allowed_if (bytes_eq key (codes "active")) _ _
    (allowed_from_zero settings.Active 16 (λ i below. tt) (number 10 16 value) (number_below 10 16 value))
    (allowed_if (bytes_eq key (codes "nodes")) _ _
    (allowed_from_one settings.Nodes 65 (λ n some below. (some, omega (arith, below))) (number 10 65 value) (number_below 10 65 value))
    (allowed_default key value)))

-- or the user
allowed_set : (key value : List ℕ) → SetsAllowed (set_entry key value)
allowed_set key value =
    allowed_if (bytes_eq key (codes "user")) _ _ (allowed_if (nat_le 1 (length value) && list_all _ value) _ _ tt tt) (allowed_cluster key value)

-- The other lines set nothing: a fault,
allowed_link : (nth : Option ℕ) (kind : Option LinkKind) → SetsAllowed (link_entry nth kind)
allowed_link None kind = tt
allowed_link (Some nth) None = tt
allowed_link (Some nth) (Some kind) = allowed_if (nat_le 1 nth) _ _ tt tt

allowed_node : (fault : ℕ → ℕ → FaultLine) (node nth : Option ℕ) → SetsAllowed (node_entry fault node nth)
allowed_node fault None nth = tt
allowed_node fault (Some node) None = tt
allowed_node fault (Some node) (Some nth) = allowed_if (nat_le 1 nth) _ _ tt tt

allowed_call : (fault : ℕ → ℕ → FaultLine) (node nth : List ℕ) → SetsAllowed (node_fault fault node nth)
allowed_call fault node nth = allowed_node fault (number 10 (2 ^ 32) node) (number 10 (2 ^ 64) nth)

allowed_read_fault : (kind : Option ReadKind) (node nth : List ℕ) → SetsAllowed (read_fault kind node nth)
allowed_read_fault None node nth = tt
allowed_read_fault (Some kind) node nth = allowed_call (read_of kind) node nth

allowed_ask_fault : (kind : Option AskKind) (namenode nth : List ℕ) → SetsAllowed (ask_fault kind namenode nth)
allowed_ask_fault None namenode nth = tt
allowed_ask_fault (Some kind) namenode nth = allowed_call (ask_of kind) namenode nth

allowed_exception : (namenode nth kind class : List ℕ) → SetsAllowed (exception_fault namenode nth kind class)
allowed_exception namenode nth kind class =
    allowed_if (bytes_eq kind (codes "exception") && is_word class) _ _ (allowed_call (ask_of (ask_kinds.Exception class)) namenode nth) tt

-- a file,
allowed_file : (path : List ℕ) (attributes : Option Attributes) (bytes : Option (List ℕ)) → SetsAllowed (file_entry path attributes bytes)
allowed_file path None bytes = tt
allowed_file path (Some attributes) None = tt
allowed_file path (Some attributes) (Some bytes) = allowed_if (is_word path) _ _ tt tt

-- a short replica,
allowed_short_of : (path : List ℕ) (block node len : Option ℕ) → SetsAllowed (short_of path block node len)
allowed_short_of path None node len = tt
allowed_short_of path (Some block) None len = tt
allowed_short_of path (Some block) (Some node) None = tt
allowed_short_of path (Some block) (Some node) (Some len) = allowed_if (is_word path) _ _ tt tt

allowed_short : (path block node len : List ℕ) → SetsAllowed (short_entry path block node len)
allowed_short path block node len = allowed_short_of path (number 10 (2 ^ 32) block) (number 10 (2 ^ 32) node) (number 10 (2 ^ 64) len)

-- a command.
allowed_create : (path : List ℕ) (options : Option WriteOptions) → SetsAllowed (create_entry path options)
allowed_create path None = tt
allowed_create path (Some options) = allowed_if (is_word path) _ _ tt tt

allowed_write : (path : List ℕ) (bytes : Option (List ℕ)) → SetsAllowed (write_entry path bytes)
allowed_write path None = tt
allowed_write path (Some bytes) = allowed_if (is_word path) _ _ tt tt

allowed_read : (path : List ℕ) (offset len : Option ℕ) → SetsAllowed (read_entry path offset len)
allowed_read path None len = tt
allowed_read path (Some offset) None = tt
allowed_read path (Some offset) (Some len) = allowed_if (is_word path) _ _ tt tt

allowed_mkdirs : (path : List ℕ) (permission : Option ℕ) (create_parent : Option Bool) → SetsAllowed (mkdirs_entry path permission create_parent)
allowed_mkdirs path None create_parent = tt
allowed_mkdirs path (Some permission) None = tt
allowed_mkdirs path (Some permission) (Some create_parent) = allowed_if (is_word path) _ _ tt tt

allowed_delete : (path : List ℕ) (recursive : Option Bool) → SetsAllowed (delete_entry path recursive)
allowed_delete path None = tt
allowed_delete path (Some recursive) = allowed_if (is_word path) _ _ tt tt

allowed_list : (path : List ℕ) (recursive : Option Bool) (limit : Option ℕ) → SetsAllowed (list_entry path recursive limit)
allowed_list path None limit = tt
allowed_list path (Some recursive) None = tt
allowed_list path (Some recursive) (Some limit) = allowed_if (is_word path) _ _ tt tt

allowed_path_command : (call path : List ℕ) → SetsAllowed (path_command call path)
allowed_path_command call path =
    allowed_if (bytes_eq call (codes "append")) _ _ (allowed_if (is_word path) _ _ tt tt)
    (allowed_if (bytes_eq call (codes "close")) _ _ (allowed_if (is_word path) _ _ tt tt)
    (allowed_if (bytes_eq call (codes "info")) _ _ (allowed_if (is_word path) _ _ tt tt) tt))

allowed_word_command : (call path a : List ℕ) → SetsAllowed (word_command call path a)
allowed_word_command call path a =
    allowed_if (bytes_eq call (codes "write")) _ _ (allowed_write path (hex_bytes a))
    (allowed_if (bytes_eq call (codes "delete")) _ _ (allowed_delete path (flag_of a)) tt)

allowed_words_command : (call path a b : List ℕ) → SetsAllowed (words_command call path a b)
allowed_words_command call path a b =
    allowed_if (bytes_eq call (codes "read")) _ _ (allowed_read path (number 10 (2 ^ 64) a) (number 10 (2 ^ 64) b))
    (allowed_if (bytes_eq call (codes "mkdirs")) _ _ (allowed_mkdirs path (number 8 (2 ^ 32) a) (flag_of b))
    (allowed_if (bytes_eq call (codes "list")) _ _ (allowed_list path (flag_of a) (number 10 (2 ^ 64) b)) tt))

-- lines of three words and more
allowed_fault : (call a b : List ℕ) → SetsAllowed (fault_entry call a b)
allowed_fault call a b =
    allowed_if (bytes_eq call (codes "link")) _ _ (allowed_link (number 10 (2 ^ 64) a) (link_kind b))
    (allowed_if (bytes_eq call (codes "ack")) _ _ (allowed_call faults.AckOf a b)
    (allowed_if (bytes_eq call (codes "send")) _ _ (allowed_call faults.SendTo a b) tt))

allowed_three : (a b c : List ℕ) → SetsAllowed (three_words a b c)
allowed_three a b c =
    allowed_if (bytes_eq a (codes "set")) _ _ (allowed_set b c)
    (allowed_if (bytes_eq a (codes "do")) _ _ (allowed_path_command b c) tt)

allowed_words : (words : List (List ℕ)) → SetsAllowed (words_entry words)
allowed_words [] = tt
allowed_words (a ∷ []) = tt
allowed_words (a ∷ b ∷ []) = allowed_if (bytes_eq a (codes "dir")) _ _ (allowed_if (is_word b) _ _ tt tt) tt
allowed_words (a ∷ b ∷ c ∷ []) = allowed_three a b c
allowed_words (a ∷ b ∷ c ∷ d ∷ []) =
    allowed_if (bytes_eq a (codes "fault")) _ _ (allowed_fault b c d)
    (allowed_if (bytes_eq a (codes "do")) _ _ (allowed_word_command b c d) tt)
allowed_words (a ∷ b ∷ c ∷ d ∷ e ∷ []) =
    allowed_if (bytes_eq a (codes "fault") && bytes_eq b (codes "read")) _ _ (allowed_read_fault (read_kind e) c d)
    (allowed_if (bytes_eq a (codes "fault") && bytes_eq b (codes "ask")) _ _ (allowed_ask_fault (ask_kind e) c d)
    (allowed_if (bytes_eq a (codes "do")) _ _ (allowed_words_command b c d e)
    (allowed_if (bytes_eq a (codes "short")) _ _ (allowed_short b c d e) tt)))
allowed_words (a ∷ b ∷ c ∷ d ∷ e ∷ f ∷ []) =
    allowed_if (bytes_eq a (codes "file")) _ _ (allowed_file b (attributes_of c d e) (hex_bytes f))
    (allowed_if (bytes_eq a (codes "fault") && bytes_eq b (codes "ask")) _ _ (allowed_exception c d e f) tt)
allowed_words (a ∷ b ∷ c ∷ d ∷ e ∷ f ∷ g ∷ []) = tt
allowed_words (a ∷ b ∷ c ∷ d ∷ e ∷ f ∷ g ∷ h ∷ []) =
    allowed_if (bytes_eq a (codes "do") && bytes_eq b (codes "create")) _ _ (allowed_create c (options_of d e f g h)) tt
allowed_words (a ∷ b ∷ c ∷ d ∷ e ∷ f ∷ g ∷ h ∷ i ∷ rest) = tt

allowed_ascii : (line : List ℕ) → SetsAllowed (ascii_entry line)
allowed_ascii [] = tt
allowed_ascii (c ∷ rest) = allowed_if (c == 35) Blank _ tt (allowed_words (slice_split (λ b. b == 32) (c ∷ rest)))

-- what a line sets is in its limits
allowed_entry : (line : List ℕ) → SetsAllowed (entry_of line)
allowed_entry line = allowed_if (list_all (λ b. nat_lt b 128) line) (ascii_entry line) Bad (allowed_ascii line) tt

-- and so in all entries of a script, also up to the first bad line
allowed_lines : (pieces : List (List ℕ)) → AllAllowed (map entry_of pieces)
allowed_lines [] = tt
allowed_lines (line ∷ rest) = (allowed_entry line, allowed_lines rest)

allowed_ends : (entries : List Entry) → AllAllowed entries → AllAllowed (ends_bad entries)
allowed_ends [] all = tt
allowed_ends (entry ∷ []) all = (tt, tt)
allowed_ends (entry ∷ next ∷ rest) all = (all.0, allowed_ends (next ∷ rest) all.1)

allowed_script : (bytes : List ℕ) → AllAllowed (entries_in bytes)
allowed_script bytes = by_length (nat_le (length bytes) script_limit)
  where
    by_length : (short : Bool) → AllAllowed (if short then line_entries bytes else ends_bad (line_entries (take script_limit bytes)))
    by_length true = allowed_lines (slice_split (λ b. b == 10) bytes)
    by_length false = allowed_ends (line_entries (take script_limit bytes)) (allowed_lines (slice_split (λ b. b == 10) (take script_limit bytes)))

allowed_front : (place : Place) (entries : List Entry) → AllAllowed entries → AllAllowed (good_front place entries)
allowed_front place [] all = tt
allowed_front place (entry ∷ rest) all = by_place (may_stand place entry) (allowed_front (place_behind place entry) rest all.1)
  where
    by_place : (stands : Bool) → AllAllowed (good_front (place_behind place entry) rest) → AllAllowed (if stands then entry ∷ good_front (place_behind place entry) rest else [])
    by_place true front = (all.0, front)
    by_place false front = tt

-- the settings have as many namenodes as there are at a place, and the same one is active
abbrev SameNumbers : ScriptSettings → Place → Type 0
SameNumbers given place = (given.cluster.namenodes ≡ place.namenodes) × (given.cluster.active ≡ place.active)

-- and so behind a setting
same_with : (given : ScriptSettings) (place : Place) (setting : Setting) → SameNumbers given place → SameNumbers (with_setting given setting) (place_behind place (Sets setting))
same_with given place (settings.User name) same = same
same_with given place (settings.Namenodes n) same = (refl, same.1)
same_with given place (settings.Active i) same = (same.0, refl)
same_with given place (settings.Nodes n) same = same
same_with given place (settings.Block n) same = same
same_with given place (settings.Chunk n) same = same
same_with given place (settings.Packet n) same = same
same_with given place (settings.Replication n) same = same
same_with given place (settings.Encrypt encrypt) same = same
same_with given place (settings.Rebuilds n) same = same
same_with given place (settings.Window n) same = same
same_with given place (settings.Policy policy) same = same
same_with given place (settings.BestEffort best_effort) same = same

-- valid settings stay so with one of them given anew that may stand there
valid_with : (given : ScriptSettings) (place : Place) (setting : Setting) → IsAllowed setting → may_set place setting ≡ true → SameNumbers given place → AreValid given.cluster
    → AreValid (with_setting given setting).cluster
valid_with given place (settings.User name) allowed stands same valid = valid
valid_with given place (settings.Namenodes n) allowed stands same valid = record {
  active = grind (arith, nat_tests);
  namenodes = allowed.1;
  some = valid.some;
  nodes = valid.nodes;
  replication = valid.replication;
  block_size = valid.block_size;
  chunk = valid.chunk;
  bound = valid.bound;
  packet = valid.packet;
}
valid_with given place (settings.Active i) allowed stands same valid = record {
  active = grind (arith, nat_tests);
  namenodes = valid.namenodes;
  some = valid.some;
  nodes = valid.nodes;
  replication = valid.replication;
  block_size = valid.block_size;
  chunk = valid.chunk;
  bound = valid.bound;
  packet = valid.packet;
}
valid_with given place (settings.Nodes n) allowed stands same valid = record {
  active = valid.active;
  namenodes = valid.namenodes;
  some = allowed.0;
  nodes = allowed.1;
  replication = valid.replication;
  block_size = valid.block_size;
  chunk = valid.chunk;
  bound = valid.bound;
  packet = valid.packet;
}
valid_with given place (settings.Block n) allowed stands same valid = record {
  active = valid.active;
  namenodes = valid.namenodes;
  some = valid.some;
  nodes = valid.nodes;
  replication = valid.replication;
  block_size = allowed;
  chunk = valid.chunk;
  bound = valid.bound;
  packet = valid.packet;
}
valid_with given place (settings.Chunk n) allowed stands same valid = record {
  active = valid.active;
  namenodes = valid.namenodes;
  some = valid.some;
  nodes = valid.nodes;
  replication = valid.replication;
  block_size = valid.block_size;
  chunk = allowed.0;
  bound = allowed.1;
  packet = valid.packet;
}
valid_with given place (settings.Packet n) allowed stands same valid = record {
  active = valid.active;
  namenodes = valid.namenodes;
  some = valid.some;
  nodes = valid.nodes;
  replication = valid.replication;
  block_size = valid.block_size;
  chunk = valid.chunk;
  bound = valid.bound;
  packet = allowed;
}
valid_with given place (settings.Replication n) allowed stands same valid = record {
  active = valid.active;
  namenodes = valid.namenodes;
  some = valid.some;
  nodes = valid.nodes;
  replication = allowed;
  block_size = valid.block_size;
  chunk = valid.chunk;
  bound = valid.bound;
  packet = valid.packet;
}
valid_with given place (settings.Encrypt encrypt) allowed stands same valid = record {
  active = valid.active;
  namenodes = valid.namenodes;
  some = valid.some;
  nodes = valid.nodes;
  replication = valid.replication;
  block_size = valid.block_size;
  chunk = valid.chunk;
  bound = valid.bound;
  packet = valid.packet;
}
valid_with given place (settings.Rebuilds n) allowed stands same valid = valid
valid_with given place (settings.Window n) allowed stands same valid = valid
valid_with given place (settings.Policy policy) allowed stands same valid = valid
valid_with given place (settings.BestEffort best_effort) allowed stands same valid = valid

-- an entry that sets something and may stand there leaves a namenode that is active
set_from_stand : (place : Place) (setting : Setting) → may_stand place (Sets setting) ≡ true → may_set place setting ≡ true
set_from_stand place setting stands = by_part (nat_le place.part 0) (may_set place setting) stands
  where
    by_part : (part set : Bool) → part && set ≡ true → set ≡ true
    by_part true set both = both
    by_part false set both = absurd (cc)

-- an entry and those behind it, where it may stand there and where not
valid_if : (given : ScriptSettings) (stands : Bool) (front : List Entry) → AreValid given.cluster → (stands ≡ true → AreValid (settings_from given front).cluster) → AreValid (settings_from given (if stands then front else [])).cluster
valid_if given true front valid there = there refl
valid_if given false front valid there = valid

-- valid settings stay so with all that is set up to the first bad line
valid_front : (given : ScriptSettings) (place : Place) (entries : List Entry) → AllAllowed entries → SameNumbers given place → AreValid given.cluster
    → AreValid (settings_from given (good_front place entries)).cluster
valid_front given place [] all same valid = valid
valid_front given place (Sets setting ∷ rest) all same valid =
    valid_if given (may_stand place (Sets setting)) (Sets setting ∷ good_front (place_behind place (Sets setting)) rest) valid
    (λ stands. valid_front (with_setting given setting) (place_behind place (Sets setting)) rest all.1 (same_with given place setting same)
    (valid_with given place setting all.0 (set_from_stand place setting stands) same valid))
valid_front given place (Blank ∷ rest) all same valid =
    valid_if given (may_stand place Blank) (Blank ∷ good_front (place_behind place Blank) rest) valid
    (λ stands. valid_front given (place_behind place Blank) rest all.1 same valid)
valid_front given place (Loads line ∷ rest) all same valid =
    valid_if given (may_stand place (Loads line)) (Loads line ∷ good_front (place_behind place (Loads line)) rest) valid
    (λ stands. valid_front given (place_behind place (Loads line)) rest all.1 same valid)
valid_front given place (Runs command ∷ rest) all same valid =
    valid_if given (may_stand place (Runs command)) (Runs command ∷ good_front (place_behind place (Runs command)) rest) valid
    (λ stands. valid_front given (place_behind place (Runs command)) rest all.1 same valid)
valid_front given place (Bad ∷ rest) all same valid = valid

-- the numbers of a script's session are in their limits
abbrev AreSmall : ScriptSettings → Type 0
AreSmall given = (is_small given.rebuild_limit ≡ true) × (is_small given.window ≡ true)

-- and stay so with one of the settings given anew, and with all that entries set
small_with : (given : ScriptSettings) (setting : Setting) → IsAllowed setting → AreSmall given → AreSmall (with_setting given setting)
small_with given (settings.User name) allowed small = small
small_with given (settings.Namenodes n) allowed small = small
small_with given (settings.Active i) allowed small = small
small_with given (settings.Nodes n) allowed small = small
small_with given (settings.Block n) allowed small = small
small_with given (settings.Chunk n) allowed small = small
small_with given (settings.Packet n) allowed small = small
small_with given (settings.Replication n) allowed small = small
small_with given (settings.Encrypt encrypt) allowed small = small
small_with given (settings.Rebuilds n) allowed small = (allowed, small.1)
small_with given (settings.Window n) allowed small = (small.0, allowed)
small_with given (settings.Policy policy) allowed small = small
small_with given (settings.BestEffort best_effort) allowed small = small

small_from : (given : ScriptSettings) (entries : List Entry) → AllAllowed entries → AreSmall given → AreSmall (settings_from given entries)
small_from given [] all small = small
small_from given (Sets setting ∷ rest) all small = small_from (with_setting given setting) rest all.1 (small_with given setting all.0 small)
small_from given (Blank ∷ rest) all small = small_from given rest all.1 small
small_from given (Loads line ∷ rest) all small = small_from given rest all.1 small
small_from given (Runs command ∷ rest) all small = small_from given rest all.1 small
small_from given (Bad ∷ rest) all small = small_from given rest all.1 small

-- the settings of a script that sets nothing
valid_none : AreValid no_settings.cluster
valid_none = record {
  active = lit< tt;
  namenodes = lit≤ tt;
  some = lit< tt;
  nodes = lit≤ tt;
  replication = refl;
  block_size = refl;
  chunk = lit< tt;
  bound = lit≤ tt;
  packet = lit< tt;
}

-- A store can be made with the settings that a script gives.
pub valid_settings : (bytes : List ℕ) (given : ScriptSettings) → given ≡ settings_from no_settings (good_front first_place (entries_in bytes)) → AreValid given.cluster
valid_settings bytes given is =
    subst (λ (s : ScriptSettings). AreValid s.cluster) (sym is)
    (valid_front no_settings first_place (entries_in bytes) (allowed_script bytes) (refl, refl) valid_none)

-- A session can be run with them.
pub limited_settings : (bytes : List ℕ) (given : ScriptSettings) → given ≡ settings_from no_settings (good_front first_place (entries_in bytes)) → are_settings (session_settings given) ≡ true
limited_settings bytes given is =
    let small : AreSmall given = subst AreSmall (sym is)
    (small_from no_settings (good_front first_place (entries_in bytes)) (allowed_front first_place (entries_in bytes) (allowed_script bytes)) (refl, refl)) in
    rw (small.0, small.1) refl
