-- How the calls of a series are counted.
use Rattle.std.specs.Prelude.{ℕ, zero, suc, ◌+◌, ◌-◌, ◌^◌, min, nat_lt, Bool, true, false, ◌&&◌, List, Option, Some, None, if◌then◌else◌}
use Rattle.std.specs.Str.{bytes_eq}
use Rattle.hdfs_cluster.specs.declared.store.LinkKind.{LinkKind}
use Rattle.hdfs_cluster.specs.declared.store.LinkKind.TheVariants as link_kinds

-- how many of the first so many numbers are planned
abbrev pub fails_in : (ℕ → Bool) → ℕ → ℕ
fails_in planned zero = 0
fails_in planned (suc n) = fails_in planned n + (if planned (suc n) then 1 else 0)

-- how many calls there were after one more; from number 2^64 on none is counted
abbrev pub after_one : ℕ → ℕ
after_one calls = min (calls + 1) (2 ^ 64 - 1)

-- whether the next call is planned to fail; from number 2^64 on none is
abbrev pub next_fails : (ℕ → Bool) → ℕ → Bool
next_fails planned calls = nat_lt (calls + 1) (2 ^ 64) && planned (calls + 1)

-- how the next call fails; from number 2^64 on none does
abbrev pub next_kind : {K : Type 0} → (ℕ → Option K) → ℕ → Option K
next_kind kinds calls = if nat_lt (calls + 1) (2 ^ 64) then kinds (calls + 1) else None

-- what a failed call adds to a count
abbrev pub one_if : Bool → ℕ
one_if fails = if fails then 1 else 0

-- the set-up fails, and that is seen at once
abbrev pub is_at_once : Option LinkKind → Bool
is_at_once None = false
is_at_once (Some link_kinds.Broken) = true
is_at_once (Some link_kinds.Refused) = true
is_at_once (Some link_kinds.BadAck) = false

-- the set-up succeeds, and the link's first acknowledgement is bad
abbrev pub is_bad_ack : Option LinkKind → Bool
is_bad_ack None = false
is_bad_ack (Some link_kinds.Broken) = false
is_bad_ack (Some link_kinds.Refused) = false
is_bad_ack (Some link_kinds.BadAck) = true

-- the failure of a set-up is put down to this datanode: to the one that is named with it, if one is
abbrev pub is_first : Option (List ℕ) → List ℕ → Bool
is_first None d = false
is_first (Some first) d = bytes_eq first d
