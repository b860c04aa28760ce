-- What the calls of a `Tally` do.
use Rattle.std.specs.Prelude.{◌≡◌, ℕ, ◌+◌, ◌≤◌, nat_lt, Bool, ◌&&◌, ◌==◌, Option, Some, None, is_some, if◌then◌else◌}
use Rattle.std.specs.Option.{option_or}
use Rattle.std.specs.Ordering.{nat_cmp}
use Rattle.std.specs.BTreeMap.{get}
use Rattle.hdfs_mem_faults.specs.declared.tally.Tally.{Tally}
use Rattle.hdfs_mem_faults.specs.Calls.{after_one, next_fails, one_if}

-- how a number is planned to fail
abbrev pub kind_planned : {K : Type 0} → Tally K → ℕ → Option K
kind_planned tally nth = get nat_cmp tally.planned nth

-- whether it is
abbrev pub is_planned : {K : Type 0} → Tally K → ℕ → Bool
is_planned tally nth = is_some (kind_planned tally nth)

-- one more call was counted: it fails exactly where its number is planned, and then one more has failed
pub record Counted {K : Type 0} (old : Tally K) (fails : Bool) (new : Tally K) : Type 0 where
  pub calls : new.calls ≡ after_one old.calls
  pub grows : old.calls ≤ new.calls
  pub as_planned : fails ≡ next_fails (is_planned old) old.calls
  pub failed : new.failed ≡ old.failed + one_if fails
  pub kinds : (nth : ℕ) → kind_planned new nth ≡ kind_planned old nth

-- nothing but this number was planned, and that exactly where no call has reached it and nothing was planned of it
pub record Planned {K : Type 0} (old : Tally K) (nth : ℕ) (kind : K) (new : Tally K) : Type 0 where
  pub kinds : (k : ℕ) → kind_planned new k
      ≡ option_or (kind_planned old k) (if nat_lt old.calls nth && (nth == k) then Some kind else None)
  pub calls : new.calls ≡ old.calls
  pub failed : new.failed ≡ old.failed

-- nothing was counted or planned
pub record SameTally {K : Type 0} (old new : Tally K) : Type 0 where
  pub kinds : (nth : ℕ) → kind_planned new nth ≡ kind_planned old nth
  pub calls : new.calls ≡ old.calls
  pub failed : new.failed ≡ old.failed
