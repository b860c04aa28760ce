-- What is counted and planned of the asks of a namenode.
use Rattle.std.specs.Prelude.{◌≡◌, ◌≢◌, ℕ, ◌+◌, ◌≤◌, nat_lt, Bool, ◌&&◌, ◌==◌, Option, Some, None, is_some, if◌then◌else◌}
use Rattle.std.specs.Option.{option_or}
use Rattle.std.specs.Ordering.{nat_cmp}
use Rattle.std.specs.BTreeMap.{get}
use Rattle.hdfs_cluster.specs.declared.store.AskKind.{AskKind}
use Rattle.hdfs_mem_faults.specs.declared.asks.Asks.{Asks}
use Rattle.hdfs_mem_faults.specs.declared.tally.Tally.{Tally}
use Rattle.hdfs_mem_faults.specs.Calls.{after_one, next_fails, one_if}
use Rattle.hdfs_mem_faults.specs.Tallies.{kind_planned}

-- the tally of the namenode with this number
abbrev pub asks_at : Asks → ℕ → Option (Tally AskKind)
asks_at asks number = get nat_cmp asks.by_number number

-- how many asks were counted
abbrev pub asks_in : Option (Tally AskKind) → ℕ
asks_in None = 0
asks_in (Some tally) = tally.calls

-- how an ask is planned to fail
abbrev pub ask_kind_at : Option (Tally AskKind) → ℕ → Option AskKind
ask_kind_at None nth = None
ask_kind_at (Some tally) nth = kind_planned tally nth

-- how often it has failed as it was planned to
abbrev pub failed_asks : Option (Tally AskKind) → ℕ
failed_asks None = 0
failed_asks (Some tally) = tally.failed

-- the tallies of the other namenodes stay
pub record ChangesAsks (number : ℕ) (old new : Asks) : Type 0 where
  pub others : (other : ℕ) → other ≢ number → asks_at new other ≡ asks_at old other

-- no ask was counted or planned
pub record SameAsks (old new : Option (Tally AskKind)) : Type 0 where
  pub calls : asks_in new ≡ asks_in old
  pub kinds : (nth : ℕ) → ask_kind_at new nth ≡ ask_kind_at old nth
  pub failed : failed_asks new ≡ failed_asks old

-- one ask was counted
pub record CountsAsked (old : Option (Tally AskKind)) (fails : Bool) (new : Option (Tally AskKind)) : Type 0 where
  pub calls : asks_in new ≡ after_one (asks_in old)
  pub grows : asks_in old ≤ asks_in new
  pub as_planned : fails ≡ next_fails (λ nth. is_some (ask_kind_at old nth)) (asks_in old)
  pub failed : failed_asks new ≡ failed_asks old + one_if fails
  pub kinds : (nth : ℕ) → ask_kind_at new nth ≡ ask_kind_at old nth

-- one ask was planned, where it was not counted yet and nothing was planned of it
pub record PlansAsk (old : Option (Tally AskKind)) (nth : ℕ) (kind : AskKind) (new : Option (Tally AskKind)) : Type 0 where
  pub calls : asks_in new ≡ asks_in old
  pub kinds : (k : ℕ) → ask_kind_at new k
      ≡ option_or (ask_kind_at old k) (if nat_lt (asks_in old) nth && (nth == k) then Some kind else None)
  pub failed : failed_asks new ≡ failed_asks old
