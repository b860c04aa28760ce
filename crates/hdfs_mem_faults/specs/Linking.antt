-- What the calls of `Links` do. Of this module public clauses cite `firsts_in` alone.
use Rattle.std.specs.Prelude.{◌≡◌, ℕ, ◌+◌, ◌≤◌, nat_lt, Bool, not, ◌&&◌, ◌||◌, ◌==◌, List, Option, Some, None, is_none, is_some, unwrap_or, if◌then◌else◌}
use Rattle.std.specs.Option.{option_or}
use Rattle.std.specs.Ordering.{nat_cmp}
use Rattle.std.specs.BTreeMap.{get, get_by_text}
use Rattle.std.specs.BTreeSet.{contains}
use Rattle.hdfs_cluster.specs.declared.store.LinkKind.{LinkKind}
use Rattle.hdfs_mem_faults.specs.declared.links.Links.{Links}
use Rattle.hdfs_mem_faults.specs.Calls.{after_one, is_at_once, is_bad_ack, is_first, next_kind, one_if}

-- how a set-up is planned to fail
abbrev pub kind_in : Links → ℕ → Option LinkKind
kind_in links nth = get nat_cmp links.kinds nth

-- whether the next acknowledgement of a link is bad
abbrev pub bad_in : Links → ℕ → Bool
bad_in links link = contains nat_cmp links.bad link

-- how often a set-up has failed whose failure was put down to this datanode
abbrev pub firsts_in : Links → List ℕ → ℕ
firsts_in links d = unwrap_or (get_by_text links.firsts d) 0

-- no failure was put down to a datanode
abbrev pub SameFirsts : Links → Links → Type 0
SameFirsts old new = (d : List ℕ) → firsts_in new d ≡ firsts_in old d

-- nothing was counted or planned
pub record SameLink (old new : Links) : Type 0 where
  pub set_ups : new.set_ups ≡ old.set_ups
  pub kinds : (nth : ℕ) → kind_in new nth ≡ kind_in old nth
  pub bad : (link : ℕ) → bad_in new link ≡ bad_in old link
  pub failed : new.failed ≡ old.failed
  pub firsts : SameFirsts old new

-- a set-up was planned, where no set-up has reached it and nothing was planned of it
pub record PlansLink (old : Links) (nth : ℕ) (kind : LinkKind) (new : Links) : Type 0 where
  pub set_ups : new.set_ups ≡ old.set_ups
  pub kinds : (k : ℕ) → kind_in new k ≡ option_or (kind_in old k) (if nat_lt old.set_ups nth && (nth == k) then Some kind else None)
  pub bad : (link : ℕ) → bad_in new link ≡ bad_in old link
  pub failed : new.failed ≡ old.failed
  pub firsts : SameFirsts old new

-- a set-up was counted
pub record SetsUpLink (old : Links) (link : ℕ) (first : Option (List ℕ)) (kind : Option LinkKind) (new : Links) : Type 0 where
  pub set_ups : new.set_ups ≡ after_one old.set_ups
  pub grows : old.set_ups ≤ new.set_ups
  pub as_planned : kind ≡ next_kind (kind_in old) old.set_ups
  pub kinds : (nth : ℕ) → kind_in new nth ≡ kind_in old nth
  pub bad : (l : ℕ) → bad_in new l ≡ (bad_in old l || (is_bad_ack kind && (link == l)))
  pub failed : new.failed ≡ old.failed + one_if (is_at_once kind && is_none first)
  pub firsts : (d : List ℕ) → firsts_in new d ≡ firsts_in old d + one_if (is_at_once kind && is_first first d)

-- a transfer was counted, as a set-up
pub record TransfersLink (old : Links) (kind : Option LinkKind) (new : Links) : Type 0 where
  pub set_ups : new.set_ups ≡ after_one old.set_ups
  pub grows : old.set_ups ≤ new.set_ups
  pub as_planned : kind ≡ next_kind (kind_in old) old.set_ups
  pub kinds : (nth : ℕ) → kind_in new nth ≡ kind_in old nth
  pub bad : (l : ℕ) → bad_in new l ≡ bad_in old l
  pub failed : new.failed ≡ old.failed + one_if (is_some kind)
  pub firsts : SameFirsts old new

-- an acknowledgement of a link came
pub record TakesLink (old : Links) (link : ℕ) (bad : Bool) (new : Links) : Type 0 where
  pub set_ups : new.set_ups ≡ old.set_ups
  pub kinds : (nth : ℕ) → kind_in new nth ≡ kind_in old nth
  pub was : bad ≡ bad_in old link
  pub left : (l : ℕ) → bad_in new l ≡ (bad_in old l && not (link == l))
  pub failed : new.failed ≡ old.failed + one_if bad
  pub firsts : SameFirsts old new

-- a link was forgotten
pub record ForgetsLink (old : Links) (link : ℕ) (new : Links) : Type 0 where
  pub set_ups : new.set_ups ≡ old.set_ups
  pub kinds : (nth : ℕ) → kind_in new nth ≡ kind_in old nth
  pub left : (l : ℕ) → bad_in new l ≡ (bad_in old l && not (link == l))
  pub failed : new.failed ≡ old.failed
  pub firsts : SameFirsts old new
