-- What a change at one key of a map with text keys does to what is looked up.
use Rattle.std.proofs.Common.{◌≡◌, ◌≢◌, ℕ, ◌+◌, Bool, true, false, cond, List, Option, Some, None, is_some, unwrap_or, refl, sym, ◌∙◌, ap, subst, arith}
use Rattle.std.specs.Str.{bytes_eq}
use Rattle.std.specs.Map.{update}
use Rattle.std.proofs.lemmas.Slice.Eq.{bytes_eq-Decides}
use Rattle.hdfs_mem_faults.specs.declared.node_plan.NodePlan.{NodePlan}
use Rattle.hdfs_mem_faults.specs.Calls.{one_if}
use Rattle.hdfs_mem_faults.specs.NodePlans.{AddsOnly, SameNode}

module _ {X : Type 0} (look after : List ℕ → Option X) (key : List ℕ) (w : X) (updates : (q : List ℕ) → after q ≡ update bytes_eq look key (Some w) q) where
  -- another key is not tested true
  at_test : (b : Bool) (q : List ℕ) → (b ≡ true → key ≡ q) → key ≢ q → cond b (Some w) (look q) ≡ look q
  at_test true q is apart = absurd (apart (is refl))
  at_test false q is apart = refl

  -- a true test gives the new value
  true_at : (b : Bool) (o : Option X) → b ≡ true → cond b (Some w) o ≡ Some w
  true_at true o is = refl
  true_at false o is = absurd (cc)

  -- the key has the new value
  pub update_at : after key ≡ Some w
  update_at = updates key ∙ true_at (bytes_eq key key) (look key) ((bytes_eq-Decides key key).1 refl)

  -- another key keeps what it has
  pub update_other : (q : List ℕ) → q ≢ key → after q ≡ look q
  update_other q apart = updates q ∙ at_test (bytes_eq key q) q (bytes_eq-Decides key q).0 (λ same. apart (sym same))

  module _ (R : Option X → Option X → Type 0) (same : (o : Option X) → R o o) where
    at_key : (b : Bool) (q : List ℕ) → (b ≡ true → key ≡ q) → R (look key) (Some w) → R (look q) (cond b (Some w) (look q))
    at_key true q is here = subst (λ (k : List ℕ). R (look k) (Some w)) (is refl) here
    at_key false q is here = same (look q)

    -- what holds of the old value and the new one at the key, and of each other value and itself, holds at each key
    pub update_related : R (look key) (Some w) → (q : List ℕ) → R (look q) (after q)
    update_related here q = subst (λ (o : Option X). R (look q) o) (sym (updates q)) (at_key (bytes_eq key q) q (bytes_eq-Decides key q).0 here)

-- a key whose number is one more than it was, or 1 where it had none
pub one_more_at : (look after : List ℕ → Option ℕ) (key : List ℕ) (w : ℕ) → ((q : List ℕ) → after q ≡ update bytes_eq look key (Some w) q) → w ≡ unwrap_or (look key) 0 + 1
    → (q : List ℕ) → unwrap_or (after q) 0 ≡ unwrap_or (look q) 0 + one_if (bytes_eq key q)
one_more_at look after key w updates is q = ap (λ (o : Option ℕ). unwrap_or o 0) (updates q) ∙ by_test (bytes_eq key q) (bytes_eq-Decides key q).0
  where
    by_test : (b : Bool) → (b ≡ true → key ≡ q) → unwrap_or (cond b (Some w) (look q)) 0 ≡ unwrap_or (look q) 0 + one_if b
    by_test true same = is ∙ ap (λ (k : List ℕ). unwrap_or (look k) 0 + 1) (same refl)
    by_test false same = omega arith

-- nothing is there
pub none_from : {X : Type 0} (o : Option X) → is_some o ≡ false → o ≡ None
none_from None is = refl
none_from (Some x) is = absurd (cc)

-- a datanode that is as it was
pub adds_only_refl : (o : Option NodePlan) → AddsOnly o o
adds_only_refl o = record { there = λ is. is; calls = λ call. refl; planned = λ call nth. refl; packets = λ nth. refl; failed = refl }

-- two steps that count and plan nothing
pub adds_only_trans : (o p q : Option NodePlan) → AddsOnly o p → AddsOnly p q → AddsOnly o q
adds_only_trans o p q first second = record {
  there = λ is. second.there (first.there is);
  calls = λ call. second.calls call ∙ first.calls call;
  planned = λ call nth. second.planned call nth ∙ first.planned call nth;
  packets = λ nth. second.packets nth ∙ first.packets nth;
  failed = second.failed ∙ first.failed;
}

-- a datanode that is as it was
pub same_node_refl : (o : Option NodePlan) → SameNode o o
same_node_refl o = record { there = refl; calls = λ call. refl; planned = λ call nth. refl; packets = λ nth. refl; failed = refl }
