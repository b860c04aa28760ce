-- An ask on its way from namenode to namenode of an order.
use Rattle.std.proofs.Common.{◌≡◌, inr, ℕ, suc, ◌+◌, ◌-◌, ◌<◌, ◌==◌, Bool, true, false, cond, List, [], ◌∷◌, ◌++◌, refl, sym, ◌∙◌, ap, subst, append_assoc, arith}
use Rattle.std.proofs.lemmas.Bool.Decides.{nat_tests}
use Rattle.std.proofs.lemmas.Bool.{false≢true}
use Rattle.std.specs.Prelude.{Result, Ok, Err}
use Rattle.hdfs_cluster.specs.declared.asks.Ask.{Ask}
use Rattle.hdfs_cluster.specs.declared.asks.Answer.{Answer}
use Rattle.hdfs_cluster.specs.declared.asks.AskFault.{AskFault}
use Rattle.hdfs_cluster.specs.declared.asks.AskFault.TheVariants as faults
use Rattle.hdfs_cluster.specs.Failover.{AsksInOrder, AsksOne, PassedOn, is_broken, numbers_but, passes_on}

-- Those in front passed the ask on, the last one asked gave this, and these are left.
pub record Going {C : Type 0} (serves : C → ℕ → Ask → Result Answer AskFault → C → Type 0) (order left : List ℕ) (ask : Ask) (old : C)
    (last : ℕ) (given : Result Answer AskFault) (new : C) : Type 0 where
  pub front : List ℕ
  pub in_order : order ≡ front ++ last ∷ left
  pub mid : C
  pub passed : PassedOn serves front ask old mid
  pub asked : AsksOne serves last ask mid given new

broken_is : (given : Result Answer AskFault) → is_broken given ≡ true → given ≡ Err faults.Broken
broken_is (Ok answer) is = absurd (false≢true is)
broken_is (Err faults.NoMemory) is = absurd (false≢true is)
broken_is (Err faults.Broken) is = refl
broken_is (Err (faults.BadReply fault)) is = absurd (false≢true is)
broken_is (Err (faults.Exception class message)) is = absurd (false≢true is)
broken_is (Err (faults.Fatal class message)) is = absurd (false≢true is)

module _ {C : Type 0} (serves : C → ℕ → Ask → Result Answer AskFault → C → Type 0) (ask : Ask) where
  -- a namenode whose connection broke is asked once more
  pub asks_again : (i : ℕ) (given again : Result Answer AskFault) (old mid new : C) → serves old i ask given mid → is_broken given ≡ true → serves mid i ask again new
      → AsksOne serves i ask old again new
  asks_again i given again old mid new first broken second = inr (mid, subst (λ (g : Result Answer AskFault). serves old i ask g mid) (broken_is given broken) first, second)

  passed_push : (front : List ℕ) (old mid new : C) (i : ℕ) (given : Result Answer AskFault) → PassedOn serves front ask old mid → AsksOne serves i ask mid given new
      → passes_on given ≡ true → PassedOn serves (front ++ i ∷ []) ask old new
  passed_push [] old mid new i given passed asked passes = (given, new, subst (λ (x : C). AsksOne serves i ask x given new) passed asked, passes, refl)
  passed_push (j ∷ front) old mid new i given passed asked passes =
      (passed.0, passed.1, passed.2, passed.3, passed_push front passed.1 mid new i given passed.4 asked passes)

  -- the first one is asked
  pub going_first : (i : ℕ) (left : List ℕ) (given : Result Answer AskFault) (old new : C) → AsksOne serves i ask old given new → Going serves (i ∷ left) left ask old i given new
  going_first i left given old new asked = record { front = []; in_order = refl; mid = old; passed = refl; asked = asked }

  -- the next one is asked
  pub going_next : (order left : List ℕ) (old mid new : C) (last i : ℕ) (given next : Result Answer AskFault) → Going serves order (i ∷ left) ask old last given mid
      → passes_on given ≡ true → AsksOne serves i ask mid next new → Going serves order left ask old i next new
  going_next order left old mid new last i given next so_far passes asked = record {
    front = so_far.front ++ last ∷ [];
    in_order = so_far.in_order ∙ sym (append_assoc so_far.front (last ∷ []) (i ∷ left));
    mid = mid;
    passed = passed_push so_far.front old so_far.mid mid last given so_far.passed so_far.asked passes;
    asked = asked;
  }

  -- it ends where the last one asked doesn't pass it on, or none is left
  pub going_ends : (order left : List ℕ) (old new : C) (last : ℕ) (given : Result Answer AskFault) → Going serves order left ask old last given new
      → (passes_on given ≡ true → left ≡ []) → AsksInOrder serves order ask old last given new
  going_ends order left old new last given so_far ends = record {
    front = so_far.front;
    left = left;
    in_order = so_far.in_order;
    mid = so_far.mid;
    passed = so_far.passed;
    asked = so_far.asked;
    ends = ends;
  }

  -- with the same left
  pub going_same : (order left left' : List ℕ) (old new : C) (last : ℕ) (given : Result Answer AskFault) → left ≡ left' → Going serves order left ask old last given new
      → Going serves order left' ask old last given new
  going_same order left left' old new last given same so_far = subst (λ (l : List ℕ). Going serves order l ask old last given new) same so_far

-- of the numbers that are left the first one is to be asked
numbers_first : (without i n : ℕ) (b : Bool) → (i == without) ≡ b → numbers_but without i (suc n) ≡ cond b (numbers_but without (i + 1) n) (i ∷ numbers_but without (i + 1) n)
numbers_first without i n b is = ap (λ (b : Bool). cond b (numbers_but without (i + 1) n) (i ∷ numbers_but without (i + 1) n)) is

equal_is : (x y : ℕ) → x ≡ y → (x == y) ≡ true
equal_is x y is = grind (arith, nat_tests, is)

apart_is : (x y : ℕ) → (x ≡ y → ⊥) → (x == y) ≡ false
apart_is x y away = by (x == y) refl
  where
    from : (x == y) ≡ true → x ≡ y
    from h = grind (arith, nat_tests, h)

    by : (b : Bool) → (x == y) ≡ b → (x == y) ≡ false
    by true is = absurd (away (from is))
    by false is = is

more_left : (i end : ℕ) → i < end → end - i ≡ suc (end - (i + 1))
more_left i end below = omega arith

pub numbers_take : (without i end : ℕ) → i < end → (i ≡ without → ⊥) → numbers_but without i (end - i) ≡ i ∷ numbers_but without (i + 1) (end - (i + 1))
numbers_take without i end below away =
    ap (numbers_but without i) (more_left i end below) ∙ numbers_first without i (end - (i + 1)) false (apart_is i without away)

pub numbers_skip : (without i end : ℕ) → i < end → i ≡ without → numbers_but without i (end - i) ≡ numbers_but without (i + 1) (end - (i + 1))
numbers_skip without i end below here =
    ap (numbers_but without i) (more_left i end below) ∙ numbers_first without i (end - (i + 1)) true (equal_is i without here)

pub numbers_none : (without i end : ℕ) → i ≡ end → numbers_but without i (end - i) ≡ []
numbers_none without i end here = let none : end - i ≡ 0 = omega (arith, here) in ap (numbers_but without i) none
