-- How many of the first so many calls fail.
use Rattle.std.proofs.Common.{◌≡◌, ℕ, ◌+◌, ◌<◌, ◌≤◌, zero, suc, Bool, true, false, ◌||◌, eqb, cond, List, [], ◌∷◌, length, Option, Some, None, is_some, Result, Ok, Err, IfOk, OnErr, if◌then◌else◌, refl, sym, ◌∙◌, ap, subst, arith, add-one}
use Rattle.std.proofs.lemmas.Bool.Decides.{nat_tests}
use Rattle.std.specs.Map.{lookup}
use Rattle.std.specs.Ordering.{nat_cmp}
use Rattle.std.specs.BTreeMap.{BTreeMap, IsUnchanged, btree_map_len, get, is_at}
use Rattle.hdfs_mem_faults.specs.Calls.{fails_in, one_if}

-- whether a number is planned to fail, in some way
abbrev pub is_kind : {K : Type 0} → BTreeMap ℕ K → ℕ → Bool
is_kind kinds nth = is_some (get nat_cmp kinds nth)

-- a call fails once at most
pub one-le : (b : Bool) → one_if b ≤ 1
one-le true = omega arith
one-le false = omega arith

-- no more calls fail than there were
pub fails-le : (f : ℕ → Bool) (n : ℕ) → fails_in f n ≤ n
fails-le f zero = omega arith
fails-le f (suc n) = omega (arith, fails-le f n, one-le (f (suc n)))

-- calls that are planned alike
pub fails-same : (f g : ℕ → Bool) (n : ℕ) → ((k : ℕ) → k ≤ n → g k ≡ f k) → fails_in g n ≡ fails_in f n
fails-same f g zero same = refl
fails-same f g (suc n) same =
    let below : fails_in g n ≡ fails_in f n = fails-same f g n (λ k le. same k (omega arith)) in
    let here : g (suc n) ≡ f (suc n) = same (suc n) (omega arith) in
    ap (λ (m : ℕ). m + one_if (g (suc n))) below ∙ ap (λ (b : Bool). fails_in f n + one_if b) here

-- one call more
pub fails-next : (f : ℕ → Bool) (n : ℕ) (b : Bool) → f (n + 1) ≡ b → fails_in f (n + 1) ≡ fails_in f n + one_if b
fails-next f n b is =
    let here : f (suc n) ≡ b = subst (λ (m : ℕ). f m ≡ b) (add-one n) is in
    ap (fails_in f) (add-one n) ∙ ap (λ (c : Bool). fails_in f n + one_if c) here

-- a call that fails by one plan fails by one with more in it
one-more : (a b : Bool) → (a ≡ true → b ≡ true) → one_if a ≤ one_if b
one-more true b more = subst (λ (c : Bool). 1 ≤ one_if c) (sym (more refl)) (omega arith)
one-more false b more = omega arith

-- where more calls are planned, no fewer have failed
pub fails-more : (f g : ℕ → Bool) (n : ℕ) → ((k : ℕ) → f k ≡ true → g k ≡ true) → fails_in f n ≤ fails_in g n
fails-more f g zero more = omega arith
fails-more f g (suc n) more = omega (arith, fails-more f g n more, one-more (f (suc n)) (g (suc n)) (more (suc n)))

-- a call that fails by two plans together fails by one of them
one-or : (a b : Bool) → one_if (a || b) ≤ one_if a + one_if b
one-or true b = omega arith
one-or false b = omega arith

-- the calls of two plans together
pub fails-or : (f g : ℕ → Bool) (n : ℕ) → fails_in (λ k. f k || g k) n ≤ fails_in f n + fails_in g n
fails-or f g zero = omega arith
fails-or f g (suc n) = omega (arith, fails-or f g n, one-or (f (suc n)) (g (suc n)))

-- where nothing is planned, nothing fails
pub fails-never : (n : ℕ) → fails_in (λ k. false) n ≡ 0
fails-never zero = refl
fails-never (suc n) = omega (arith, fails-never n)

-- one call alone does not fail before it is reached
zero_or_reached : (m n : ℕ) → n < m → fails_in (λ k. eqb m k) n ≡ 0
zero_or_reached m zero below = refl
zero_or_reached m (suc n) below =
    let none : eqb m (suc n) ≡ false = grind (arith, nat_tests) in
    omega (arith, zero_or_reached m n (omega arith), ap one_if none)

-- one call alone fails at most once
pub fails-only : (m n : ℕ) → fails_in (λ k. eqb m k) n ≤ 1
fails-only m zero = omega arith
fails-only m (suc n) = by_test (eqb m (suc n)) refl (fails-only m n)
  where
    by_test : (b : Bool) → eqb m (suc n) ≡ b → fails_in (λ k. eqb m k) n ≤ 1 → fails_in (λ k. eqb m k) n + one_if (eqb m (suc n)) ≤ 1
    by_test true is before =
        let same : m ≡ suc n = grind (arith, nat_tests) in
        omega (arith, zero_or_reached m n (omega arith), one-le (eqb m (suc n)))
    by_test false is before = omega (arith, before, ap one_if is)

-- the same where the number is looked up in a map
pub fails-at : (m n : ℕ) → fails_in (λ k. is_at (nat_cmp k) m) n ≤ 1
fails-at m n =
    let same : (k : ℕ) → is_at (nat_cmp k) m ≡ true → eqb m k ≡ true = λ k is. grind (arith, nat_tests) in
    omega (arith, fails-more (λ k. is_at (nat_cmp k) m) (λ k. eqb m k) n same, fails-only m n)

-- what is found at one entry or behind it is found at one of both
found_or : {K : Type 0} (b : Bool) (kind : K) (o : Option K) → is_some (cond b (Some kind) o) ≡ true → (b || is_some o) ≡ true
found_or true kind o is = refl
found_or false kind o is = is

-- no more calls fail than numbers are listed
fails-listed : {K : Type 0} (entries : List (ℕ × K)) (n : ℕ) → fails_in (λ k. is_some (lookup (is_at (nat_cmp k)) entries)) n ≤ length entries
fails-listed [] n = omega (arith, fails-never n)
fails-listed (e ∷ entries) n =
    let here : ℕ → Bool = λ k. is_at (nat_cmp k) e.0 in
    let behind : ℕ → Bool = λ k. is_some (lookup (is_at (nat_cmp k)) entries) in
    let split = fails-more (λ k. is_some (lookup (is_at (nat_cmp k)) (e ∷ entries))) (λ k. here k || behind k) n (λ k. found_or (here k) e.1 (lookup (is_at (nat_cmp k)) entries)) in
    omega (arith, split, fails-or here behind n, fails-at e.0 n, fails-listed entries n)

-- no more calls fail than numbers are planned
pub fails-len : {K : Type 0} (planned : BTreeMap ℕ K) (n : ℕ) → fails_in (is_kind planned) n ≤ btree_map_len planned
fails-len planned n = fails-listed planned.entries n

-- one number more is planned at most
pub few_stay : {E K : Type 0} (r : Result (Option K) E) (old new : BTreeMap ℕ K) (n : ℕ) → IfOk r (λ was. btree_map_len new ≡ btree_map_len old + (if is_some was then 0 else 1)) → OnErr r (IsUnchanged old new) → btree_map_len old < n → btree_map_len new ≤ n
few_stay (Ok None) old new n ok err below = omega (arith, ok, below)
few_stay (Ok (Some was)) old new n ok err below = omega (arith, ok, below)
few_stay (Err e) old new n ok err below = omega (arith, ap length err, below)
