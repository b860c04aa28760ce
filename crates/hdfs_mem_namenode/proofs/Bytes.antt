-- The order of texts byte by byte: it is that of the keys of a map, texts that begin alike compare as their ends, and what stands between
-- the paths in a directory and those behind them lies in it.
use Rattle.std.proofs.Common.{◌≡◌, ℕ, Bool, true, false, cond, ◌&&◌, ◌||◌, eqb, ltb, List, [], ◌∷◌, ◌++◌, refl, sym, ◌∙◌, ap, subst, arith}
use Rattle.std.proofs.lemmas.Bool.{false≢true}
use Rattle.std.proofs.lemmas.Bool.Decides.{nat_tests}
use Rattle.std.proofs.lemmas.Cmp.{same_from_slice_cmp}
use Rattle.std.specs.Cmp.Lexicographic.{slice_cmp}
use Rattle.std.specs.List.{list_any}
use Rattle.std.specs.Ordering.{is_lt, nat_cmp}
use Rattle.hdfs_names.specs.Paths.{is_slash}
use Rattle.hdfs_cluster.specs.Names.{is_before}

-- how the first bytes of two texts compare
data Cmp (c d : ℕ) : Type 0 where
  Lower : ltb c d ≡ true → Cmp c d
  Same : c ≡ d → Cmp c d
  Higher : ltb d c ≡ true → Cmp c d

compare : (c d : ℕ) → Cmp c d
compare c d = by (ltb c d) (eqb c d) refl refl
  where
    above : ltb c d ≡ false → eqb c d ≡ false → ltb d c ≡ true
    above is apart = grind (arith, nat_tests, is, apart)

    by : (a b : Bool) → ltb c d ≡ a → eqb c d ≡ b → Cmp c d
    by true b is same = Lower is
    by false true is same = Same (grind (arith, nat_tests, same))
    by false false is apart = Higher (above is apart)

lt_not : (a b : ℕ) → ltb a b ≡ true → ltb b a ≡ false
lt_not a b is = grind (arith, nat_tests, is)

lt_self : (a : ℕ) → ltb a a ≡ false
lt_self a = grind (arith, nat_tests)

eq_self : (a : ℕ) → eqb a a ≡ true
eq_self a = grind (arith, nat_tests)

lt_apart : (a b : ℕ) → ltb a b ≡ true → eqb b a ≡ false
lt_apart a b is = grind (arith, nat_tests, is)

lt_trans : (a b c : ℕ) → ltb a b ≡ true → ltb b c ≡ true → ltb a c ≡ true
lt_trans a b c f g = grind (arith, nat_tests, f, g)

-- by the first bytes
lower : (c d : ℕ) (a b : List ℕ) → ltb c d ≡ true → is_before (c ∷ a) (d ∷ b) ≡ true
lower c d a b is = ap (λ (x : Bool). cond x true (eqb c d && is_before a b)) is

alike : (c : ℕ) (a b : List ℕ) → is_before (c ∷ a) (c ∷ b) ≡ is_before a b
alike c a b = ap (λ (x : Bool). cond x true (eqb c c && is_before a b)) (lt_self c) ∙ ap (λ (x : Bool). x && is_before a b) (eq_self c)

higher : (c d : ℕ) (a b : List ℕ) → ltb d c ≡ true → is_before (c ∷ a) (d ∷ b) ≡ false
higher c d a b is = ap (λ (x : Bool). cond x true (eqb c d && is_before a b)) (lt_not d c is) ∙ ap (λ (x : Bool). x && is_before a b) (lt_apart d c is)

-- the keys of a map are in this order
pub before_cmp : (a b : List ℕ) → is_lt (slice_cmp nat_cmp a b) ≡ is_before a b
before_cmp a b = same_from_slice_cmp nat_cmp is_lt is_before refl (λ d ys. refl) (λ c xs. refl) (λ x y xs ys o h. grind (arith, nat_tests)) a b (slice_cmp nat_cmp a b) refl

pub before_itself : (a : List ℕ) → is_before a a ≡ false
before_itself [] = refl
before_itself (c ∷ a) = alike c a a ∙ before_itself a

pub before_not : (a b : List ℕ) → is_before a b ≡ true → is_before b a ≡ false
before_not [] [] is = refl
before_not (c ∷ a) [] is = absurd (false≢true is)
before_not [] (d ∷ b) is = refl
before_not (c ∷ a) (d ∷ b) is = by (before_not a b) (compare c d)
  where
    by : (is_before a b ≡ true → is_before b a ≡ false) → Cmp c d → is_before (d ∷ b) (c ∷ a) ≡ false
    by rest (Lower less) = higher d c b a less
    by rest (Same eq) = subst (λ (x : ℕ). is_before (x ∷ b) (c ∷ a) ≡ false) eq (alike c b a ∙ rest (sym (alike c a b) ∙ subst (λ (x : ℕ). is_before (c ∷ a) (x ∷ b) ≡ true) (sym eq) is))
    by rest (Higher more) = absurd (false≢true (sym (higher c d a b more) ∙ is))

pub before_trans : (a b e : List ℕ) → is_before a b ≡ true → is_before b e ≡ true → is_before a e ≡ true
before_trans a [] [] f g = absurd (false≢true g)
before_trans a (d ∷ b) [] f g = absurd (false≢true g)
before_trans [] b (x ∷ e) f g = refl
before_trans (c ∷ a) [] (x ∷ e) f g = absurd (false≢true f)
before_trans (c ∷ a) (d ∷ b) (x ∷ e) f g = by (before_trans a b e) (compare c d) (compare d x)
  where
    by : (is_before a b ≡ true → is_before b e ≡ true → is_before a e ≡ true) → Cmp c d → Cmp d x → is_before (c ∷ a) (x ∷ e) ≡ true
    by rest (Lower l) (Lower m) = lower c x a e (lt_trans c d x l m)
    by rest (Lower l) (Same eq) = lower c x a e (subst (λ (y : ℕ). ltb c y ≡ true) eq l)
    by rest (Lower l) (Higher m) = absurd (false≢true (sym (higher d x b e m) ∙ g))
    by rest (Same eq) (Lower m) = lower c x a e (subst (λ (y : ℕ). ltb y x ≡ true) (sym eq) m)
    by rest (Same eq) (Same eq') =
        let f' : is_before a b ≡ true = sym (alike c a b) ∙ subst (λ (y : ℕ). is_before (c ∷ a) (y ∷ b) ≡ true) (sym eq) f in
        let g' : is_before b e ≡ true = sym (alike d b e) ∙ subst (λ (y : ℕ). is_before (d ∷ b) (y ∷ e) ≡ true) (sym eq') g in
        subst (λ (y : ℕ). is_before (c ∷ a) (y ∷ e) ≡ true) (eq ∙ eq') (alike c a e ∙ rest f' g')
    by rest (Same eq) (Higher m) = absurd (false≢true (sym (higher d x b e m) ∙ g))
    by rest (Higher l) y = absurd (false≢true (sym (higher c d a b l) ∙ f))

-- neither before the other are equal
pub before_neither : (a b : List ℕ) → is_before a b ≡ false → is_before b a ≡ false → a ≡ b
before_neither [] [] f g = refl
before_neither (c ∷ a) [] f g = absurd (false≢true (sym g))
before_neither [] (d ∷ b) f g = absurd (false≢true (sym f))
before_neither (c ∷ a) (d ∷ b) f g = by (before_neither a b) (compare c d)
  where
    by : (is_before a b ≡ false → is_before b a ≡ false → a ≡ b) → Cmp c d → (c ∷ a) ≡ (d ∷ b)
    by rest (Lower l) = absurd (false≢true (sym f ∙ lower c d a b l))
    by rest (Same eq) =
        let f' : is_before a b ≡ false = sym (alike c a b) ∙ subst (λ (y : ℕ). is_before (c ∷ a) (y ∷ b) ≡ false) (sym eq) f in
        let g' : is_before b a ≡ false = sym (alike c b a) ∙ subst (λ (y : ℕ). is_before (y ∷ b) (c ∷ a) ≡ false) (sym eq) g in
        ap (λ (x : ℕ). x ∷ a) eq ∙ ap (λ (l : List ℕ). d ∷ l) (rest f' g')
    by rest (Higher m) = absurd (false≢true (sym g ∙ lower d c b a m))

-- one that isn't before a third, where the second is no more than the third
pub before_from : (a b e : List ℕ) → is_before a b ≡ true → is_before e b ≡ false → is_before a e ≡ true
before_from a b e f g = by (is_before a e) (is_before e a) refl refl
  where
    by : (x y : Bool) → is_before a e ≡ x → is_before e a ≡ y → is_before a e ≡ true
    by true y is is' = is
    by false true is is' = absurd (false≢true (sym g ∙ before_trans e a b is' f))
    by false false is is' = absurd (false≢true (sym g ∙ subst (λ (z : List ℕ). is_before z b ≡ true) (before_neither a e is is') f))

pub before_upto : (a b e : List ℕ) → is_before b a ≡ false → is_before b e ≡ true → is_before a e ≡ true
before_upto a b e f g = by (is_before a b) refl
  where
    by : (x : Bool) → is_before a b ≡ x → is_before a e ≡ true
    by true is = before_trans a b e is g
    by false is = subst (λ (z : List ℕ). is_before z e ≡ true) (before_neither b a f is) g

-- texts that begin alike
pub before_front : (p a b : List ℕ) → is_before (p ++ a) (p ++ b) ≡ is_before a b
before_front [] a b = refl
before_front (c ∷ p) a b = alike c (p ++ a) (p ++ b) ∙ before_front p a b

-- behind a text stands what doesn't stand before it with a zero
pub zero_next : (k q : List ℕ) → is_before k q ≡ true → is_before q (k ++ 0 ∷ []) ≡ false
zero_next [] [] is = absurd (false≢true is)
zero_next [] (d ∷ q) is = by (compare d 0)
  where
    by : Cmp d 0 → is_before (d ∷ q) (0 ∷ []) ≡ false
    by (Lower l) = absurd (none d l)
      where
        none : (d : ℕ) → ltb d 0 ≡ true → ⊥
        none d l = (let not : ltb d 0 ≡ false = grind (arith, nat_tests) in false≢true (sym not ∙ l))
    by (Same eq) = subst (λ (x : ℕ). is_before (x ∷ q) (0 ∷ []) ≡ false) (sym eq) (alike 0 q [] ∙ at_end q)
      where
        at_end : (q : List ℕ) → is_before q [] ≡ false
        at_end [] = refl
        at_end (c ∷ q) = refl
    by (Higher m) = higher d 0 q [] m
zero_next (c ∷ k) [] is = absurd (false≢true is)
zero_next (c ∷ k) (d ∷ q) is = by (zero_next k q) (compare c d)
  where
    by : (is_before k q ≡ true → is_before q (k ++ 0 ∷ []) ≡ false) → Cmp c d → is_before (d ∷ q) (c ∷ (k ++ 0 ∷ [])) ≡ false
    by rest (Lower l) = higher d c q (k ++ 0 ∷ []) l
    by rest (Same eq) = subst (λ (x : ℕ). is_before (x ∷ q) (c ∷ (k ++ 0 ∷ [])) ≡ false) eq (alike c q (k ++ 0 ∷ []) ∙ rest (sym (alike c k q) ∙ subst (λ (x : ℕ). is_before (c ∷ k) (x ∷ q) ≡ true) (sym eq) is))
    by rest (Higher m) = absurd (false≢true (sym (higher c d k q m) ∙ is))

pub zero_behind : (k : List ℕ) → is_before k (k ++ 0 ∷ []) ≡ true
zero_behind [] = refl
zero_behind (c ∷ k) = alike c k (k ++ 0 ∷ []) ∙ zero_behind k

-- what stands between two texts that begin so begins so
pub begins_so : (p a b q : List ℕ) → is_before q (p ++ a) ≡ false → is_before (p ++ b) q ≡ false → (x : List ℕ) × (q ≡ p ++ x)
begins_so [] a b q f g = (q, refl)
begins_so (c ∷ p) a b [] f g = absurd (false≢true (sym f))
begins_so (c ∷ p) a b (d ∷ q) f g = by (begins_so p a b q) (compare c d)
  where
    by : (is_before q (p ++ a) ≡ false → is_before (p ++ b) q ≡ false → (x : List ℕ) × (q ≡ p ++ x)) → Cmp c d → (x : List ℕ) × ((d ∷ q) ≡ (c ∷ (p ++ x)))
    by rest (Lower l) = absurd (false≢true (sym g ∙ lower c d (p ++ b) q l))
    by rest (Same eq) =
        let f' : is_before q (p ++ a) ≡ false = sym (alike c q (p ++ a)) ∙ subst (λ (y : ℕ). is_before (y ∷ q) (c ∷ (p ++ a)) ≡ false) (sym eq) f in
        let g' : is_before (p ++ b) q ≡ false = sym (alike c (p ++ b) q) ∙ subst (λ (y : ℕ). is_before (c ∷ (p ++ b)) (y ∷ q) ≡ false) (sym eq) g in
        let more = rest f' g' in
        (more.0, ap (λ (y : ℕ). y ∷ q) (sym eq) ∙ ap (λ (l : List ℕ). c ∷ l) more.1)
    by rest (Higher m) = absurd (false≢true (sym f ∙ lower d c q (p ++ a) m))

-- between what lies in a directory and what doesn't stands nothing but what lies in it
pub between_slash : (p x q : List ℕ) → is_before q (p ++ 47 ∷ x) ≡ false → is_before q (p ++ 48 ∷ []) ≡ true → list_any is_slash q ≡ true
between_slash [] x [] f g = absurd (false≢true (sym f))
between_slash [] x (d ∷ q) f g = ap (λ (b : Bool). b || list_any is_slash q) (by (compare d 47) (compare d 48))
  where
    at_end : (q : List ℕ) → is_before q [] ≡ true → ⊥
    at_end [] is = false≢true is
    at_end (c ∷ q) is = false≢true is

    squeezed : ltb 47 d ≡ true → ltb d 48 ≡ true → ⊥
    squeezed l m = (let not : ltb d 48 ≡ false = grind (arith, nat_tests, l) in false≢true (sym not ∙ m))

    by : Cmp d 47 → Cmp d 48 → eqb d 47 ≡ true
    by (Lower l) y = absurd (false≢true (sym f ∙ lower d 47 q x l))
    by (Same eq) y = ap (λ (n : ℕ). eqb n 47) eq
    by (Higher m) (Lower l) = absurd (squeezed m l)
    by (Higher m) (Same eq) = absurd (at_end q (sym (alike 48 q []) ∙ subst (λ (y : ℕ). is_before (y ∷ q) (48 ∷ []) ≡ true) eq g))
    by (Higher m) (Higher n) = absurd (false≢true (sym (higher d 48 q [] n) ∙ g))
between_slash (c ∷ p) x [] f g = absurd (false≢true (sym f))
between_slash (c ∷ p) x (d ∷ q) f g = by (between_slash p x q) (compare d c)
  where
    or_right : (a b : Bool) → b ≡ true → (a || b) ≡ true
    or_right true b is = refl
    or_right false b is = is

    by : (is_before q (p ++ 47 ∷ x) ≡ false → is_before q (p ++ 48 ∷ []) ≡ true → list_any is_slash q ≡ true) → Cmp d c → (is_slash d || list_any is_slash q) ≡ true
    by rest (Lower l) = absurd (false≢true (sym f ∙ lower d c q (p ++ 47 ∷ x) l))
    by rest (Same eq) =
        let f' : is_before q (p ++ 47 ∷ x) ≡ false = sym (alike c q (p ++ 47 ∷ x)) ∙ subst (λ (y : ℕ). is_before (y ∷ q) (c ∷ (p ++ 47 ∷ x)) ≡ false) eq f in
        let g' : is_before q (p ++ 48 ∷ []) ≡ true = sym (alike c q (p ++ 48 ∷ [])) ∙ subst (λ (y : ℕ). is_before (y ∷ q) (c ∷ (p ++ 48 ∷ [])) ≡ true) eq g in
        or_right (is_slash d) (list_any is_slash q) (rest f' g')
    by rest (Higher m) = absurd (false≢true (sym (higher d c q (p ++ 48 ∷ []) m) ∙ g))
