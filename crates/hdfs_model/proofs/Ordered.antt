-- The order of a walk is one: of two paths one comes before the other, or they are the same. Lists in that order with the same members are
-- one, and `in_order` makes one of any paths. So a walk is told by what stands at which paths, in whatever order these are listed.
use Rattle.std.proofs.Common.{◌≡◌, ◌⊎◌, inl, inr, ⊎_elim, ℕ, suc, Bool, true, false, cond, ◌&&◌, eqb, ltb, List, [], ◌∷◌, map, refl, sym, ◌∙◌, ap, subst, arith}
use Rattle.std.proofs.lemmas.Bool.{false≢true}
use Rattle.std.proofs.lemmas.Bool.Decides.{nat_tests}
use Rattle.std.proofs.lemmas.Slice.Eq.{bytes_eq-Decides}
use Rattle.std.specs.Str.{bytes_eq}
use Rattle.hdfs_cluster.specs.Names.{Rises}
use Rattle.hdfs_names.specs.Paths.{is_slash}
use Rattle.hdfs_model.specs.Walks.{comes_before, in_order, put_path, rank}

-- a list in the order of a walk
abbrev pub IsInOrder : List ℕ → List (List ℕ) → Type 0
IsInOrder from paths = Rises (map rank from) (map (map rank) paths)

-- the path is in the list
abbrev pub In : List ℕ → List (List ℕ) → Type 0
In x [] = ⊥
In x (y ∷ ys) = (y ≡ x) ⊎ In x ys

pub rank_same : (c d : ℕ) → rank c ≡ rank d → c ≡ d
rank_same c d same = by (is_slash c) (is_slash d) refl refl
  where
    slash : (x : ℕ) → is_slash x ≡ true → x ≡ 47
    slash x is = grind (arith, nat_tests, is)

    by : (a b : Bool) → is_slash c ≡ a → is_slash d ≡ b → c ≡ d
    by true true ic id = slash c ic ∙ sym (slash d id)
    by true false ic id = (let s : 0 ≡ suc d = ap (λ (x : Bool). cond x 0 (suc c)) (sym ic) ∙ same ∙ ap (λ (x : Bool). cond x 0 (suc d)) id in absurd (omega (arith, s)))
    by false true ic id = (let s : suc c ≡ 0 = ap (λ (x : Bool). cond x 0 (suc c)) (sym ic) ∙ same ∙ ap (λ (x : Bool). cond x 0 (suc d)) id in absurd (omega (arith, s)))
    by false false ic id = (let s : suc c ≡ suc d = ap (λ (x : Bool). cond x 0 (suc c)) (sym ic) ∙ same ∙ ap (λ (x : Bool). cond x 0 (suc d)) id in omega (arith, s))

-- how the first bytes of two paths compare
data Cmp (c d : ℕ) : Type 0 where
  Lower : ltb (rank c) (rank d) ≡ true → Cmp c d
  Same : c ≡ d → Cmp c d
  Higher : ltb (rank d) (rank c) ≡ true → Cmp c d

compare : (c d : ℕ) → Cmp c d
compare c d = by (ltb (rank c) (rank d)) (eqb (rank c) (rank d)) refl refl
  where
    above : (x y : ℕ) → ltb x y ≡ false → eqb x y ≡ false → ltb y x ≡ true
    above x y is apart = grind (arith, nat_tests, is, apart)

    equal : (x y : ℕ) → eqb x y ≡ true → x ≡ y
    equal x y same = grind (arith, nat_tests, same)

    by : (a b : Bool) → ltb (rank c) (rank d) ≡ a → eqb (rank c) (rank d) ≡ b → Cmp c d
    by true b is same = Lower is
    by false true is same = Same (rank_same c d (equal (rank c) (rank d) same))
    by false false is apart = Higher (above (rank c) (rank d) is apart)

eq_self : (a : ℕ) → eqb a a ≡ true
eq_self a = grind (arith, nat_tests)

lt_not : (a b : ℕ) → ltb a b ≡ true → ltb b a ≡ false
lt_not a b is = grind (arith, nat_tests, is)

lt_self : (a : ℕ) → ltb a a ≡ false
lt_self a = grind (arith, nat_tests)

lt_trans : (a b c : ℕ) → ltb a b ≡ true → ltb b c ≡ true → ltb a c ≡ true
lt_trans a b c f g = grind (arith, nat_tests, f, g)

lt_apart : (a b : ℕ) → ltb a b ≡ true → eqb b a ≡ false
lt_apart a b is = grind (arith, nat_tests, is)

-- by the first bytes
pub lower : (c d : ℕ) (a b : List ℕ) → ltb (rank c) (rank d) ≡ true → comes_before (c ∷ a) (d ∷ b) ≡ true
lower c d a b is = ap (λ (x : Bool). cond x true (eqb (rank c) (rank d) && comes_before a b)) is

pub same_first : (c : ℕ) (a b : List ℕ) → comes_before (c ∷ a) (c ∷ b) ≡ comes_before a b
same_first c a b = ap (λ (x : Bool). cond x true (eqb (rank c) (rank c) && comes_before a b)) (lt_self (rank c)) ∙ ap (λ (x : Bool). x && comes_before a b) (eq_self (rank c))

higher : (c d : ℕ) (a b : List ℕ) → ltb (rank d) (rank c) ≡ true → comes_before (c ∷ a) (d ∷ b) ≡ false
higher c d a b is =
    ap (λ (x : Bool). cond x true (eqb (rank c) (rank d) && comes_before a b)) (lt_not (rank d) (rank c) is)
    ∙ ap (λ (x : Bool). x && comes_before a b) (lt_apart (rank d) (rank c) is)

pub before_itself : (a : List ℕ) → comes_before a a ≡ false
before_itself [] = refl
before_itself (c ∷ a) = same_first c a a ∙ before_itself a

pub before_not : (a b : List ℕ) → comes_before a b ≡ true → comes_before b a ≡ false
before_not [] [] is = absurd (false≢true is)
before_not (c ∷ a) [] is = absurd (false≢true is)
before_not [] (d ∷ b) is = refl
before_not (c ∷ a) (d ∷ b) is = by (before_not a b) (compare c d)
  where
    by : (comes_before a b ≡ true → comes_before b a ≡ false) → Cmp c d → comes_before (d ∷ b) (c ∷ a) ≡ false
    by rest (Lower less) = higher d c b a less
    by rest (Same eq) = subst (λ (x : ℕ). comes_before (x ∷ b) (c ∷ a) ≡ false) eq (same_first c b a ∙ rest (sym (same_first c a b) ∙ subst (λ (x : ℕ). comes_before (c ∷ a) (x ∷ b) ≡ true) (sym eq) is))
    by rest (Higher more) = absurd (false≢true (sym (higher c d a b more) ∙ is))

pub before_trans : (a b e : List ℕ) → comes_before a b ≡ true → comes_before b e ≡ true → comes_before a e ≡ true
before_trans a b [] f g = absurd (false≢true (no_end b g))
  where
    no_end : (b : List ℕ) → comes_before b [] ≡ true → false ≡ true
    no_end [] is = is
    no_end (d ∷ b) is = is
before_trans [] b (x ∷ e) f g = refl
before_trans (c ∷ a) [] (x ∷ e) f g = absurd (false≢true f)
before_trans (c ∷ a) (d ∷ b) (x ∷ e) f g = by (before_trans a b e) (compare c d) (compare d x)
  where
    by : (comes_before a b ≡ true → comes_before b e ≡ true → comes_before a e ≡ true) → Cmp c d → Cmp d x → comes_before (c ∷ a) (x ∷ e) ≡ true
    by rest (Lower l) (Lower m) = lower c x a e (lt_trans (rank c) (rank d) (rank x) l m)
    by rest (Lower l) (Same eq) = lower c x a e (subst (λ (y : ℕ). ltb (rank c) (rank y) ≡ true) eq l)
    by rest (Lower l) (Higher n) = absurd (false≢true (sym (higher d x b e n) ∙ g))
    by rest (Same eq) (Lower m) = lower c x a e (subst (λ (y : ℕ). ltb (rank y) (rank x) ≡ true) (sym eq) m)
    by rest (Same eq) (Same eq') =
        let f' : comes_before a b ≡ true = sym (same_first c a b) ∙ subst (λ (y : ℕ). comes_before (c ∷ a) (y ∷ b) ≡ true) (sym eq) f in
        let g' : comes_before b e ≡ true = sym (same_first d b e) ∙ subst (λ (y : ℕ). comes_before (d ∷ b) (y ∷ e) ≡ true) (sym eq') g in
        subst (λ (y : ℕ). comes_before (c ∷ a) (y ∷ e) ≡ true) (eq ∙ eq') (same_first c a e ∙ rest f' g')
    by rest (Same eq) (Higher n) = absurd (false≢true (sym (higher d x b e n) ∙ g))
    by rest (Higher n) y = absurd (false≢true (sym (higher c d a b n) ∙ f))

-- every member stands behind what the list rises from
pub behind_all : (from : List ℕ) (xs : List (List ℕ)) → IsInOrder from xs → (x : List ℕ) → In x xs → comes_before from x ≡ true
behind_all from (y ∷ ys) rises x (inl is) = subst (λ (z : List ℕ). comes_before from z ≡ true) is rises.0
behind_all from (y ∷ ys) rises x (inr later) = before_trans from y x rises.0 (behind_all y ys rises.1 x later)
behind_all from [] rises x is = absurd is

-- two lists in order with the same members are one
pub rises_unique : (from : List ℕ) (a b : List (List ℕ)) → IsInOrder from a → IsInOrder from b → ((x : List ℕ) → In x a → In x b) → ((x : List ℕ) → In x b → In x a) → a ≡ b
rises_unique from [] [] f g to back = refl
rises_unique from [] (y ∷ b) f g to back = absurd (back y (inl refl))
rises_unique from (x ∷ a) [] f g to back = absurd (to x (inl refl))
rises_unique from (x ∷ a) (y ∷ b) f g to back =
    subst (λ (z : List ℕ). (x ∷ a) ≡ (z ∷ b)) first (ap (λ (l : List (List ℕ)). x ∷ l) (rises_unique x a b f.1 (subst (λ (z : List ℕ). IsInOrder z b) (sym first) g.1) on off))
  where
    clash : (u v : List ℕ) → comes_before u v ≡ true → comes_before v u ≡ true → ⊥
    clash u v l m = false≢true (sym (before_not u v l) ∙ m)

    heads : (y ≡ x) ⊎ In x b → (x ≡ y) ⊎ In y a → x ≡ y
    heads (inl same) other = sym same
    heads (inr later) (inl same) = same
    heads (inr later) (inr after) = absurd (clash x y (behind_all x a f.1 y after) (behind_all y b g.1 x later))

    first : x ≡ y
    first = heads (to x (inl refl)) (back y (inl refl))

    on : (z : List ℕ) → In z a → In z b
    on z is = by (to z (inr is))
      where
        by : (y ≡ z) ⊎ In z b → In z b
        by (inl same) = absurd (false≢true (sym (before_itself x) ∙ subst (λ (w : List ℕ). comes_before x w ≡ true) (sym (first ∙ same)) (behind_all x a f.1 z is)))
        by (inr later) = later

    off : (z : List ℕ) → In z b → In z a
    off z is = by (back z (inr is))
      where
        by : (x ≡ z) ⊎ In z a → In z a
        by (inl same) = absurd (false≢true (sym (before_itself y) ∙ subst (λ (w : List ℕ). comes_before y w ≡ true) (sym (sym first ∙ same)) (behind_all y b g.1 z is)))
        by (inr later) = later

-- a member of what was put is the new one or was there
pub put_in : (path : List ℕ) (xs : List (List ℕ)) (x : List ℕ) → In x (put_path path xs) → (path ≡ x) ⊎ In x xs
put_in path [] x (inl is) = inl is
put_in path [] x (inr none) = absurd none
put_in path (y ∷ ys) x is = by (comes_before path y) (bytes_eq path y) (put_in path ys x) is
  where
    by : (a b : Bool) → (In x (put_path path ys) → (path ≡ x) ⊎ In x ys) → In x (cond a (path ∷ y ∷ ys) (cond b (y ∷ ys) (y ∷ put_path path ys))) → (path ≡ x) ⊎ In x (y ∷ ys)
    by true b rest is = is
    by false true rest is = inr is
    by false false rest (inl here) = inr (inl here)
    by false false rest (inr later) = ⊎_elim (λ (same : path ≡ x). inl same) (λ there. inr (inr there)) (rest later)

-- what was put is there, and what was there is
pub put_there : (path : List ℕ) (xs : List (List ℕ)) (x : List ℕ) → (path ≡ x) ⊎ In x xs → In x (put_path path xs)
put_there path [] x is = is
put_there path (y ∷ ys) x is = by (comes_before path y) (bytes_eq path y) (bytes_eq-Decides path y).0 (put_there path ys x) is
  where
    by : (a b : Bool) → (b ≡ true → path ≡ y) → ((path ≡ x) ⊎ In x ys → In x (put_path path ys)) → (path ≡ x) ⊎ In x (y ∷ ys) → In x (cond a (path ∷ y ∷ ys) (cond b (y ∷ ys) (y ∷ put_path path ys)))
    by true b same rest is = is
    by false true same rest (inl is) = inl (sym (same refl) ∙ is)
    by false true same rest (inr there) = there
    by false false same rest (inl is) = inr (rest (inl is))
    by false false same rest (inr (inl here)) = inl here
    by false false same rest (inr (inr later)) = inr (rest (inr later))

-- two texts of which neither stands before the other are one
pub before_or : (a b : List ℕ) → comes_before a b ≡ false → comes_before b a ≡ false → a ≡ b
before_or [] [] f g = refl
before_or [] (d ∷ b) f g = absurd (false≢true (sym f))
before_or (c ∷ a) [] f g = absurd (false≢true (sym g))
before_or (c ∷ a) (d ∷ b) f g = by (before_or a b) (compare c d)
  where
    by : (comes_before a b ≡ false → comes_before b a ≡ false → a ≡ b) → Cmp c d → c ∷ a ≡ d ∷ b
    by rest (Lower less) = absurd (false≢true (sym f ∙ lower c d a b less))
    by rest (Higher more) = absurd (false≢true (sym g ∙ lower d c b a more))
    by rest (Same eq) =
        let f' : comes_before a b ≡ false = sym (same_first c a b) ∙ subst (λ (y : ℕ). comes_before (c ∷ a) (y ∷ b) ≡ false) (sym eq) f in
        let g' : comes_before b a ≡ false = sym (same_first c b a) ∙ subst (λ (y : ℕ). comes_before (y ∷ b) (c ∷ a) ≡ false) (sym eq) g in
        subst (λ (y : ℕ). c ∷ a ≡ y ∷ b) eq (ap (λ (l : List ℕ). c ∷ l) (rest f' g'))

must_be : (b : Bool) (y path : List ℕ) → comes_before y path ≡ b → (b ≡ false → ⊥) → comes_before y path ≡ true
must_be true y path is never = is
must_be false y path is never = absurd (never refl)

-- what was put among others in order is in order
pub put_rises : (from path : List ℕ) (xs : List (List ℕ)) → comes_before from path ≡ true → IsInOrder from xs → IsInOrder from (put_path path xs)
put_rises from path [] behind rises = (behind, tt)
put_rises from path (y ∷ ys) behind rises = by (comes_before path y) (bytes_eq path y) refl (bytes_eq-Decides path y).1 (λ after. put_rises y path ys after rises.1)
  where
    by : (a b : Bool) → comes_before path y ≡ a → (path ≡ y → b ≡ true) → (comes_before y path ≡ true → IsInOrder y (put_path path ys)) → IsInOrder from (cond a (path ∷ y ∷ ys) (cond b (y ∷ ys) (y ∷ put_path path ys)))
    by true b before same rest = (behind, (before, rises.1))
    by false true before same rest = rises
    by false false before same rest =
        (rises.0, rest (must_be (comes_before y path) y path refl (λ not. false≢true (same (before_or path y before not)))))

-- a list in order has the members of the list, and rises
pub order_rises : (xs : List (List ℕ)) → ((x : List ℕ) → In x xs → comes_before [] x ≡ true) → IsInOrder [] (in_order xs)
order_rises [] all = tt
order_rises (x ∷ xs) all = put_rises [] x (in_order xs) (all x (inl refl)) (order_rises xs (λ y is. all y (inr is)))

pub order_in : (xs : List (List ℕ)) (x : List ℕ) → In x (in_order xs) → In x xs
order_in [] x is = is
order_in (y ∷ ys) x is = ⊎_elim (λ (same : y ≡ x). inl same) (λ later. inr (order_in ys x later)) (put_in y (in_order ys) x is)

pub order_there : (xs : List (List ℕ)) (x : List ℕ) → In x xs → In x (in_order xs)
order_there [] x is = is
order_there (y ∷ ys) x (inl same) = put_there y (in_order ys) x (inl same)
order_there (y ∷ ys) x (inr later) = put_there y (in_order ys) x (inr (order_there ys x later))

-- where no path is empty, paths with the same members come to one list
pub order_same : (xs ys : List (List ℕ)) → ((x : List ℕ) → In x xs → comes_before [] x ≡ true) → ((x : List ℕ) → In x xs → In x ys)
    → ((x : List ℕ) → In x ys → In x xs) → in_order xs ≡ in_order ys
order_same xs ys some to back =
    rises_unique [] (in_order xs) (in_order ys) (order_rises xs some) (order_rises ys (λ x is. some x (back x is)))
    (λ x is. order_there ys x (to x (order_in xs x is))) (λ x is. order_there xs x (back x (order_in ys x is)))
