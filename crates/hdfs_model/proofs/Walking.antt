-- The order of a walk is that of texts where there is no slash, and below a directory that isn't the root lies what begins with it and a
-- slash.
use Rattle.std.proofs.Common.{◌≡◌, inl, inr, ℕ, zero, suc, Bool, true, false, cond, not, ◌&&◌, ◌||◌, eqb, ltb, List, [], ◌∷◌, ◌++◌, length, take, drop, Option, is_some, refl, sym, ◌∙◌, ap, subst, arith}
use Rattle.std.proofs.lemmas.Bool.{false≢true}
use Rattle.std.proofs.lemmas.Bool.Decides.{nat_tests}
use Rattle.std.proofs.lemmas.Slice.Eq.{bytes_eq-Decides}
use Rattle.std.specs.List.{filter, list_any}
use Rattle.std.specs.Str.{bytes_eq}
use Rattle.hdfs_cluster.specs.Names.{front_of, is_before, is_below}
use Rattle.hdfs_names.specs.Paths.{root, is_slash}
use Rattle.hdfs_model.specs.Walks.{comes_before, is_listed, lies_in, rank, rest_in, walk}
use Rattle.hdfs_model.proofs.Ordered.{In, order_same}
use Rattle.hdfs_model.proofs.Both.{both_true}

-- neither of two is
neither : (a b : Bool) → (a || b) ≡ false → (a ≡ false) × (b ≡ false)
neither true b is = absurd (false≢true (sym is))
neither false b is = (refl, is)

pub rank_other : (c : ℕ) → is_slash c ≡ false → rank c ≡ suc c
rank_other c is = ap (λ (b : Bool). cond b 0 (suc c)) is

lower_suc : (c d : ℕ) → ltb (suc c) (suc d) ≡ ltb c d
lower_suc c d = grind (arith, nat_tests)

same_suc : (c d : ℕ) → eqb (suc c) (suc d) ≡ eqb c d
same_suc c d = grind (arith, nat_tests)

-- names come in the order of texts
pub names_before : (a b : List ℕ) → list_any is_slash a ≡ false → list_any is_slash b ≡ false → comes_before a b ≡ is_before a b
names_before [] [] f g = refl
names_before [] (d ∷ b) f g = refl
names_before (c ∷ a) [] f g = refl
names_before (c ∷ a) (d ∷ b) f g =
    let first = neither (is_slash c) (list_any is_slash a) f in
    let second = neither (is_slash d) (list_any is_slash b) g in
    ap (λ (x : ℕ). cond (ltb x (rank d)) true (eqb x (rank d) && comes_before a b)) (rank_other c first.0)
    ∙ ap (λ (x : ℕ). cond (ltb (suc c) x) true (eqb (suc c) x && comes_before a b)) (rank_other d second.0)
    ∙ ap (λ (x : Bool). cond x true (eqb (suc c) (suc d) && comes_before a b)) (lower_suc c d)
    ∙ ap (λ (x : Bool). cond (ltb c d) true (x && comes_before a b)) (same_suc c d)
    ∙ ap (λ (x : Bool). cond (ltb c d) true (eqb c d && x)) (names_before a b first.1 second.1)

-- what lies in a directory that isn't the root begins with it and a slash, and goes on
pub lies_below : (dir path : List ℕ) → bytes_eq root dir ≡ false → lies_in dir path ≡ (is_below dir path && not (bytes_eq (rest_in dir path) []))
lies_below dir path is =
    ap (λ (front : List ℕ). bytes_eq front (take (length front) path) && not (bytes_eq (rest_in dir path) [])) (ap (λ (b : Bool). cond b root (dir ++ 47 ∷ [])) is)

-- a path that lies in a directory isn't empty
pub lies_some : (dir path : List ℕ) → lies_in dir path ≡ true → comes_before [] path ≡ true
lies_some dir [] is = absurd (goes_on (front_of dir) (both_true (bytes_eq (front_of dir) (take (length (front_of dir)) [])) (not (bytes_eq (rest_in dir []) [])) is).1)
  where
    nothing_left : (n : ℕ) → not (bytes_eq (drop n []) []) ≡ true → ⊥
    nothing_left zero is = false≢true is
    nothing_left (suc n) is = false≢true is

    goes_on : (front : List ℕ) → not (bytes_eq (drop (length front) []) []) ≡ true → ⊥
    goes_on front is = nothing_left (length front) is
lies_some dir (c ∷ path) is = refl

pub listed_lies : (recursive : Bool) (dir path : List ℕ) → is_listed recursive dir path ≡ true → lies_in dir path ≡ true
listed_lies true dir path is = is
listed_lies false dir path is = (both_true (lies_in dir path) (not (list_any is_slash (rest_in dir path))) is).0

-- what a filter keeps of a list, and leaves out
pub filter_in : (p : List ℕ → Bool) (xs : List (List ℕ)) (x : List ℕ) → In x (filter p xs) → In x xs × (p x ≡ true)
filter_in p [] x is = absurd is
filter_in p (y ∷ ys) x is = by (p y) refl is (filter_in p ys x)
  where
    by : (b : Bool) → p y ≡ b → In x (cond b (y ∷ filter p ys) (filter p ys)) → (In x (filter p ys) → In x ys × (p x ≡ true)) → In x (y ∷ ys) × (p x ≡ true)
    by true on (inl same) rest = (inl same, subst (λ (z : List ℕ). p z ≡ true) same on)
    by true on (inr later) rest = (inr (rest later).0, (rest later).1)
    by false off later rest = (inr (rest later).0, (rest later).1)

pub filter_there : (p : List ℕ → Bool) (xs : List (List ℕ)) (x : List ℕ) → In x xs → p x ≡ true → In x (filter p xs)
filter_there p [] x is on = absurd is
filter_there p (y ∷ ys) x is on = by (p y) refl is (λ later. filter_there p ys x later on)
  where
    by : (b : Bool) → p y ≡ b → In x (y ∷ ys) → (In x ys → In x (filter p ys)) → In x (cond b (y ∷ filter p ys) (filter p ys))
    by true is (inl same) rest = inl same
    by true is (inr later) rest = inr (rest later)
    by false off (inl same) rest = absurd (false≢true (sym off ∙ subst (λ (z : List ℕ). p z ≡ true) (sym same) on))
    by false off (inr later) rest = rest later

-- a walk is told by what stands at which paths, whatever list has them
pub walk_same : {X : Type 0} (map : List ℕ → Option X) (xs ys : List (List ℕ)) (dir : List ℕ) (recursive : Bool)
    → ((x : List ℕ) → is_some (map x) ≡ true → In x xs) → ((x : List ℕ) → is_some (map x) ≡ true → In x ys) → walk map xs dir recursive ≡ walk map ys dir recursive
walk_same map xs ys dir recursive of_xs of_ys =
    order_same (filter test xs) (filter test ys)
    (λ x is. lies_some dir x (listed_lies recursive dir x (both_true (is_listed recursive dir x) (is_some (map x)) (filter_in test xs x is).1).0))
    (λ x is. let kept = (filter_in test xs x is).1 in filter_there test ys x (of_ys x (both_true (is_listed recursive dir x) (is_some (map x)) kept).1) kept)
    (λ x is. let kept = (filter_in test ys x is).1 in filter_there test xs x (of_xs x (both_true (is_listed recursive dir x) (is_some (map x)) kept).1) kept)
  where
    test : List ℕ → Bool
    test path = is_listed recursive dir path && is_some (map path)

-- one of some paths that passes a test
pub any_found : (p : List ℕ → Bool) (zs : List (List ℕ)) → list_any p zs ≡ true → (x : List ℕ) × In x zs × (p x ≡ true)
any_found p [] is = absurd (false≢true is)
any_found p (z ∷ zs) is = at (p z) refl is (any_found p zs)
  where
    at : (b : Bool) → p z ≡ b → (b || list_any p zs) ≡ true → (list_any p zs ≡ true → (x : List ℕ) × In x zs × (p x ≡ true)) → (x : List ℕ) × In x (z ∷ zs) × (p x ≡ true)
    at true on is rest = (z, inl refl, on)
    at false off is rest = (let later = rest is in (later.0, inr later.1, later.2))

-- where one passes it, it is passed
pub any_passes : (p : List ℕ → Bool) (zs : List (List ℕ)) (x : List ℕ) → In x zs → p x ≡ true → list_any p zs ≡ true
any_passes p [] x is on = absurd is
any_passes p (z ∷ zs) x (inl same) on = ap (λ (b : Bool). b || list_any p zs) (subst (λ (y : List ℕ). p y ≡ true) (sym same) on)
any_passes p (z ∷ zs) x (inr later) on = at (p z) (any_passes p zs x later on)
  where
    at : (b : Bool) → list_any p zs ≡ true → (b || list_any p zs) ≡ true
    at true is = refl
    at false is = is

-- whether one of some paths passes a test, whatever list has them
pub any_same : (p : List ℕ → Bool) (xs ys : List (List ℕ)) → ((x : List ℕ) → In x xs → p x ≡ true → In x ys) → ((x : List ℕ) → In x ys → p x ≡ true → In x xs) → list_any p xs ≡ list_any p ys
any_same p xs ys to back = by (list_any p xs) (list_any p ys) refl refl
  where
    by : (a b : Bool) → list_any p xs ≡ a → list_any p ys ≡ b → list_any p xs ≡ list_any p ys
    by true b is other = (let x = any_found p xs is in is ∙ sym (any_passes p ys x.0 (to x.0 x.1 x.2) x.2))
    by false true is other = (let y = any_found p ys other in absurd (false≢true (sym is ∙ any_passes p xs y.0 (back y.0 y.1 y.2) y.2)))
    by false false is other = is ∙ sym other

-- a path is in a list where one of those in it is the same
pub in_from_any : (x : List ℕ) (xs : List (List ℕ)) → list_any (bytes_eq x) xs ≡ true → In x xs
in_from_any x [] is = false≢true is
in_from_any x (y ∷ ys) is = at (bytes_eq x y) refl is (in_from_any x ys)
  where
    at : (b : Bool) → bytes_eq x y ≡ b → (b || list_any (bytes_eq x) ys) ≡ true → (list_any (bytes_eq x) ys ≡ true → In x ys) → In x (y ∷ ys)
    at true same is rest = inl (sym ((bytes_eq-Decides x y).0 same))
    at false other is rest = inr (rest is)

pub any_from_in : (x : List ℕ) (xs : List (List ℕ)) → In x xs → list_any (bytes_eq x) xs ≡ true
any_from_in x [] is = absurd is
any_from_in x (y ∷ ys) (inl same) = ap (λ (b : Bool). b || list_any (bytes_eq x) ys) ((bytes_eq-Decides x y).1 (sym same))
any_from_in x (y ∷ ys) (inr later) = at (bytes_eq x y) (any_from_in x ys later)
  where
    at : (b : Bool) → list_any (bytes_eq x) ys ≡ true → (b || list_any (bytes_eq x) ys) ≡ true
    at true is = refl
    at false is = is
