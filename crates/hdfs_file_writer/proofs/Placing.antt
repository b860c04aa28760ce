-- What stands in a map at a key where something was put at one.
use Rattle.std.proofs.Common.{◌≡◌, ◌≢◌, ◌⊎◌, inl, inr, ℕ, Bool, true, false, cond, ◌==◌, List, ◌∷◌, ◌++◌, [], length, ◌-◌, ◌+◌, refl, sym, ◌∙◌, ap, arith}
use Rattle.std.proofs.lemmas.Bool.{false≢true}
use Rattle.std.proofs.lemmas.Bool.Decides.{nat_tests}
use Rattle.std.proofs.lemmas.List.{length-append, get_or-append-add, get_or_append_left}
use Rattle.std.proofs.lemmas.Slice.Eq.{bytes_eq-Decides}
use Rattle.std.specs.Prelude.{Contains, slice_index_or, Option, Some, None, IsSome}
use Rattle.std.specs.Str.{bytes_eq}

-- at a path: that, or what stood there
pub at_path : {X : Type 0} (path q : List ℕ) (x y : X) → ((path ≡ q) × (cond (bytes_eq path q) x y ≡ x)) ⊎ ((q ≢ path) × (cond (bytes_eq path q) x y ≡ y))
at_path path q x y = by_test (bytes_eq path q) (bytes_eq-Decides path q).0 (bytes_eq-Decides path q).1
  where
    by_test : (b : Bool) → (b ≡ true → path ≡ q) → (path ≡ q → b ≡ true) → ((path ≡ q) × (cond b x y ≡ x)) ⊎ ((q ≢ path) × (cond b x y ≡ y))
    by_test true there back = inl (there refl, refl)
    by_test false there back = inr (λ same. false≢true (back (sym same)), refl)

-- at a block id: that, or what stood there
pub at_id : {X : Type 0} (b id : ℕ) (x y : X) → ((b ≡ id) × (cond (b == id) x y ≡ x)) ⊎ ((b ≢ id) × (cond (b == id) x y ≡ y))
at_id b id x y = by_test (b == id) refl
  where
    by_test : (t : Bool) → (b == id) ≡ t → ((b ≡ id) × (cond t x y ≡ x)) ⊎ ((b ≢ id) × (cond t x y ≡ y))
    by_test true is = inl (grind (arith, nat_tests, is), refl)
    by_test false is = inr (grind (arith, nat_tests, is), refl)

pub some_none : {X : Type 0} (o : Option X) → IsSome o → o ≡ None → ⊥
some_none None there none = absurd (false≢true there)
some_none (Some x) there none = absurd (cc none)

last_push : (xs : List ℕ) (x d : ℕ) → slice_index_or (xs ++ x ∷ []) (length (xs ++ x ∷ []) - 1) d ≡ x
last_push xs x d =
    let at : length (xs ++ x ∷ []) - 1 ≡ length xs + 0 = omega (arith, length-append xs (x ∷ [])) in
    ap (λ (i : ℕ). slice_index_or (xs ++ x ∷ []) i d) at ∙ get_or-append-add xs (x ∷ []) 0 d

-- lists that end alike end in the same
pub push_same : (blocks xs ys : List ℕ) (x y : ℕ) → blocks ≡ xs ++ x ∷ [] → blocks ≡ ys ++ y ∷ [] → x ≡ y
push_same blocks xs ys x y one other =
    sym (last_push xs x 0) ∙ ap (λ (l : List ℕ). slice_index_or l (length l - 1) 0) (sym one ∙ other) ∙ last_push ys y 0

pub contains_last : (xs : List ℕ) (x : ℕ) → Contains (xs ++ x ∷ []) x
contains_last xs x = (length xs, omega (arith, length-append xs (x ∷ [])), ap (λ (i : ℕ). slice_index_or (xs ++ x ∷ []) i x) (omega arith) ∙ get_or-append-add xs (x ∷ []) 0 x)

pub contains_left : (xs ys : List ℕ) (x : ℕ) → Contains xs x → Contains (xs ++ ys) x
contains_left xs ys x h = (h.0, omega (arith, h.1, length-append xs ys), get_or_append_left xs ys x h.0 h.1 ∙ h.2)
