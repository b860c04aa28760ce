-- What stands in a list by its number, and what lines leave behind one more.
use Rattle.std.proofs.Common.{◌≡◌, ⊎_elim, ℕ, ◌<◌, zero, suc, Bool, true, List, [], ◌∷◌, ◌++◌, length, get_or, sym, refl, ◌∙◌, ap, arith}
use Rattle.std.proofs.lemmas.Bool.{cases_eq, or_cases, or_left, or_right, false≢true}
use Rattle.std.proofs.lemmas.List.Folds.{Any-from_list_any}
use Rattle.std.specs.List.{list_any}
use Rattle.hdfs_cluster.specs.declared.store.Line.{Line}
use Rattle.hdfs_cluster.specs.Replicas.{any_below, left_behind, left_by}

-- within a list the default is not looked at
pub other_default : {X : Type 0} (xs : List X) (k : ℕ) (d e : X) → k < length xs → get_or xs k d ≡ get_or xs k e
other_default [] k d e below = absurd (omega (arith, below))
other_default (x ∷ xs) zero d e below = refl
other_default (x ∷ xs) (suc k) d e below = other_default xs k d e (omega (arith, below))

-- one that passes a test has a number
pub any_at : (test : List ℕ → Bool) (xs : List (List ℕ)) → list_any test xs ≡ true → (k : ℕ) × (k < length xs) × (test (get_or xs k []) ≡ true)
any_at test xs is = let a = Any-from_list_any test xs is in (a.0, a.2, ap test (other_default xs a.0 [] a.1 a.2 ∙ a.3) ∙ a.4)

pub below_at : (test : ℕ → Bool) (n : ℕ) → any_below test n ≡ true → (d : ℕ) × (d < n) × (test d ≡ true)
below_at test zero is = absurd (false≢true is)
below_at test (suc n) is =
    ⊎_elim
    (λ before. (let b = below_at test n before in (b.0, omega (arith, b.1), b.2)))
    (λ last. (n, omega arith, last))
    (or_cases (any_below test n) (test n) is)

pub below_from : (test : ℕ → Bool) (n d : ℕ) → d < n → test d ≡ true → any_below test n ≡ true
below_from test zero d below is = absurd (omega (arith, below))
below_from test (suc n) d below is =
    ⊎_elim
    (λ same. or_right (any_below test n) (test n) (ap test (sym same) ∙ is))
    (λ apart. or_left (any_below test n) (test n) (below_from test n d (omega (arith, below, apart)) is))
    (cases_eq d n)

pub left_push : (path : List ℕ) (block node whole left : ℕ) (lines : List Line) (line : Line) → left_behind path block node whole left (lines ++ line ∷ []) ≡ left_by path block node whole (left_behind path block node whole left lines) line
left_push path block node whole left [] line = refl
left_push path block node whole left (first ∷ lines) line = left_push path block node whole (left_by path block node whole left first) lines line
