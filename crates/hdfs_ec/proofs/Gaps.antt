-- Rising numbers: those below a bound that are missing among them, and those that are not below it.
use Rattle.std.proofs.Common.{◌≡◌, ℕ, zero, suc, ◌+◌, ◌<◌, ◌≤◌, ◌==◌, ◌⊎◌, Bool, true, false, cond, ltb, List, [], ◌∷◌, length, get_or, inl, inr, refl, sym, ap, subst, ◌∙◌, eq-eqb, arith}
use Rattle.std.proofs.lemmas.Bool.{cases_eq, ne_eqb, lt-ltb, le-ltb}
use Rattle.hdfs_ec.proofs.Cauchy.{IsAmong}
use Rattle.hdfs_field.proofs.Selection.{RiseFrom, rise_tail, rise_later, rise_above}

-- the numbers from s on, k of them, that are not in the rising list
unfoldable pub gaps : ℕ → ℕ → List ℕ → List ℕ
gaps zero s numbers = []
gaps (suc k) s [] = s ∷ gaps k (suc s) []
gaps (suc k) s (n ∷ numbers) = cond (n == s) (gaps k (suc s) numbers) (s ∷ gaps k (suc s) (n ∷ numbers))

-- those of the list that are not below e
unfoldable pub from_on : ℕ → List ℕ → List ℕ
from_on e [] = []
from_on e (n ∷ numbers) = cond (ltb n e) (from_on e numbers) (n ∷ from_on e numbers)

-- where a number stands in a list
abbrev pub Stands : List ℕ → ℕ → Type 0
Stands numbers c = (i : ℕ) × (i < length numbers) × (get_or numbers i 0 ≡ c)

pub gap_within : (k s c : ℕ) (numbers : List ℕ) → IsAmong (gaps k s numbers) c → c < s + k
unfolding gaps
gap_within zero s c numbers h = absurd h
gap_within (suc k) s c [] h = elim h [
  | inl e ↦ omega arith
  | inr rest ↦ let lt = gap_within k (suc s) c [] rest in omega arith
]
gap_within (suc k) s c (n ∷ numbers) h =
    let f : (b : Bool) → IsAmong (cond b (gaps k (suc s) numbers) (s ∷ gaps k (suc s) (n ∷ numbers))) c → c < s + suc k
    = λ b. elim b as (λ b. IsAmong (cond b (gaps k (suc s) numbers) (s ∷ gaps k (suc s) (n ∷ numbers))) c → c < s + suc k) [
      | true ↦ λ rest. let lt = gap_within k (suc s) c numbers rest in omega arith
      | false ↦ λ h. elim h [
        | inl e ↦ omega arith
        | inr rest ↦ let lt = gap_within k (suc s) c (n ∷ numbers) rest in omega arith
      ]
    ] in
    f (n == s) h

pub stands_or_gap : (k s c : ℕ) (numbers : List ℕ) → s ≤ c → c < s + k → Stands numbers c ⊎ IsAmong (gaps k s numbers) c
unfolding gaps
stands_or_gap zero s c numbers le lt = absurd (omega arith)
stands_or_gap (suc k) s c [] le lt = elim (cases_eq c s) [
  | inl e ↦ inr (inl e)
  | inr apart ↦ elim (stands_or_gap k (suc s) c [] (omega arith) (omega arith)) [ inl at ↦ inl at | inr rest ↦ inr (inr rest) ]
]
stands_or_gap (suc k) s c (n ∷ numbers) le lt =
    let P : Bool → Type 0 = λ b. Stands (n ∷ numbers) c ⊎ IsAmong (cond b (gaps k (suc s) numbers) (s ∷ gaps k (suc s) (n ∷ numbers))) c in
    elim (cases_eq n s) [
      | inl same ↦ subst P (sym (eq-eqb n s same)) (elim (cases_eq c s) [
        | inl e ↦ inl (0, omega arith, same ∙ sym e)
        | inr apart ↦ elim (stands_or_gap k (suc s) c numbers (omega arith) (omega arith)) [
          | inl at ↦ let in_tail = at.1 in inl (suc at.0, omega arith, at.2)
          | inr rest ↦ inr rest
        ]
      ])
      | inr off ↦ subst P (sym (ne_eqb n s off)) (elim (cases_eq c s) [
        | inl e ↦ inr (inl e)
        | inr apart ↦ elim (stands_or_gap k (suc s) c (n ∷ numbers) (omega arith) (omega arith)) [
          | inl at ↦ inl at
          | inr rest ↦ inr (inr rest)
        ]
      ])
    ]

from_on_all : (e : ℕ) (numbers : List ℕ) → ((i : ℕ) → i < length numbers → e ≤ get_or numbers i 0) → length (from_on e numbers) ≡ length numbers
unfolding from_on
from_on_all e [] all = refl
from_on_all e (n ∷ numbers) all =
    ap (λ (b : Bool). length (cond b (from_on e numbers) (n ∷ from_on e numbers))) (le-ltb n e (all 0 (omega arith)))
    ∙ ap suc (from_on_all e numbers (λ i lt. all (suc i) (omega arith)))

rise_nil : (s e : ℕ) → RiseFrom s e []
rise_nil s e = record { from = λ k lt. absurd (omega arith); below = λ k lt. absurd (omega arith); rise = λ i j lt in_j. absurd (omega arith) }

-- the numbers that are missing and those of the list are as many as all, and as those that are not below
pub gap_count : (k s e : ℕ) (numbers : List ℕ) → RiseFrom s e numbers → length (gaps k s numbers) + length numbers ≡ k + length (from_on (s + k) numbers)
unfolding gaps from_on
gap_count zero s e numbers h =
    let all = from_on_all (s + 0) numbers (λ i lt. let least = h.from i lt in omega arith) in
    omega arith
gap_count (suc k) s e [] h = let rest = gap_count k (suc s) e [] (rise_nil (suc s) e) in omega arith
gap_count (suc k) s e (n ∷ numbers) h =
    let shift : suc s + k ≡ s + suc k = omega arith in
    elim (cases_eq n s) [
      | inl same ↦
          let rise = subst (λ (x : ℕ). RiseFrom (suc x) e numbers) same (rise_tail s e n numbers h) in
          let rest = gap_count k (suc s) e numbers rise in
          let left = ap (λ (b : Bool). length (cond b (gaps k (suc s) numbers) (s ∷ gaps k (suc s) (n ∷ numbers)))) (eq-eqb n s same) in
          let right = ap (λ (b : Bool). length (cond b (from_on (s + suc k) numbers) (n ∷ from_on (s + suc k) numbers))) (lt-ltb n (s + suc k) (omega arith)) in
          let moved = ap (λ (x : ℕ). length (from_on x numbers)) shift in
          omega arith
      | inr off ↦
          let rise = rise_later s e (n ∷ numbers) h (rise_above s e n numbers h off) in
          let rest = gap_count k (suc s) e (n ∷ numbers) rise in
          let left = ap (λ (b : Bool). length (cond b (gaps k (suc s) numbers) (s ∷ gaps k (suc s) (n ∷ numbers)))) (ne_eqb n s off) in
          let moved = ap (λ (x : ℕ). length (from_on x (n ∷ numbers))) shift in
          omega arith
    ]
