-- What is shown of each number below 256: by a computed test, or from the powers of two.
use Rattle.std.specs.Prelude.{◌≡◌, ℕ, ◌/◌, ◌%◌, ◌^◌, ◌<◌, ◌==◌, Bool, true, false, if◌then◌else◌, bit_xor, refl}
use Rattle.std.proofs.Common.{subst, lit<}
use Rattle.std.proofs.lemmas.Bool.{agree_below, agree_below_at, eqb-true}

-- whether the test holds of each number below a bound
abbrev pub holds_below : ℕ → (ℕ → Bool) → Bool
holds_below n test = agree_below test (λ k. true) n

pub holds_below-at : (n : ℕ) (test : ℕ → Bool) (k : ℕ) → holds_below n test ≡ true → k < n → test k ≡ true
holds_below-at n test k h lt = agree_below_at test (λ (m : ℕ). true) n k h lt

-- b where a is odd
abbrev pub odd_part : ℕ → ℕ → ℕ
odd_part a b = if a % 2 == 1 then b else 0

-- what holds of zero and of b holds of the odd part
pub odd_part-holds : (P : ℕ → Type 0) (a b : ℕ) → P 0 → P b → P (odd_part a b)
odd_part-holds P a b none some = elim (a % 2 == 1) as (λ t. P (if t then b else 0)) [ true ↦ some | false ↦ none ]

-- the powers of two in a number below 256
abbrev parts : ℕ → ℕ
parts a =
    bit_xor (odd_part a 1) (bit_xor (odd_part (a / 2) 2) (bit_xor (odd_part (a / 4) 4) (bit_xor (odd_part (a / 8) 8)
    (bit_xor (odd_part (a / 16) 16) (bit_xor (odd_part (a / 32) 32) (bit_xor (odd_part (a / 64) 64) (odd_part (a / 128) 128)))))))

parts_whole : holds_below 256 (λ a. parts a == a) ≡ true
parts_whole = refl

-- what holds of zero and of the powers of two, and of a sum with its terms, holds of each number below 256
pub spanned : (P : ℕ → Type 0) → ((a b : ℕ) → P a → P b → P (bit_xor a b)) → P 0 → ((i : ℕ) → i < 8 → P (2 ^ i)) → (a : ℕ) → a < 256 → P a
spanned P sums none powers a lt =
    let part = λ (n power : ℕ) (holds : P power). odd_part-holds P n power none holds in
    subst P (eqb-true _ _ (holds_below-at 256 (λ (n : ℕ). parts n == n) a parts_whole lt))
    (sums _ _ (part a 1 (powers 0 (lit< tt))) (sums _ _ (part (a / 2) 2 (powers 1 (lit< tt)))
    (sums _ _ (part (a / 4) 4 (powers 2 (lit< tt))) (sums _ _ (part (a / 8) 8 (powers 3 (lit< tt)))
    (sums _ _ (part (a / 16) 16 (powers 4 (lit< tt))) (sums _ _ (part (a / 32) 32 (powers 5 (lit< tt)))
    (sums _ _ (part (a / 64) 64 (powers 6 (lit< tt))) (part (a / 128) 128 (powers 7 (lit< tt))))))))))
