-- The entries of a coding matrix.
use Rattle.std.proofs.Common.{◌≡◌, ◌≢◌, ℕ, ◌+◌, ◌%◌, ◌<◌, ◌≤◌, Bool, cond, List, length, inl, inr, sym, ap, subst, ◌∙◌, arith}
use Rattle.std.specs.Prelude.{bit_xor}
use Rattle.std.proofs.lemmas.Bool.{cases_eq, lt-ltb, le-ltb}
use Rattle.std.proofs.Math.Nat.{mod-eq_of_lt}
use Rattle.hdfs_field.specs.declared.gf256.GF256.{GF256}
use Rattle.hdfs_field.specs.Polynomials.{IsProductOf}
use Rattle.hdfs_field.specs.Elements.{element, gf256, gf256_quotient}
use Rattle.hdfs_field.specs.FieldLaws.{gf256_lawful, gf256_field, quotient-value}
use Rattle.hdfs_field.specs.Products.{xor-lt}
use Rattle.hdfs_field.specs.Matrices.{width, IsGrid, entry, unit_at, IsZeroes}
use Rattle.hdfs_field.specs.Rows.{SetsRow}
use Rattle.hdfs_ec.specs.Coding.{coefficient, coding_at, IsCodingMatrix}
use Rattle.hdfs_ec.proofs.Cauchy.{difference_some}
use Rattle.hdfs_field.proofs.FieldValues.{quotient-polynomial}
use Rattle.hdfs_field.proofs.Writes.{sets_other}

pub elements_apart : (r c : ℕ) → r < 256 → c < 256 → r ≢ c → element r ≢ element c
elements_apart r c left right apart e = apart (sym (mod-eq_of_lt left) ∙ ap (λ (x : GF256). x.value) e ∙ mod-eq_of_lt right)

pub sum_some : (r c : ℕ) → r < 256 → c < 256 → r ≢ c → gf256.sum (element r) (element c) ≢ gf256.zero
sum_some r c left right apart = difference_some gf256 gf256_lawful gf256_quotient gf256_field (element r) (element c) (elements_apart r c left right apart)

pub divisor_some : (r c : ℕ) (a b s : GF256) → a ≡ element r → b ≡ element c → s ≡ gf256.sum a b → c < r → r < 256 → s ≢ element 0
divisor_some r c a b s left right sum lt small e =
    sum_some r c small (omega arith) (omega arith)
    (sym (ap (λ (x : GF256). gf256.sum x (element c)) left) ∙ sym (ap (gf256.sum a) right) ∙ sym sum ∙ e)

-- the sum of two elements of numbers below 256 has their sum, bit by bit, as its number
sum_number : (r c : ℕ) → r < 256 → c < 256 → (gf256.sum (element r) (element c)).value ≡ bit_xor r c
sum_number r c left right =
    ap (λ (x : ℕ). bit_xor x (c % 256) % 256) (mod-eq_of_lt left) ∙ ap (λ (x : ℕ). bit_xor r x % 256) (mod-eq_of_lt right)
    ∙ mod-eq_of_lt (xor-lt r c left right)

pub coefficient_inverts : (r c : ℕ) → r < 256 → c < 256 → r ≢ c → IsProductOf (coefficient r c).value (bit_xor r c) 1
coefficient_inverts r c left right apart =
    let s = gf256.sum (element r) (element c) in
    let P : ℕ → Type 0 = λ x. IsProductOf (coefficient r c).value x 1 in
    subst P (sum_number r c left right) (quotient-polynomial gf256.one s (coefficient r c).value (sum_some r c left right apart) (quotient-value gf256.one s))

pub coding_above : (units r c : ℕ) → units ≤ r → coding_at units r c ≡ coefficient r c
coding_above units r c le = ap (λ (b : Bool). cond b (unit_at gf256 r c) (coefficient r c)) (le-ltb r units le)

pub coding_below : (units r c : ℕ) → r < units → coding_at units r c ≡ unit_at gf256 r c
coding_below units r c lt = ap (λ (b : Bool). cond b (unit_at gf256 r c) (coefficient r c)) (lt-ltb r units lt)

-- a matrix whose first k rows are those of the coding matrix
pub record HasCodingRows (units parity k : ℕ) (m : List (List GF256)) : Type 0 where
  pub grid : IsGrid m
  pub rows : length m ≡ units + parity
  pub cols : width m ≡ units
  pub done : (r c : ℕ) → r < k → c < units → entry gf256 m r c ≡ coding_at units r c

module _ (units parity : ℕ) where
  pub coding_none : (m : List (List GF256)) → IsGrid m → IsZeroes gf256 (units + parity) units m → HasCodingRows units parity 0 m
  coding_none m grid zeroes = record { grid = grid; rows = zeroes.height; cols = zeroes.wide; done = λ r c lt col. absurd (omega arith) }

  pub coding_more : (k : ℕ) (m m' : List (List GF256)) → HasCodingRows units parity k m → SetsRow gf256 k (λ c. coding_at (width m) k c) m m' → HasCodingRows units parity (k + 1) m'
  coding_more k m m' h s =
      let cols = h.cols in
      record {
        grid = s.grid;
        rows = s.rows ∙ h.rows;
        cols = s.cols ∙ h.cols;
        done = λ r c lt col. elim (cases_eq r k) [
          | inl e ↦ ap (λ (i : ℕ). entry gf256 m' i c) e ∙ s.set c (omega arith) ∙ ap (λ (w : ℕ). coding_at w k c) cols ∙ ap (λ (i : ℕ). coding_at units i c) (sym e)
          | inr apart ↦ sets_other gf256 k (λ (c : ℕ). coding_at (width m) k c) m (width m) m' s r c apart ∙ h.done r c (omega arith) col
        ];
      }

  pub coding_all : (k : ℕ) (m : List (List GF256)) → HasCodingRows units parity k m → k ≡ length m → IsCodingMatrix units parity m
  coding_all k m h end =
      let rows = h.rows in
      record { rows = h.rows; cols = h.cols; entries = λ r c row col. h.done r c (omega arith) col }

  pub coding_inverts : (m : List (List GF256)) → IsCodingMatrix units parity m → units + parity ≤ 256 → (r c : ℕ) → units ≤ r → r < units + parity → c < units
      → IsProductOf (entry gf256 m r c).value (bit_xor r c) 1
  coding_inverts m coding fits r c le lt col =
      let P : GF256 → Type 0 = λ x. IsProductOf x.value (bit_xor r c) 1 in
      subst P (sym (coding.entries r c lt col ∙ coding_above units r c le)) (coefficient_inverts r c (omega arith) (omega arith) (omega arith))
