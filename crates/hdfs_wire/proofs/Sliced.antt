-- Sixteen bytes at a step: what each leaves behind the others, one after the other.
use Rattle.std.proofs.Common.{◌≡◌, ℕ, suc, ◌+◌, ◌-◌, ◌*◌, ◌/◌, ◌%◌, ◌^◌, ◌<◌, ◌≤◌, List, [], ◌∷◌, length, get_or, drop, refl, sym, ap, ◌∙◌, arith, inl, inr}
use Rattle.std.specs.Prelude.{bit_xor}
use Rattle.std.proofs.lemmas.Bool.{cases_lt}
use Rattle.std.proofs.lemmas.Nat.{shr_below}
use Rattle.std.proofs.lemmas.List.{drop_more, drop_all, length-drop}
use Rattle.hdfs_wire.specs.Crc.{enter}
use Rattle.hdfs_wire.specs.CrcTables.{AreTables, zero_bytes}
use Rattle.hdfs_wire.proofs.Steps.{IsBytes, IsBytes-drop}
use Rattle.hdfs_wire.proofs.Register.{enter-first, enter-none}
use Rattle.hdfs_wire.proofs.Xor.{xor-zero, xor_assoc}

-- what the first bytes leave, and what of the register has met no byte yet
pub record Sliced (near far : List (List ℕ)) (register : ℕ) (bytes : List ℕ) (sum left i : ℕ) : Type 0 where
  pub small : left < 2 ^ (32 - 8 * i)
  pub same : (p : ℕ) → AreTables p 0 near → AreTables p 8 far → bit_xor sum (enter p left (drop i bytes)) ≡ enter p register bytes

pub Sliced-none : (near far : List (List ℕ)) (register : ℕ) (bytes : List ℕ) → register < 2 ^ 32 → Sliced near far register bytes 0 register 0
Sliced-none near far register bytes lt = record { small = lt; same = λ p n f. refl }

smaller : (left i : ℕ) → left < 2 ^ (32 - 8 * i) → left / 256 < 2 ^ (32 - 8 * (i + 1))
smaller left i lt =
    elim (cases_lt i 4) [
      | inl low ↦
          let e : 32 - 8 * i ≡ 32 - 8 * (i + 1) + 8 = omega arith in
          let wide : left < 2 ^ (32 - 8 * (i + 1) + 8) = rw (← e) lt in
          shr_below left (32 - 8 * (i + 1)) 8 wide
      | inr high ↦
          let none : 32 - 8 * i ≡ 0 = omega arith in
          let here : left < 2 ^ 0 = rw none at lt in
          let gone : 32 - 8 * (i + 1) ≡ 0 = omega arith in
          rw gone (omega arith)
    ]

pub Sliced-more : (near far : List (List ℕ)) (register : ℕ) (bytes : List ℕ) (sum left i byte entry : ℕ) → i < 16 → length bytes ≡ 16 → IsBytes bytes → Sliced near far register bytes sum left i
    → ((p : ℕ) → AreTables p 0 near → AreTables p 8 far → entry ≡ zero_bytes p (16 - 1 - i + 1) (bit_xor (left % 256) byte))
    → byte ≡ get_or bytes i 0
    → Sliced near far register bytes (bit_xor sum entry) (left / 256) (i + 1)
Sliced-more near far register bytes sum left i byte entry lt len fits so is at =
    let here : drop i bytes ≡ get_or bytes i 0 ∷ drop (i + 1) bytes = drop_more bytes i 0 (omega arith) in
    let after : suc (length (drop (i + 1) bytes)) ≡ 16 - 1 - i + 1 = rw (length-drop (i + 1) bytes) (omega arith) in
    record {
      small = smaller left i so.small;
      same = λ p n f.
          let b : ℕ = get_or bytes i 0 in
          let whole : IsBytes (b ∷ drop (i + 1) bytes) = rw (← here) (IsBytes-drop i bytes fits) in
          let first : enter p left (drop i bytes) ≡ bit_xor (zero_bytes p (suc (length (drop (i + 1) bytes))) (bit_xor (left % 256) b)) (enter p (left / 256) (drop (i + 1) bytes)) =
          ap (enter p left) here ∙ enter-first p left b (drop (i + 1) bytes) whole in
          let entry-is : zero_bytes p (suc (length (drop (i + 1) bytes))) (bit_xor (left % 256) b) ≡ entry = ap (λ (k : ℕ). zero_bytes p k (bit_xor (left % 256) b)) after ∙ ap (λ (v : ℕ). zero_bytes p (16 - 1 - i + 1) (bit_xor (left % 256) v)) (sym at) ∙ sym (is p n f) in
          xor_assoc sum entry (enter p (left / 256) (drop (i + 1) bytes))
          ∙ ap (bit_xor sum) (sym (first ∙ ap (λ (x : ℕ). bit_xor x (enter p (left / 256) (drop (i + 1) bytes))) entry-is))
          ∙ so.same p n f;
    }

pub Sliced-all : (near far : List (List ℕ)) (register : ℕ) (bytes : List ℕ) (sum left i : ℕ) → 16 ≤ i → length bytes ≡ 16 → Sliced near far register bytes sum left i
    → (p : ℕ) → AreTables p 0 near → AreTables p 8 far → sum ≡ enter p register bytes
Sliced-all near far register bytes sum left i le len so p n f =
    let gone : 32 - 8 * i ≡ 0 = omega arith in
    let small : left < 2 ^ 0 = rw gone at so.small in
    let none : left ≡ 0 = omega arith in
    let end : drop i bytes ≡ [] = drop_all i bytes (omega arith) in
    let last : enter p left (drop i bytes) ≡ 0 = ap (enter p left) end ∙ enter-none p left ∙ none in
    sym (xor-zero sum) ∙ ap (bit_xor sum) (sym last) ∙ so.same p n f
