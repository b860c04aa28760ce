-- The chunks of a payload, one after the other.
use Rattle.std.proofs.Common.{◌≡◌, ℕ, zero, suc, ◌+◌, ◌*◌, ◌<◌, ◌≤◌, ◌↔◌, Bool, true, false, eqb, List, length, take, drop, refl, sym, ap, subst, ◌∙◌, arith, inl, inr}
use Rattle.std.specs.Prelude.{IsTrue}
use Rattle.std.specs.Int.{w32, from_be_bytes}
use Rattle.std.proofs.lemmas.Bool.{cases_eq, eq-eqb, ne_eqb}
use Rattle.std.proofs.lemmas.List.{drop-drop, length-drop}
use Rattle.hdfs_wire.specs.Checksums.{sum_of, sum_at, chunk_at, ChunksHold}

-- the first chunk and the others
pub record First (kind size : ℕ) (sums rest : List ℕ) : Type 0 where
  pub room : 4 ≤ length sums
  pub same : from_be_bytes w32 (take 4 sums) ≡ sum_of kind (take size rest)
  pub others : ChunksHold kind size (drop 4 sums) (drop size rest)

next_sum : (sums : List ℕ) (i : ℕ) → sum_at (drop 4 sums) i ≡ sum_at sums (suc i)
next_sum sums i =
    let e : 4 + i * 4 ≡ suc i * 4 = omega arith in
    ap (λ (s : List ℕ). from_be_bytes w32 (take 4 s)) (drop-drop (i * 4) 4 sums ∙ ap (λ (n : ℕ). drop n sums) e)

next_chunk : (size : ℕ) (rest : List ℕ) (i : ℕ) → chunk_at size (drop size rest) i ≡ chunk_at size rest (suc i)
next_chunk size rest i =
    let e : size + i * size ≡ suc i * size = omega arith in
    ap (take size) (drop-drop (i * size) size rest ∙ ap (λ (n : ℕ). drop n rest) e)

first_sum : (sums : List ℕ) → sum_at sums 0 ≡ from_be_bytes w32 (take 4 sums)
first_sum sums = refl

first_chunk : (size : ℕ) (rest : List ℕ) → chunk_at size rest 0 ≡ take size rest
first_chunk size rest = let e : 0 * size ≡ 0 = omega arith in ap (λ (n : ℕ). take size (drop n rest)) e

pub first_of : (kind size : ℕ) (sums rest : List ℕ) → 0 < length rest → ChunksHold kind size sums rest → First kind size sums rest
first_of kind size sums rest some h =
    let start = h 0 (omega arith) in
    record {
      room = omega (arith, start.0);
      same = sym (first_sum sums) ∙ start.1 ∙ ap (sum_of kind) (first_chunk size rest);
      others = λ i lt.
          let len = length-drop size rest in
          let there = h (suc i) (omega arith) in
          let left = length-drop 4 sums in
          (omega (arith, there.0), next_sum sums i ∙ there.1 ∙ ap (sum_of kind) (sym (next_chunk size rest i)));
    }

pub from_first : (kind size : ℕ) (sums rest : List ℕ) → First kind size sums rest → ChunksHold kind size sums rest
from_first kind size sums rest f zero lt = (omega (arith, f.room), first_sum sums ∙ f.same ∙ ap (sum_of kind) (sym (first_chunk size rest)))
from_first kind size sums rest f (suc i) lt =
    let len = length-drop size rest in
    let there = f.others i (omega arith) in
    let left = length-drop 4 sums in
    (omega (arith, there.0, f.room), sym (next_sum sums i) ∙ there.1 ∙ ap (sum_of kind) (next_chunk size rest i))

pub none_left : (kind size : ℕ) (sums rest : List ℕ) → length rest ≡ 0 → ChunksHold kind size sums rest
none_left kind size sums rest none i lt = absurd (omega arith)

-- chunks of no bytes
pub no_size : (kind : ℕ) (sums rest : List ℕ) → 0 < length rest → ChunksHold kind 0 sums rest → ⊥
no_size kind sums rest some h =
    let there = h (length sums) (omega arith) in
    absurd (omega (arith, there.0))

-- ---- the loop

-- what is left holds exactly where all does
pub record Left (kind size : ℕ) (checksum payload sums rest : List ℕ) : Type 0 where
  pub there : ChunksHold kind size sums rest → ChunksHold kind size checksum payload
  pub back : ChunksHold kind size checksum payload → ChunksHold kind size sums rest

pub Left-all : (kind size : ℕ) (checksum payload : List ℕ) → Left kind size checksum payload checksum payload
Left-all kind size checksum payload = record { there = λ h. h; back = λ h. h }

pub Left-more : (kind size : ℕ) (checksum payload sums rest : List ℕ) → Left kind size checksum payload sums rest → 0 < length rest → 4 ≤ length sums → from_be_bytes w32 (take 4 sums) ≡ sum_of kind (take size rest)
    → Left kind size checksum payload (drop 4 sums) (drop size rest)
Left-more kind size checksum payload sums rest so some room same = record {
  there = λ h. so.there (from_first kind size sums rest (record { room = room; same = same; others = h }));
  back = λ h. (first_of kind size sums rest some (so.back h)).others;
}

pub is_false : {P : Type 0} → (P → ⊥) → IsTrue false ↔ P
is_false {P} refute = ((λ t. absurd (cc)), (λ p. absurd (refute p)))

pub is_true : {P : Type 0} → P → IsTrue true ↔ P
is_true {P} p = ((λ t. p), (λ q. refl))

pub cut_short : (kind size : ℕ) (checksum payload sums rest : List ℕ) → Left kind size checksum payload sums rest → 0 < length rest → length sums < 4 → ChunksHold kind size checksum payload → ⊥
cut_short kind size checksum payload sums rest so some short h =
    let room = (first_of kind size sums rest some (so.back h)).room in
    absurd (omega arith)

pub differs : (kind size : ℕ) (checksum payload sums rest : List ℕ) → Left kind size checksum payload sums rest → 0 < length rest → (from_be_bytes w32 (take 4 sums) ≡ sum_of kind (take size rest) → ⊥) → ChunksHold kind size checksum payload → ⊥
differs kind size checksum payload sums rest so some ne h = ne (first_of kind size sums rest some (so.back h)).same

pub zero_iff : (kind size : ℕ) (sums rest : List ℕ) (b : Bool) → size ≡ 0 → b ≡ eqb (length rest) 0 → IsTrue b ↔ ChunksHold kind size sums rest
zero_iff kind size sums rest b zero_size is =
    elim (cases_eq (length rest) 0) [
      | inl none ↦
          let yes : b ≡ true = is ∙ eq-eqb (length rest) 0 none in
          rw yes (is_true (none_left kind size sums rest none))
      | inr some ↦
          let not : b ≡ false = is ∙ ne_eqb (length rest) 0 some in
          rw not (is_false (λ h. no_size kind sums rest (omega arith) (subst (λ (n : ℕ). ChunksHold kind n sums rest) zero_size h)))
    ]
