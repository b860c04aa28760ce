-- A number that is read is the one that its bytes stand for, and what was written is read again.
use Rattle.std.proofs.Common.{◌≡◌, ℕ, zero, suc, ◌+◌, ◌-◌, ◌*◌, ◌/◌, ◌%◌, ◌^◌, ◌<◌, ◌≤◌, ◌↔◌, ltb, List, [], ◌∷◌, ◌++◌, length, get_or, take, drop, All, Result, Ok, Err, refl, sym, ap, subst, ◌∙◌, arith, inl, inr}
use Rattle.std.specs.Prelude.{IfOk}
use Rattle.std.specs.List.{AllByRecursion}
use Rattle.std.proofs.lemmas.Nat.{shr_below, pow-add, pow_pos}
use Rattle.std.proofs.lemmas.Bool.{cases_lt, le-ltb, lt-ltb, ltb-true, ltb-false}
use Rattle.std.proofs.lemmas.List.{take-append-drop, append_cancel_right}
use Rattle.std.proofs.lemmas.List.Elements.{All-from_recursion}
use Rattle.hdfs_wire.specs.declared.wire_fault.WireFault.{WireFault}
use Rattle.hdfs_wire.specs.declared.wire_fault.WireFault.TheVariants.{Cut, LongVarint}
use Rattle.hdfs_wire.specs.Reading.{◌>>=◌, Gives}
use Rattle.hdfs_wire.specs.Varint.{groups, varint, groups_at, varint_at, StandsFor, ReadsVarint, EndsInVarint, BeginsLongVarint}
use Rattle.hdfs_wire.proofs.Steps.{IsBytes, IsBytes-rest, bind_ok, bind_err, chosen, ok_is, gives_err}

abbrev high_of : ℕ → ℕ × List ℕ → ℕ × List ℕ
high_of b high = (b - 128 + 128 * high.0, high.1)

groups_again : (more n : ℕ) (rest : List ℕ) → n < 2 ^ (7 * more + 1) → groups_at more (groups more n ++ rest) ≡ Ok (n, rest)
unfolding groups groups_at
groups_again zero n rest lt = rw (lt-ltb n 2 lt) refl
groups_again (suc more) n rest lt =
    elim (cases_lt n 128) [
      | inl low ↦ rw (lt-ltb n 128 low) (rw (lt-ltb n 128 low) refl)
      | inr high ↦
          let spread : 7 * suc more + 1 ≡ 7 * more + 1 + 7 = omega arith in
          let wide : n < 2 ^ (7 * more + 1 + 7) = rw (← spread) lt in
          let below : n / 128 < 2 ^ (7 * more + 1) = shr_below n (7 * more + 1) 7 wide in
          let again = groups_again more (n / 128) rest below in
          let whole : n % 128 + 128 - 128 + 128 * (n / 128) ≡ n = omega arith in
          rw (le-ltb n 128 high) (rw (le-ltb (n % 128 + 128) 128 (omega arith), again, whole) refl)
    ]

pub varint_again : (n : ℕ) (rest : List ℕ) → n < 2 ^ 64 → varint_at (varint n ++ rest) ≡ Ok (n, rest)
unfolding varint varint_at
varint_again n rest lt = groups_again 9 n rest lt

pub varints_apart : (m n : ℕ) (x y : List ℕ) → m < 2 ^ 64 → n < 2 ^ 64 → varint m ++ x ≡ varint n ++ y → (m ≡ n) × (x ≡ y)
varints_apart m n x y a b e =
    let same : (m, x) ≡ (n, y) = ok_is (m, x) (n, y) (sym (varint_again m x a) ∙ ap varint_at e ∙ varint_again n y b) in
    (ap (λ (p : ℕ × List ℕ). p.0) same, ap (λ (p : ℕ × List ℕ). p.1) same)

-- ---- what was read

-- the bytes of the number at the front
pub record Front (more : ℕ) (bytes : List ℕ) (x : ℕ × List ℕ) : Type 0 where
  pub front : List ℕ
  pub parts : bytes ≡ front ++ x.1
  pub stands : StandsFor front x.0
  pub short : length front ≤ more + 1
  pub fits : x.0 < 2 ^ (7 * more + 1)

StandsFor-more : (b n high : ℕ) (front : List ℕ) → 128 ≤ b → b < 256 → n + 128 ≡ b + 128 * high → StandsFor front high → StandsFor (b ∷ front) n
StandsFor-more b n high [] le lt e h = absurd h
StandsFor-more b n high (c ∷ front) le lt e h = (le, lt, high, e, h)

Front-one : (more b : ℕ) (rest : List ℕ) → b < 128 → b < 2 ^ (7 * more + 1) → Front more (b ∷ rest) (b, rest)
Front-one more b rest low fits = record { front = b ∷ []; parts = refl; stands = (low, refl); short = omega arith; fits = fits }

wide_more : (more b high : ℕ) → b < 256 → high < 2 ^ (7 * more + 1) → b - 128 + 128 * high < 2 ^ (7 * suc more + 1)
wide_more more b high lt h =
    let spread : 7 * suc more + 1 ≡ 7 * more + 1 + 7 = omega arith in
    rw (spread, pow-add 2 (7 * more + 1) 7) (omega arith)

Front-more : (more b : ℕ) (rest : List ℕ) (x : ℕ × List ℕ) → 128 ≤ b → b < 256 → Front more rest x → Front (suc more) (b ∷ rest) (b - 128 + 128 * x.0, x.1)
Front-more more b rest x le lt f = record {
  front = b ∷ f.front;
  parts = ap (λ (t : List ℕ). b ∷ t) f.parts;
  stands = StandsFor-more b (b - 128 + 128 * x.0) x.0 f.front le lt (omega arith) f.stands;
  short = omega (arith, f.short);
  fits = wide_more more b x.0 lt f.fits;
}

one_below : (more b : ℕ) → b < 128 → b < 2 ^ (7 * suc more + 1)
one_below more b lt =
    let spread : 7 * suc more + 1 ≡ 7 * more + 1 + 7 = omega arith in
    rw (spread, pow-add 2 (7 * more + 1) 7) (omega (arith, pow_pos (7 * more + 1)))

groups_take : (more : ℕ) (bytes : List ℕ) (x : ℕ × List ℕ) → IsBytes bytes → groups_at more bytes ≡ Ok x → Front more bytes x
unfolding groups_at
groups_take more [] x fits e = absurd cc
groups_take zero (b ∷ rest) x fits e =
    elim (chosen (ltb b 2) (Ok (b, rest)) (Err LongVarint) (Ok x) e) [
      | inl h ↦
          let low : b < 2 = ltb-true _ _ h.0 in
          subst (Front zero (b ∷ rest)) (ok_is (b, rest) x h.1) (Front-one zero b rest (omega arith) low)
      | inr h ↦ let no = h.1 in absurd cc
    ]
groups_take (suc more) (b ∷ rest) x fits e =
    elim (chosen (ltb b 128) (Ok (b, rest)) (groups_at more rest >>= λ high. Ok (b - 128 + 128 * high.0, high.1)) (Ok x) e) [
      | inl h ↦
          let low : b < 128 = ltb-true _ _ h.0 in
          subst (Front (suc more) (b ∷ rest)) (ok_is (b, rest) x h.1) (Front-one (suc more) b rest low (one_below more b low))
      | inr h ↦
          let le : 128 ≤ b = ltb-false _ _ h.0 in
          let r = bind_ok (groups_at more rest) (λ high. Ok (b - 128 + 128 * high.0, high.1)) x h.1 in
          let inner = groups_take more rest r.0 (IsBytes-rest b rest fits) r.1 in
          subst (Front (suc more) (b ∷ rest)) (ok_is (b - 128 + 128 * r.0.0, r.0.1) x r.2) (Front-more more b rest r.0 le (fits 0) inner)
    ]

pub varint_takes : (bytes : List ℕ) (x : ℕ × List ℕ) → IsBytes bytes → varint_at bytes ≡ Ok x → Front 9 bytes x
unfolding varint_at
varint_takes bytes x fits e = groups_take 9 bytes x fits e

pub is_found : (bytes : List ℕ) (r : Result (ℕ × ℕ) WireFault) → IsBytes bytes → IfOk r (λ x. x.1 ≤ length bytes) → Gives (λ x. (x.0, drop x.1 bytes)) r (varint_at bytes)
    → IfOk r (λ x. ReadsVarint (take x.1 bytes) x.0)
is_found bytes (Err e) fits within given = tt
is_found bytes (Ok x) fits within given =
    let f = varint_takes bytes (x.0, drop x.1 bytes) fits given in
    let same : f.front ≡ take x.1 bytes = append_cancel_right f.front (take x.1 bytes) (drop x.1 bytes) (sym f.parts ∙ sym (take-append-drop x.1 bytes)) in
    record {
      stands = subst (λ (t : List ℕ). StandsFor t x.0) same f.stands;
      short = subst (λ (t : List ℕ). length t ≤ 10) same f.short;
      fits = f.fits;
    }

-- ---- what was refused

groups_none : (more : ℕ) → groups_at more [] ≡ Err Cut
unfolding groups_at
groups_none zero = refl
groups_none (suc more) = refl

abbrev GoesOn : List ℕ → Type 0
GoesOn bytes = AllByRecursion (λ b. 128 ≤ b) bytes

goes_on_from : (bytes : List ℕ) → All (λ b. 128 ≤ b) bytes → GoesOn bytes
goes_on_from [] all = tt
goes_on_from (b ∷ rest) all = (all 0 0 (omega arith), goes_on_from rest (λ k d lt. all (suc k) d (omega arith)))

cut_gives : (more : ℕ) (bytes : List ℕ) → groups_at more bytes ≡ Err Cut → (length bytes ≤ more) × GoesOn bytes
unfolding groups_at
cut_gives more [] e = (omega arith, tt)
cut_gives zero (b ∷ rest) e =
    elim (chosen (ltb b 2) (Ok (b, rest)) (Err LongVarint) (Err Cut) e) [
      | inl h ↦ let no = h.1 in absurd cc
      | inr h ↦ let no = h.1 in absurd cc
    ]
cut_gives (suc more) (b ∷ rest) e =
    elim (chosen (ltb b 128) (Ok (b, rest)) (groups_at more rest >>= λ high. Ok (b - 128 + 128 * high.0, high.1)) (Err Cut) e) [
      | inl h ↦ let no = h.1 in absurd cc
      | inr h ↦
          let le : 128 ≤ b = ltb-false _ _ h.0 in
          let r = bind_err (groups_at more rest) (high_of b) Cut h.1 in
          let inner = cut_gives more rest r in
          (omega (arith, inner.0), (le, inner.1))
    ]

cut_from : (more : ℕ) (bytes : List ℕ) → length bytes ≤ more → GoesOn bytes → groups_at more bytes ≡ Err Cut
unfolding groups_at
cut_from more [] le all = groups_none more
cut_from zero (b ∷ rest) le all = absurd (omega arith)
cut_from (suc more) (b ∷ rest) le all = rw (le-ltb b 128 all.0, cut_from more rest (omega arith) all.1) refl

long_gives : (more : ℕ) (bytes : List ℕ) → groups_at more bytes ≡ Err LongVarint → (more < length bytes) × GoesOn (take more bytes) × (1 < get_or bytes more 0)
unfolding groups_at
long_gives more [] e = let no = sym (groups_none more) ∙ e in absurd cc
long_gives zero (b ∷ rest) e =
    elim (chosen (ltb b 2) (Ok (b, rest)) (Err LongVarint) (Err LongVarint) e) [
      | inl h ↦ let no = h.1 in absurd cc
      | inr h ↦ (omega arith, tt, ltb-false _ _ h.0)
    ]
long_gives (suc more) (b ∷ rest) e =
    elim (chosen (ltb b 128) (Ok (b, rest)) (groups_at more rest >>= λ high. Ok (b - 128 + 128 * high.0, high.1)) (Err LongVarint) e) [
      | inl h ↦ let no = h.1 in absurd cc
      | inr h ↦
          let le : 128 ≤ b = ltb-false _ _ h.0 in
          let r = bind_err (groups_at more rest) (high_of b) LongVarint h.1 in
          let inner = long_gives more rest r in
          (omega (arith, inner.0), (le, inner.1), inner.2)
    ]

long_from : (more : ℕ) (bytes : List ℕ) → more < length bytes → GoesOn (take more bytes) → 1 < get_or bytes more 0 → groups_at more bytes ≡ Err LongVarint
unfolding groups_at
long_from more [] lt all high = absurd (omega arith)
long_from zero (b ∷ rest) lt all high = rw (le-ltb b 2 high) refl
long_from (suc more) (b ∷ rest) lt all high = rw (le-ltb b 128 all.0, long_from more rest (omega arith) all.1 high) refl

pub is_cut : (bytes : List ℕ) (r : Result (ℕ × ℕ) WireFault) → Gives (λ x. (x.0, drop x.1 bytes)) r (varint_at bytes) → (r ≡ Err Cut) ↔ EndsInVarint bytes
unfolding varint_at
is_cut bytes r given =
    let read = gives_err (λ (x : ℕ × ℕ). (x.0, drop x.1 bytes)) r (groups_at 9 bytes) Cut given in (
      λ e. (let g = cut_gives 9 bytes (read.0 e) in (omega (arith, g.0), All-from_recursion (λ b. 128 ≤ b) bytes g.1)),
      λ h. read.1 (cut_from 9 bytes (omega (arith, h.0)) (goes_on_from bytes h.1)),
    )

pub is_long : (bytes : List ℕ) (r : Result (ℕ × ℕ) WireFault) → Gives (λ x. (x.0, drop x.1 bytes)) r (varint_at bytes) → (r ≡ Err LongVarint) ↔ BeginsLongVarint bytes
unfolding varint_at
is_long bytes r given =
    let read = gives_err (λ (x : ℕ × ℕ). (x.0, drop x.1 bytes)) r (groups_at 9 bytes) LongVarint given in (
      λ e. (let g = long_gives 9 bytes (read.0 e) in (omega (arith, g.0), All-from_recursion (λ b. 128 ≤ b) (take 9 bytes) g.1, g.2)),
      λ h. read.1 (long_from 9 bytes (omega (arith, h.0)) (goes_on_from (take 9 bytes) h.1) h.2),
    )

-- ---- what is in the grammar is read

below_part : (more b high : ℕ) → 128 ≤ b → b - 128 + 128 * high < 2 ^ (7 * suc more + 1) → high < 2 ^ (7 * more + 1)
below_part more b high le lt =
    let spread : 7 * suc more + 1 ≡ 7 * more + 1 + 7 = omega arith in
    let wide : b - 128 + 128 * high < 2 ^ (7 * more + 1) * 2 ^ 7 = rw (← pow-add 2 (7 * more + 1) 7, ← spread) lt in
    omega arith

groups_read : (more : ℕ) (front : List ℕ) (n : ℕ) (rest : List ℕ) → StandsFor front n → length front ≤ more + 1 → n < 2 ^ (7 * more + 1) → groups_at more (front ++ rest) ≡ Ok (n, rest)
unfolding groups_at
groups_read more [] n rest stands short fits = absurd stands
groups_read zero (b ∷ []) n rest stands short fits = let same = stands.1 in rw (lt-ltb b 2 (omega arith), same) refl
groups_read (suc more) (b ∷ []) n rest stands short fits = let same = stands.1 in rw (lt-ltb b 128 stands.0, same) refl
groups_read zero (b ∷ c ∷ bs) n rest stands short fits = absurd (omega arith)
groups_read (suc more) (b ∷ c ∷ bs) n rest stands short fits =
    let le : 128 ≤ b = stands.0 in
    let high : ℕ = stands.2 in
    let whole : b - 128 + 128 * high ≡ n = omega (arith, stands.3) in
    let below : high < 2 ^ (7 * more + 1) = below_part more b high le (rw whole fits) in
    let inner = groups_read more (c ∷ bs) high rest stands.4 (omega arith) below in
    rw (le-ltb b 128 le, inner, whole) refl

pub varint_reads : (front : List ℕ) (n : ℕ) (rest : List ℕ) → ReadsVarint front n → varint_at (front ++ rest) ≡ Ok (n, rest)
unfolding varint_at
varint_reads front n rest reads = groups_read 9 front n rest reads.stands reads.short reads.fits

-- ---- what is written is in the grammar

groups_stand : (more n : ℕ) → n < 2 ^ (7 * more + 1) → StandsFor (groups more n) n × (length (groups more n) ≤ more + 1)
unfolding groups
groups_stand zero n lt = ((omega arith, refl), omega arith)
groups_stand (suc more) n lt =
    elim (cases_lt n 128) [
      | inl low ↦ rw (lt-ltb n 128 low) ((low, refl), omega arith)
      | inr high ↦
          let spread : 7 * suc more + 1 ≡ 7 * more + 1 + 7 = omega arith in
          let wide : n < 2 ^ (7 * more + 1 + 7) = rw (← spread) lt in
          let below : n / 128 < 2 ^ (7 * more + 1) = shr_below n (7 * more + 1) 7 wide in
          let inner = groups_stand more (n / 128) below in
          rw (le-ltb n 128 high) (StandsFor-more (n % 128 + 128) n (n / 128) (groups more (n / 128)) (omega arith) (omega arith) (omega arith) inner.0, omega (arith, inner.1))
    ]

pub varint_stands : (n : ℕ) → n < 2 ^ 64 → ReadsVarint (varint n) n
unfolding varint
varint_stands n lt = let s = groups_stand 9 n lt in record { stands = s.0; short = s.1; fits = lt }

pub Front-reads : (bytes : List ℕ) (x : ℕ × List ℕ) (f : Front 9 bytes x) → ReadsVarint f.front x.0
Front-reads bytes x f = record { stands = f.stands; short = f.short; fits = f.fits }

pub reads_some : (front : List ℕ) (n : ℕ) → ReadsVarint front n → 0 < length front
reads_some [] n reads = absurd reads.stands
reads_some (b ∷ front) n reads = omega arith
