-- The groups of a number, written and read one by one.
use Rattle.std.proofs.Common.{◌≡◌, ℕ, zero, suc, ◌+◌, ◌-◌, ◌*◌, ◌/◌, ◌%◌, ◌^◌, ◌<◌, ◌≤◌, List, [], ◌∷◌, ◌++◌, length, get_or, set, take, drop, Result, Ok, Err, refl, sym, ap, ◌∙◌, append_assoc, add-one, arith, inl, inr}
use Rattle.std.proofs.lemmas.Nat.{shr_below}
use Rattle.std.proofs.Math.Nat.{pow-suc, mul-le-mul_right}
use Rattle.std.proofs.lemmas.Bool.{cases_lt, le-ltb, lt-ltb}
use Rattle.std.proofs.lemmas.List.{drop_more, drop_all, take_more_set, length-set}
use Rattle.hdfs_wire.specs.declared.wire_fault.WireFault.{WireFault}
use Rattle.hdfs_wire.specs.declared.wire_fault.WireFault.TheVariants.{Cut, LongVarint}
use Rattle.hdfs_wire.specs.Reading.{◌>>=◌}
use Rattle.hdfs_wire.specs.Varint.{groups, varint, groups_at, varint_at}

-- ---- writing

pub groups_first : (k n : ℕ) → k < 9 → 128 ≤ n → groups (9 - k) n ≡ (n % 128 + 128) ∷ groups (9 - (k + 1)) (n / 128)
unfolding groups
groups_first k n lt le =
    let e : 9 - k ≡ suc (9 - (k + 1)) = omega arith in
    rw (e, le-ltb n 128 le) refl

pub groups_last : (k n : ℕ) → n < 128 → groups k n ≡ n ∷ []
unfolding groups
groups_last zero n lt = refl
groups_last (suc k) n lt = rw (lt-ltb n 128 lt) refl

-- the groups so far, before those of what is left
pub record Written (places : List ℕ) (len rest n : ℕ) : Type 0 where
  pub room : length places ≡ 10
  pub within : len ≤ 9
  pub left : rest < 2 ^ (64 - 7 * len)
  pub so_far : take len places ++ groups (9 - len) rest ≡ varint n

pub Written-none : (places : List ℕ) (n : ℕ) → length places ≡ 10 → n < 2 ^ 64 → Written places 0 n n
unfolding varint
Written-none places n room lt = record { room = room; within = omega arith; left = lt; so_far = refl }

pub Written-within : (len rest : ℕ) → len ≤ 9 → rest < 2 ^ (64 - 7 * len) → 128 ≤ rest → len < 9
Written-within len rest le left high =
    elim (cases_lt len 9) [
      | inl lt ↦ lt
      | inr ge ↦
          let nine : len ≡ 9 = omega arith in
          let small : rest < 2 ^ (64 - 7 * 9) = rw nine at left in
          absurd (omega arith)
    ]

pub Written-more : (places : List ℕ) (len rest n : ℕ) → Written places len rest n → 128 ≤ rest → Written (set places len (rest % 128 + 128)) (len + 1) (rest / 128) n
Written-more places len rest n so le =
    let lt : len < 9 = Written-within len rest so.within so.left le in
    let room = so.room in
    let spread : 64 - 7 * len ≡ 64 - 7 * (len + 1) + 7 = omega arith in
    let left : rest < 2 ^ (64 - 7 * (len + 1) + 7) = rw (← spread) so.left in
    let more : take (len + 1) (set places len (rest % 128 + 128)) ≡ take len places ++ (rest % 128 + 128) ∷ [] = take_more_set places len (rest % 128 + 128) (omega arith) in
    record {
      room = length-set places len (rest % 128 + 128) ∙ room;
      within = omega arith;
      left = shr_below rest (64 - 7 * (len + 1)) 7 left;
      so_far = rw (more, append_assoc) (rw (groups_first len rest lt le) at so.so_far);
    }

pub Written-all : (places : List ℕ) (len rest n : ℕ) → Written places len rest n → rest < 128 → take (len + 1) (set places len rest) ≡ varint n
Written-all places len rest n so lt =
    let room = so.room in
    let within = so.within in
    let more : take (len + 1) (set places len rest) ≡ take len places ++ rest ∷ [] = take_more_set places len rest (omega arith) in
    more ∙ (rw (groups_last (9 - len) rest lt) at so.so_far)

-- ---- reading

-- what was read so far, of worth scale in all, and what is still read
abbrev pub prefixed : ℕ → ℕ → Result (ℕ × List ℕ) WireFault → Result (ℕ × List ℕ) WireFault
prefixed n scale read = read >>= λ high. Ok (n + scale * high.0, high.1)

sums : (n scale c x : ℕ) → n + scale * (c + 128 * x) ≡ (n + c * scale) + scale * 128 * x
sums n scale c x = omega arith

regroup : (n scale b : ℕ) (read : Result (ℕ × List ℕ) WireFault) → 128 ≤ b → b < 256
    → prefixed n scale (read >>= λ high. Ok (b - 128 + 128 * high.0, high.1)) ≡ prefixed (n + b % 128 * scale) (scale * 128) read
regroup n scale b (Err e) le lt = refl
regroup n scale b (Ok x) le lt =
    let low : b % 128 ≡ b - 128 = omega arith in
    rw low (ap (λ (k : ℕ). Ok (k, x.1)) (sums n scale (b - 128) x.0))

at_place : (bytes : List ℕ) (i : ℕ) → i < length bytes → drop i bytes ≡ get_or bytes i 0 ∷ drop (i + 1) bytes
at_place bytes i lt = drop_more bytes i 0 lt

pub goes_on : (bytes : List ℕ) (n scale i b : ℕ) (total : Result (ℕ × List ℕ) WireFault) → i < 9 → i < length bytes → b ≡ get_or bytes i 0 → 128 ≤ b → b < 256
    → prefixed n scale (groups_at (9 - i) (drop i bytes)) ≡ total
    → prefixed (n + b % 128 * scale) (scale * 128) (groups_at (9 - (i + 1)) (drop (i + 1) bytes)) ≡ total
unfolding groups_at
goes_on bytes n scale i b total lt within is le fits so_far =
    let e : 9 - i ≡ suc (9 - (i + 1)) = omega arith in
    let here : drop i bytes ≡ b ∷ drop (i + 1) bytes = rw is (at_place bytes i within) in
    let one : prefixed n scale (groups_at (9 - i) (drop i bytes)) ≡ prefixed (n + b % 128 * scale) (scale * 128) (groups_at (9 - (i + 1)) (drop (i + 1) bytes)) =
    rw (e, here, le-ltb b 128 le) (regroup n scale b (groups_at (9 - (i + 1)) (drop (i + 1) bytes)) le fits) in
    sym one ∙ so_far

pub ends : (bytes : List ℕ) (n scale i b : ℕ) (total : Result (ℕ × List ℕ) WireFault) → i < 9 → i < length bytes → b ≡ get_or bytes i 0 → b < 128
    → prefixed n scale (groups_at (9 - i) (drop i bytes)) ≡ total → total ≡ Ok (n + b % 128 * scale, drop (i + 1) bytes)
unfolding groups_at
ends bytes n scale i b total lt within is le so_far =
    let e : 9 - i ≡ suc (9 - (i + 1)) = omega arith in
    let here : drop i bytes ≡ b ∷ drop (i + 1) bytes = rw is (at_place bytes i within) in
    let low : b % 128 ≡ b = omega arith in
    let turned : scale * b ≡ b * scale = omega arith in
    let one : prefixed n scale (groups_at (9 - i) (drop i bytes)) ≡ Ok (n + b % 128 * scale, drop (i + 1) bytes) =
    rw (e, here, lt-ltb b 128 le, low, turned) refl in
    sym so_far ∙ one

pub is_cut : (bytes : List ℕ) (n scale i : ℕ) (total : Result (ℕ × List ℕ) WireFault) → i ≤ 9 → length bytes ≤ i
    → prefixed n scale (groups_at (9 - i) (drop i bytes)) ≡ total → total ≡ Err Cut
unfolding groups_at
is_cut bytes n scale i total le short so_far =
    let none : drop i bytes ≡ [] = drop_all i bytes short in
    let one : prefixed n scale (groups_at (9 - i) (drop i bytes)) ≡ Err Cut = rw none refl in
    sym so_far ∙ one

pub is_long : (bytes : List ℕ) (n scale i b : ℕ) (total : Result (ℕ × List ℕ) WireFault) → i ≡ 9 → 9 < length bytes → b ≡ get_or bytes 9 0 → 1 < b
    → prefixed n scale (groups_at (9 - i) (drop i bytes)) ≡ total → total ≡ Err LongVarint
unfolding groups_at
is_long bytes n scale i b total at within is high so_far =
    let here : drop 9 bytes ≡ b ∷ drop 10 bytes = rw is (at_place bytes 9 within) in
    let one : prefixed n scale (groups_at (9 - i) (drop i bytes)) ≡ Err LongVarint = rw (at, here, le-ltb b 2 (omega arith)) refl in
    sym so_far ∙ one

pub is_tenth : (bytes : List ℕ) (n scale i b : ℕ) (total : Result (ℕ × List ℕ) WireFault) → i ≡ 9 → 9 < length bytes → b ≡ get_or bytes 9 0 → b ≤ 1
    → prefixed n scale (groups_at (9 - i) (drop i bytes)) ≡ total → total ≡ Ok (n + b * scale, drop 10 bytes)
unfolding groups_at
is_tenth bytes n scale i b total at within is low so_far =
    let here : drop 9 bytes ≡ b ∷ drop 10 bytes = rw is (at_place bytes 9 within) in
    let turned : scale * b ≡ b * scale = omega arith in
    let one : prefixed n scale (groups_at (9 - i) (drop i bytes)) ≡ Ok (n + b * scale, drop 10 bytes) = rw (at, here, lt-ltb b 2 (omega arith), turned) refl in
    sym so_far ∙ one

pub starts : (bytes : List ℕ) → prefixed 0 1 (groups_at (9 - 0) (drop 0 bytes)) ≡ varint_at bytes
unfolding varint_at
starts bytes = whole (groups_at 9 bytes) where
  whole : (read : Result (ℕ × List ℕ) WireFault) → prefixed 0 1 read ≡ read
  whole (Ok x) = let e : 0 + 1 * x.0 ≡ x.0 = omega arith in rw e refl
  whole (Err e) = refl

pub pow_more : (scale i : ℕ) → scale ≡ 128 ^ i → scale * 128 ≡ 128 ^ (i + 1)
pow_more scale i e = rw (e, add-one, pow-suc) refl

pub below_more : (n b scale : ℕ) → n < scale → n + b % 128 * scale < scale * 128
below_more n b scale lt =
    let low : b % 128 ≤ 127 = omega arith in
    omega (arith, mul-le-mul_right scale low)
