-- What the operations on vectors of 32 bytes hold at each lane.
use Rattle.std.proofs.Common.{[], map, Bor, ◌≡◌, ℕ, ◌+◌, ◌*◌, ◌/◌, ◌%◌, ◌^◌, ◌<◌, ◌≤◌, List, length, get_or, replicate, inl, inr, subst, ◌-◌, refl, sym, ap, ◌∙◌, arith, w8, Fits}
use Rattle.std.specs.Prelude.{bit_and, bit_xor}
use Rattle.std.specs.Simd.Lanes.{zip2, Each1, put_chunk}
use Rattle.std.proofs.lemmas.Nat.{and_mask}
use Rattle.std.proofs.lemmas.Simd.{length-zip2, get_or-zip2, get_or-replicate, length-swz_l, get_or-swz_l_below, swz_l, SwzOk, SwzOk-from_below, Each1-from_get_or, Each1-get_or, length-put_chunk, get_or-put_chunk_below, get_or-put_chunk_at, get_or-put_chunk_above}
use Rattle.std.proofs.lemmas.Bool.{cases_lt}
use Rattle.std.proofs.Math.Nat.{mod-eq_of_lt}
use Rattle.hdfs_field.specs.declared.gf256.GF256.{GF256}
use Rattle.hdfs_field.specs.Elements.{element, gf256, product}
use Rattle.hdfs_field.specs.FieldLaws.{sum-value, product-value}
use Rattle.hdfs_field.specs.Lanes.{HasLanes}
use Rattle.hdfs_field.specs.Matrices.{entry, total}
use Rattle.hdfs_field.specs.Slices.{AddedBelow, added_at, AreFirst, byte_at, combined_below}
use Rattle.hdfs_field.proofs.Writes.{total_more}
use Rattle.std.proofs.Math.ListN.{get_or-map}
use Rattle.std.proofs.lemmas.List.{length-map}

-- an operator on two vectors
pub lanes-zip2 : (f : ℕ → ℕ → ℕ) (a b : List ℕ) → length a ≡ 32 → length b ≡ 32 → HasLanes (zip2 f a b) (λ k. f (get_or a k 0) (get_or b k 0))
lanes-zip2 f a b p q = record {
  long = length-zip2 f a b (p ∙ sym q) ∙ p;
  each = λ k l. get_or-zip2 f a b k 0 0 0 (omega arith) (omega arith);
}

-- an operator on a vector and a splat
lanes-splat : (f : ℕ → ℕ → ℕ) (a : List ℕ) (x : ℕ) → length a ≡ 32 → HasLanes (zip2 f a (replicate 32 x)) (λ k. f (get_or a k 0) x)
lanes-splat f a x p =
    let h = lanes-zip2 f a (replicate 32 x) p refl in
    record { long = h.long; each = λ k l. h.each k l ∙ ap (f (get_or a k 0)) (get_or-replicate 32 k x 0 l) }

-- the low half of each byte, and the high half
pub lanes-low : (v : List ℕ) → length v ≡ 32 → HasLanes (zip2 bit_and v (replicate 32 15)) (λ k. get_or v k 0 % 16)
lanes-low v long =
    let h = lanes-splat bit_and v 15 long in
    record { long = h.long; each = λ k l. h.each k l ∙ and_mask (get_or v k 0) 4 }

pub lanes-high : (v : List ℕ) → length v ≡ 32 → HasLanes (zip2 (λ a b. a / 2 ^ b) v (replicate 32 4)) (λ k. get_or v k 0 / 16)
lanes-high v long = lanes-splat (λ a b. a / 2 ^ b) v 4 long

pub high-lt : (v : List ℕ) → length v ≡ 32 → Each1 (Fits w8) v → (k : ℕ) → k < 32 → get_or v k 0 / 16 < 16
high-lt v long fits k l = omega (arith, (Each1-get_or (Fits w8) v k 0 (omega arith) fits).fits)

module _ (js : List ℕ) (f : ℕ → ℕ) (h : HasLanes js f) (small : (k : ℕ) → k < 32 → f k < 16) where
  -- positions below 16 may be looked up
  pub positions_fit : SwzOk w8 16 32 0 js
  positions_fit =
      let long = h.long in
      SwzOk-from_below w8 16 2 32 0 js refl (omega arith) (Each1-from_get_or (λ j. j < 16) js 0 (λ i l. omega (arith, h.each i (omega arith), small i (omega arith))))

  looked_up_in_halves : (table : List ℕ) → HasLanes (swz_l w8 16 table 0 js) (λ k. get_or table (16 * (k / 16) + f k) 0)
  looked_up_in_halves table =
      let long = h.long in
      record {
        long = length-swz_l w8 16 table 0 js ∙ long;
        each = λ k l.
            let e = h.each k l in
            get_or-swz_l_below w8 16 table 0 js k (omega arith) (omega (arith, small k l)) ∙ ap (λ j. get_or table j 0) (omega arith);
      }

  -- what the look-up gives, in a vector that holds the entries twice
  pub looked_up : (wide : List ℕ) (entry : ℕ → ℕ) → HasLanes wide (λ k. entry (k % 16)) → HasLanes (swz_l w8 16 wide 0 js) (λ k. entry (f k))
  looked_up wide entry twice =
      let got = looked_up_in_halves wide in
      record {
        long = got.long;
        each = λ k l.
            let below = small k l in
            got.each k l ∙ twice.each (16 * (k / 16) + f k) (omega arith) ∙ ap entry (omega arith);
      }

-- a sum of two bytes and a product of two, as the field's operations have them
sum_byte : (c : GF256) (x y : ℕ) → x < 256 → y < 256 → bit_xor x (product c.value y) ≡ (gf256.sum (element x) (gf256.product c (element y))).value
sum_byte c x y left right =
    sym (sum-value (element x) (gf256.product c (element y)) ∙ ap (bit_xor (x % 256)) (product-value c (element y))
    ∙ ap (λ (n : ℕ). bit_xor n (product c.value (y % 256))) (mod-eq_of_lt left) ∙ ap (λ (n : ℕ). bit_xor x (product c.value n)) (mod-eq_of_lt right))

-- after a vector of sums from i on, 32 more bytes are added up
pub added_vector : (c : GF256) (input base old front products : List ℕ) (i : ℕ) → AddedBelow c input base old i → i + 32 ≤ length old
    → ((k : ℕ) → get_or old k 0 < 256) → ((k : ℕ) → get_or input k 0 < 256)
    → HasLanes front (λ k. get_or old (i + k) 0) → HasLanes products (λ k. product c.value (get_or input (i + k) 0))
    → AddedBelow c input base (put_chunk i old (zip2 bit_xor front products)) (i + 32)
added_vector c input base old front products i h room old_bytes bytes fronts times =
    let sums = lanes-zip2 bit_xor front products fronts.long times.long in
    let long = sums.long in
    let ys = zip2 bit_xor front products in
    record {
      long = length-put_chunk i old ys ∙ h.long;
      done = λ k lt. elim (cases_lt k i) [
        | inl before ↦ get_or-put_chunk_below i old ys k 0 before ∙ h.done k before
        | inr le ↦
            let j = k - i in
            let at : i + j ≡ k = omega arith in
            let within : j < 32 = omega arith in
            let P : ℕ → Type 0 = λ n. get_or (put_chunk i old ys) n 0 ≡ added_at c input base n in
            subst P at (
            get_or-put_chunk_at i old ys j 0 (omega arith) (omega arith) ∙ sums.each j within
            ∙ (λ n. bit_xor (fronts.each j within n) (times.each j within n))
            ∙ sum_byte c (get_or old (i + j) 0) (get_or input (i + j) 0) (old_bytes (i + j)) (bytes (i + j))
            ∙ ap (λ (x : ℕ). (gf256.sum (element x) (gf256.product c (element (get_or input (i + j) 0)))).value) (h.left (i + j) (omega arith)))
      ];
      left = λ k le. get_or-put_chunk_above i old ys k 0 (omega arith) ∙ h.left k (omega arith);
    }

module _ (m : List (List GF256)) (shards : List (List ℕ)) (r i : ℕ) where
  -- no term yet
  pub combined_lanes_none : HasLanes (replicate 32 0) (λ k. (combined_below m shards r 0 (i + k)).value)
  unfolding total
  combined_lanes_none = record { long = refl; each = λ k l. get_or-replicate 32 k 0 0 l }

  -- one term more
  pub combined_lanes_more : (n : ℕ) (sums products input : List ℕ) → ((k : ℕ) → get_or input k 0 < 256) → input ≡ get_or shards n []
      → HasLanes sums (λ k. (combined_below m shards r n (i + k)).value) → HasLanes products (λ k. product (entry gf256 m r n).value (get_or input (i + k) 0))
      → HasLanes (zip2 bit_xor sums products) (λ k. (combined_below m shards r (n + 1) (i + k)).value)
  combined_lanes_more n sums products input bytes from before times =
      let both = lanes-zip2 bit_xor sums products before.long times.long in
      let e = entry gf256 m r n in
      record {
        long = both.long;
        each = λ k l.
            let y = get_or input (i + k) 0 in
            let so = combined_below m shards r n (i + k) in
            let f : ℕ → GF256 = λ c. gf256.product (entry gf256 m r c) (element (byte_at shards c (i + k))) in
            let term : (gf256.product e (element y)).value ≡ product e.value y = product-value e (element y) ∙ ap (product e.value) (mod-eq_of_lt (bytes (i + k))) in
            let read : element y ≡ element (byte_at shards n (i + k)) = ap (λ (s : List ℕ). element (get_or s (i + k) 0)) from in
            both.each k l ∙ (λ j. bit_xor (before.each k l j) (times.each k l j)) ∙ ap (bit_xor so.value) (sym term)
            ∙ sym (sum-value so (gf256.product e (element y))) ∙ ap (λ (x : GF256). (gf256.sum so (gf256.product e x)).value) read
            ∙ sym (ap (λ (x : GF256). x.value) (total_more gf256 n f));
      }

-- a vector of bytes more, written behind the first ones
pub first_vector : (m : List (List GF256)) (shards : List (List ℕ)) (r n i : ℕ) (bytes ys : List ℕ) → i + 32 ≤ length bytes → AreFirst m shards r n i bytes
    → HasLanes ys (λ k. (combined_below m shards r n (i + k)).value) → AreFirst m shards r n (i + 32) (put_chunk i bytes ys)
first_vector m shards r n i bytes ys room h lanes =
    let long = lanes.long in
    record {
      each = λ q lt. elim (cases_lt q i) [
        | inl before ↦ get_or-put_chunk_below i bytes ys q 0 before ∙ h.each q before
        | inr le ↦
            let k = q - i in
            let at : i + k ≡ q = omega arith in
            let within : k < 32 = omega arith in
            let P : ℕ → Type 0 = λ p. get_or (put_chunk i bytes ys) p 0 ≡ (combined_below m shards r n p).value in
            subst P at (get_or-put_chunk_at i bytes ys k 0 (omega arith) (omega arith) ∙ lanes.each k within)
      ];
    }

-- what a slice in a list of slices points to
pub slice_at : (inputs : List (Bor (List ℕ))) (c : ℕ) → get_or (map (λ (p : Bor (List ℕ)). p.now) inputs) c [] ≡ (get_or inputs c (record { ref_ptr = (0, 0); now = [] })).now
slice_at inputs c = get_or-map (λ (p : Bor (List ℕ)). p.now) inputs c (record { ref_ptr = (0, 0); now = [] })

pub slice_count : (inputs : List (Bor (List ℕ))) (n : ℕ) → length (map (λ (p : Bor (List ℕ)). p.now) inputs) ≡ n → length inputs ≡ n
slice_count inputs n e = sym (length-map inputs (λ (p : Bor (List ℕ)). p.now)) ∙ e
