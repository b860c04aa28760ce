-- Slices of bytes that are added up, and rows of a matrix times slices.
use Rattle.std.proofs.Common.{◌≡◌, ℕ, ◌+◌, ◌<◌, List, [], ◌∷◌, ◌++◌, length, get_or, set, take, drop, inl, inr, refl, sym, ap, subst, ◌∙◌, arith}
use Rattle.std.proofs.lemmas.Bool.{cases_eq}
use Rattle.std.proofs.lemmas.List.{length-set, length_push, get_or_push, get_or_append_left, get_or-set_same, get_or-set_other}
use Rattle.std.proofs.Math.Nat.{mod-eq_of_lt}
use Rattle.std.proofs.Math.Seq.{take-append_seam}
use Rattle.hdfs_field.specs.declared.gf256.GF256.{GF256}
use Rattle.hdfs_field.specs.Elements.{element, gf256}
use Rattle.hdfs_field.specs.FieldLaws.{same_element}
use Rattle.hdfs_field.specs.Matrices.{width}
use Rattle.hdfs_field.specs.Slices.{added_at, AddedBelow, IsAdded, AreFirst, IsRowProduct, AreCombined, IsCombined, combined_below}

-- the element of an element's number is that element
pub element_back : (a : GF256) → element a.value ≡ a
element_back a = same_element (element a.value) a (mod-eq_of_lt a.in_range)

module _ (c : GF256) (input old : List ℕ) where
  pub added_none : AddedBelow c input old old 0
  added_none = record { long = refl; done = λ k lt. absurd (omega arith); left = λ k le. refl }

  pub added_more : (q v : ℕ) (new : List ℕ) → AddedBelow c input old new q → q < length old → v ≡ added_at c input new q → AddedBelow c input old (set new q v) (q + 1)
  added_more q v new h lt is =
      let long = h.long in
      let here : q < length new = omega arith in
      let same = ap (λ (x : ℕ). (gf256.sum (element x) (gf256.product c (element (get_or input q 0)))).value) (h.left q (omega arith)) in
      record {
        long = length-set new q v ∙ long;
        done = λ k below. elim (cases_eq k q) [
          | inl e ↦ ap (λ (i : ℕ). get_or (set new q v) i 0) e ∙ get_or-set_same new q v 0 here ∙ is ∙ same ∙ ap (added_at c input old) (sym e)
          | inr apart ↦ get_or-set_other new q k v 0 apart ∙ h.done k (omega arith)
        ];
        left = λ k le. get_or-set_other new q k v 0 (omega arith) ∙ h.left k (omega arith);
      }

  pub added_all : (new : List ℕ) (q : ℕ) → AddedBelow c input old new q → q ≡ length old → IsAdded c input old new
  added_all new q h end = record { long = h.long; bytes = λ k lt. h.done k (omega arith) }

module _ (m : List (List GF256)) (shards : List (List ℕ)) (r n : ℕ) where
  -- no byte yet
  pub first_none : (bytes : List ℕ) → AreFirst m shards r n 0 bytes
  first_none bytes = record { each = λ q lt. absurd (omega arith) }

  -- one byte more
  pub first_set : (bytes : List ℕ) (y q : ℕ) → q < length bytes → AreFirst m shards r n q bytes → y ≡ (combined_below m shards r n q).value
      → AreFirst m shards r n (q + 1) (set bytes q y)
  first_set bytes y q here h is = record {
    each = λ k lt. elim (cases_eq k q) [
      | inl e ↦ ap (λ (i : ℕ). get_or (set bytes q y) i 0) e ∙ get_or-set_same bytes q y 0 here ∙ is ∙ ap (λ (p : ℕ). (combined_below m shards r n p).value) (sym e)
      | inr apart ↦ get_or-set_other bytes q k y 0 apart ∙ h.each k (omega arith)
    ];
  }

  -- all the bytes
  pub first_all : (bytes : List ℕ) (count : ℕ) → length bytes ≡ count → count ≡ length (get_or shards 0 []) → AreFirst m shards r n count bytes
      → IsCombined m shards r n bytes
  first_all bytes count long even h = record { long = long ∙ even; bytes = λ q lt. h.each q (omega arith) }

-- the product of a row, over the slices that it was made of
pub row_product : (m : List (List GF256)) (inputs shards : List (List ℕ)) (r len : ℕ) (bytes : List ℕ) → inputs ≡ shards → len ≡ length (get_or shards 0 [])
    → IsRowProduct m inputs r len bytes → IsCombined m shards r (width m) bytes
row_product m inputs shards r len bytes same even h =
    first_all m shards r (width m) bytes len h.long even (subst (λ (s : List (List ℕ)). AreFirst m s r (width m) len bytes) same h.first)

pub added_value : (c a b p s : GF256) (x y v : ℕ) → v ≡ s.value → s ≡ gf256.sum a p → a ≡ element x → p ≡ gf256.product c b → b ≡ element y
    → v ≡ (gf256.sum (element x) (gf256.product c (element y))).value
added_value c a b p s x y v is sum left product right =
    is ∙ ap (λ (z : GF256). z.value) sum ∙ ap (λ (z : GF256). (gf256.sum z p).value) left
    ∙ ap (λ (z : GF256). (gf256.sum (element x) z).value) (product ∙ ap (gf256.product c) right)

-- a vector after its slice was written as a whole
pub whole_written : (n : ℕ) (new old : List ℕ) → length new ≡ length old → n ≡ length old → take n (new ++ drop (length new) old) ≡ new
whole_written n new old long end =
    ap (λ (k : ℕ). take k (new ++ drop (length new) old)) (end ∙ sym long) ∙ take-append_seam new (drop (length new) old)

-- what holds of each place and item of a list, and of one more item behind it
pub each_push : {T : Type 0} (P : ℕ → T → Type 0) (xs : List T) (y d : T) → ((r : ℕ) → r < length xs → P r (get_or xs r d)) → P (length xs) y
    → (r : ℕ) → r < length xs + 1 → P r (get_or (xs ++ y ∷ []) r d)
each_push P xs y d all last r lt = elim (cases_eq r (length xs)) [
  | inl e ↦ subst (λ (k : ℕ). P k (get_or (xs ++ y ∷ []) k d)) (sym e) (subst (P (length xs)) (sym (get_or_push xs y d (length xs) refl)) last)
  | inr apart ↦
      let before : r < length xs = omega arith in
      subst (P r) (sym (get_or_append_left xs (y ∷ []) d r before)) (all r before)
]

-- rows that are combined one after another
pub record CombinedRows (m : List (List GF256)) (shards : List (List ℕ)) (others : List (List ℕ)) (n : ℕ) : Type 0 where
  pub count : length others ≡ n
  pub each : (r : ℕ) → r < n → IsCombined m shards r (width m) (get_or others r [])

module _ (m : List (List GF256)) (shards : List (List ℕ)) where
  pub rows_none : CombinedRows m shards [] 0
  rows_none = record { count = refl; each = λ r lt. absurd (omega arith) }

  pub rows_more : (n : ℕ) (others others' : List (List ℕ)) (other : List ℕ) → CombinedRows m shards others n → IsCombined m shards n (width m) other → others' ≡ others ++ other ∷ []
      → CombinedRows m shards others' (n + 1)
  rows_more n others others' other h is e =
      let P : ℕ → List ℕ → Type 0 = λ r row. IsCombined m shards r (width m) row in
      let count = h.count in
      let last : P (length others) other = subst (λ (k : ℕ). P k other) (sym count) is in
      let all = each_push P others other [] (λ r lt. h.each r (omega arith)) last in
      subst (λ (xs : List (List ℕ)). CombinedRows m shards xs (n + 1)) (sym e) (record {
        count = length_push others other ∙ ap (λ (k : ℕ). k + 1) count;
        each = λ r lt. all r (omega arith);
      })

  pub rows_all : (others : List (List ℕ)) (n : ℕ) → CombinedRows m shards others n → n ≡ length m → length shards ≡ width m → AreCombined m shards others
  rows_all others n h end count = record {
    count = h.count ∙ end;
    long = λ r lt. let row = h.each r (omega arith) in row.long;
    bytes = λ r q lt below.
        let row = h.each r (omega arith) in
        row.bytes q below ∙ ap (λ (k : ℕ). (combined_below m shards r k q).value) (sym count);
  }
