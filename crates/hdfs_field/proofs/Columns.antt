-- The columns that the elimination has done.
use Rattle.std.proofs.Common.{◌≡◌, ◌≢◌, ℕ, ◌+◌, ◌<◌, ◌≤◌, List, length, get_or, inl, inr, sym, ap, ◌∙◌, arith}
use Rattle.std.specs.List.{swap}
use Rattle.std.proofs.lemmas.Bool.{cases_eq}
use Rattle.hdfs_field.specs.Rings.{Operations, IsCommutativeRing, IsField}
use Rattle.hdfs_field.specs.Matrices.{width, entry, unit_at}
use Rattle.hdfs_field.specs.Rows.{SetsRow}
use Rattle.hdfs_field.specs.Elimination.{HasUnits}
use Rattle.hdfs_field.proofs.Totals.{sum_cancel, zero_sum, product_zero, unit_here, unit_elsewhere}
use Rattle.hdfs_field.proofs.Grids.{row-swap}
use Rattle.hdfs_field.proofs.Writes.{sets_other}
use Rattle.hdfs_field.proofs.Kernels.{zero_quotient, quotient_itself}

module _ {T : Type 0} (ring : Operations T) (laws : IsCommutativeRing ring) where
  difference_zero : (a : T) → ring.difference a ring.zero ≡ a
  difference_zero a = sym (laws.sum_zero (ring.difference a ring.zero)) ∙ laws.difference_back a ring.zero

  difference_itself : (a : T) → ring.difference a a ≡ ring.zero
  difference_itself a = sum_cancel ring laws (ring.difference a a) ring.zero a (laws.difference_back a a ∙ sym (zero_sum ring laws a))

  -- the columns that are done before the first r, in row r and the rows below it
  done_zero : (n r : ℕ) (m : List (List T)) → HasUnits ring n r m → (i c : ℕ) → i < n → c < r → r ≤ i → entry ring m i c ≡ ring.zero
  done_zero n r m h i c lt below le = h.at i c lt below ∙ unit_elsewhere ring laws i c (omega arith)

  pub units_none : (n : ℕ) (m : List (List T)) → HasUnits ring n 0 m
  units_none n m = record { at = λ i c lt none. absurd (omega arith) }

-- after an exchange
module _ {T : Type 0} (ring : Operations T) (laws : IsCommutativeRing ring) (n r p : ℕ) (a a' : List (List T)) (size : length a ≡ n) (in_r : r < n) (in_p : p < n) (le : r ≤ p) (is : a' ≡ swap a r p) where
  pub pivot_exchange : entry ring a' r r ≡ entry ring a p r
  pivot_exchange =
      ap (λ (m : List (List T)). entry ring m r r) is ∙ ap (λ (xs : List T). get_or xs r ring.zero) (row-swap a r p 0 (omega arith) (omega arith)).0

  pub units_exchange : HasUnits ring n r a → HasUnits ring n r a'
  units_exchange h = record {
    at = λ i c lt below.
        let rows = row-swap a r p i (omega arith) (omega arith) in
        ap (λ (m : List (List T)). entry ring m i c) is
        ∙ elim (cases_eq i r) [
          | inl e ↦
              ap (λ (k : ℕ). entry ring (swap a r p) k c) e ∙ ap (λ (xs : List T). get_or xs c ring.zero) rows.0
              ∙ done_zero ring laws n r a h p c in_p below le ∙ sym (unit_elsewhere ring laws i c (omega arith))
          | inr off_r ↦ elim (cases_eq i p) [
            | inl e ↦
                ap (λ (k : ℕ). entry ring (swap a r p) k c) e ∙ ap (λ (xs : List T). get_or xs c ring.zero) rows.1
                ∙ done_zero ring laws n r a h r c in_r below (omega arith) ∙ sym (unit_elsewhere ring laws i c (omega arith))
            | inr off_p ↦ ap (λ (xs : List T). get_or xs c ring.zero) (rows.2 off_r off_p) ∙ h.at i c lt below
          ]
        ];
  }

-- after a division
module _ {T : Type 0} (ring : Operations T) (laws : IsCommutativeRing ring) (quotient : T → T → T) (field : IsField ring quotient) (n r : ℕ) (d : T) (a a' : List (List T)) (size : width a ≡ n) (within : r < n) (some : d ≢ ring.zero) (s : SetsRow ring r (λ c. quotient (entry ring a r c) d) a a') where
  pub pivot_division : d ≡ entry ring a r r → entry ring a' r r ≡ ring.one
  pivot_division is = s.set r (omega arith) ∙ ap (λ (x : T). quotient x d) (sym is) ∙ quotient_itself ring laws quotient field d some

  pub units_division : HasUnits ring n r a → HasUnits ring n r a'
  units_division h = record {
    at = λ i c lt below. elim (cases_eq i r) [
      | inl e ↦
          ap (λ (k : ℕ). entry ring a' k c) e ∙ s.set c (omega arith)
          ∙ ap (λ (x : T). quotient x d) (done_zero ring laws n r a h r c within below (omega arith))
          ∙ zero_quotient ring laws quotient field d some ∙ sym (unit_elsewhere ring laws i c (omega arith))
      | inr apart ↦ sets_other ring r (λ c. quotient (entry ring a r c) d) a (width a) a' s i c apart ∙ h.at i c lt below
    ];
  }

-- column r while it is cleared: done in the rows before i
pub record Cleared {T : Type 0} (ring : Operations T) (n r i : ℕ) (m : List (List T)) : Type 0 where
  pub units : HasUnits ring n r m
  pub pivot : entry ring m r r ≡ ring.one
  pub zeros : (k : ℕ) → k < i → k < n → k ≢ r → entry ring m k r ≡ ring.zero

module _ {T : Type 0} (ring : Operations T) (laws : IsCommutativeRing ring) (n r : ℕ) where
  pub cleared_none : (m : List (List T)) → HasUnits ring n r m → entry ring m r r ≡ ring.one → Cleared ring n r 0 m
  cleared_none m units pivot = record { units = units; pivot = pivot; zeros = λ k none lt apart. absurd (omega arith) }

  pub cleared_skip : (i : ℕ) (m : List (List T)) → Cleared ring n r i m → i ≡ r → Cleared ring n r (i + 1) m
  cleared_skip i m h e = record { units = h.units; pivot = h.pivot; zeros = λ k below lt apart. h.zeros k (omega arith) lt apart }

  pub cleared_more : (i : ℕ) (t : T) (a a' : List (List T)) → Cleared ring n r i a → width a ≡ n → r < n → i ≢ r → t ≡ entry ring a i r → SetsRow ring i (λ c. ring.difference (entry ring a i c) (ring.product t (entry ring a r c))) a a' → Cleared ring n r (i + 1) a'
  cleared_more i t a a' h size within off is s =
      let f : ℕ → T = λ c. ring.difference (entry ring a i c) (ring.product t (entry ring a r c)) in
      let other = sets_other ring i f a (width a) a' s in
      record {
        units = record {
          at = λ k c lt below. elim (cases_eq k i) [
            | inl e ↦
                let nothing : ring.product t (entry ring a r c) ≡ ring.zero
                = ap (ring.product t) (done_zero ring laws n r a h.units r c within below (omega arith)) ∙ product_zero ring laws t in
                ap (λ (j : ℕ). entry ring a' j c) e ∙ s.set c (omega arith) ∙ ap (ring.difference (entry ring a i c)) nothing
                ∙ difference_zero ring laws (entry ring a i c) ∙ h.units.at i c (omega arith) below ∙ ap (λ (j : ℕ). unit_at ring j c) (sym e)
            | inr apart ↦ other k c apart ∙ h.units.at k c lt below
          ];
        };
        pivot = other r r (λ e. off (sym e)) ∙ h.pivot;
        zeros = λ k below lt apart. elim (cases_eq k i) [
          | inl e ↦
              ap (λ (j : ℕ). entry ring a' j r) e ∙ s.set r (omega arith)
              ∙ ap (ring.difference (entry ring a i r)) (ap (ring.product t) h.pivot ∙ laws.product_one t ∙ is) ∙ difference_itself ring laws (entry ring a i r)
          | inr before ↦ other k r before ∙ h.zeros k (omega arith) lt apart
        ];
      }

  pub cleared_all : (m : List (List T)) → Cleared ring n r n m → HasUnits ring n (r + 1) m
  cleared_all m h = record {
    at = λ i c lt below. elim (cases_eq c r) [
      | inr before ↦ h.units.at i c lt (omega arith)
      | inl e ↦ elim (cases_eq i r) [
        | inl here ↦
            ap (λ (k : ℕ). entry ring m i k) e ∙ ap (λ (k : ℕ). entry ring m k r) here ∙ h.pivot ∙ sym (unit_here ring laws r)
            ∙ ap (λ (k : ℕ). unit_at ring k r) (sym here) ∙ ap (λ (k : ℕ). unit_at ring i k) (sym e)
        | inr apart ↦ ap (λ (k : ℕ). entry ring m i k) e ∙ h.zeros i lt lt apart ∙ sym (unit_elsewhere ring laws i c (omega arith))
      ]
    ];
  }
