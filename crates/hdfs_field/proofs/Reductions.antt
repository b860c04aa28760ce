-- Steps of the elimination, one after another.
use Rattle.std.proofs.Common.{◌≡◌, ◌≢◌, ℕ, ◌+◌, ◌<◌, ◌≤◌, List, length, refl, sym, subst, ◌∙◌, arith}
use Rattle.std.specs.List.{swap}
use Rattle.hdfs_field.specs.Rings.{Operations, IsCommutativeRing, IsField}
use Rattle.hdfs_field.specs.Matrices.{width, entry, IsIdentity, IsInverse, IsSingular}
use Rattle.hdfs_field.specs.Rows.{SetsRow}
use Rattle.hdfs_field.specs.Elimination.{IsPair, Follows, HasUnits}
use Rattle.hdfs_field.proofs.Kernels.{follows_on}
use Rattle.hdfs_field.proofs.Columns.{pivot_exchange, units_exchange, pivot_division, units_division, Cleared, cleared_skip, cleared_more}
use Rattle.hdfs_field.proofs.Inverses.{inverse_from, singular_from}

module _ {T : Type 0} (ring : Operations T) (n : ℕ) (a b left right left' right' : List (List T)) where
  -- a step from a pair that is known to have n rows
  pub follows_next : Follows ring n a b left right → Follows ring (length left) left right left' right' → Follows ring n a b left' right'
  follows_next f g = follows_on ring n a b left right left' right' f (subst (λ (k : ℕ). Follows ring k left right left' right') f.pair.rows g)

  pub reduced_next : (r : ℕ) → HasUnits ring n r left × Follows ring n a b left right → HasUnits ring (length left) (r + 1) left' → Follows ring (length left) left right left' right' → HasUnits ring n (r + 1) left' × Follows ring n a b left' right'
  reduced_next r now units step = (subst (λ (k : ℕ). HasUnits ring k (r + 1) left') now.1.pair.rows units, follows_next now.1 step)

  pub cleared_next : (laws : IsCommutativeRing ring) (r i : ℕ) → Cleared ring n r i left × Follows ring n a b left right → r < n → i ≢ r → SetsRow ring i (λ c. ring.difference (entry ring left i c) (ring.product (entry ring left i r) (entry ring left r c))) left left' → Follows ring (length left) left right left' right' → (x y : List (List T)) → x ≡ left' → y ≡ right' → Cleared ring n r (i + 1) x × Follows ring n a b x y
  cleared_next laws r i now within apart sets step x y ex ey = (
    subst (Cleared ring n r (i + 1)) (sym ex) (cleared_more ring laws n r i (entry ring left i r) left left' now.0 now.1.pair.cols within apart refl sets),
    subst (λ (z : List (List T)). Follows ring n a b z y) (sym ex) (subst (Follows ring n a b left') (sym ey) (follows_next now.1 step)),
  )

  pub cleared_same : (laws : IsCommutativeRing ring) (r i : ℕ) → Cleared ring n r i left × Follows ring n a b left right → i ≡ r → (x y : List (List T)) → x ≡ left → y ≡ right → Cleared ring n r (i + 1) x × Follows ring n a b x y
  cleared_same laws r i now e x y ex ey = (
    subst (Cleared ring n r (i + 1)) (sym ex) (cleared_skip ring laws n r i left now.0 e),
    subst (λ (z : List (List T)). Follows ring n a b z y) (sym ex) (subst (Follows ring n a b left) (sym ey) now.1),
  )

-- an exchange and a division
module _ {T : Type 0} (ring : Operations T) (laws : IsCommutativeRing ring) (quotient : T → T → T) (field : IsField ring quotient) (r p : ℕ) (left right left' right' left'' : List (List T)) (units : HasUnits ring (length left) r left) (in_r : r < length left) (le : r ≤ p) (in_p : p < length left) (some : entry ring left p r ≢ ring.zero) (is : left' ≡ swap left r p) (step : Follows ring (length left) left right left' right') (sets : SetsRow ring r (λ c. quotient (entry ring left' r c) (entry ring left' r r)) left' left'') where
  normal_some : entry ring left' r r ≢ ring.zero
  normal_some e = some (sym (pivot_exchange ring laws (length left) r p left left' refl in_r in_p le is) ∙ e)

  pub normal_pivot : entry ring left'' r r ≡ ring.one
  normal_pivot = pivot_division ring laws quotient field (length left) r (entry ring left' r r) left' left'' step.pair.cols in_r normal_some sets refl

  pub normal_units : HasUnits ring (length left'') r left''
  normal_units =
      subst (λ (k : ℕ). HasUnits ring k r left'') (sym (sets.rows ∙ step.pair.rows))
      (units_division ring laws quotient field (length left) r (entry ring left' r r) left' left'' step.pair.cols in_r normal_some sets
      (units_exchange ring laws (length left) r p left left' refl in_r in_p le is units))

-- the first pair: a square matrix and the identity
module _ {T : Type 0} (ring : Operations T) (laws : IsCommutativeRing ring) (k : ℕ) (a start : List (List T)) (size : k ≡ length a) (square : width a ≡ length a) (identity : IsIdentity ring k start) where
  pub first_pair : IsPair (length a) a start
  first_pair = record { rows = refl; cols = square; right_rows = identity.rows ∙ size; right_cols = identity.cols ∙ size }

  first_identity : IsIdentity ring (length a) start
  first_identity = subst (λ (n : ℕ). IsIdentity ring n start) size identity

  pub inverted : (r : ℕ) (left right : List (List T)) → HasUnits ring (length a) r left × Follows ring (length a) a start left right → r ≡ length a → IsInverse ring a right
  inverted r left right now end =
      inverse_from ring laws (length a) a start left right first_pair first_identity now.1 (subst (λ (n : ℕ). HasUnits ring (length a) n left) end now.0)

  pub singular : (r : ℕ) (left right : List (List T)) → HasUnits ring (length a) r left × Follows ring (length a) a start left right → r < length a → ((i : ℕ) → r ≤ i → i < length left → entry ring left i r ≡ ring.zero) → ring.one ≢ ring.zero → IsSingular ring a
  singular r left right now within none apart =
      let size = now.1.pair.rows in
      singular_from ring laws (length a) a start left right first_pair first_identity now.1 r within now.0 (λ i le lt. none i le (omega arith)) apart
