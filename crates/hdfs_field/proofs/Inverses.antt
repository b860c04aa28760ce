-- What a finished elimination says of the matrix.
use Rattle.std.proofs.Common.{◌≡◌, ◌≢◌, ℕ, ◌<◌, ◌≤◌, Bool, cond, ltb, List, length, inl, inr, sym, ap, ◌∙◌, arith}
use Rattle.std.proofs.lemmas.Bool.{cases_lt, lt-ltb, le-ltb}
use Rattle.hdfs_field.specs.Rings.{Operations, IsCommutativeRing}
use Rattle.hdfs_field.specs.Matrices.{width, entry, total, product_at, unit_at, IsIdentity, IsInverse, IsSingular}
use Rattle.hdfs_field.specs.Elimination.{row_times, Vanishes, IsPair, Follows, HasUnits}
use Rattle.hdfs_field.proofs.Totals.{zero_sum, negated, negated_sum, sum_negated, same_opposite, product_zero, total_same, total_zero, total_sum, total_associates, total_left_unit, total_right_unit, unit_here}

module _ {T : Type 0} (ring : Operations T) (laws : IsCommutativeRing ring) (n : ℕ) where
  -- a row of the identity times a column
  unit_times : (m : List (List T)) (i : ℕ) (v : ℕ → T) → i < n → ((c : ℕ) → c < n → entry ring m i c ≡ unit_at ring i c) → row_times ring n m i v ≡ v i
  unit_times m i v lt units =
      total_same ring laws n (λ c. ring.product (entry ring m i c) (v c)) (λ c. ring.product (unit_at ring i c) (v c))
      (λ c below. ap (λ (x : T). ring.product x (v c)) (units c below))
      ∙ total_left_unit ring laws n i v lt

  -- a row times a column of the identity
  times_unit : (m : List (List T)) (i k : ℕ) → k < n → row_times ring n m i (λ c. unit_at ring c k) ≡ entry ring m i k
  times_unit m i k lt = total_right_unit ring laws n k (entry ring m i) lt

  times_zero : (m : List (List T)) (i : ℕ) → row_times ring n m i (λ c. ring.zero) ≡ ring.zero
  times_zero m i = total_zero ring laws n (λ c. ring.product (entry ring m i c) ring.zero) (λ c lt. product_zero ring laws (entry ring m i c))

  times_negated : (m : List (List T)) (i : ℕ) (f : ℕ → T) → ring.sum (row_times ring n m i (λ c. negated ring laws (f c))) (row_times ring n m i f) ≡ ring.zero
  times_negated m i f =
      let x = entry ring m i in
      sym (total_sum ring laws n (λ c. ring.product (x c) (negated ring laws (f c))) (λ c. ring.product (x c) (f c)))
      ∙ total_zero ring laws n (λ c. ring.sum (ring.product (x c) (negated ring laws (f c))) (ring.product (x c) (f c)))
      (λ c lt.
      sym (laws.product_sum (x c) (negated ring laws (f c)) (f c)) ∙ ap (ring.product (x c)) (negated_sum ring laws (f c)) ∙ product_zero ring laws (x c))

  times_sum : (m : List (List T)) (i : ℕ) (f g : ℕ → T) → row_times ring n m i (λ c. ring.sum (f c) (g c)) ≡ ring.sum (row_times ring n m i f) (row_times ring n m i g)
  times_sum m i f g =
      let x = entry ring m i in
      total_same ring laws n (λ c. ring.product (x c) (ring.sum (f c) (g c))) (λ c. ring.sum (ring.product (x c) (f c)) (ring.product (x c) (g c)))
      (λ c lt. laws.product_sum (x c) (f c) (g c))
      ∙ total_sum ring laws n (λ c. ring.product (x c) (f c)) (λ c. ring.product (x c) (g c))

module _ {T : Type 0} (ring : Operations T) (laws : IsCommutativeRing ring) (n : ℕ) (a start left right : List (List T)) (square : IsPair n a start) (identity : IsIdentity ring n start) (follows : Follows ring n a start left right) where
  -- where the left one has become the identity, the right one is the inverse
  right_inverse : HasUnits ring n n left → (i c : ℕ) → i < n → c < n → total ring n (λ k. ring.product (entry ring a i k) (entry ring right k c)) ≡ unit_at ring i c
  right_inverse units i c row col =
      let v : ℕ → T = λ k. negated ring laws (entry ring right k c) in
      let u : ℕ → T = λ k. unit_at ring k c in
      let now : Vanishes ring n left right v u
      = λ j lt.
      ap (λ (x : T). ring.sum x (row_times ring n right j u)) (unit_times ring laws n left j v lt (λ k below. units.at j k lt below))
      ∙ ap (ring.sum (v j)) (times_unit ring laws n right j c col) ∙ negated_sum ring laws (entry ring right j c) in
      let before = follows.back v u now i row in
      let x = row_times ring n a i v in
      let product = row_times ring n a i (λ k. entry ring right k c) in
      let unit : ring.sum x (unit_at ring i c) ≡ ring.zero
      = ap (ring.sum x) (sym (unit_times ring laws n start i u row (λ k below. identity.entries i k row below))) ∙ before in
      same_opposite ring laws product (unit_at ring i c) x (times_negated ring laws n a i (λ k. entry ring right k c)) unit

  left_inverse : HasUnits ring n n left → (i c : ℕ) → i < n → c < n → total ring n (λ k. ring.product (entry ring right i k) (entry ring a k c)) ≡ unit_at ring i c
  left_inverse units i c row col =
      let v : ℕ → T = λ k. unit_at ring k c in
      let u : ℕ → T = λ k. negated ring laws (entry ring a k c) in
      let before : Vanishes ring n a start v u
      = λ j lt.
      ap (λ (x : T). ring.sum x (row_times ring n start j u)) (times_unit ring laws n a j c col)
      ∙ ap (ring.sum (entry ring a j c)) (unit_times ring laws n start j u lt (λ k below. identity.entries j k lt below))
      ∙ sum_negated ring laws (entry ring a j c) in
      let now = follows.onward v u before i row in
      let x = row_times ring n right i u in
      let product = row_times ring n right i (λ k. entry ring a k c) in
      let unit : ring.sum x (unit_at ring i c) ≡ ring.zero
      = laws.sum_comm x (unit_at ring i c)
      ∙ ap (λ (y : T). ring.sum y x) (sym (unit_times ring laws n left i v row (λ k below. units.at i k row below))) ∙ now in
      same_opposite ring laws product (unit_at ring i c) x (times_negated ring laws n right i (λ k. entry ring a k c)) unit

  pub inverse_from : HasUnits ring n n left → IsInverse ring a right
  inverse_from units =
      let size = square.rows in
      let size' = follows.pair.right_rows in
      record {
        rows = size' ∙ sym size;
        cols = follows.pair.right_cols ∙ sym size;
        right = λ r c row col.
            ap (λ (k : ℕ). total ring k (λ i. ring.product (entry ring a r i) (entry ring right i c))) size' ∙ right_inverse units r c (omega arith) (omega arith);
        left = λ r c row col.
            ap (λ (k : ℕ). total ring k (λ i. ring.product (entry ring right r i) (entry ring a i c))) size ∙ left_inverse units r c (omega arith) (omega arith);
      }

  -- where no row from s on has a factor in column s, that column is one of those before it
  module _ (s : ℕ) (within : s < n) (units : HasUnits ring n s left) (none : (i : ℕ) → s ≤ i → i < n → entry ring left i s ≡ ring.zero) where
    -- what of that column the ones before it take back
    taken_back : ℕ → T
    taken_back k = cond (ltb k s) (negated ring laws (entry ring left k s)) ring.zero

    back_before : (k : ℕ) → k < s → taken_back k ≡ negated ring laws (entry ring left k s)
    unfolding taken_back
    back_before k lt = ap (λ (b : Bool). cond b (negated ring laws (entry ring left k s)) ring.zero) (lt-ltb k s lt)

    back_after : (k : ℕ) → s ≤ k → taken_back k ≡ ring.zero
    unfolding taken_back
    back_after k le = ap (λ (b : Bool). cond b (negated ring laws (entry ring left k s)) ring.zero) (le-ltb k s le)

    -- the columns that add up to zeros: that one, less those before it
    column : ℕ → T
    column k = ring.sum (unit_at ring k s) (taken_back k)

    back_times : (i : ℕ) → i < n → row_times ring n left i taken_back ≡ taken_back i
    back_times i lt =
        total_same ring laws n (λ c. ring.product (entry ring left i c) (taken_back c)) (λ c. ring.product (unit_at ring i c) (taken_back c))
        (λ c below. elim (cases_lt c s) [
          | inl before ↦ ap (λ (x : T). ring.product x (taken_back c)) (units.at i c lt before)
          | inr after ↦
              ap (ring.product (entry ring left i c)) (back_after c after) ∙ product_zero ring laws (entry ring left i c)
              ∙ sym (product_zero ring laws (unit_at ring i c)) ∙ ap (ring.product (unit_at ring i c)) (sym (back_after c after))
        ])
        ∙ total_left_unit ring laws n i taken_back lt

    column_vanishes : (i : ℕ) → i < n → row_times ring n left i column ≡ ring.zero
    unfolding column
    column_vanishes i lt =
        times_sum ring laws n left i (λ c. unit_at ring c s) taken_back
        ∙ ap (λ (x : T). ring.sum x (row_times ring n left i taken_back)) (times_unit ring laws n left i s within)
        ∙ ap (ring.sum (entry ring left i s)) (back_times i lt)
        ∙ elim (cases_lt i s) [
          | inl before ↦ ap (ring.sum (entry ring left i s)) (back_before i before) ∙ sum_negated ring laws (entry ring left i s)
          | inr after ↦
              ap (λ (x : T). ring.sum x (taken_back i)) (none i after lt) ∙ zero_sum ring laws (taken_back i) ∙ back_after i after
        ]

    pub singular_from : ring.one ≢ ring.zero → IsSingular ring a
    unfolding column
    singular_from apart =
        let rows = square.rows in
        let cols = square.cols in
        let u : ℕ → T = λ k. ring.zero in
        let now : Vanishes ring n left right column u
        = λ i lt.
        ap (λ (x : T). ring.sum x (row_times ring n right i u)) (column_vanishes i lt) ∙ zero_sum ring laws (row_times ring n right i u)
        ∙ times_zero ring laws n right i in
        let one : column s ≡ ring.one
        = ap (λ (x : T). ring.sum x (taken_back s)) (unit_here ring laws s) ∙ ap (ring.sum ring.one) (back_after s (omega arith)) ∙ laws.sum_zero ring.one in
        record {
          times = column;
          some = s;
          within = omega arith;
          taken = λ e. apart (sym one ∙ e);
          vanishes = λ r lt.
              let x = row_times ring n a r column in
              ap (λ (k : ℕ). total ring k (λ c. ring.product (entry ring a r c) (column c))) cols ∙ sym (laws.sum_zero x)
              ∙ ap (ring.sum x) (sym (times_zero ring laws n start r)) ∙ follows.back column u now r (omega arith);
        }

module _ {T : Type 0} (ring : Operations T) (laws : IsCommutativeRing ring) (a m : List (List T)) (square : width a ≡ length a) (inverse : IsInverse ring a m) where
  -- the inverse gives a column back from its product by the matrix
  pub inverse_solves : (v : ℕ → T) (s : ℕ) → s < length a → total ring (length a) (λ k. ring.product (entry ring m s k) (total ring (length a) (λ c. ring.product (entry ring a k c) (v c)))) ≡ v s
  inverse_solves v s lt =
      let n = length a in
      sym (total_associates ring laws n n (entry ring m s) (entry ring a) v)
      ∙ total_same ring laws n (λ c. ring.product (product_at ring m a s c) (v c)) (λ c. ring.product (unit_at ring s c) (v c))
      (λ c below. ap (λ (z : T). ring.product z (v c)) (inverse.left s c lt below))
      ∙ total_left_unit ring laws n s v lt

  -- so a singular matrix has none
  pub no_inverse : IsSingular ring a → ⊥
  no_inverse singular =
      let n = length a in
      let v = singular.times in
      let s = singular.some in
      let within = singular.within in
      let x = entry ring m s in
      let nothing : total ring n (λ k. ring.product (x k) (total ring n (λ c. ring.product (entry ring a k c) (v c)))) ≡ ring.zero
      = total_zero ring laws n (λ k. ring.product (x k) (total ring n (λ c. ring.product (entry ring a k c) (v c))))
      (λ k lt.
      ap (ring.product (x k)) (ap (λ (j : ℕ). total ring j (λ c. ring.product (entry ring a k c) (v c))) (sym square) ∙ singular.vanishes k lt)
      ∙ product_zero ring laws (x k)) in
      singular.taken (sym (inverse_solves v s (omega arith)) ∙ nothing)
