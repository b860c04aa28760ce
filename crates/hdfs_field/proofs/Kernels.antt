-- What a step of the elimination leaves of the columns that the rows take to zero.
use Rattle.std.proofs.Common.{◌≡◌, ◌≢◌, ℕ, ◌<◌, List, get_or, inl, inr, sym, ap, subst, ◌∙◌, arith}
use Rattle.std.specs.List.{swap}
use Rattle.std.proofs.lemmas.Bool.{cases_eq}
use Rattle.std.proofs.lemmas.List.Edits.{length-swap}
use Rattle.hdfs_field.specs.Rings.{Operations, IsCommutativeRing, IsField}
use Rattle.hdfs_field.specs.Matrices.{width, IsGrid, entry, total}
use Rattle.hdfs_field.specs.Rows.{SetsRow}
use Rattle.hdfs_field.specs.Elimination.{row_times, pair_times, IsPair, Follows}
use Rattle.hdfs_field.proofs.Totals.{one_product, product_zero, sum_medial, sum_product, total_same, total_sum, total_scaled}
use Rattle.hdfs_field.proofs.Grids.{row-swap, width-swap}
use Rattle.hdfs_field.proofs.Writes.{sets_other}

-- a row of factors times a column
module _ {T : Type 0} (ring : Operations T) (laws : IsCommutativeRing ring) (n : ℕ) where
  same_times : (a b w : ℕ → T) → ((c : ℕ) → c < n → a c ≡ b c) → total ring n (λ c. ring.product (a c) (w c)) ≡ total ring n (λ c. ring.product (b c) (w c))
  same_times a b w same = total_same ring laws n (λ c. ring.product (a c) (w c)) (λ c. ring.product (b c) (w c)) (λ c lt. ap (λ (x : T). ring.product x (w c)) (same c lt))

  scaled_times : (a b w : ℕ → T) (d : T) → ((c : ℕ) → c < n → ring.product (b c) d ≡ a c) → ring.product d (total ring n (λ c. ring.product (b c) (w c))) ≡ total ring n (λ c. ring.product (a c) (w c))
  scaled_times a b w d is =
      sym (total_scaled ring laws n d (λ c. ring.product (b c) (w c)))
      ∙ total_same ring laws n (λ c. ring.product d (ring.product (b c) (w c))) (λ c. ring.product (a c) (w c))
      (λ c lt. sym (laws.product_assoc d (b c) (w c)) ∙ ap (λ (x : T). ring.product x (w c)) (laws.product_comm d (b c) ∙ is c lt))

  added_times : (a b e w : ℕ → T) (t : T) → ((c : ℕ) → c < n → ring.sum (b c) (ring.product t (e c)) ≡ a c) → ring.sum (total ring n (λ c. ring.product (b c) (w c))) (ring.product t (total ring n (λ c. ring.product (e c) (w c)))) ≡ total ring n (λ c. ring.product (a c) (w c))
  added_times a b e w t is =
      ap (ring.sum (total ring n (λ c. ring.product (b c) (w c)))) (sym (total_scaled ring laws n t (λ c. ring.product (e c) (w c))))
      ∙ sym (total_sum ring laws n (λ c. ring.product (b c) (w c)) (λ c. ring.product t (ring.product (e c) (w c))))
      ∙ total_same ring laws n (λ c. ring.sum (ring.product (b c) (w c)) (ring.product t (ring.product (e c) (w c)))) (λ c. ring.product (a c) (w c))
      (λ c lt.
      ap (ring.sum (ring.product (b c) (w c))) (sym (laws.product_assoc t (e c) (w c)))
      ∙ sym (sum_product ring laws (b c) (ring.product t (e c)) (w c))
      ∙ ap (λ (x : T). ring.product x (w c)) (is c lt))

-- rows of a pair
module _ {T : Type 0} (ring : Operations T) (laws : IsCommutativeRing ring) (n : ℕ) (a b a' b' : List (List T)) where
  pair_same : (i j : ℕ) → ((c : ℕ) → c < n → entry ring a' i c ≡ entry ring a j c) → ((c : ℕ) → c < n → entry ring b' i c ≡ entry ring b j c) → (v u : ℕ → T) → pair_times ring n a' b' i v u ≡ pair_times ring n a b j v u
  pair_same i j left right v u =
      ap (λ (x : T). ring.sum x (row_times ring n b' i u)) (same_times ring laws n (entry ring a' i) (entry ring a j) v left)
      ∙ ap (ring.sum (row_times ring n a j v)) (same_times ring laws n (entry ring b' i) (entry ring b j) u right)

  pair_scaled : (i : ℕ) (d : T) → ((c : ℕ) → c < n → ring.product (entry ring a' i c) d ≡ entry ring a i c) → ((c : ℕ) → c < n → ring.product (entry ring b' i c) d ≡ entry ring b i c) → (v u : ℕ → T) → ring.product d (pair_times ring n a' b' i v u) ≡ pair_times ring n a b i v u
  pair_scaled i d left right v u =
      laws.product_sum d (row_times ring n a' i v) (row_times ring n b' i u)
      ∙ ap (λ (x : T). ring.sum x (ring.product d (row_times ring n b' i u))) (scaled_times ring laws n (entry ring a i) (entry ring a' i) v d left)
      ∙ ap (ring.sum (row_times ring n a i v)) (scaled_times ring laws n (entry ring b i) (entry ring b' i) u d right)

  pair_added : (i j : ℕ) (t : T) → ((c : ℕ) → c < n → ring.sum (entry ring a' i c) (ring.product t (entry ring a j c)) ≡ entry ring a i c) → ((c : ℕ) → c < n → ring.sum (entry ring b' i c) (ring.product t (entry ring b j c)) ≡ entry ring b i c) → (v u : ℕ → T) → ring.sum (pair_times ring n a' b' i v u) (ring.product t (pair_times ring n a b j v u)) ≡ pair_times ring n a b i v u
  pair_added i j t left right v u =
      let x = row_times ring n a' i v in
      let y = row_times ring n b' i u in
      let p = row_times ring n a j v in
      let q = row_times ring n b j u in
      ap (ring.sum (ring.sum x y)) (laws.product_sum t p q) ∙ sum_medial ring laws x y (ring.product t p) (ring.product t q)
      ∙ ap (λ (z : T). ring.sum z (ring.sum y (ring.product t q))) (added_times ring laws n (entry ring a i) (entry ring a' i) (entry ring a j) v t left)
      ∙ ap (ring.sum (row_times ring n a i v)) (added_times ring laws n (entry ring b i) (entry ring b' i) (entry ring b j) u t right)

-- pairs that follow one another
module _ {T : Type 0} (ring : Operations T) (n : ℕ) where
  pub follows_itself : (a b : List (List T)) → IsPair n a b → Follows ring n a b a b
  follows_itself a b pair = record { pair = pair; onward = λ v u h. h; back = λ v u h. h }

  pub follows_on : (a b a' b' a'' b'' : List (List T)) → Follows ring n a b a' b' → Follows ring n a' b' a'' b'' → Follows ring n a b a'' b''
  follows_on a b a' b' a'' b'' f g = record {
    pair = g.pair;
    onward = λ v u h. g.onward v u (f.onward v u h);
    back = λ v u h. f.back v u (g.back v u h);
  }

-- an exchange of two rows
module _ {T : Type 0} (ring : Operations T) (laws : IsCommutativeRing ring) (n : ℕ) (a b : List (List T)) (p q : ℕ) (grid_a : IsGrid a) (grid_b : IsGrid b) (pair : IsPair n a b) (in_p : p < n) (in_q : q < n) where
  -- each row of either pair is a row of the other
  from_row : (i : ℕ) → i < n → (j : ℕ) × (j < n) × ((v u : ℕ → T) → pair_times ring n (swap a p q) (swap b p q) i v u ≡ pair_times ring n a b j v u)
  from_row i lt =
      let ra = pair.rows in
      let rb = pair.right_rows in
      let rows_a = row-swap a p q i (omega arith) (omega arith) in
      let rows_b = row-swap b p q i (omega arith) (omega arith) in
      elim (cases_eq i p) [
        | inl e ↦ (
          q,
          in_q,
          pair_same ring laws n a b (swap a p q) (swap b p q) i q
              (λ c below. ap (λ (k : ℕ). entry ring (swap a p q) k c) e ∙ ap (λ (xs : List T). get_or xs c ring.zero) rows_a.0)
              (λ c below. ap (λ (k : ℕ). entry ring (swap b p q) k c) e ∙ ap (λ (xs : List T). get_or xs c ring.zero) rows_b.0),
        )
        | inr off_p ↦ elim (cases_eq i q) [
          | inl e ↦ (
            p,
            in_p,
            pair_same ring laws n a b (swap a p q) (swap b p q) i p
                (λ c below. ap (λ (k : ℕ). entry ring (swap a p q) k c) e ∙ ap (λ (xs : List T). get_or xs c ring.zero) rows_a.1)
                (λ c below. ap (λ (k : ℕ). entry ring (swap b p q) k c) e ∙ ap (λ (xs : List T). get_or xs c ring.zero) rows_b.1),
          )
          | inr off_q ↦ (
            i,
            lt,
            pair_same ring laws n a b (swap a p q) (swap b p q) i i (λ c below. ap (λ (xs : List T). get_or xs c ring.zero) (rows_a.2 off_p off_q))
                (λ c below. ap (λ (xs : List T). get_or xs c ring.zero) (rows_b.2 off_p off_q)),
          )
        ]
      ]

  to_row : (j : ℕ) → j < n → (i : ℕ) × (i < n) × ((v u : ℕ → T) → pair_times ring n (swap a p q) (swap b p q) i v u ≡ pair_times ring n a b j v u)
  to_row j lt =
      let ra = pair.rows in
      let rb = pair.right_rows in
      let rows_a = row-swap a p q j (omega arith) (omega arith) in
      let rows_b = row-swap b p q j (omega arith) (omega arith) in
      elim (cases_eq j p) [
        | inl e ↦ (
          q,
          in_q,
          pair_same ring laws n a b (swap a p q) (swap b p q) q j
              (λ c below. ap (λ (xs : List T). get_or xs c ring.zero) rows_a.1 ∙ ap (λ (k : ℕ). entry ring a k c) (sym e))
              (λ c below. ap (λ (xs : List T). get_or xs c ring.zero) rows_b.1 ∙ ap (λ (k : ℕ). entry ring b k c) (sym e)),
        )
        | inr off_p ↦ elim (cases_eq j q) [
          | inl e ↦ (
            p,
            in_p,
            pair_same ring laws n a b (swap a p q) (swap b p q) p j
                (λ c below. ap (λ (xs : List T). get_or xs c ring.zero) rows_a.0 ∙ ap (λ (k : ℕ). entry ring a k c) (sym e))
                (λ c below. ap (λ (xs : List T). get_or xs c ring.zero) rows_b.0 ∙ ap (λ (k : ℕ). entry ring b k c) (sym e)),
          )
          | inr off_q ↦ (
            j,
            lt,
            pair_same ring laws n a b (swap a p q) (swap b p q) j j (λ c below. ap (λ (xs : List T). get_or xs c ring.zero) (rows_a.2 off_p off_q))
                (λ c below. ap (λ (xs : List T). get_or xs c ring.zero) (rows_b.2 off_p off_q)),
          )
        ]
      ]

  pub follows_exchange : (a' b' : List (List T)) → a' ≡ swap a p q → b' ≡ swap b p q → Follows ring n a b a' b'
  follows_exchange a' b' ea eb =
      let ra = pair.rows in
      let rb = pair.right_rows in
      subst (λ (x : List (List T)). Follows ring n a b x b') (sym ea) (subst (Follows ring n a b (swap a p q)) (sym eb) record {
        pair = record {
          rows = length-swap a p q ∙ ra;
          cols = width-swap a p q grid_a (omega arith) (omega arith) ∙ pair.cols;
          right_rows = length-swap b p q ∙ rb;
          right_cols = width-swap b p q grid_b (omega arith) (omega arith) ∙ pair.right_cols;
        };
        onward = λ v u h i lt. let w = from_row i lt in w.2 v u ∙ h w.0 w.1;
        back = λ v u h j lt. let w = to_row j lt in sym (w.2 v u) ∙ h w.0 w.1;
      })

-- elements of a field
module _ {T : Type 0} (ring : Operations T) (laws : IsCommutativeRing ring) (quotient : T → T → T) (field : IsField ring quotient) where
  pub nonzero_cancel : (d x : T) → d ≢ ring.zero → ring.product d x ≡ ring.zero → x ≡ ring.zero
  nonzero_cancel d x some e =
      let inverse = quotient ring.one d in
      sym (one_product ring laws x) ∙ ap (λ (y : T). ring.product y x) (sym (field.quotient_back ring.one d some)) ∙ laws.product_assoc inverse d x
      ∙ ap (ring.product inverse) e ∙ product_zero ring laws inverse

  pub zero_quotient : (d : T) → d ≢ ring.zero → quotient ring.zero d ≡ ring.zero
  zero_quotient d some =
      nonzero_cancel d (quotient ring.zero d) some (laws.product_comm d (quotient ring.zero d) ∙ field.quotient_back ring.zero d some)

  pub quotient_itself : (d : T) → d ≢ ring.zero → quotient d d ≡ ring.one
  quotient_itself d some =
      let q = quotient d d in
      let inverse = quotient ring.one d in
      let unit = field.quotient_back ring.one d some in
      sym (laws.product_one q) ∙ ap (ring.product q) (sym unit ∙ laws.product_comm inverse d) ∙ sym (laws.product_assoc q d inverse)
      ∙ ap (λ (y : T). ring.product y inverse) (field.quotient_back d d some) ∙ laws.product_comm d inverse ∙ unit

-- a row divided by an element
module _ {T : Type 0} (ring : Operations T) (laws : IsCommutativeRing ring) (quotient : T → T → T) (field : IsField ring quotient) (n : ℕ) (a b a' b' : List (List T)) (pair : IsPair n a b) (r : ℕ) (d : T) (some : d ≢ ring.zero) (left : SetsRow ring r (λ c. quotient (entry ring a r c) d) a a') (right : SetsRow ring r (λ c. quotient (entry ring b r c) d) b b') where
  divided_here : (v u : ℕ → T) → ring.product d (pair_times ring n a' b' r v u) ≡ pair_times ring n a b r v u
  divided_here v u =
      let wa = pair.cols in
      let wb = pair.right_cols in
      pair_scaled ring laws n a b a' b' r d
      (λ c lt. ap (λ (x : T). ring.product x d) (left.set c (omega arith)) ∙ field.quotient_back (entry ring a r c) d some)
      (λ c lt. ap (λ (x : T). ring.product x d) (right.set c (omega arith)) ∙ field.quotient_back (entry ring b r c) d some)
      v u

  divided_elsewhere : (i : ℕ) → i ≢ r → (v u : ℕ → T) → pair_times ring n a' b' i v u ≡ pair_times ring n a b i v u
  divided_elsewhere i apart v u =
      pair_same ring laws n a b a' b' i i (λ c lt. sets_other ring r (λ c. quotient (entry ring a r c) d) a (width a) a' left i c apart)
      (λ c lt. sets_other ring r (λ c. quotient (entry ring b r c) d) b (width b) b' right i c apart)
      v u

  pub follows_division : r < n → Follows ring n a b a' b'
  follows_division within = record {
    pair = record { rows = left.rows ∙ pair.rows; cols = left.cols ∙ pair.cols; right_rows = right.rows ∙ pair.right_rows; right_cols = right.cols ∙ pair.right_cols };
    onward = λ v u h i lt. elim (cases_eq i r) [
      | inl e ↦
          ap (λ (k : ℕ). pair_times ring n a' b' k v u) e
          ∙ nonzero_cancel ring laws quotient field d (pair_times ring n a' b' r v u) some (divided_here v u ∙ h r within)
      | inr apart ↦ divided_elsewhere i apart v u ∙ h i lt
    ];
    back = λ v u h i lt. elim (cases_eq i r) [
      | inl e ↦ ap (λ (k : ℕ). pair_times ring n a b k v u) e ∙ sym (divided_here v u) ∙ ap (ring.product d) (h r within) ∙ product_zero ring laws d
      | inr apart ↦ sym (divided_elsewhere i apart v u) ∙ h i lt
    ];
  }

-- a multiple of one row subtracted from another
module _ {T : Type 0} (ring : Operations T) (laws : IsCommutativeRing ring) (n : ℕ) (a b a' b' : List (List T)) (pair : IsPair n a b) (to from : ℕ) (t : T) (left : SetsRow ring to (λ c. ring.difference (entry ring a to c) (ring.product t (entry ring a from c))) a a') (right : SetsRow ring to (λ c. ring.difference (entry ring b to c) (ring.product t (entry ring b from c))) b b') where
  subtracted_here : (v u : ℕ → T) → ring.sum (pair_times ring n a' b' to v u) (ring.product t (pair_times ring n a b from v u)) ≡ pair_times ring n a b to v u
  subtracted_here v u =
      let wa = pair.cols in
      let wb = pair.right_cols in
      pair_added ring laws n a b a' b' to from t
      (λ c lt. ap (λ (x : T). ring.sum x (ring.product t (entry ring a from c))) (left.set c (omega arith))
      ∙ laws.difference_back (entry ring a to c) (ring.product t (entry ring a from c)))
      (λ c lt. ap (λ (x : T). ring.sum x (ring.product t (entry ring b from c))) (right.set c (omega arith))
      ∙ laws.difference_back (entry ring b to c) (ring.product t (entry ring b from c)))
      v u

  subtracted_elsewhere : (i : ℕ) → i ≢ to → (v u : ℕ → T) → pair_times ring n a' b' i v u ≡ pair_times ring n a b i v u
  subtracted_elsewhere i apart v u =
      pair_same ring laws n a b a' b' i i
      (λ c lt. sets_other ring to (λ c. ring.difference (entry ring a to c) (ring.product t (entry ring a from c))) a (width a) a' left i c apart)
      (λ c lt. sets_other ring to (λ c. ring.difference (entry ring b to c) (ring.product t (entry ring b from c))) b (width b) b' right i c apart)
      v u

  pub follows_subtraction : to < n → from < n → from ≢ to → Follows ring n a b a' b'
  follows_subtraction in_to in_from off = record {
    pair = record { rows = left.rows ∙ pair.rows; cols = left.cols ∙ pair.cols; right_rows = right.rows ∙ pair.right_rows; right_cols = right.cols ∙ pair.right_cols };
    onward = λ v u h i lt. elim (cases_eq i to) [
      | inl e ↦
          let x = pair_times ring n a' b' to v u in
          let multiple : ring.product t (pair_times ring n a b from v u) ≡ ring.zero = ap (ring.product t) (h from in_from) ∙ product_zero ring laws t in
          ap (λ (k : ℕ). pair_times ring n a' b' k v u) e ∙ sym (laws.sum_zero x) ∙ ap (ring.sum x) (sym multiple) ∙ subtracted_here v u ∙ h to in_to
      | inr apart ↦ subtracted_elsewhere i apart v u ∙ h i lt
    ];
    back = λ v u h i lt. elim (cases_eq i to) [
      | inl e ↦
          let x = pair_times ring n a' b' to v u in
          let multiple : ring.product t (pair_times ring n a b from v u) ≡ ring.zero
          = ap (ring.product t) (sym (subtracted_elsewhere from off v u) ∙ h from in_from) ∙ product_zero ring laws t in
          ap (λ (k : ℕ). pair_times ring n a b k v u) e ∙ sym (subtracted_here v u) ∙ ap (ring.sum x) multiple ∙ laws.sum_zero x ∙ h to in_to
      | inr apart ↦ sym (subtracted_elsewhere i apart v u) ∙ h i lt
    ];
  }
