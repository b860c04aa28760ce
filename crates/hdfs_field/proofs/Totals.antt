-- The laws of a commutative ring, and of the sums in it.
use Rattle.std.proofs.Common.{◌≡◌, ◌≢◌, ℕ, zero, suc, ◌<◌, Bool, cond, refl, sym, ap, ◌∙◌, eq-eqb, arith, inl, inr}
use Rattle.std.proofs.lemmas.Bool.{ne_eqb, cases_eq}
use Rattle.hdfs_field.specs.Rings.{Operations, IsCommutativeRing}
use Rattle.hdfs_field.specs.Matrices.{total, unit_at}

module _ {T : Type 0} (ring : Operations T) (laws : IsCommutativeRing ring) where
  pub zero_sum : (a : T) → ring.sum ring.zero a ≡ a
  zero_sum a = laws.sum_comm ring.zero a ∙ laws.sum_zero a

  -- the element that added to a gives zero
  abbrev pub negated : T → T
  negated a = ring.difference ring.zero a

  pub negated_sum : (a : T) → ring.sum (negated a) a ≡ ring.zero
  negated_sum a = laws.difference_back ring.zero a

  pub sum_negated : (a : T) → ring.sum a (negated a) ≡ ring.zero
  sum_negated a = laws.sum_comm a (negated a) ∙ negated_sum a

  sum_back : (a b : T) → ring.sum (ring.sum a b) (negated b) ≡ a
  sum_back a b = laws.sum_assoc a b (negated b) ∙ ap (ring.sum a) (sum_negated b) ∙ laws.sum_zero a

  pub sum_cancel : (a b c : T) → ring.sum a c ≡ ring.sum b c → a ≡ b
  sum_cancel a b c e = sym (sum_back a c) ∙ ap (λ (x : T). ring.sum x (negated c)) e ∙ sum_back b c

  -- two elements that both give zero with a third are equal
  pub same_opposite : (a b c : T) → ring.sum c a ≡ ring.zero → ring.sum c b ≡ ring.zero → a ≡ b
  same_opposite a b c e f = sum_cancel a b c (laws.sum_comm a c ∙ e ∙ sym f ∙ laws.sum_comm c b)

  pub product_zero : (a : T) → ring.product a ring.zero ≡ ring.zero
  product_zero a =
      let z = ring.product a ring.zero in
      let twice : ring.sum z z ≡ z = sym (laws.product_sum a ring.zero ring.zero) ∙ ap (ring.product a) (laws.sum_zero ring.zero) in
      sum_cancel z ring.zero z (twice ∙ sym (zero_sum z))

  pub zero_product : (a : T) → ring.product ring.zero a ≡ ring.zero
  zero_product a = laws.product_comm ring.zero a ∙ product_zero a

  pub one_product : (a : T) → ring.product ring.one a ≡ a
  one_product a = laws.product_comm ring.one a ∙ laws.product_one a

  pub sum_product : (a b c : T) → ring.product (ring.sum a b) c ≡ ring.sum (ring.product a c) (ring.product b c)
  sum_product a b c =
      laws.product_comm (ring.sum a b) c ∙ laws.product_sum c a b
      ∙ ap (λ (x : T). ring.sum x (ring.product c b)) (laws.product_comm c a) ∙ ap (ring.sum (ring.product a c)) (laws.product_comm c b)

  pub sum_medial : (a b c d : T) → ring.sum (ring.sum a b) (ring.sum c d) ≡ ring.sum (ring.sum a c) (ring.sum b d)
  sum_medial a b c d =
      laws.sum_assoc a b (ring.sum c d)
      ∙ ap (ring.sum a) (sym (laws.sum_assoc b c d) ∙ ap (λ (x : T). ring.sum x d) (laws.sum_comm b c) ∙ laws.sum_assoc c b d)
      ∙ sym (laws.sum_assoc a c (ring.sum b d))

  -- a product of three, with the first two exchanged
  pub product_left_comm : (a b c : T) → ring.product a (ring.product b c) ≡ ring.product b (ring.product a c)
  product_left_comm a b c =
      sym (laws.product_assoc a b c) ∙ ap (λ (x : T). ring.product x c) (laws.product_comm a b) ∙ laws.product_assoc b a c

  pub total_same : (n : ℕ) (f g : ℕ → T) → ((i : ℕ) → i < n → f i ≡ g i) → total ring n f ≡ total ring n g
  unfolding total
  total_same zero f g same = refl
  total_same (suc n) f g same =
      ap (λ (x : T). ring.sum x (f n)) (total_same n f g (λ i lt. same i (omega arith))) ∙ ap (ring.sum (total ring n g)) (same n (omega arith))

  pub total_zero : (n : ℕ) (f : ℕ → T) → ((i : ℕ) → i < n → f i ≡ ring.zero) → total ring n f ≡ ring.zero
  unfolding total
  total_zero zero f all = refl
  total_zero (suc n) f all =
      ap (λ (x : T). ring.sum x (f n)) (total_zero n f (λ i lt. all i (omega arith))) ∙ zero_sum (f n) ∙ all n (omega arith)

  pub total_sum : (n : ℕ) (f g : ℕ → T) → total ring n (λ i. ring.sum (f i) (g i)) ≡ ring.sum (total ring n f) (total ring n g)
  unfolding total
  total_sum zero f g = sym (laws.sum_zero ring.zero)
  total_sum (suc n) f g =
      ap (λ (x : T). ring.sum x (ring.sum (f n) (g n))) (total_sum n f g) ∙ sum_medial (total ring n f) (total ring n g) (f n) (g n)

  pub total_scaled : (n : ℕ) (k : T) (f : ℕ → T) → total ring n (λ i. ring.product k (f i)) ≡ ring.product k (total ring n f)
  unfolding total
  total_scaled zero k f = sym (product_zero k)
  total_scaled (suc n) k f =
      ap (λ (x : T). ring.sum x (ring.product k (f n))) (total_scaled n k f) ∙ sym (laws.product_sum k (total ring n f) (f n))

  pub total_exchange : (n m : ℕ) (f : ℕ → ℕ → T) → total ring n (λ i. total ring m (f i)) ≡ total ring m (λ j. total ring n (λ i. f i j))
  unfolding total
  total_exchange zero m f = sym (total_zero m (λ j. ring.zero) (λ j lt. refl))
  total_exchange (suc n) m f =
      ap (λ (x : T). ring.sum x (total ring m (f n))) (total_exchange n m f)
      ∙ sym (total_sum m (λ j. total ring n (λ i. f i j)) (f n))

  -- a row times a grid, and that times a column, either way round
  pub total_associates : (n m : ℕ) (x : ℕ → T) (y : ℕ → ℕ → T) (v : ℕ → T) → total ring n (λ c. ring.product (total ring m (λ k. ring.product (x k) (y k c))) (v c)) ≡ total ring m (λ k. ring.product (x k) (total ring n (λ c. ring.product (y k c) (v c))))
  total_associates n m x y v =
      let inner : ℕ → T = λ c. ring.product (total ring m (λ k. ring.product (x k) (y k c))) (v c) in
      let spread : ℕ → ℕ → T = λ c k. ring.product (x k) (ring.product (y k c) (v c)) in
      let outer : ℕ → T = λ k. ring.product (x k) (total ring n (λ c. ring.product (y k c) (v c))) in
      total_same n inner (λ c. total ring m (spread c))
      (λ c lt.
      laws.product_comm (total ring m (λ k. ring.product (x k) (y k c))) (v c) ∙ sym (total_scaled m (v c) (λ k. ring.product (x k) (y k c)))
      ∙ total_same m (λ k. ring.product (v c) (ring.product (x k) (y k c))) (spread c)
      (λ k below. product_left_comm (v c) (x k) (y k c) ∙ ap (ring.product (x k)) (laws.product_comm (v c) (y k c))))
      ∙ total_exchange n m spread
      ∙ total_same m (λ k. total ring n (λ c. spread c k)) outer (λ k lt. total_scaled n (x k) (λ c. ring.product (y k c) (v c)))

  pub unit_here : (r : ℕ) → unit_at ring r r ≡ ring.one
  unit_here r = ap (λ (b : Bool). cond b ring.one ring.zero) (eq-eqb r r refl)

  pub unit_elsewhere : (r c : ℕ) → r ≢ c → unit_at ring r c ≡ ring.zero
  unit_elsewhere r c apart = ap (λ (b : Bool). cond b ring.one ring.zero) (ne_eqb r c apart)

  -- a sum in which only the place k counts
  pub total_unit : (n : ℕ) (f : ℕ → T) (k : ℕ) → k < n → ((i : ℕ) → i < n → i ≢ k → f i ≡ ring.zero) → total ring n f ≡ f k
  unfolding total
  total_unit zero f k lt others = absurd (omega arith)
  total_unit (suc n) f k lt others = elim (cases_eq k n) [
    | inl e ↦
        let before : total ring n f ≡ ring.zero = total_zero n f (λ i below. others i (omega arith) (omega arith)) in
        ap (λ (x : T). ring.sum x (f n)) before ∙ zero_sum (f n) ∙ ap f (sym e)
    | inr apart ↦
        let last : f n ≡ ring.zero = others n (omega arith) (omega arith) in
        ap (ring.sum (total ring n f)) last ∙ laws.sum_zero (total ring n f) ∙ total_unit n f k (omega arith) (λ i below. others i (omega arith))
  ]

  pub total_left_unit : (n k : ℕ) (f : ℕ → T) → k < n → total ring n (λ i. ring.product (unit_at ring k i) (f i)) ≡ f k
  total_left_unit n k f lt =
      total_unit n (λ i. ring.product (unit_at ring k i) (f i)) k lt
      (λ i below apart. ap (λ (x : T). ring.product x (f i)) (unit_elsewhere k i (λ e. apart (sym e))) ∙ zero_product (f i))
      ∙ ap (λ (x : T). ring.product x (f k)) (unit_here k) ∙ one_product (f k)

  pub total_right_unit : (n k : ℕ) (f : ℕ → T) → k < n → total ring n (λ i. ring.product (f i) (unit_at ring i k)) ≡ f k
  total_right_unit n k f lt =
      total_unit n (λ i. ring.product (f i) (unit_at ring i k)) k lt
      (λ i below apart. ap (ring.product (f i)) (unit_elsewhere i k apart) ∙ product_zero (f i))
      ∙ ap (ring.product (f k)) (unit_here k) ∙ laws.product_one (f k)
