-- Cauchy's rows: the entry for x and y is one divided by their sum. Columns that vanish in as many such rows as there are
-- columns are all taken zero times.
use Rattle.std.proofs.Common.{◌≡◌, ◌≢◌, ℕ, ◌<◌, ◌≤◌, ◌⊎◌, List, [], ◌∷◌, length, inl, inr, refl, sym, ap, ◌∙◌, arith}
use Rattle.std.proofs.lemmas.Bool.{cases_eq}
use Rattle.hdfs_field.specs.Rings.{Operations, IsCommutativeRing, IsField}
use Rattle.hdfs_field.specs.Matrices.{total}
use Rattle.hdfs_field.proofs.Totals as totals

-- the number is in the list
abbrev pub IsAmong : List ℕ → ℕ → Type 0
IsAmong [] c = ⊥
IsAmong (j ∷ columns) c = (c ≡ j) ⊎ IsAmong columns c

-- x is none of these
abbrev pub IsNoneOf : {T : Type 0} → T → List T → Type 0
IsNoneOf x [] = Unit {0}
IsNoneOf x (z ∷ zs) = (z ≢ x) × IsNoneOf x zs

-- no two are equal
abbrev pub AreDistinct : {T : Type 0} → List T → Type 0
AreDistinct [] = Unit {0}
AreDistinct (x ∷ xs) = IsNoneOf x xs × AreDistinct xs

module _ {T : Type 0} (ring : Operations T) (laws : IsCommutativeRing ring) (quotient : T → T → T) (field : IsField ring quotient) where
  -- a product that is zero has a factor that is
  pub factor_is_zero : (a b : T) → b ≢ ring.zero → ring.product b a ≡ ring.zero → a ≡ ring.zero
  factor_is_zero a b some e =
      let i = quotient ring.one b in
      sym (totals.one_product ring laws a) ∙ ap (λ (x : T). ring.product x a) (sym (field.quotient_back ring.one b some))
      ∙ laws.product_assoc i b a ∙ ap (ring.product i) e ∙ totals.product_zero ring laws i

  pub difference_some : (a b : T) → a ≢ b → ring.difference a b ≢ ring.zero
  difference_some a b apart e =
      apart (sym (laws.difference_back a b) ∙ ap (λ (x : T). ring.sum x b) e ∙ totals.zero_sum ring laws b)

  -- the entry of a row x in a column y
  abbrev pub inverse_sum : T → T → T
  inverse_sum x y = quotient ring.one (ring.sum x y)

  -- ---- one step of elimination, in one column

  -- Of q and r, the entries of a column y in the rows x and x', and d the difference of x' and x: q is d q r and r.
  split_entry : (x x' y d q r : T) → ring.sum d x ≡ x' → ring.product q (ring.sum x y) ≡ ring.one → ring.product r (ring.sum x' y) ≡ ring.one
      → q ≡ ring.sum (ring.product d (ring.product q r)) r
  split_entry x x' y d q r e qs rs =
      let s = ring.sum x y in
      let s' : ring.sum x' y ≡ ring.sum d s = ap (λ (z : T). ring.sum z y) (sym e) ∙ laws.sum_assoc d x y in
      let left : ring.product q (ring.product r d) ≡ ring.product d (ring.product q r) =
      sym (laws.product_assoc q r d) ∙ laws.product_comm (ring.product q r) d in
      let right : ring.product q (ring.product r s) ≡ r =
      totals.product_left_comm ring laws q r s ∙ ap (ring.product r) qs ∙ laws.product_one r in
      sym (laws.product_one q) ∙ ap (ring.product q) (sym rs ∙ ap (ring.product r) s' ∙ laws.product_sum r d s)
      ∙ laws.product_sum q (ring.product r d) (ring.product r s)
      ∙ ap (λ (z : T). ring.sum z (ring.product q (ring.product r s))) left
      ∙ ap (ring.sum (ring.product d (ring.product q r))) right

  -- the entry times the column's weight, by the sum of the row and another column y'
  weighed : (x y y' e q v : T) → ring.sum e y ≡ y' → ring.product q (ring.sum x y) ≡ ring.one
      → ring.product (ring.sum x y') (ring.product q v) ≡ ring.sum (ring.product e (ring.product q v)) v
  weighed x y y' e q v ey qs =
      let s = ring.sum x y in
      let s' : ring.sum x y' ≡ ring.sum e s = ap (ring.sum x) (sym ey) ∙ sym (laws.sum_assoc x e y) ∙ ap (λ (z : T). ring.sum z y) (laws.sum_comm x e) ∙ laws.sum_assoc e x y in
      let back : ring.product s (ring.product q v) ≡ v =
      sym (laws.product_assoc s q v) ∙ ap (λ (z : T). ring.product z v) (laws.product_comm s q ∙ qs) ∙ totals.one_product ring laws v in
      ap (λ (z : T). ring.product z (ring.product q v)) s' ∙ totals.sum_product ring laws e s (ring.product q v)
      ∙ ap (ring.sum (ring.product e (ring.product q v))) back

  -- what is left of a column once row x' is used to clear column y'
  abbrev pub left_weight : T → T → T → T → T
  left_weight x' y' y v = ring.product (ring.difference y' y) (ring.product (inverse_sum x' y) v)

  cleared_entry : (x x' y y' v : T) → ring.sum x y ≢ ring.zero → ring.sum x' y ≢ ring.zero
      → ring.product (ring.sum x y') (ring.product (inverse_sum x y) v)
      ≡ ring.sum (ring.product (ring.difference x' x) (ring.product (inverse_sum x y) (left_weight x' y' y v))) (ring.product (ring.sum x' y') (ring.product (inverse_sum x' y) v))
  cleared_entry x x' y y' v some some' =
      let d = ring.difference x' x in
      let e = ring.difference y' y in
      let q = inverse_sum x y in
      let r = inverse_sum x' y in
      let qs = field.quotient_back ring.one (ring.sum x y) some in
      let rs = field.quotient_back ring.one (ring.sum x' y) some' in
      let split = split_entry x x' y d q r (laws.difference_back x' x) qs rs in
      let one : ring.product e (ring.product q v) ≡ ring.sum (ring.product d (ring.product q (ring.product e (ring.product r v)))) (ring.product e (ring.product r v)) =
      ap (λ (z : T). ring.product e (ring.product z v)) split
      ∙ ap (ring.product e) (totals.sum_product ring laws (ring.product d (ring.product q r)) r v)
      ∙ laws.product_sum e (ring.product (ring.product d (ring.product q r)) v) (ring.product r v)
      ∙ ap (λ (z : T). ring.sum z (ring.product e (ring.product r v)))
      (ap (ring.product e) (laws.product_assoc d (ring.product q r) v ∙ ap (ring.product d) (laws.product_assoc q r v))
      ∙ totals.product_left_comm ring laws e d (ring.product q (ring.product r v))
      ∙ ap (ring.product d) (totals.product_left_comm ring laws e q (ring.product r v)))
      in
      weighed x y y' e q v (laws.difference_back y' y) qs ∙ ap (λ (z : T). ring.sum z v) one
      ∙ laws.sum_assoc (ring.product d (ring.product q (ring.product e (ring.product r v)))) (ring.product e (ring.product r v)) v
      ∙ ap (ring.sum (ring.product d (ring.product q (ring.product e (ring.product r v))))) (sym (weighed x' y y' e r v (laws.difference_back y' y) rs))

  -- ---- rows over n columns, whose y is given

  module _ (n : ℕ) (y : ℕ → T) where
    -- a row times weights of the columns
    abbrev pub row_total : T → (ℕ → T) → T
    row_total x v = total ring n (λ c. ring.product (inverse_sum x (y c)) (v c))

    -- every sum of the row with a column divides
    abbrev pub IsRow : T → Type 0
    IsRow x = (c : ℕ) → c < n → ring.sum x (y c) ≢ ring.zero

    -- the weights vanish in each of these rows
    abbrev pub VanishIn : List T → (ℕ → T) → Type 0
    VanishIn [] v = Unit {0}
    VanishIn (x ∷ xs) v = IsRow x × (row_total x v ≡ ring.zero) × VanishIn xs v

    cleared_row : (x x' y' : T) (v : ℕ → T) → IsRow x → IsRow x' → x ≢ x' → row_total x v ≡ ring.zero → row_total x' v ≡ ring.zero
        → row_total x (λ c. left_weight x' y' (y c) (v c)) ≡ ring.zero
    cleared_row x x' y' v row row' apart here there =
        let d = ring.difference x' x in
        let w : ℕ → T = λ c. ring.product (inverse_sum x (y c)) (left_weight x' y' (y c) (v c)) in
        let left : total ring n (λ c. ring.product (ring.sum x y') (ring.product (inverse_sum x (y c)) (v c))) ≡ ring.zero =
        totals.total_scaled ring laws n (ring.sum x y') (λ c. ring.product (inverse_sum x (y c)) (v c)) ∙ ap (ring.product (ring.sum x y')) here ∙ totals.product_zero ring laws (ring.sum x y') in
        let right : total ring n (λ c. ring.product (ring.sum x' y') (ring.product (inverse_sum x' (y c)) (v c))) ≡ ring.zero =
        totals.total_scaled ring laws n (ring.sum x' y') (λ c. ring.product (inverse_sum x' (y c)) (v c)) ∙ ap (ring.product (ring.sum x' y')) there ∙ totals.product_zero ring laws (ring.sum x' y') in
        let each : total ring n (λ c. ring.product (ring.sum x y') (ring.product (inverse_sum x (y c)) (v c)))
        ≡ total ring n (λ c. ring.sum (ring.product d (w c)) (ring.product (ring.sum x' y') (ring.product (inverse_sum x' (y c)) (v c)))) =
        totals.total_same ring laws n _ _ (λ c lt. cleared_entry x x' (y c) y' (v c) (row c lt) (row' c lt)) in
        let split = totals.total_sum ring laws n (λ c. ring.product d (w c)) (λ c. ring.product (ring.sum x' y') (ring.product (inverse_sum x' (y c)) (v c))) in
        let scaled = totals.total_scaled ring laws n d w in
        let vanishes : ring.product d (total ring n w) ≡ ring.zero =
        sym scaled ∙ sym (laws.sum_zero (total ring n (λ c. ring.product d (w c))))
        ∙ ap (ring.sum (total ring n (λ c. ring.product d (w c)))) (sym right) ∙ sym split ∙ sym each ∙ left in
        factor_is_zero (total ring n w) d (difference_some x' x (λ e. apart (sym e))) vanishes

    cleared_rows : (xs : List T) (x' y' : T) (v : ℕ → T) → IsRow x' → IsNoneOf x' xs → row_total x' v ≡ ring.zero → VanishIn xs v
        → VanishIn xs (λ c. left_weight x' y' (y c) (v c))
    cleared_rows [] x' y' v row none there vanish = tt
    cleared_rows (x ∷ xs) x' y' v row none there vanish =
        (vanish.0, cleared_row x x' y' v vanish.0 row none.0 vanish.1 there, cleared_rows xs x' y' v row none.1 there vanish.2)

    inverse_some : (x : T) (c : ℕ) → IsRow x → c < n → inverse_sum x (y c) ≢ ring.zero
    inverse_some x c row lt e =
        field.apart (sym (field.quotient_back ring.one (ring.sum x (y c)) (row c lt)) ∙ ap (λ (z : T). ring.product z (ring.sum x (y c))) e ∙ totals.zero_product ring laws (ring.sum x (y c)))

    weight_zero : (x y' : T) (v : ℕ → T) (b : ℕ) → v b ≡ ring.zero → left_weight x y' (y b) (v b) ≡ ring.zero
    weight_zero x y' v b e =
        ap (λ (z : T). ring.product (ring.difference y' (y b)) (ring.product (inverse_sum x (y b)) z)) e
        ∙ ap (ring.product (ring.difference y' (y b))) (totals.product_zero ring laws (inverse_sum x (y b))) ∙ totals.product_zero ring laws (ring.difference y' (y b))

    weight_own : (x : T) (v : ℕ → T) (j b : ℕ) → b ≡ j → left_weight x (y j) (y b) (v b) ≡ ring.zero
    weight_own x v j b e =
        let none : ring.difference (y j) (y b) ≡ ring.zero =
        ap (λ (k : ℕ). ring.difference (y j) (y k)) e
        ∙ totals.sum_cancel ring laws (ring.difference (y j) (y j)) ring.zero (y j) (laws.difference_back (y j) (y j) ∙ sym (totals.zero_sum ring laws (y j))) in
        ap (λ (z : T). ring.product z (ring.product (inverse_sum x (y b)) (v b))) none ∙ totals.zero_product ring laws (ring.product (inverse_sum x (y b)) (v b))

    -- where what is left of a column is zero, and it isn't the cleared one, it is taken zero times
    weight_back : (x : T) (v : ℕ → T) (j b : ℕ) → IsRow x → b < n → y j ≢ y b → left_weight x (y j) (y b) (v b) ≡ ring.zero → v b ≡ ring.zero
    weight_back x v j b row lt apart e =
        factor_is_zero (v b) (inverse_sum x (y b)) (inverse_some x b row lt)
        (factor_is_zero (ring.product (inverse_sum x (y b)) (v b)) (ring.difference (y j) (y b)) (difference_some (y j) (y b) apart) e)

    -- a column that is the only one in a row that vanishes
    alone : (x : T) (v : ℕ → T) (j : ℕ) → IsRow x → j < n → row_total x v ≡ ring.zero → ((b : ℕ) → b < n → b ≢ j → v b ≡ ring.zero) → v j ≡ ring.zero
    alone x v j row lt vanish others =
        factor_is_zero (v j) (inverse_sum x (y j)) (inverse_some x j row lt)
        (sym (totals.total_unit ring laws n (λ c. ring.product (inverse_sum x (y c)) (v c)) j lt
        (λ b below apart. ap (ring.product (inverse_sum x (y b))) (others b below apart) ∙ totals.product_zero ring laws (inverse_sum x (y b)))) ∙ vanish)

    -- columns that vanish in as many rows as there are columns are taken zero times
    pub columns_vanish : (columns : List ℕ) (xs : List T) (v : ℕ → T) → ((c b : ℕ) → c < n → b < n → c ≢ b → y c ≢ y b) → AreDistinct xs → length columns ≤ length xs
        → VanishIn xs v → ((c : ℕ) → IsAmong columns c → c < n) → ((c : ℕ) → c < n → (v c ≡ ring.zero) ⊎ IsAmong columns c) → (c : ℕ) → c < n → v c ≡ ring.zero
    columns_vanish [] xs v apart distinct few vanish within known c lt = elim (known c lt) [ inl e ↦ e | inr h ↦ absurd h ]
    columns_vanish (j ∷ columns) [] v apart distinct few vanish within known c lt = absurd (omega arith)
    columns_vanish (j ∷ columns) (x ∷ xs) v apart distinct few vanish within known c lt =
        let w : ℕ → T = λ b. left_weight x (y j) (y b) (v b) in
        let fewer : length columns ≤ length xs = omega arith in
        let here : j < n = within j (inl refl) in
        let rest : (b : ℕ) → b < n → w b ≡ ring.zero =
        columns_vanish columns xs w apart distinct.1 fewer (cleared_rows xs x (y j) v vanish.0 distinct.0 vanish.1 vanish.2) (λ b among. within b (inr among))
        (λ b below. elim (known b below) [ inl e ↦ inl (weight_zero x (y j) v b e) | inr h ↦ elim h [ inl e ↦ inl (weight_own x v j b e) | inr among ↦ inr among ] ]) in
        let others : (b : ℕ) → b < n → b ≢ j → v b ≡ ring.zero =
        λ (b : ℕ) (below : b < n) (off : b ≢ j). weight_back x v j b vanish.0 below (apart j b here below (λ e. off (sym e))) (rest b below) in
        elim (cases_eq c j) [ inl e ↦ ap v e ∙ alone x v j vanish.0 here vanish.1 others | inr off ↦ others c lt off ]
