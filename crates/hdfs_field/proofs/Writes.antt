-- Matrices that are written entry by entry.
use Rattle.std.proofs.Common.{◌≡◌, ◌≢◌, ℕ, ◌+◌, ◌<◌, ◌≤◌, List, [], length, get_or, replicate, inl, inr, refl, sym, ap, ◌∙◌, add-one, arith}
use Rattle.std.proofs.lemmas.Bool.{cases_eq}
use Rattle.std.proofs.lemmas.List.{length-replicate, get_or-replicate}
use Rattle.hdfs_field.specs.Rings.{Operations, IsCommutativeRing}
use Rattle.hdfs_field.specs.Matrices.{width, IsGrid, entry, with_entry, IsZeroes, IsIdentity, IsMatrixProduct, total, unit_at, product_at}
use Rattle.hdfs_field.specs.Rows.{SetsBelow, SetsRow}
use Rattle.hdfs_field.proofs.Grids.{grid_from, length-with_entry, width-with_entry, grid-with_entry, entry-with_entry_same, entry-with_entry_col, entry-with_entry_row, row-with_entry_other}
use Rattle.hdfs_field.proofs.Totals.{unit_here, unit_elsewhere}

pub total_more : {T : Type 0} (ring : Operations T) (n : ℕ) (f : ℕ → T) → total ring (n + 1) f ≡ ring.sum (total ring n f) (f n)
unfolding total
total_more ring n f = ap (λ (k : ℕ). total ring k f) (add-one n)

pub total_step : {T : Type 0} (ring : Operations T) (n : ℕ) (f : ℕ → T) (sum sum' : T) → sum ≡ total ring n f → sum' ≡ ring.sum sum (f n) → sum' ≡ total ring (n + 1) f
total_step ring n f sum sum' so more = more ∙ ap (λ x. ring.sum x (f n)) so ∙ sym (total_more ring n f)

-- rows of zeros
module _ {T : Type 0} (ring : Operations T) (rows cols : ℕ) (some_row : 0 < rows) (some_col : 0 < cols) (m : List (List T)) (is : m ≡ replicate rows (replicate cols ring.zero)) where
  zero_row : (i : ℕ) → i < rows → get_or m i [] ≡ replicate cols ring.zero
  zero_row i lt = ap (λ (g : List (List T)). get_or g i []) is ∙ get_or-replicate rows i (replicate cols ring.zero) [] lt

  zero_width : (i : ℕ) → i < rows → length (get_or m i []) ≡ cols
  zero_width i lt = ap length (zero_row i lt) ∙ length-replicate cols ring.zero

  zero_height : length m ≡ rows
  zero_height = ap length is ∙ length-replicate rows (replicate cols ring.zero)

  pub zeroes_from : IsZeroes ring rows cols m
  zeroes_from = record {
    height = zero_height;
    wide = zero_width 0 some_row;
    entries = λ r c row col. ap (λ (xs : List T). get_or xs c ring.zero) (zero_row r row) ∙ get_or-replicate cols c ring.zero ring.zero col;
  }

  pub grid_of_zeroes : IsGrid m
  grid_of_zeroes =
      let height = zero_height in
      grid_from m cols (omega arith) some_col (λ i lt. zero_width i (omega arith))

-- a row that is written from its front
module _ {T : Type 0} (ring : Operations T) (r : ℕ) (f : ℕ → T) (a : List (List T)) where
  pub sets_none : IsGrid a → SetsBelow ring r 0 f a a
  sets_none grid = record {
    grid = grid;
    rows = refl;
    cols = refl;
    set = λ c lt. absurd (omega arith);
    left = λ c le. refl;
    others = λ i apart. refl;
  }

  pub sets_more : (k : ℕ) (m : List (List T)) (v : T) → SetsBelow ring r k f a m → r < length a → k < width a → v ≡ f k → SetsBelow ring r (k + 1) f a (with_entry m r k v)
  sets_more k m v s row col is =
      let rows = s.rows in
      let cols = s.cols in
      let row' : r < length m = omega arith in
      let col' : k < width m = omega arith in
      record {
        grid = grid-with_entry m r k v s.grid;
        rows = length-with_entry m r k v ∙ s.rows;
        cols = width-with_entry m r k v s.grid ∙ s.cols;
        set = λ c lt. elim (cases_eq c k) [
          | inl e ↦ ap (λ (i : ℕ). entry ring (with_entry m r k v) r i) e ∙ entry-with_entry_same ring m r k v s.grid row' col' ∙ is ∙ ap f (sym e)
          | inr apart ↦ entry-with_entry_col ring m r k v c row' apart ∙ s.set c (omega arith)
        ];
        left = λ c le. entry-with_entry_col ring m r k v c row' (omega arith) ∙ s.left c (omega arith);
        others = λ i apart. row-with_entry_other m r k v i apart ∙ s.others i apart;
      }

  -- what a row that was written leaves elsewhere
  pub sets_other : (k : ℕ) (m : List (List T)) → SetsBelow ring r k f a m → (i c : ℕ) → i ≢ r → entry ring m i c ≡ entry ring a i c
  sets_other k m s i c apart = ap (λ (xs : List T). get_or xs c ring.zero) (s.others i apart)

-- a matrix with ones in the first k rows of its diagonal, and zeros elsewhere
pub record HasOnes {T : Type 0} (ring : Operations T) (n k : ℕ) (m : List (List T)) : Type 0 where
  pub grid : IsGrid m
  pub rows : length m ≡ n
  pub cols : width m ≡ n
  pub done : (r c : ℕ) → r < n → c < n → r < k → entry ring m r c ≡ unit_at ring r c
  pub left : (r c : ℕ) → r < n → c < n → k ≤ r → entry ring m r c ≡ ring.zero

module _ {T : Type 0} (ring : Operations T) (laws : IsCommutativeRing ring) (n : ℕ) where
  pub ones_none : (m : List (List T)) → IsGrid m → IsZeroes ring n n m → HasOnes ring n 0 m
  ones_none m grid zeroes = record {
    grid = grid;
    rows = zeroes.height;
    cols = zeroes.wide;
    done = λ r c row col lt. absurd (omega arith);
    left = λ r c row col le. zeroes.entries r c row col;
  }

  pub ones_more : (k : ℕ) (m : List (List T)) (v : T) → HasOnes ring n k m → k < n → v ≡ ring.one → HasOnes ring n (k + 1) (with_entry m k k v)
  ones_more k m v h lt is =
      let rows = h.rows in
      let cols = h.cols in
      let row' : k < length m = omega arith in
      let col' : k < width m = omega arith in
      record {
        grid = grid-with_entry m k k v h.grid;
        rows = length-with_entry m k k v ∙ h.rows;
        cols = width-with_entry m k k v h.grid ∙ h.cols;
        done = λ r c row col below. elim (cases_eq r k) [
          | inr apart ↦ entry-with_entry_row ring m k k v r c apart ∙ h.done r c row col (omega arith)
          | inl e ↦ elim (cases_eq c k) [
            | inl same ↦
                ap (λ (i : ℕ). entry ring (with_entry m k k v) i c) e ∙ ap (λ (i : ℕ). entry ring (with_entry m k k v) k i) same
                ∙ entry-with_entry_same ring m k k v h.grid row' col' ∙ is ∙ sym (unit_here ring laws k)
                ∙ ap (λ (i : ℕ). unit_at ring i k) (sym e) ∙ ap (λ (i : ℕ). unit_at ring r i) (sym same)
            | inr other ↦
                ap (λ (i : ℕ). entry ring (with_entry m k k v) i c) e ∙ entry-with_entry_col ring m k k v c row' other
                ∙ h.left k c lt col (omega arith) ∙ sym (unit_elsewhere ring laws r c (omega arith))
          ]
        ];
        left = λ r c row col le. entry-with_entry_row ring m k k v r c (omega arith) ∙ h.left r c row col (omega arith);
      }

  pub ones_all : (m : List (List T)) → HasOnes ring n n m → IsIdentity ring n m
  ones_all m h = record { rows = h.rows; cols = h.cols; entries = λ r c row col. h.done r c row col row }

-- a matrix whose first k rows are those of the product
pub record HasProductRows {T : Type 0} (ring : Operations T) (a b : List (List T)) (k : ℕ) (m : List (List T)) : Type 0 where
  pub rows : length m ≡ length a
  pub cols : width m ≡ width b
  pub done : (r c : ℕ) → r < k → c < width b → entry ring m r c ≡ product_at ring a b r c

module _ {T : Type 0} (ring : Operations T) (a b : List (List T)) where
  pub products_none : (m : List (List T)) → IsZeroes ring (length a) (width b) m → HasProductRows ring a b 0 m
  products_none m zeroes = record { rows = zeroes.height; cols = zeroes.wide; done = λ r c lt col. absurd (omega arith) }

  pub products_more : (k : ℕ) (m m' : List (List T)) → HasProductRows ring a b k m → SetsRow ring k (product_at ring a b k) m m' → HasProductRows ring a b (k + 1) m'
  products_more k m m' h s =
      let cols = h.cols in
      record {
        rows = s.rows ∙ h.rows;
        cols = s.cols ∙ h.cols;
        done = λ r c lt col. elim (cases_eq r k) [
          | inl e ↦ ap (λ (i : ℕ). entry ring m' i c) e ∙ s.set c (omega arith) ∙ ap (λ (i : ℕ). product_at ring a b i c) (sym e)
          | inr apart ↦ sets_other ring k (product_at ring a b k) m (width m) m' s r c apart ∙ h.done r c (omega arith) col
        ];
      }

  pub products_all : (m : List (List T)) → HasProductRows ring a b (length a) m → IsMatrixProduct ring a b m
  products_all m h = record { rows = h.rows; cols = h.cols; entries = λ r c row col. h.done r c row col }
