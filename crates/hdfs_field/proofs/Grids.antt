-- Lists of rows of equal length, their entries and what a write leaves.
use Rattle.std.proofs.Common.{◌≡◌, ◌≢◌, ℕ, ◌<◌, ◌≤◌, Bool, ◌&&◌, List, [], ◌∷◌, map, length, get_or, set, take, inl, inr, refl, sym, ap, ◌∙◌, Vec, vec_len, arith}
use Rattle.std.specs.List.{swap}
use Rattle.std.specs.Cmp.Lexicographic.{pointwise}
use Rattle.std.proofs.lemmas.Bool.{cases_eq}
use Rattle.std.proofs.lemmas.List.{length-set, length-map, map-set, get_or-map, take-map, length-take-le, get_or-take, get_or_default, get_or-set_same, get_or-set_other}
use Rattle.std.proofs.lemmas.List.Elements.{All-from_get_or}
use Rattle.std.proofs.lemmas.List.Edits.{swap_is, length-swap}
use Rattle.hdfs_field.specs.Rings.{Operations}
use Rattle.hdfs_field.specs.Matrices.{width, IsGrid, entry, with_entry}

module _ {T : Type 0} where
  pub row_width : (m : List (List T)) (r : ℕ) → IsGrid m → r < length m → length (get_or m r []) ≡ width m
  row_width m r grid lt = grid.even r [] lt

  pub grid_from : (m : List (List T)) (w : ℕ) → 0 < length m → 0 < w → ((i : ℕ) → i < length m → length (get_or m i []) ≡ w) → IsGrid m
  grid_from m w rows cols even =
      let first : width m ≡ w = even 0 rows in
      record {
        rows = rows;
        cols = omega arith;
        even = All-from_get_or (λ row. length row ≡ width m) m [] (λ i lt. even i lt ∙ sym first);
      }

  -- the rows after a write
  pub row-with_entry : (m : List (List T)) (r c : ℕ) (v : T) (i : ℕ) → IsGrid m → i < length m → length (get_or (with_entry m r c v) i []) ≡ width m
  row-with_entry m r c v i grid lt = elim (cases_eq i r) [
    | inl e ↦
        let here : r < length m = omega arith in
        ap (λ (k : ℕ). length (get_or (with_entry m r c v) k [])) e ∙ ap length (get_or-set_same m r (set (get_or m r []) c v) [] here)
        ∙ length-set (get_or m r []) c v ∙ row_width m r grid here
    | inr apart ↦ ap length (get_or-set_other m r i (set (get_or m r []) c v) [] apart) ∙ row_width m i grid lt
  ]

  pub row-with_entry_other : (m : List (List T)) (r c : ℕ) (v : T) (i : ℕ) → i ≢ r → get_or (with_entry m r c v) i [] ≡ get_or m i []
  row-with_entry_other m r c v i apart = get_or-set_other m r i (set (get_or m r []) c v) [] apart

  pub length-with_entry : (m : List (List T)) (r c : ℕ) (v : T) → length (with_entry m r c v) ≡ length m
  length-with_entry m r c v = length-set m r (set (get_or m r []) c v)

  pub width-with_entry : (m : List (List T)) (r c : ℕ) (v : T) → IsGrid m → width (with_entry m r c v) ≡ width m
  width-with_entry m r c v grid = row-with_entry m r c v 0 grid grid.rows

  pub grid-with_entry : (m : List (List T)) (r c : ℕ) (v : T) → IsGrid m → IsGrid (with_entry m r c v)
  grid-with_entry m r c v grid =
      let same = length-with_entry m r c v in
      let rows = grid.rows in
      grid_from (with_entry m r c v) (width m) (omega arith) grid.cols (λ i lt. row-with_entry m r c v i grid (omega arith))

  -- the rows after an exchange
  pub row-swap : (m : List (List T)) (a b i : ℕ) → a < length m → b < length m → (get_or (swap m a b) a [] ≡ get_or m b []) × (get_or (swap m a b) b [] ≡ get_or m a []) × (i ≢ a → i ≢ b → get_or (swap m a b) i [] ≡ get_or m i [])
  row-swap m a b i ina inb =
      let w = get_or m b [] in
      let u = get_or m a [] in
      let size = length-set m a w in
      let is = swap_is m a b [] ina inb in (
        elim (cases_eq a b) [
          | inl e ↦
              ap (λ (xs : List (List T)). get_or xs a []) (sym is) ∙ ap (λ (k : ℕ). get_or (set (set m a w) b u) k []) e
              ∙ get_or-set_same (set m a w) b u [] (omega arith) ∙ ap (λ (k : ℕ). get_or m k []) e
          | inr apart ↦
              ap (λ (xs : List (List T)). get_or xs a []) (sym is) ∙ get_or-set_other (set m a w) b a u [] apart ∙ get_or-set_same m a w [] ina
        ],
        ap (λ (xs : List (List T)). get_or xs b []) (sym is) ∙ get_or-set_same (set m a w) b u [] (omega arith),
        λ offa offb. ap (λ (xs : List (List T)). get_or xs i []) (sym is) ∙ get_or-set_other (set m a w) b i u [] offb ∙ get_or-set_other m a i w [] offa,
      )

  pub width_row-swap : (m : List (List T)) (a b i : ℕ) → IsGrid m → a < length m → b < length m → i < length m → length (get_or (swap m a b) i []) ≡ width m
  width_row-swap m a b i grid ina inb lt =
      let rows = row-swap m a b i ina inb in
      elim (cases_eq i a) [
        | inl e ↦ ap (λ (k : ℕ). length (get_or (swap m a b) k [])) e ∙ ap length rows.0 ∙ row_width m b grid inb
        | inr offa ↦ elim (cases_eq i b) [
          | inl e ↦ ap (λ (k : ℕ). length (get_or (swap m a b) k [])) e ∙ ap length rows.1 ∙ row_width m a grid ina
          | inr offb ↦ ap length (rows.2 offa offb) ∙ row_width m i grid lt
        ]
      ]

  pub width-swap : (m : List (List T)) (a b : ℕ) → IsGrid m → a < length m → b < length m → width (swap m a b) ≡ width m
  width-swap m a b grid ina inb = width_row-swap m a b 0 grid ina inb grid.rows

  pub grid-swap : (m : List (List T)) (a b : ℕ) → IsGrid m → a < length m → b < length m → IsGrid (swap m a b)
  grid-swap m a b grid ina inb =
      let same = length-swap m a b in
      let rows = grid.rows in
      grid_from (swap m a b) (width m) (omega arith) grid.cols (λ i lt. width_row-swap m a b i grid ina inb (omega arith))

  -- the first rows
  pub grid-take : (m : List (List T)) (n : ℕ) → IsGrid m → 0 < n → n ≤ length m → IsGrid (take n m)
  grid-take m n grid some within =
      let size = length-take-le n m within in
      grid_from (take n m) (width m) (omega arith) grid.cols
      (λ i lt. ap length (get_or-take n m i [] (omega arith)) ∙ row_width m i grid (omega arith))

-- the entries after a write
module _ {T : Type 0} (ring : Operations T) (m : List (List T)) (r c : ℕ) (v : T) where
  pub entry-with_entry_same : IsGrid m → r < length m → c < width m → entry ring (with_entry m r c v) r c ≡ v
  entry-with_entry_same grid row col =
      let wide = row_width m r grid row in
      ap (λ (xs : List T). get_or xs c ring.zero) (get_or-set_same m r (set (get_or m r []) c v) [] row)
      ∙ get_or-set_same (get_or m r []) c v ring.zero (omega arith)

  pub entry-with_entry_col : (k : ℕ) → r < length m → k ≢ c → entry ring (with_entry m r c v) r k ≡ entry ring m r k
  entry-with_entry_col k row apart =
      ap (λ (xs : List T). get_or xs k ring.zero) (get_or-set_same m r (set (get_or m r []) c v) [] row)
      ∙ get_or-set_other (get_or m r []) c k v ring.zero apart

  pub entry-with_entry_row : (i k : ℕ) → i ≢ r → entry ring (with_entry m r c v) i k ≡ entry ring m i k
  entry-with_entry_row i k apart = ap (λ (xs : List T). get_or xs k ring.zero) (get_or-set_other m r i (set (get_or m r []) c v) [] apart)

-- rows that are vectors, seen as lists
module _ {T Z : Type 0} where
  abbrev pub listed : List (Vec T Z) → List (List T)
  listed rows = map (λ row. row.items) rows

  pub row_listed : (rows : List (Vec T Z)) (r : ℕ) (x : Vec T Z) → r < length rows → x ≡ get_or rows r x → get_or (listed rows) r [] ≡ x.items
  row_listed rows r x lt read = get_or-map (λ (row : Vec T Z). row.items) rows r x [] lt ∙ ap (λ (row : Vec T Z). row.items) (sym read)

  pub col_within : (rows : List (Vec T Z)) (now : List (List T)) (r c : ℕ) (x : Vec T Z) → IsGrid (listed rows) → listed rows ≡ now → r < length now → c < width now → x ≡ get_or rows r x → c < vec_len x
  col_within rows now r c x grid is row col read =
      let size = length-map rows (λ (row : Vec T Z). row.items) in
      let sizes = ap length is in
      let widths : width (listed rows) ≡ width now = ap width is in
      let long = row_width (listed rows) r grid (omega arith) in
      let items = ap length (row_listed rows r x (omega arith) read) in
      omega (arith, x.ok)

  pub put_is : (rows : List (Vec T Z)) (now : List (List T)) (r c : ℕ) (v : T) (x y : Vec T Z) → listed rows ≡ now → r < length now → x ≡ get_or rows r x → y.items ≡ set x.items c v → listed (set rows r y) ≡ with_entry now r c v
  put_is rows now r c v x y is row read put =
      let size = length-map rows (λ (row : Vec T Z). row.items) in
      let sizes = ap length is in
      let old = row_listed rows r x (omega arith) read in
      map-set (λ (row : Vec T Z). row.items) rows r y ∙ ap (set (listed rows) r) (put ∙ ap (λ (xs : List T). set xs c v) (sym old))
      ∙ ap (λ (g : List (List T)). set g r (set (get_or g r []) c v)) is

  listed-swap : (rows : List (Vec T Z)) (a b : ℕ) → a < length rows → b < length rows → listed (swap rows a b) ≡ swap (listed rows) a b
  listed-swap [] a b ina inb = refl
  listed-swap (d ∷ ys) a b ina inb =
      let items = λ (row : Vec T Z). row.items in
      map-set items (set (d ∷ ys) a (get_or (d ∷ ys) b d)) b (get_or (d ∷ ys) a d)
      ∙ ap (λ (g : List (List T)). set g b (get_or (d ∷ ys) a d).items) (map-set items (d ∷ ys) a (get_or (d ∷ ys) b d))
      ∙ ap (λ (x : List T). set (set (listed (d ∷ ys)) a (get_or (d ∷ ys) b d).items) b x) (sym (get_or-map items (d ∷ ys) a d d.items ina))
      ∙ ap (λ (x : List T). set (set (listed (d ∷ ys)) a x) b (get_or (listed (d ∷ ys)) a d.items)) (sym (get_or-map items (d ∷ ys) b d d.items inb))

  pub swapped_is : (rows rows' : List (Vec T Z)) (now : List (List T)) (a b : ℕ) → listed rows ≡ now → a < length now → b < length now → rows' ≡ swap rows a b → listed rows' ≡ swap now a b
  swapped_is rows rows' now a b is ina inb e =
      let size = length-map rows (λ (row : Vec T Z). row.items) in
      let sizes = ap length is in
      ap listed e ∙ listed-swap rows a b (omega arith) (omega arith) ∙ ap (λ (g : List (List T)). swap g a b) is

  pub taken_is : (rows rows' : List (Vec T Z)) (now : List (List T)) (n : ℕ) → listed rows ≡ now → rows' ≡ take n rows → listed rows' ≡ take n now
  taken_is rows rows' now n is e = ap listed e ∙ sym (take-map (λ (row : Vec T Z). row.items) n rows) ∙ ap (take n) is

  -- what a reference to an entry reads
  pub read_entry : (rows : List (Vec T Z)) (now : List (List T)) (r c : ℕ) (x : Vec T Z) (v : T) → IsGrid (listed rows) → listed rows ≡ now → r < length now → c < width now → x ≡ get_or rows r x → v ≡ get_or x.items c v → (d : T) → v ≡ get_or (get_or now r []) c d
  read_entry rows now r c x v grid is row col read at d =
      let size = length-map rows (λ (row : Vec T Z). row.items) in
      let sizes = ap length is in
      let within = col_within rows now r c x grid is row col read in
      at ∙ get_or_default x.items c v d (omega (arith, x.ok)) ∙ ap (λ (xs : List T). get_or xs c d) (sym (row_listed rows r x (omega arith) read))
      ∙ ap (λ (g : List (List T)). get_or (get_or g r []) c d) is

  listed_pointwise : (E : T → T → Bool) (rows others : List (Vec T Z)) → pointwise (λ (x y : Vec T Z). pointwise E x.items y.items) rows others ≡ pointwise (pointwise E) (listed rows) (listed others)
  listed_pointwise E [] [] = refl
  listed_pointwise E [] (y ∷ others) = refl
  listed_pointwise E (x ∷ rows) [] = refl
  listed_pointwise E (x ∷ rows) (y ∷ others) = ap (λ (b : Bool). pointwise E x.items y.items && b) (listed_pointwise E rows others)

  pub same_listed : (E : T → T → Bool) (rows others : List (Vec T Z)) (now now' : List (List T)) → listed rows ≡ now → listed others ≡ now' → pointwise (λ (x y : Vec T Z). pointwise E x.items y.items) rows others ≡ pointwise (pointwise E) now now'
  same_listed E rows others now now' is is' =
      listed_pointwise E rows others ∙ ap (λ (g : List (List T)). pointwise (pointwise E) g (listed others)) is ∙ ap (pointwise (pointwise E) now) is'
