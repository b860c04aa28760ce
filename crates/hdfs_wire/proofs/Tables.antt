-- The rule of the tables: each entry is what a byte of zeros makes of the entry before.
use Rattle.std.proofs.Common.{◌≡◌, ℕ, zero, suc, ◌+◌, ◌<◌, Bool, true, false, ◌&&◌, ◌==◌, List, [], ◌∷◌, length, get_or, refl, ap, ◌∙◌, lit<, arith}
use Rattle.std.proofs.lemmas.Bool.{and_parts, eqb-true}
use Rattle.hdfs_wire.specs.CrcTables.{zero_byte, zero_bytes, AreTables}
use Rattle.hdfs_wire.proofs.Register.{zero_bytes-add}

-- the numbers from a first one on
abbrev pub numbers : ℕ → ℕ → List ℕ
numbers zero first = []
numbers (suc count) first = first ∷ numbers count (suc first)

-- each entry is what a byte of zeros makes of the entry there in the table before
abbrev pub follows : ℕ → List ℕ → List ℕ → Bool
follows p [] [] = true
follows p [] (y ∷ ys) = false
follows p (x ∷ xs) [] = false
follows p (x ∷ xs) (y ∷ ys) = (y == zero_byte p x) && follows p xs ys

abbrev pub chained : ℕ → List ℕ → List (List ℕ) → Bool
chained p before [] = true
chained p before (table ∷ tables) = follows p before table && chained p table tables

follows-at : (p : ℕ) (xs ys : List ℕ) (v : ℕ) → follows p xs ys ≡ true → v < length xs → get_or ys v 0 ≡ zero_byte p (get_or xs v 0)
follows-at p [] ys v h lt = absurd (omega arith)
follows-at p (x ∷ xs) [] v h lt = absurd cc
follows-at p (x ∷ xs) (y ∷ ys) zero h lt = eqb-true _ _ (and_parts _ _ h).0
follows-at p (x ∷ xs) (y ∷ ys) (suc v) h lt = follows-at p xs ys v (and_parts _ _ h).1 (omega arith)

follows-length : (p : ℕ) (xs ys : List ℕ) → follows p xs ys ≡ true → length ys ≡ length xs
follows-length p [] [] h = refl
follows-length p [] (y ∷ ys) h = absurd cc
follows-length p (x ∷ xs) [] h = absurd cc
follows-length p (x ∷ xs) (y ∷ ys) h = ap suc (follows-length p xs ys (and_parts _ _ h).1)

pub chained-at : (p : ℕ) (before : List ℕ) (tables : List (List ℕ)) (k v : ℕ) → chained p before tables ≡ true → k < length tables → v < length before
    → get_or (get_or tables k []) v 0 ≡ zero_bytes p (suc k) (get_or before v 0)
unfolding zero_bytes
chained-at p before [] k v h lt within = absurd (omega arith)
chained-at p before (table ∷ tables) zero v h lt within = follows-at p before table v (and_parts _ _ h).0 within
chained-at p before (table ∷ tables) (suc k) v h lt within =
    let both = and_parts (follows p before table) (chained p table tables) h in
    let len = follows-length p before table both.0 in
    chained-at p table tables k v both.1 (omega arith) (omega arith) ∙ ap (zero_bytes p (suc k)) (follows-at p before table v both.0 within)

numbers-at : (count first v : ℕ) → v < count → get_or (numbers count first) v 0 ≡ first + v
numbers-at zero first v lt = absurd (omega arith)
numbers-at (suc count) first zero lt = omega arith
numbers-at (suc count) first (suc v) lt = numbers-at count (suc first) v (omega arith) ∙ omega arith

numbers-length : (count first : ℕ) → length (numbers count first) ≡ count
numbers-length zero first = refl
numbers-length (suc count) first = ap suc (numbers-length count (suc first))

pub near_tables : (p : ℕ) (tables : List (List ℕ)) → length tables ≡ 8 → chained p (numbers 256 0) tables ≡ true → AreTables p 0 tables
near_tables p tables len h k v below fits =
    let n : v < length (numbers 256 0) = fits in
    let start : 0 + k ≡ k = omega arith in
    let same : get_or (numbers 256 0) v 0 ≡ v = numbers-at 256 0 v fits ∙ omega arith in
    rw start (chained-at p (numbers 256 0) tables k v h (omega arith) n ∙ ap (zero_bytes p (suc k)) same)

pub far_tables : (p : ℕ) (near far : List (List ℕ)) → length far ≡ 8 → AreTables p 0 near → length (get_or near 7 []) ≡ 256 → chained p (get_or near 7 []) far ≡ true → AreTables p 8 far
far_tables p near far len rule wide h k v below fits =
    let before = rule 7 v (lit< tt) fits in
    let e : 8 + suc k ≡ suc (8 + k) = omega arith in
    chained-at p (get_or near 7 []) far k v h (omega arith) (omega arith) ∙ ap (zero_bytes p (suc k)) before ∙ zero_bytes-add p (suc k) 8 v ∙ ap (λ (n : ℕ). zero_bytes p n v) e
