-- The missing data shards from the shards that are there: the square system of the parity shards, its inverse, and the rows that restore.
use Rattle.std.proofs.Common.{◌≡◌, ◌≢◌, ℕ, zero, suc, ◌+◌, ◌-◌, ◌<◌, ◌≤◌, Bool, cond, List, [], ◌∷◌, length, get_or, inl, inr, refl, sym, ap, subst, ◌∙◌, arith}
use Rattle.std.proofs.lemmas.Bool.{cases_eq, cases_lt, lt-ltb, le-ltb}
use Rattle.std.proofs.lemmas.List.Kept.{AllPairs-from_increasing}
use Rattle.hdfs_field.specs.declared.gf256.GF256.{GF256}
use Rattle.hdfs_field.specs.Rings.{Operations, IsCommutativeRing}
use Rattle.hdfs_field.specs.Elements.{element, gf256, gf256_quotient}
use Rattle.hdfs_field.specs.FieldLaws.{gf256_lawful, gf256_field}
use Rattle.hdfs_field.specs.Matrices.{width, entry, total, unit_at, IsGrid, IsZeroes, IsSingular, IsInverse}
use Rattle.hdfs_field.specs.Rows.{SetsRow}
use Rattle.hdfs_field.proofs.Totals.{negated_sum, zero_sum, product_zero, total_same, total_zero, total_unit, unit_here, unit_elsewhere}
use Rattle.hdfs_field.proofs.Writes.{sets_other}
use Rattle.hdfs_ec.specs.Coding.{coefficient, coding_at, IsCode}
use Rattle.hdfs_ec.specs.Restoring.{AreSplit, IsMinor, weight_in, InvertsMinor, taken_off, restoring_at}
use Rattle.hdfs_ec.proofs.Cauchy.{IsAmong, IsNoneOf, AreDistinct, VanishIn, columns_vanish}
use Rattle.hdfs_ec.proofs.Codes.{elements_apart, sum_some, coding_above, coding_below}

-- a sum of two parts
total_split : {T : Type 0} (ring : Operations T) → IsCommutativeRing ring → (n m : ℕ) (f : ℕ → T) → total ring (n + m) f ≡ ring.sum (total ring n f) (total ring m (λ t. f (n + t)))
unfolding total
total_split ring laws n zero f = ap (λ k. total ring k f) (let e : n + 0 ≡ n = omega arith in e) ∙ sym (laws.sum_zero (total ring n f))
total_split ring laws n (suc m) f =
    ap (λ k. total ring k f) (let e : n + suc m ≡ suc (n + m) = omega arith in e)
    ∙ ap (λ x. ring.sum x (f (n + m))) (total_split ring laws n m f)
    ∙ laws.sum_assoc (total ring n f) (total ring m (λ t. f (n + t))) (f (n + m))

-- ---- the square system has one solution

-- the first numbers from s on, k of them
counted : ℕ → ℕ → List ℕ
counted zero s = []
counted (suc k) s = s ∷ counted k (suc s)

counted_length : (k s : ℕ) → length (counted k s) ≡ k
unfolding counted
counted_length zero s = refl
counted_length (suc k) s = ap suc (counted_length k (suc s))

counted_within : (k s c : ℕ) → IsAmong (counted k s) c → c < s + k
unfolding counted
counted_within zero s c h = absurd h
counted_within (suc k) s c h = elim h [
  | inl e ↦ omega arith
  | inr rest ↦ let lt = counted_within k (suc s) c rest in omega arith
]

counted_has : (k s c : ℕ) → s ≤ c → c < s + k → IsAmong (counted k s) c
unfolding counted
counted_has zero s c le lt = absurd (omega arith)
counted_has (suc k) s c le lt = elim (cases_eq c s) [
  | inl e ↦ inl e
  | inr apart ↦ inr (counted_has k (suc s) c (omega arith) (omega arith))
]

-- the elements of the numbers from place s on, k of them
points : ℕ → ℕ → List ℕ → List GF256
points zero s numbers = []
points (suc k) s numbers = element (get_or numbers s 0) ∷ points k (suc s) numbers

points_length : (k s : ℕ) (numbers : List ℕ) → length (points k s numbers) ≡ k
unfolding points
points_length zero s numbers = refl
points_length (suc k) s numbers = ap suc (points_length k (suc s) numbers)

none_of : (k s n : ℕ) (numbers : List ℕ) → n < 256 → ((i : ℕ) → s ≤ i → i < s + k → (n < get_or numbers i 0) × (get_or numbers i 0 < 256)) → IsNoneOf (element n) (points k s numbers)
unfolding points
none_of zero s n numbers small all = tt
none_of (suc k) s n numbers small all =
    let here = all s (omega arith) (omega arith) in
    let above = here.0 in
    (elements_apart (get_or numbers s 0) n here.1 small (omega arith), none_of k (suc s) n numbers small (λ i le lt. all i (omega arith) (omega arith)))

module _ (units parity : ℕ) (code : IsCode units parity) (held : List ℕ) (first : ℕ) (missing : List ℕ) (split : AreSplit units parity held first missing) where
  abbrev e : ℕ
  e = length missing

  missing_apart : (c b : ℕ) → c < e → b < e → c ≢ b → get_or missing c 0 ≢ get_or missing b 0
  missing_apart c b in_c in_b apart = elim (cases_lt c b) [
    | inl lt ↦ let rise = AllPairs-from_increasing missing split.missing_rise c b 0 lt in_b in omega arith
    | inr le ↦ let rise = AllPairs-from_increasing missing split.missing_rise b c 0 (omega arith) in_c in omega arith
  ]

  small : (i : ℕ) → first ≤ i → i < first + e → get_or held i 0 < 256
  small i le lt =
      let size = split.size in
      let within = split.in_parity i le (omega arith) in
      let below = within.1 in
      let fits = code.fits in
      omega arith

  distinct : (k s : ℕ) → first ≤ s → s + k ≡ first + e → AreDistinct (points k s held)
  unfolding points
  distinct zero s le end = tt
  distinct (suc k) s le end =
      let size = split.size in
      let count = split.count in (
        none_of k (suc s) (get_or held s 0) held (small s le (omega arith))
            (λ i from lt. (AllPairs-from_increasing held split.held_rise s i 0 (omega arith) (omega arith), small i (omega arith) (omega arith))),
        distinct k (suc s) (omega arith) (omega arith),
      )

  -- the columns: the elements of the missing numbers
  abbrev column : ℕ → GF256
  column j = element (get_or missing j 0)

  vanish : (v : ℕ → GF256) → ((i : ℕ) → i < e → total gf256 e (λ j. gf256.product (coefficient (get_or held (first + i) 0) (get_or missing j 0)) (v j)) ≡ gf256.zero)
      → (k d : ℕ) → d + k ≡ e → VanishIn gf256 gf256_lawful gf256_quotient gf256_field e column (points k (first + d) held) v
  unfolding points
  vanish v zeros zero d end = tt
  vanish v zeros (suc k) d end =
      let size = split.size in
      let fits = code.fits in
      let within = split.in_parity (first + d) (omega arith) (omega arith) in
      let above = within.0 in
      let below = within.1 in
      let next : suc (first + d) ≡ first + suc d = omega arith in
      let rest = vanish v zeros k (suc d) (omega arith) in
      let row : (j : ℕ) → j < e → gf256.sum (element (get_or held (first + d) 0)) (column j) ≢ gf256.zero
      = λ (j : ℕ) (lt : j < e). let lost = split.lost j lt in sum_some (get_or held (first + d) 0) (get_or missing j 0) (omega arith) (omega arith) (omega arith) in
      (row, zeros d (omega arith), subst (λ (s : ℕ). VanishIn gf256 gf256_lawful gf256_quotient gf256_field e column (points k s held) v) (sym next) rest)

  module _ (m : List (List GF256)) (minor : IsMinor held first missing m) where
    pub regular : IsSingular gf256 m → ⊥
    regular s =
        let fits = code.fits in
        let rows = minor.rows in
        let cols = minor.cols in
        let in_some = s.within in
        let v = s.times in
        let zeros : (i : ℕ) → i < e → total gf256 e (λ j. gf256.product (coefficient (get_or held (first + i) 0) (get_or missing j 0)) (v j)) ≡ gf256.zero
        = λ (i : ℕ) (lt : i < e).
        total_same gf256 gf256_lawful e (λ j. gf256.product (coefficient (get_or held (first + i) 0) (get_or missing j 0)) (v j)) (λ j. gf256.product (entry gf256 m i j) (v j))
        (λ j below. ap (λ (x : GF256). gf256.product x (v j)) (sym (minor.entries i j lt below)))
        ∙ sym (ap (λ (k : ℕ). total gf256 k (λ j. gf256.product (entry gf256 m i j) (v j))) cols)
        ∙ s.vanishes i (omega arith) in
        let all = vanish v zeros e 0 (omega arith) in
        let start : first + 0 ≡ first = omega arith in
        let few : length (counted e 0) ≤ length (points e (first + 0) held) = omega (arith, counted_length e 0, points_length e (first + 0) held) in
        s.taken (columns_vanish gf256 gf256_lawful gf256_quotient gf256_field e column (counted e 0) (points e (first + 0) held) v
        (λ c b in_c in_b apart.
        let lost = split.lost c in_c in
        let lost' = split.lost b in_b in
        elements_apart (get_or missing c 0) (get_or missing b 0) (omega arith) (omega arith) (missing_apart c b in_c in_b apart))
        (distinct e (first + 0) (omega arith) (omega arith)) few all
        (λ c among. let lt = counted_within e 0 c among in omega arith)
        (λ c lt. inr (counted_has e 0 c (omega arith) (omega arith))) s.some (omega arith))

    pub inverts : (b : List (List GF256)) → IsInverse gf256 m b → InvertsMinor held first missing b
    inverts b inverse =
        let rows = minor.rows in
        record {
          rows = inverse.rows ∙ minor.rows;
          cols = inverse.cols ∙ minor.rows;
          left = λ j l in_j in_l.
              total_same gf256 gf256_lawful e (λ t. gf256.product (entry gf256 b j t) (coefficient (get_or held (first + t) 0) (get_or missing l 0))) (λ t. gf256.product (entry gf256 b j t) (entry gf256 m t l))
              (λ t in_t. ap (gf256.product (entry gf256 b j t)) (sym (minor.entries t l in_t in_l)))
              ∙ sym (ap (λ (k : ℕ). total gf256 k (λ t. gf256.product (entry gf256 b j t) (entry gf256 m t l))) minor.rows)
              ∙ inverse.left j l (omega arith) (omega arith);
        }

  -- ---- the rows that restore

  module _ (b m : List (List GF256)) (inverse : InvertsMinor held first missing b) (is : (j i : ℕ) → j < e → i < units → entry gf256 m j i ≡ restoring_at b held first e j i) where
    -- what the present data shard at place i is multiplied by
    abbrev off : ℕ → ℕ → GF256
    off j i = gf256.difference gf256.zero (taken_off b held first e j i)

    -- the terms of row j times column c of the coding matrix's rows
    abbrev term : ℕ → ℕ → ℕ → GF256
    term j c i = gf256.product (entry gf256 m j i) (coding_at units (get_or held i 0) c)

    abbrev front : ℕ → ℕ → ℕ → GF256
    front j c i = gf256.product (off j i) (unit_at gf256 (get_or held i 0) c)

    abbrev rear : ℕ → ℕ → ℕ → GF256
    rear j c t = gf256.product (entry gf256 b j t) (coefficient (get_or held (first + t) 0) c)

    front_term : (j c i : ℕ) → j < e → i < first → term j c i ≡ front j c i
    front_term j c i in_j in_i =
        let size = split.size in
        ap (λ (x : GF256). gf256.product x (coding_at units (get_or held i 0) c))
        (is j i in_j (omega arith) ∙ ap (λ (t : Bool). cond t (off j i) (entry gf256 b j (i - first))) (lt-ltb i first in_i))
        ∙ ap (gf256.product (off j i)) (coding_below units (get_or held i 0) c (split.in_data i in_i))

    rear_term : (j c t : ℕ) → j < e → t < e → term j c (first + t) ≡ rear j c t
    rear_term j c t in_j in_t =
        let size = split.size in
        let within = split.in_parity (first + t) (omega arith) (omega arith) in
        let place : first + t - first ≡ t = omega arith in
        ap (λ (x : GF256). gf256.product x (coding_at units (get_or held (first + t) 0) c))
        (is j (first + t) in_j (omega arith)
        ∙ ap (λ (s : Bool). cond s (off j (first + t)) (entry gf256 b j (first + t - first))) (le-ltb (first + t) first (omega arith))
        ∙ ap (entry gf256 b j) place)
        ∙ ap (gf256.product (entry gf256 b j t)) (coding_above units (get_or held (first + t) 0) c within.0)

    parts : (j c : ℕ) → j < e → total gf256 units (term j c) ≡ gf256.sum (total gf256 first (front j c)) (weight_in b held first e j c)
    parts j c in_j =
        sym (ap (λ (k : ℕ). total gf256 k (term j c)) split.size)
        ∙ total_split gf256 gf256_lawful first e (term j c)
        ∙ ap (λ (x : GF256). gf256.sum x (total gf256 e (λ t. term j c (first + t)))) (total_same gf256 gf256_lawful first (term j c) (front j c) (λ i lt. front_term j c i in_j lt))
        ∙ ap (gf256.sum (total gf256 first (front j c))) (total_same gf256 gf256_lawful e (λ t. term j c (first + t)) (rear j c) (λ t lt. rear_term j c t in_j lt))

    held_apart : (i k : ℕ) → i < first → k < first → i ≢ k → get_or held i 0 ≢ get_or held k 0
    held_apart i k in_i in_k apart =
        let size = split.size in
        let count = split.count in
        elim (cases_lt i k) [
          | inl lt ↦ let rise = AllPairs-from_increasing held split.held_rise i k 0 lt (omega arith) in omega arith
          | inr le ↦ let rise = AllPairs-from_increasing held split.held_rise k i 0 (omega arith) (omega arith) in omega arith
        ]

    -- the column of a data shard that is there
    present : (j c i : ℕ) → j < e → i < first → get_or held i 0 ≡ c → total gf256 units (term j c) ≡ unit_at gf256 (get_or missing j 0) c
    present j c i in_j in_i at =
        let w = taken_off b held first e j i in
        let alone : total gf256 first (front j c) ≡ off j i =
        total_unit gf256 gf256_lawful first (front j c) i in_i
        (λ k lt other. ap (gf256.product (off j k)) (unit_elsewhere gf256 gf256_lawful (get_or held k 0) c (λ same. held_apart k i lt in_i other (same ∙ sym at))) ∙ product_zero gf256 gf256_lawful (off j k))
        ∙ ap (gf256.product (off j i)) (ap (unit_at gf256 (get_or held i 0)) (sym at) ∙ unit_here gf256 gf256_lawful (get_or held i 0))
        ∙ gf256_lawful.product_one (off j i) in
        parts j c in_j
        ∙ ap (λ (x : GF256). gf256.sum x (weight_in b held first e j c)) alone
        ∙ ap (λ (k : ℕ). gf256.sum (off j i) (weight_in b held first e j k)) (sym at)
        ∙ negated_sum gf256 gf256_lawful w
        ∙ sym (unit_elsewhere gf256 gf256_lawful (get_or missing j 0) c (λ same. split.apart i j in_i in_j (at ∙ sym same)))

    -- the column of a missing data shard
    same_unit : (j l : ℕ) → j < e → l < e → unit_at gf256 j l ≡ unit_at gf256 (get_or missing j 0) (get_or missing l 0)
    same_unit j l in_j in_l = elim (cases_eq j l) [
      | inl same ↦
          ap (unit_at gf256 j) (sym same) ∙ unit_here gf256 gf256_lawful j ∙ sym (unit_here gf256 gf256_lawful (get_or missing j 0))
          ∙ ap (λ (k : ℕ). unit_at gf256 (get_or missing j 0) (get_or missing k 0)) same
      | inr other ↦
          unit_elsewhere gf256 gf256_lawful j l other
          ∙ sym (unit_elsewhere gf256 gf256_lawful (get_or missing j 0) (get_or missing l 0) (missing_apart j l in_j in_l other))
    ]

    absent : (j c l : ℕ) → j < e → l < e → get_or missing l 0 ≡ c → total gf256 units (term j c) ≡ unit_at gf256 (get_or missing j 0) c
    absent j c l in_j in_l at =
        let none : total gf256 first (front j c) ≡ gf256.zero =
        total_zero gf256 gf256_lawful first (front j c)
        (λ k lt. ap (gf256.product (off j k)) (unit_elsewhere gf256 gf256_lawful (get_or held k 0) c (λ same. split.apart k l lt in_l (same ∙ sym at))) ∙ product_zero gf256 gf256_lawful (off j k)) in
        parts j c in_j
        ∙ ap (λ (x : GF256). gf256.sum x (weight_in b held first e j c)) none
        ∙ zero_sum gf256 gf256_lawful (weight_in b held first e j c)
        ∙ ap (weight_in b held first e j) (sym at)
        ∙ inverse.left j l in_j in_l
        ∙ same_unit j l in_j in_l
        ∙ ap (unit_at gf256 (get_or missing j 0)) at

    pub gives_back : (j c : ℕ) → j < e → c < units → total gf256 units (term j c) ≡ unit_at gf256 (get_or missing j 0) c
    gives_back j c in_j in_c = elim (split.whole c in_c) [
      | inl at ↦ present j c at.0 in_j at.1 at.2
      | inr at ↦ absent j c at.0 in_j at.1 at.2
    ]

-- ---- a matrix that is written row by row

-- the first k rows are those of f
pub record HasRows (n w : ℕ) (f : ℕ → ℕ → GF256) (k : ℕ) (m : List (List GF256)) : Type 0 where
  pub grid : IsGrid m
  pub rows : length m ≡ n
  pub cols : width m ≡ w
  pub done : (r c : ℕ) → r < k → c < w → entry gf256 m r c ≡ f r c

pub rows_none : (n w : ℕ) (f : ℕ → ℕ → GF256) (m : List (List GF256)) → IsGrid m → IsZeroes gf256 n w m → HasRows n w f 0 m
rows_none n w f m grid zeroes = record { grid = grid; rows = zeroes.height; cols = zeroes.wide; done = λ r c lt col. absurd (omega arith) }

pub rows_more : (n w : ℕ) (f : ℕ → ℕ → GF256) (k : ℕ) (m m' : List (List GF256)) → HasRows n w f k m → SetsRow gf256 k (f k) m m' → HasRows n w f (k + 1) m'
rows_more n w f k m m' h s =
    let cols = h.cols in
    record {
      grid = s.grid;
      rows = s.rows ∙ h.rows;
      cols = s.cols ∙ h.cols;
      done = λ r c lt col. elim (cases_eq r k) [
        | inl same ↦ ap (λ (i : ℕ). entry gf256 m' i c) same ∙ s.set c (omega arith) ∙ ap (λ (i : ℕ). f i c) (sym same)
        | inr apart ↦ sets_other gf256 k (f k) m (width m) m' s r c apart ∙ h.done r c (omega arith) col
      ];
    }
