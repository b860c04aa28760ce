-- The shards of places that all hold one, and their cells.
use Rattle.std.proofs.Common.{◌≡◌, ◌≢◌, ℕ, zero, suc, ◌+◌, ◌*◌, ◌/◌, ◌<◌, ◌≤◌, false, List, [], ◌∷◌, ◌++◌, length, get_or, take, drop, All, Option, Some, None, refl, sym, ap, ◌∙◌, add-one, arith}
use Rattle.std.specs.Prelude.{is_some}
use Rattle.std.proofs.lemmas.Bool.{false≢true}
use Rattle.std.proofs.lemmas.List.{get_or-take, length-take-le, ext_get_or}
use Rattle.std.proofs.lemmas.List.Elements.{All-from_get_or}
use Rattle.std.proofs.Math.Nat.{mul-le-mul_right, div-mul-le_self}
use Rattle.std.proofs.Math.Seq.{take-append_seam}
use Rattle.hdfs_ec.specs.Striping.{cells, row_cells}
use Rattle.hdfs_ec.specs.Coding.{AreDataShards, place, ArePlaces, empty_places, AreFilled, HoldData}
use Rattle.hdfs_ec.specs.Places.{held_shards}
use Rattle.hdfs_ec.proofs.Occupancy.{is_empty_number}

-- a vector after its slice was written as a whole
pub slice_written : {T : Type 0} (n : ℕ) (new old : List T) → length new ≡ length old → n ≡ length old → take n (new ++ drop (length new) old) ≡ new
slice_written n new old long end =
    ap (λ (k : ℕ). take k (new ++ drop (length new) old)) (end ∙ sym long) ∙ take-append_seam new (drop (length new) old)

pub none_from : (o : Option (List ℕ)) → is_some o ≡ false → o ≡ None
none_from None e = refl
none_from (Some shard) e = absurd (false≢true (sym e))

pub some_empty : (places : List (Option (List ℕ))) (i : ℕ) → i < length places → place places i ≡ None → 0 < length (empty_places places)
some_empty places i lt none = let at = is_empty_number 0 places i lt none in let in_empty = at.1 in omega arith

-- shards of places that all hold one
record AllThere (places : List (Option (List ℕ))) : Type 0 where
  pub count : length (held_shards places) ≡ length places
  pub at : (i : ℕ) → i < length places → place places i ≡ Some (get_or (held_shards places) i [])

there_too : (shard : List ℕ) (places : List (Option (List ℕ))) → AllThere places → AllThere (Some shard ∷ places)
unfolding held_shards
there_too shard places rest = record { count = ap suc rest.count; at = at }
  where
    at : (i : ℕ) → i < length (Some shard ∷ places) → place (Some shard ∷ places) i ≡ Some (get_or (shard ∷ held_shards places) i [])
    at zero lt = refl
    at (suc i) lt = rest.at i (omega arith)

all_there : (places : List (Option (List ℕ))) → ((i : ℕ) → i < length places → place places i ≢ None) → AllThere places
unfolding held_shards
all_there [] there = record { count = refl; at = λ i lt. absurd (omega arith) }
all_there (None ∷ places) there = absurd (there 0 (omega arith) refl)
all_there (Some shard ∷ places) there = there_too shard places (all_there places (λ i lt. there (suc i) (omega arith)))

some_same : (a b : List ℕ) → Some a ≡ Some b → a ≡ b
some_same a b e = cc

module _ (units n : ℕ) (old new : List (Option (List ℕ))) (are : ArePlaces n old) (few : units ≤ n) (filled : AreFilled units old new) where
  size : length (take units new) ≡ units
  size = let count = filled.count in let all = are.count in length-take-le units new (omega arith)

  there : AllThere (take units new)
  there = all_there (take units new)
      (λ i lt none.
      let all = size in
      let in_units : i < units = omega arith in
      let holds = filled.filled are.size i are.even in_units in
      clash holds.0 (sym none ∙ get_or-take units new i None in_units ∙ holds.1))
    where
      clash : (shard : List ℕ) → None ≡ Some shard → ⊥
      clash shard e = cc

  pub gathered_count : length (held_shards (take units new)) ≡ units
  gathered_count = there.count ∙ size

  gathered_at : (i : ℕ) → i < units → place new i ≡ Some (get_or (held_shards (take units new)) i [])
  gathered_at i lt = let all = size in sym (get_or-take units new i None lt) ∙ there.at i (omega arith)

  pub gathered_long : (i : ℕ) → i < units → length (get_or (held_shards (take units new)) i []) ≡ are.size
  gathered_long i lt =
      let holds = filled.filled are.size i are.even lt in
      ap length (some_same (get_or (held_shards (take units new)) i []) holds.0 (sym (gathered_at i lt) ∙ holds.1)) ∙ holds.2

  pub gathered_rows : (cell : ℕ) → 0 < units → All (λ s. length (get_or (held_shards (take units new)) 0 []) / cell * cell ≤ length s) (held_shards (take units new))
  gathered_rows cell some =
      let count = gathered_count in
      All-from_get_or (λ s. length (get_or (held_shards (take units new)) 0 []) / cell * cell ≤ length s) (held_shards (take units new)) []
      (λ i lt.
      let first = gathered_long 0 some in
      let here = gathered_long i (omega arith) in
      let whole = div-mul-le_self (length (get_or (held_shards (take units new)) 0 [])) cell in
      omega arith)

  pub gathered_is : (originals : List (List ℕ)) → AreDataShards units originals → HoldData originals new → held_shards (take units new) ≡ originals
  gathered_is originals data_shards hold =
      let count = gathered_count in
      let all = data_shards.even.size in
      ext_get_or [] (held_shards (take units new)) originals (count ∙ sym all)
      (λ i lt. some_same (get_or (held_shards (take units new)) i []) (get_or originals i []) (sym (gathered_at i (omega arith)) ∙ hold i (omega arith)))

-- ---- cells

pub cells_none : (cell : ℕ) (shares : List (List ℕ)) → cells cell shares 0 ≡ []
unfolding cells
cells_none cell shares = refl

pub cells_more : (cell : ℕ) (shares : List (List ℕ)) (row : ℕ) → cells cell shares (row + 1) ≡ cells cell shares row ++ row_cells cell shares row
unfolding cells
cells_more cell shares row = ap (cells cell shares) (add-one row)

pub row_within : (row rows cell : ℕ) → row < rows → row * cell + cell ≤ rows * cell
row_within row rows cell lt = omega (arith, mul-le-mul_right cell lt)
