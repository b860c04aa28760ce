-- Rows of a coding matrix that are chosen by their numbers.
use Rattle.std.proofs.Common.{◌≡◌, ℕ, ◌+◌, ◌<◌, List, [], ◌∷◌, ◌++◌, length, get_or, All, refl, sym, ap, ◌∙◌, arith}
use Rattle.std.specs.List.{Contains}
use Rattle.std.specs.List.Sorted.{IsStrictlyIncreasing}
use Rattle.std.proofs.lemmas.List.{length_push}
use Rattle.hdfs_field.specs.declared.gf256.GF256.{GF256}
use Rattle.hdfs_field.specs.Elements.{element, gf256}
use Rattle.hdfs_field.specs.FieldLaws.{gf256_lawful}
use Rattle.hdfs_field.specs.Matrices.{width, entry, total, IsGrid, IsInverse, selected_rows}
use Rattle.hdfs_ec.specs.Coding.{coefficient, coding_at, IsCode, IsCodingMatrix, AreParityShards}
use Rattle.hdfs_field.specs.Slices.{byte_at, AreEven, AreCombined}
use Rattle.hdfs_ec.specs.Steps.{IsRange, AreParityRows}
use Rattle.hdfs_field.proofs.Totals.{total_same}
use Rattle.hdfs_field.proofs.Selection.{length-selected_rows, width-selected_rows, entry-selected_rows}
use Rattle.hdfs_ec.proofs.Codes.{coding_above}
use Rattle.hdfs_field.proofs.Combining.{each_push}

-- a list that isn't empty has its first item
pub has_first : (numbers : List ℕ) (bound : ℕ) → 0 < length numbers → ((k : ℕ) → k < length numbers → get_or numbers k 0 < bound) → (r : ℕ) × Contains numbers r × (r < bound)
has_first [] bound some below = absurd (omega arith)
has_first (n ∷ numbers) bound some below = (n, (0, some, refl), below 0 some)

module _ (units parity : ℕ) (code : IsCode units parity) (m : List (List GF256)) (coding : IsCodingMatrix units parity m) where
  module _ (numbers : List ℕ) (count : length numbers ≡ units) (rising : IsStrictlyIncreasing numbers) (within : All (λ r. r < units + parity) numbers) where
    pub chosen_below : (k : ℕ) → k < length numbers → get_or numbers k 0 < length m
    chosen_below k lt = let r = within k 0 lt in let rows = coding.rows in omega arith

    pub chosen_size : length (selected_rows numbers m) ≡ units
    chosen_size = length-selected_rows numbers m rising chosen_below ∙ count

    pub chosen_square : IsGrid m → width (selected_rows numbers m) ≡ length (selected_rows numbers m)
    chosen_square grid =
        let some = code.some_units in
        width-selected_rows numbers m rising chosen_below grid (omega arith) ∙ coding.cols ∙ sym chosen_size

    pub chosen_entry : (i c : ℕ) → i < units → c < units → entry gf256 (selected_rows numbers m) i c ≡ coding_at units (get_or numbers i 0) c
    chosen_entry i c row col =
        entry-selected_rows numbers m rising chosen_below gf256 i c (omega arith) ∙ coding.entries (get_or numbers i 0) c (within i 0 (omega arith)) col

    pub chosen_some : (r : ℕ) × Contains numbers r × (r < length m)
    chosen_some = let some = code.some_units in has_first numbers (length m) (omega arith) chosen_below

  -- the rows below the identity
  module _ (numbers : List ℕ) (range : IsRange units parity numbers) (grid : IsGrid m) where
    range_rises : IsStrictlyIncreasing numbers
    range_rises k lt =
        let size = range.size in
        let here = range.at k (omega arith) in
        let next = range.at (k + 1) (omega arith) in
        omega arith

    range_below : (k : ℕ) → k < length numbers → get_or numbers k 0 < length m
    range_below k lt =
        let size = range.size in
        let rows = coding.rows in
        let here = range.at k (omega arith) in
        omega arith

    pub range_some : (r : ℕ) × Contains numbers r × (r < length m)
    range_some =
        let some = code.some_parity in
        let size = range.size in
        has_first numbers (length m) (omega arith) range_below

    pub parity_rows_are : AreParityRows units parity (selected_rows numbers m)
    parity_rows_are =
        let some = code.some_parity in
        let size = range.size in
        record {
          rows = length-selected_rows numbers m range_rises range_below ∙ size;
          cols = width-selected_rows numbers m range_rises range_below grid (omega arith) ∙ coding.cols;
          entries = λ j c row col.
              entry-selected_rows numbers m range_rises range_below gf256 j c (omega arith) ∙ ap (λ (r : ℕ). entry gf256 m r c) (range.at j row)
              ∙ coding.entries (units + j) c (omega arith) col ∙ coding_above units (units + j) c (omega arith);
        }

-- an inverse of some chosen rows is one of the same rows of any other coding matrix
pub same_inverse : (units parity : ℕ) → IsCode units parity → (m other : List (List GF256)) → IsCodingMatrix units parity m → IsCodingMatrix units parity other → (numbers : List ℕ) → length numbers ≡ units
    → IsStrictlyIncreasing numbers → All (λ r. r < units + parity) numbers → (d : List (List GF256)) → IsInverse gf256 (selected_rows numbers m) d → IsInverse gf256 (selected_rows numbers other) d
same_inverse units parity code m other coding coding' numbers count rising within d inverse =
    let a = selected_rows numbers m in
    let b = selected_rows numbers other in
    let size = chosen_size units parity code m coding numbers count rising within in
    let size' = chosen_size units parity code other coding' numbers count rising within in
    let same : (i c : ℕ) → i < units → c < units → entry gf256 b i c ≡ entry gf256 a i c
    = λ i c row col. chosen_entry units parity code other coding' numbers count rising within i c row col ∙ sym (chosen_entry units parity code m coding numbers count rising within i c row col) in
    let rows = inverse.rows in
    record {
      rows = inverse.rows ∙ size ∙ sym size';
      cols = inverse.cols ∙ size ∙ sym size';
      right = λ r c row col.
          total_same gf256 gf256_lawful (length d) (λ i. gf256.product (entry gf256 b r i) (entry gf256 d i c)) (λ i. gf256.product (entry gf256 a r i) (entry gf256 d i c))
          (λ i lt. ap (λ (x : GF256). gf256.product x (entry gf256 d i c)) (same r i (omega arith) (omega arith)))
          ∙ inverse.right r c (omega arith) (omega arith);
      left = λ r c row col.
          total_same gf256 gf256_lawful (length b) (λ i. gf256.product (entry gf256 d r i) (entry gf256 b i c)) (λ i. gf256.product (entry gf256 d r i) (entry gf256 a i c))
          (λ i lt. ap (gf256.product (entry gf256 d r i)) (same i c (omega arith) (omega arith)))
          ∙ ap (λ (k : ℕ). total gf256 k (λ i. gf256.product (entry gf256 d r i) (entry gf256 a i c))) (size' ∙ sym size)
          ∙ inverse.left r c (omega arith) (omega arith);
    }

-- the parity shards from the rows below the identity
pub parities_from : (units parity : ℕ) (rows : List (List GF256)) (shards others : List (List ℕ)) → AreParityRows units parity rows → AreEven units shards → AreCombined rows shards others
    → AreParityShards parity shards others
parities_from units parity rows shards others h even combined =
    let count = h.rows in
    let size = even.size in
    record {
      size = combined.count ∙ h.rows;
      each = λ j lt.
          let long = combined.long j (omega arith) in
          record {
            long = long;
            bytes = λ q below.
                combined.bytes j q (omega arith) (omega arith)
                ∙ ap (λ (x : GF256). x.value)
                (total_same gf256 gf256_lawful (length shards) (λ i. gf256.product (entry gf256 rows j i) (element (byte_at shards i q)))
                (λ i. gf256.product (coefficient (length shards + j) i) (element (byte_at shards i q)))
                (λ i in_i. ap (λ (x : GF256). gf256.product x (element (byte_at shards i q))) (h.entries j i lt (omega arith) ∙ ap (λ (k : ℕ). coefficient (k + j) i) (sym size))));
          };
    }

-- numbers that are put one behind the other
pub range_none : (start : ℕ) → IsRange start 0 []
range_none start = record { size = refl; at = λ k lt. absurd (omega arith) }

pub range_more : (start count n : ℕ) (numbers : List ℕ) → IsRange start count numbers → n ≡ start + count → IsRange start (count + 1) (numbers ++ n ∷ [])
range_more start count n numbers h is =
    let size = h.size in
    let all = each_push (λ k x. x ≡ start + k) numbers n 0 (λ k lt. h.at k (omega arith)) (omega arith) in
    record { size = length_push numbers n ∙ ap (λ (k : ℕ). k + 1) size; at = λ k lt. all k (omega arith) }
