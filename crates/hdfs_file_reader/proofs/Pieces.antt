-- A range that is made of pieces.
use Rattle.std.proofs.Common.{◌≡◌, ℕ, ◌+◌, ◌-◌, ◌≤◌, List, ◌++◌, length, take, drop, sym, ◌∙◌, ap, arith, append_assoc}
use Rattle.std.proofs.Math.Seq.{take-add}
use Rattle.std.proofs.lemmas.List.{drop-drop}
use Rattle.hdfs_cluster.specs.Reading.{range_of}

pub range_of-append : (b : List ℕ) (w0 w n : ℕ) → w0 ≤ w → range_of b w0 (w - w0) ++ range_of b w n ≡ range_of b w0 (w + n - w0)
range_of-append b w0 w n le =
    let a = w - w0 in
    let whole : w + n - w0 ≡ a + n = omega arith in
    let at : w0 + a ≡ w = omega arith in
    sym (ap (range_of b w0) whole ∙ take-add a n (drop w0 b) ∙ ap (λ (l : List ℕ). take a (drop w0 b) ++ take n l) (drop-drop a w0 b ∙ ap (λ (i : ℕ). drop i b) at))

-- one piece more
pub piece_more : (out0 out out' bytes b : List ℕ) (w0 w w' : ℕ) → out ≡ out0 ++ range_of b w0 (w - w0) → bytes ≡ range_of b w (length bytes) → out' ≡ out ++ bytes → w' ≡ w + length bytes → w0 ≤ w → out' ≡ out0 ++ range_of b w0 (w' - w0)
piece_more out0 out out' bytes b w0 w w' so_far piece joined moved le =
    joined ∙ ap (λ (l : List ℕ). l ++ bytes) so_far ∙ append_assoc out0 (range_of b w0 (w - w0)) bytes
    ∙ ap (λ (l : List ℕ). out0 ++ l) (ap (λ (l : List ℕ). range_of b w0 (w - w0) ++ l) piece ∙ range_of-append b w0 w (length bytes) le ∙ ap (λ (k : ℕ). range_of b w0 (k - w0)) (sym moved))

pub first_piece : (out0 out' bytes b : List ℕ) (w w' : ℕ) → bytes ≡ range_of b w (length bytes) → out' ≡ out0 ++ bytes → w' ≡ w + length bytes → out' ≡ out0 ++ range_of b w (w' - w)
first_piece out0 out' bytes b w w' piece joined moved =
    let long : length bytes ≡ w' - w = omega arith in
    joined ∙ ap (λ (l : List ℕ). out0 ++ l) (piece ∙ ap (range_of b w) long)

pub pieces_join : (out0 out out' b : List ℕ) (w0 w w' : ℕ) → out ≡ out0 ++ range_of b w0 (w - w0) → out' ≡ out ++ range_of b w (w' - w) → w0 ≤ w → w ≤ w' → out' ≡ out0 ++ range_of b w0 (w' - w0)
pieces_join out0 out out' b w0 w w' so_far joined le le' =
    let whole : w + (w' - w) ≡ w' = omega arith in
    joined ∙ ap (λ (l : List ℕ). l ++ range_of b w (w' - w)) so_far ∙ append_assoc out0 (range_of b w0 (w - w0)) (range_of b w (w' - w))
    ∙ ap (λ (l : List ℕ). out0 ++ l) (range_of-append b w0 w (w' - w) le ∙ ap (λ (k : ℕ). range_of b w0 (k - w0)) whole)
