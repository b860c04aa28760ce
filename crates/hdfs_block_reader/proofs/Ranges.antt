-- A range of a range.
use Rattle.std.proofs.Common.{◌≡◌, ℕ, ◌+◌, ◌-◌, ◌<◌, ◌≤◌, List, length, take, drop, ◌∙◌, ap, arith}
use Rattle.std.proofs.lemmas.List.{drop-take, take-take, drop-drop, length-take, length-drop}
use Rattle.hdfs_cluster.specs.Reading.{range_of}

-- a range of a prefix that reaches over it
pub range_of-take : (g : List ℕ) (h w n : ℕ) → w + n ≤ h → range_of (take h g) w n ≡ range_of g w n
range_of-take g h w n within =
    let m = h - w in
    let whole : h ≡ w + m = omega arith in
    ap (λ (k : ℕ). take n (drop w (take k g))) whole ∙ ap (take n) (drop-take w m g) ∙ take-take n m (drop w g) (omega arith)

-- a range within a range
pub range_of-range : (g : List ℕ) (a l w n : ℕ) → a ≤ w → w - a + n ≤ l → range_of (range_of g a l) (w - a) n ≡ range_of g w n
range_of-range g a l w n behind within =
    let k = w - a in
    range_of-take (drop a g) l k n within ∙ ap (take n) (drop-drop k a g) ∙ ap (λ (i : ℕ). take n (drop i g)) (let e : a + k ≡ w = omega arith in e)

-- what a part that isn't empty says of the length of the whole
pub within_from-range : (g bytes : List ℕ) (w n : ℕ) → bytes ≡ range_of g w n → length bytes ≡ n → 0 < n → w + n ≤ length g
within_from-range g bytes w n is long some = omega (arith, ap length is, length-take n (drop w g), length-drop w g)

-- A packet's payload is a range of a node's bytes, which are the first of the block's, and what is given is a range of the payload.
pub part_of_block : (g base payload bytes : List ℕ) (place w n : ℕ) → base ≡ take (length base) g → payload ≡ range_of base place (length payload) → bytes ≡ range_of payload (w - place) n → length bytes ≡ n → 0 < n → place ≤ w → w + n ≤ place + length payload → bytes ≡ range_of g w n
part_of_block g base payload bytes place w n first slice part long some behind within =
    let of_base : bytes ≡ range_of base w n = part ∙ ap (λ (p : List ℕ). range_of p (w - place) n) slice ∙ range_of-range base place (length payload) w n behind (omega arith) in
    of_base ∙ ap (λ (b : List ℕ). range_of b w n) first ∙ range_of-take g (length base) w n (within_from-range base bytes w n of_base long some)
