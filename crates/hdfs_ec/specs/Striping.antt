-- Striping: the bytes of a group go cell by cell over its data shares, row by row.
use Rattle.std.specs.Prelude.{ℕ, zero, suc, ◌+◌, ◌*◌, ◌/◌, ◌%◌, ◌==◌, nat_lt, List, [], ◌∷◌, ◌++◌, map, take, drop, if◌then◌else◌}

-- the share in which the byte at position p of a group lies
abbrev pub share_of : ℕ → ℕ → ℕ → ℕ
share_of cell units p = p / cell % units

-- the bytes that lie in share i, in order, of a group from position p on
unfoldable pub share_from : ℕ → ℕ → ℕ → ℕ → List ℕ → List ℕ
share_from cell units i p [] = []
share_from cell units i p (byte ∷ group) =
    if share_of cell units p == i then byte ∷ share_from cell units i (suc p) group else share_from cell units i (suc p) group

-- share i of a group
abbrev pub share : ℕ → ℕ → ℕ → List ℕ → List ℕ
share cell units i group = share_from cell units i 0 group

-- how many of the first n positions of a group lie in share i
unfoldable pub share_length : ℕ → ℕ → ℕ → ℕ → ℕ
share_length cell units i zero = 0
share_length cell units i (suc n) = share_length cell units i n + (if share_of cell units n == i then 1 else 0)

-- the length of shard i of a group of n bytes: a parity shard is as long as the first data shard
abbrev pub shard_length : ℕ → ℕ → ℕ → ℕ → ℕ
shard_length cell units i n = share_length cell units (if nat_lt i units then i else 0) n

-- the lengths of the first shares, count of them, added up
unfoldable pub lengths_together : ℕ → ℕ → ℕ → ℕ → ℕ
lengths_together cell units n zero = 0
lengths_together cell units n (suc count) = lengths_together cell units n count + share_length cell units count n

-- the cells of the shares in one row, in the order of the shares
abbrev pub row_cells : ℕ → List (List ℕ) → ℕ → List (List ℕ)
row_cells cell shares row = map (λ s. take cell (drop (row * cell) s)) shares

-- the cells of the shares in the first rows, row by row
unfoldable pub cells : ℕ → List (List ℕ) → ℕ → List (List ℕ)
cells cell shares zero = []
cells cell shares (suc rows) = cells cell shares rows ++ row_cells cell shares rows

-- the first data shares of a group, count of them
unfoldable pub first_shares : ℕ → ℕ → List ℕ → ℕ → List (List ℕ)
first_shares cell units group zero = []
first_shares cell units group (suc count) = first_shares cell units group count ++ share cell units count group ∷ []

-- pieces one behind the other
unfoldable pub joined : List (List ℕ) → List ℕ
joined [] = []
joined (piece ∷ pieces) = piece ++ joined pieces
