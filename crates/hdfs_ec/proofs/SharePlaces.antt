-- Where a byte of a group lies in its share.
use Rattle.std.proofs.Common.{◌≡◌, ℕ, zero, suc, ◌+◌, ◌-◌, ◌*◌, ◌/◌, ◌%◌, ◌<◌, ◌≤◌, min, List, [], ◌∷◌, ◌++◌, length, take, drop, get_or, refl, sym, ap, ◌∙◌, arith}
use Rattle.std.proofs.Math.Nat.{mod-lt, mul_assoc, mul-le-mul_right}
use Rattle.std.proofs.lemmas.Nat.{div-add-mod', div-mul-add, mod-mul-add}
use Rattle.std.proofs.lemmas.List.{length-take-le, take-append-drop}
use Rattle.std.proofs.Math.Seq.{drop-cons}
use Rattle.hdfs_ec.specs.Striping.{share_of, share_from, share, share_length}
use Rattle.hdfs_ec.proofs.ShareLengths.{share_length_is}
use Rattle.hdfs_ec.proofs.ShareBytes.{share_is_long, share_from-append, take_in}

-- the number of bytes before a position in the share of that position
place_is : (cell units p : ℕ) → 0 < cell → 0 < units → share_length cell units (share_of cell units p) p ≡ p / cell / units * cell + p % cell
place_is cell units p some more =
    let i = p / cell % units in
    let q = p / cell / units in
    let t = p % cell in
    let within : i < units = mod-lt (p / cell) more in
    let small : t < cell = mod-lt p some in
    let whole : p / cell * cell + t ≡ p = div-add-mod' p cell in
    let rows : q * units + i ≡ p / cell = div-add-mod' (p / cell) units in
    let upto : suc i * cell ≤ units * cell = mul-le-mul_right cell within in
    let rest : i * cell + t < units * cell = omega arith in
    let scaled : q * (units * cell) + i * cell ≡ p / cell * cell = ap (λ (x : ℕ). x + i * cell) (sym (mul_assoc q units cell)) ∙ omega (arith, ap (λ (x : ℕ). x * cell) rows) in
    let split : q * (units * cell) + (i * cell + t) ≡ p = omega arith in
    let behind : p % (units * cell) ≡ i * cell + t = ap (λ (x : ℕ). x % (units * cell)) (sym split) ∙ mod-mul-add q (units * cell) (i * cell + t) rest in
    let before : p / (units * cell) ≡ q = ap (λ (x : ℕ). x / (units * cell)) (sym split) ∙ div-mul-add q (units * cell) (i * cell + t) rest in
    share_length_is cell units some i within p
    ∙ ap (λ (x : ℕ). x * cell + min cell (p % (units * cell) - i * cell)) before
    ∙ ap (λ (x : ℕ). q * cell + min cell (x - i * cell)) behind ∙ omega arith

read_seam : (a : List ℕ) (b : ℕ) (rest : List ℕ) (n : ℕ) → length a ≡ n → get_or (a ++ b ∷ rest) n 0 ≡ b
read_seam [] b rest n e = ap (λ (x : ℕ). get_or (b ∷ rest) x 0) (sym e)
read_seam (x ∷ a) b rest zero e = absurd (omega arith)
read_seam (x ∷ a) b rest (suc n) e = read_seam a b rest n (omega arith)

-- a byte lies in its share behind the cells of the rows before its own, and at its place in its cell
pub byte_is_at : (cell units p : ℕ) (group : List ℕ) → 0 < cell → 0 < units → p < length group
    → get_or (share cell units (share_of cell units p) group) (p / cell / units * cell + p % cell) 0 ≡ get_or group p 0
byte_is_at cell units p group some more lt =
    let i = share_of cell units p in
    let front = take p group in
    let size : length front ≡ p = length-take-le p group (omega arith) in
    let byte = get_or group p 0 in
    let cut : drop p group ≡ byte ∷ drop (suc p) group = drop-cons group p 0 lt in
    let at : 0 + length front ≡ p = omega arith in
    let first : length (share cell units i front) ≡ p / cell / units * cell + p % cell =
    share_is_long cell units i front ∙ ap (share_length cell units i) size ∙ place_is cell units p some more in
    let parts : share cell units i group ≡ share cell units i front ++ (byte ∷ share_from cell units i (suc p) (drop (suc p) group)) =
    ap (share cell units i) (sym (take-append-drop p group)) ∙ share_from-append cell units i 0 front (drop p group)
    ∙ ap (λ (x : ℕ). share cell units i front ++ share_from cell units i x (drop p group)) at
    ∙ ap (λ (xs : List ℕ). share cell units i front ++ share_from cell units i p xs) cut
    ∙ ap (λ (xs : List ℕ). share cell units i front ++ xs) (take_in cell units i p byte (drop (suc p) group) refl) in
    ap (λ (xs : List ℕ). get_or xs (p / cell / units * cell + p % cell) 0) parts
    ∙ read_seam (share cell units i front) byte (share_from cell units i (suc p) (drop (suc p) group)) (p / cell / units * cell + p % cell) first
