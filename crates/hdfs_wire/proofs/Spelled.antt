-- Numbers and the bytes that write them, one step on and one back.
use Rattle.std.proofs.Common.{◌≡◌, ℕ, ◌+◌, ◌*◌, ◌/◌, ◌%◌, ◌<◌, ◌^◌, List, ◌∷◌, length, get_or, drop, refl, sym, subst, arith}
use Rattle.std.proofs.lemmas.List.{drop_more, drop_all}
use Rattle.hdfs_wire.specs.Words.{Spells}

-- the first byte is the lowest, and the word without it writes the others
pub spells_turn : (word : ℕ) (bytes : List ℕ) (i : ℕ) → i < length bytes → Spells word (drop i bytes) → (word % 256 ≡ get_or bytes i 0) × Spells (word / 256) (drop (i + 1) bytes)
unfolding Spells
spells_turn word bytes i lt so = subst (Spells word) (drop_more bytes i 0 lt) so

-- a byte below the word that writes the others
spells_back : (word high : ℕ) (bytes : List ℕ) (i : ℕ) → i < length bytes → get_or bytes i 0 < 256 → word ≡ get_or bytes i 0 + 256 * high → Spells high (drop (i + 1) bytes) → Spells word (drop i bytes)
unfolding Spells
spells_back word high bytes i lt small is so =
    let low : word % 256 ≡ get_or bytes i 0 = omega (arith, small, is) in
    let rest : word / 256 ≡ high = omega (arith, small, is) in
    let here : Spells word (get_or bytes i 0 ∷ drop (i + 1) bytes) = (low, rw rest so) in
    subst (Spells word) (sym (drop_more bytes i 0 lt)) here

-- no bytes are left
spells_none : (bytes : List ℕ) → length bytes ≡ 8 → Spells 0 (drop 8 bytes)
unfolding Spells
spells_none bytes len = subst (Spells 0) (sym (drop_all 8 bytes (omega (arith, len)))) tt

-- eight bytes by what each is worth
pub spells_eight : (word : ℕ) (bytes : List ℕ) → length bytes ≡ 8 → ((i : ℕ) → get_or bytes i 0 < 256)
    → word ≡ get_or bytes 0 0 + get_or bytes 1 0 * 256 + get_or bytes 2 0 * 256 ^ 2 + get_or bytes 3 0 * 256 ^ 3 + get_or bytes 4 0 * 256 ^ 4 + get_or bytes 5 0 * 256 ^ 5 + get_or bytes 6 0 * 256 ^ 6 + get_or bytes 7 0 * 256 ^ 7
    → Spells word bytes
spells_eight word bytes len small is =
    let b : ℕ → ℕ = λ i. get_or bytes i 0 in
    let seven : ℕ = b 7 in
    let six : ℕ = b 6 + 256 * seven in
    let five : ℕ = b 5 + 256 * six in
    let four : ℕ = b 4 + 256 * five in
    let three : ℕ = b 3 + 256 * four in
    let two : ℕ = b 2 + 256 * three in
    let one : ℕ = b 1 + 256 * two in
    let from7 : Spells seven (drop 7 bytes) = spells_back seven 0 bytes 7 (omega (arith, len)) (small 7) (omega arith) (spells_none bytes len) in
    let from6 : Spells six (drop 6 bytes) = spells_back six seven bytes 6 (omega (arith, len)) (small 6) refl from7 in
    let from5 : Spells five (drop 5 bytes) = spells_back five six bytes 5 (omega (arith, len)) (small 5) refl from6 in
    let from4 : Spells four (drop 4 bytes) = spells_back four five bytes 4 (omega (arith, len)) (small 4) refl from5 in
    let from3 : Spells three (drop 3 bytes) = spells_back three four bytes 3 (omega (arith, len)) (small 3) refl from4 in
    let from2 : Spells two (drop 2 bytes) = spells_back two three bytes 2 (omega (arith, len)) (small 2) refl from3 in
    let from1 : Spells one (drop 1 bytes) = spells_back one two bytes 1 (omega (arith, len)) (small 1) refl from2 in
    spells_back word one bytes 0 (omega (arith, len)) (small 0) (omega (arith, is)) from1
