-- Bytes that entered the register, and those that are left.
use Rattle.std.proofs.Common.{◌≡◌, ℕ, List, take, drop, sym, ap, ◌∙◌}
use Rattle.std.proofs.lemmas.List.{take-append-drop}
use Rattle.hdfs_wire.specs.Crc.{enter}
use Rattle.hdfs_wire.proofs.Register.{enter-append}

-- the bytes at the front entered, and what is left is to enter
pub entered_more : (p count register after : ℕ) (bytes rest step left : List ℕ) → step ≡ take count rest → left ≡ drop count rest → after ≡ enter p register step
    → enter p register rest ≡ enter p 0xffffffff bytes → enter p after left ≡ enter p 0xffffffff bytes
entered_more p count register after bytes rest step left front back is so =
    rw (is, front, back) (sym (enter-append p register (take count rest) (drop count rest)) ∙ ap (enter p register) (take-append-drop count rest) ∙ so)
