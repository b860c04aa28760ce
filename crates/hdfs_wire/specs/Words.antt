-- Numbers and the bytes that write them.
use Rattle.std.specs.Prelude.{◌≡◌, ℕ, ◌/◌, ◌%◌, List, [], ◌∷◌}

-- a number writes these bytes, the lowest first
unfoldable pub Spells : ℕ → List ℕ → Type 0
Spells word [] = Unit {0}
Spells word (byte ∷ bytes) = (word % 256 ≡ byte) × Spells (word / 256) bytes
