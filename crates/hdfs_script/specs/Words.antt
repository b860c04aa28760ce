-- The words of a script's line.
use Rattle.std.specs.Prelude.{ℕ, nat_le, Bool, ◌&&◌, List, length}
use Rattle.std.specs.List.{list_all}

-- the bytes that a path may have in a script, one or more of them
abbrev pub is_word : List ℕ → Bool
is_word text = nat_le 1 (length text) && list_all (λ c. nat_le 33 c && nat_le c 126) text
