-- Backslashes in a pattern: each makes the character after it stand for itself. Texts are lists of characters.
use Rattle.std.specs.Prelude.{ℕ, Bool, true, false, ◌==◌, List, [], ◌∷◌, filter, if◌then◌else◌}

-- the text without its backslashes, the character after each being kept; a lone last one is dropped
unfoldable pub unescaped_from : Bool → List ℕ → List ℕ
unescaped_from escaped [] = []
unescaped_from true (c ∷ text) = c ∷ unescaped_from false text
unescaped_from false (c ∷ text) = if c == 92 then unescaped_from true text else c ∷ unescaped_from false text

-- the text without its backslashes
abbrev pub unescaped : List ℕ → List ℕ
unescaped text = unescaped_from false text

-- whether a backslash that is itself not escaped ends the text; escaped says that one stands before it
unfoldable pub ends_escaping_from : Bool → List ℕ → Bool
ends_escaping_from escaped [] = escaped
ends_escaping_from true (c ∷ text) = ends_escaping_from false text
ends_escaping_from false (c ∷ text) = ends_escaping_from (c == 92) text

-- whether an unescaped backslash ends the text
abbrev pub ends_escaping : List ℕ → Bool
ends_escaping text = ends_escaping_from false text

-- the pieces of a text between bytes of this value
unfoldable pub pieces : ℕ → List ℕ → List (List ℕ)
pieces byte [] = [] ∷ []
pieces byte (b ∷ text) = if b == byte then [] ∷ pieces byte text else in_front b (pieces byte text)
  where
    in_front : ℕ → List (List ℕ) → List (List ℕ)
    in_front b [] = (b ∷ []) ∷ []
    in_front b (piece ∷ rest) = (b ∷ piece) ∷ rest

-- whether there is something in the text
abbrev pub is_some_text : List ℕ → Bool
is_some_text [] = false
is_some_text (b ∷ text) = true

-- the pieces between slashes that aren't empty
abbrev pub components : List ℕ → List (List ℕ)
components text = filter is_some_text (pieces 47 text)
