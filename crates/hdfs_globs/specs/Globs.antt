-- A glob as it is read: one sign after the other. Texts are lists of characters.
use Rattle.std.specs.Prelude.{ℕ, zero, suc, ◌-◌, nat_lt, Bool, true, false, not, ◌==◌, ◌&&◌, ◌||◌, List, [], ◌∷◌, length, Option, Some, None, if◌then◌else◌}
use Rattle.std.specs.Option.{option_map}

-- what one character of a text has to be: this one, any, one of some ranges, or one outside of them
pub data One : Type 0 where
  itself : ℕ → One
  any : One
  among : List (ℕ × ℕ) → One
  outside : List (ℕ × ℕ) → One

-- a sign: one character, any characters, and of a group its beginning, the comma between two alternatives and its end
pub data Sign : Type 0 where
  one : One → Sign
  many : Sign
  group_begins : Sign
  or_else : Sign
  group_ends : Sign

-- a character in a set, and whether a backslash stands before it
pub record Member : Type 0 where
  pub character : ℕ
  pub escaped : Bool

-- a set's members, and what stands behind its closing bracket
pub record SetBody : Type 0 where
  pub members : List Member
  pub after : List ℕ

-- the member stands at the beginning of the set
abbrev pub with_member : ℕ → Bool → SetBody → SetBody
with_member c escaped s = record s { members = record { character = c; escaped = escaped } ∷ s.members }

-- the set whose text this is from some place on; None where it isn't closed or an unescaped bracket opens in it
unfoldable pub set_body : Bool → List ℕ → Option SetBody
set_body escaped [] = None
set_body true (c ∷ text) = option_map (with_member c true) (set_body false text)
set_body false (c ∷ text) =
    if c == 92 then set_body true text
    else if c == 93 then Some (record { members = []; after = text })
    else if c == 91 then None
    else option_map (with_member c false) (set_body false text)

-- the member is this character, and no backslash stands before it
abbrev pub is_sign : ℕ → Member → Bool
is_sign c m = (m.character == c) && not m.escaped

-- the ranges of a set's members: two with an unescaped dash between them are a range, and every other is one with itself;
-- None where a range falls
unfoldable pub ranges_of : List Member → Option (List (ℕ × ℕ))
ranges_of [] = Some []
ranges_of (a ∷ []) = Some ((a.character, a.character) ∷ [])
ranges_of (a ∷ b ∷ []) = Some ((a.character, a.character) ∷ (b.character, b.character) ∷ [])
ranges_of (a ∷ b ∷ z ∷ members) =
    if is_sign 45 b then (if nat_lt z.character a.character then None else option_map (λ ranges. (a.character, z.character) ∷ ranges) (ranges_of members))
    else option_map (λ ranges. (a.character, a.character) ∷ ranges) (ranges_of (b ∷ z ∷ members))

-- the ranges, where the set isn't empty
abbrev pub some_ranges : List Member → Option (List (ℕ × ℕ))
some_ranges [] = None
some_ranges (a ∷ members) = ranges_of (a ∷ members)

-- what a set asks of a character: an unescaped `!` or `^` at its beginning turns it round
abbrev pub set_of : List Member → Option One
set_of [] = None
set_of (a ∷ members) = if is_sign 33 a || is_sign 94 a then option_map outside (some_ranges members) else option_map among (ranges_of (a ∷ members))

-- the sign stands before the others
abbrev pub behind_sign : Sign → Option (List Sign) → Option (List Sign)
behind_sign s signs = option_map (λ rest. s ∷ rest) signs

-- what follows a backslash: the character after it stands for itself, and there has to be one
abbrev pub after_backslash : (List ℕ → Option (List Sign)) → List ℕ → Option (List Sign)
after_backslash again [] = None
after_backslash again (c ∷ text) = behind_sign (one (itself c)) (again text)

-- the sign of a set, where it is one, before those of the text behind it
abbrev pub behind_set : (List ℕ → Option (List Sign)) → Option One → List ℕ → Option (List Sign)
behind_set again None after = None
behind_set again (Some set) after = behind_sign (one set) (again after)

-- what follows an opening bracket
abbrev pub after_bracket : (List ℕ → Option (List Sign)) → Option SetBody → Option (List Sign)
after_bracket again None = None
after_bracket again (Some body) = behind_set again (set_of body.members) body.after

-- The signs of a text of at most n characters, before which d groups are open. None where a backslash ends it, a set or a
-- group isn't closed, a bracket opens in a set, a set is empty, or a range falls.
unfoldable pub signs_of : ℕ → ℕ → List ℕ → Option (List Sign)
signs_of n zero [] = Some []
signs_of n (suc d) [] = None
signs_of zero d (c ∷ text) = None
signs_of (suc n) d (c ∷ text) =
    if c == 92 then after_backslash (signs_of n d) text
    else if c == 42 then behind_sign many (signs_of n d text)
    else if c == 63 then behind_sign (one any) (signs_of n d text)
    else if c == 91 then after_bracket (signs_of n d) (set_body false text)
    else if c == 123 then behind_sign group_begins (signs_of n (suc d) text)
    else if c == 125 && not (d == 0) then behind_sign group_ends (signs_of n (d - 1) text)
    else if c == 44 && not (d == 0) then behind_sign or_else (signs_of n d text)
    else behind_sign (one (itself c)) (signs_of n d text)

-- the signs of a glob; None where it is refused
abbrev pub signs : List ℕ → Option (List Sign)
signs glob = signs_of (length glob) 0 glob

-- whether an unescaped `*`, `?`, `{` or `[` stands in the text
unfoldable pub has_wildcard_from : Bool → List ℕ → Bool
has_wildcard_from escaped [] = false
has_wildcard_from true (c ∷ text) = has_wildcard_from false text
has_wildcard_from false (c ∷ text) = (c == 42) || (c == 63) || (c == 123) || (c == 91) || has_wildcard_from (c == 92) text

-- whether an unescaped `*`, `?`, `{` or `[` stands in the text
abbrev pub has_wildcard : List ℕ → Bool
has_wildcard text = has_wildcard_from false text
