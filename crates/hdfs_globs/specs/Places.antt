-- A text is matched sign by sign: which places of it the signs read so far can end at. No public clause cites this module.
use Rattle.std.specs.Prelude.{◌≡◌, ◌≤◌, ⊤, ℕ, zero, suc, Bool, true, false, not, ◌==◌, ◌&&◌, ◌||◌, nat_lt, nat_le, List, [], ◌∷◌, length, reverse, slice_index, slice_index_or}
use Rattle.hdfs_globs.specs.Globs.{One, Sign}
use Rattle.hdfs_globs.specs.Globs.One.{itself, any, among, outside}
use Rattle.hdfs_globs.specs.Globs.Sign.{one, many, group_begins, or_else, group_ends}
use Rattle.hdfs_globs.specs.declared.places.Group.{Group}
use Rattle.hdfs_globs.specs.declared.places.Reached.{Reached}

-- whether the character lies in one of the ranges
abbrev pub is_within : List (ℕ × ℕ) → ℕ → Bool
is_within [] c = false
is_within (range ∷ ranges) c = (nat_le range.0 c && nat_le c range.1) || is_within ranges c

-- whether the character is what is asked for
abbrev pub is_one : One → ℕ → Bool
is_one (itself d) c = c == d
is_one any c = true
is_one (among ranges) c = is_within ranges c
is_one (outside ranges) c = not (is_within ranges c)

-- some places of a text, counted from 0 before its first character
abbrev pub Places : Type 0
Places = ℕ → Bool

-- the places behind a character that is what is asked for
abbrev pub shifted : One → List ℕ → Places → Places
shifted o text p zero = false
shifted o text p (suc j) = p j && (nat_lt j (length text) && is_one o (slice_index text j))

-- whether one of the places lies before this one
abbrev pub seen : Places → ℕ → Bool
seen p zero = false
seen p (suc j) = seen p j || p j

-- the places from the first one on
abbrev pub filled : Places → Places
filled p j = seen p (suc j)

-- the places of both
abbrev pub either_of : Places → Places → Places
either_of p q j = p j || q j

-- of a group that is open: the places at its beginning, and those at which an alternative read so far ended
pub record Open : Type 0 where
  pub begun : Places
  pub ended : Places

-- where the signs read so far can end, and the groups that are open, the innermost first
pub record State : Type 0 where
  pub places : Places
  pub groups : List Open

-- at a comma the alternative has ended, and the next begins where the group does
abbrev pub at_or : Places → List Open → State
at_or p [] = record { places = p; groups = [] }
at_or p (g ∷ groups) = record { places = g.begun; groups = record { begun = g.begun; ended = either_of g.ended p } ∷ groups }

-- at the end of a group any of its alternatives has ended
abbrev pub at_end : Places → List Open → State
at_end p [] = record { places = p; groups = [] }
at_end p (g ∷ groups) = record { places = either_of g.ended p; groups = groups }

-- one sign
abbrev pub step : List ℕ → Sign → State → State
step text (one o) s = record { places = shifted o text s.places; groups = s.groups }
step text many s = record { places = filled s.places; groups = s.groups }
step text group_begins s = record { places = s.places; groups = record { begun = s.places; ended = λ j. false } ∷ s.groups }
step text or_else s = at_or s.places s.groups
step text group_ends s = at_end s.places s.groups

-- all signs
unfoldable pub run : List ℕ → List Sign → State → State
run text [] s = s
run text (sign ∷ signs) s = run text signs (step text sign s)

-- before the first sign
abbrev pub start : State
start = record { places = λ j. j == 0; groups = [] }

-- the marks, one for each place up to n, are these places
pub record Marks (n : ℕ) (marks : List Bool) (p : Places) : Type 0 where
  pub long : length marks ≡ suc n
  pub same : (k : ℕ) → k ≤ n → slice_index_or marks k false ≡ p k

-- the open groups, the innermost first
abbrev pub GroupsAre : ℕ → List Group → List Open → Type 0
GroupsAre n [] [] = ⊤
GroupsAre n [] (o ∷ opened) = ⊥
GroupsAre n (g ∷ groups) [] = ⊥
GroupsAre n (g ∷ groups) (o ∷ opened) = Marks n g.begun.items o.begun × Marks n g.ended.items o.ended × GroupsAre n groups opened

-- the code's marks are those of the state
pub record StandsAs (n : ℕ) (r : Reached) (s : State) : Type 0 where
  pub places : Marks n r.places.items s.places
  pub groups : GroupsAre n (reverse r.groups.items) s.groups
