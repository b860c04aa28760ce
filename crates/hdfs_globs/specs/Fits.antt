-- Which texts a glob matches: the text is cut into one piece for each part of the glob.
use Rattle.std.specs.Prelude.{◌≡◌, ◌≤◌, ◌⊎◌, ℕ, List, [], ◌∷◌, ◌++◌, Any, Some}
use Rattle.hdfs_globs.specs.Globs.{One, Sign, signs}
use Rattle.hdfs_globs.specs.Globs.One.{itself, any, among, outside}
use Rattle.hdfs_globs.specs.Globs.Sign.{one, many, group_begins, or_else, group_ends}

-- a glob by its parts: one character, any characters, or a group of alternatives, and the parts behind it
mutual
  pub data Glob : Type 0 where
    nothing : Glob
    then_one : One → Glob → Glob
    then_many : Glob → Glob
    then_group : Choice → Glob → Glob

  -- the alternatives of a group
  pub data Choice : Type 0 where
    last : Glob → Choice
    either : Glob → Choice → Choice

-- the signs that a glob is written with
unfoldable mutual
  pub spelled : Glob → List Sign
  spelled nothing = []
  spelled (then_one o glob) = one o ∷ spelled glob
  spelled (then_many glob) = many ∷ spelled glob
  spelled (then_group choice glob) = group_begins ∷ (spelled_choice choice ++ (group_ends ∷ spelled glob))

  pub spelled_choice : Choice → List Sign
  spelled_choice (last glob) = spelled glob
  spelled_choice (either glob choice) = spelled glob ++ (or_else ∷ spelled_choice choice)

-- the character lies in one of the ranges
abbrev pub IsWithin : List (ℕ × ℕ) → ℕ → Type 0
IsWithin ranges c = Any (λ range. (range.0 ≤ c) × (c ≤ range.1)) ranges

-- the character is what is asked for
abbrev pub IsOne : One → ℕ → Type 0
IsOne (itself d) c = c ≡ d
IsOne any c = Unit {0}
IsOne (among ranges) c = IsWithin ranges c
IsOne (outside ranges) c = ¬ IsWithin ranges c

-- the whole text fits the glob
unfoldable mutual
  pub Fits : Glob → List ℕ → Type 0
  Fits nothing text = text ≡ []
  Fits (then_one o glob) text = (c : ℕ) × (rest : List ℕ) × (text ≡ c ∷ rest) × IsOne o c × Fits glob rest
  Fits (then_many glob) text = (piece : List ℕ) × (rest : List ℕ) × (text ≡ piece ++ rest) × Fits glob rest
  Fits (then_group choice glob) text = (piece : List ℕ) × (rest : List ℕ) × (text ≡ piece ++ rest) × FitsOneOf choice piece × Fits glob rest

  -- the whole text fits one of the alternatives
  pub FitsOneOf : Choice → List ℕ → Type 0
  FitsOneOf (last glob) text = Fits glob text
  FitsOneOf (either glob choice) text = Fits glob text ⊎ FitsOneOf choice text

-- the pattern is a glob that the whole text fits
abbrev pub Matches : List ℕ → List ℕ → Type 0
Matches pattern text = (glob : Glob) × (signs pattern ≡ Some (spelled glob)) × Fits glob text
