-- A set is read character by character, and its members range by range. No public clause cites this module.
use Rattle.std.specs.Prelude.{◌≡◌, ℕ, Bool, true, false, ◌==◌, List, ◌∷◌, drop, Option, Some, None, if◌then◌else◌}
use Rattle.std.specs.Option.{option_map}
use Rattle.hdfs_globs.specs.Globs.{One, Member, SetBody, ranges_of, set_of}
use Rattle.hdfs_globs.specs.Patterns.{one_of}
use Rattle.hdfs_globs.specs.declared.glob_set.NextSet.{NextSet}
use Rattle.hdfs_globs.specs.declared.glob_set.SetSign.{SetSign}
use Rattle.hdfs_globs.specs.declared.glob_set.SetSign.TheVariants.{Character, Backslash, Ends, Begins}

-- what the character is; escaped says that a backslash stands before it
abbrev pub set_sign_of : Bool → ℕ → SetSign
set_sign_of true c = Character
set_sign_of false c = if c == 92 then Backslash else if c == 93 then Ends else if c == 91 then Begins else Character

-- the first range of these members, and the members behind it; None where it falls
abbrev pub IsNextRange : List Member → Option ((ℕ × ℕ) × List Member) → Type 0
IsNextRange members None = ranges_of members ≡ None
IsNextRange members (Some (range, rest)) = ranges_of members ≡ option_map (λ ranges. range ∷ ranges) (ranges_of rest)

-- what a set asks of a character, and what stands behind its closing bracket; None where it is no set
abbrev pub asked_by : Option SetBody → Option (One × List ℕ)
asked_by None = None
asked_by (Some body) = option_map (λ asked. (asked, body.after)) (set_of body.members)

-- the set that the code has read in a text
abbrev pub shown_set : List ℕ → NextSet → One × List ℕ
shown_set text set = (one_of set.wanted, drop set.taken text)
