-- The first sign of a glob, apart from those behind it. No public clause cites this module.
use Rattle.std.specs.Prelude.{◌≡◌, ℕ, suc, ◌-◌, not, ◌==◌, ◌&&◌, false, List, [], ◌∷◌, drop, Option, Some, None, if◌then◌else◌}
use Rattle.hdfs_globs.specs.Globs.{Sign, set_body, after_backslash, after_bracket, behind_sign}
use Rattle.hdfs_globs.specs.Globs.One.{itself, any}
use Rattle.hdfs_globs.specs.Globs.Sign.{one, many, group_begins, or_else, group_ends}
use Rattle.hdfs_globs.specs.Patterns.{sign_of}
use Rattle.hdfs_globs.specs.declared.glob.NextPart.{NextPart}

-- how many groups are open behind the sign
abbrev pub depth_behind : Sign → ℕ → ℕ
depth_behind (one o) d = d
depth_behind many d = d
depth_behind group_begins d = suc d
depth_behind or_else d = d
depth_behind group_ends d = d - 1

-- the sign of a character that is neither a backslash nor an opening bracket
abbrev pub plain_sign : ℕ → ℕ → Sign
plain_sign d c =
    if c == 42 then many
    else if c == 63 then one any
    else if c == 123 then group_begins
    else if c == 125 && not (d == 0) then group_ends
    else if c == 44 && not (d == 0) then or_else
    else one (itself c)

-- how the signs of a rest are read, before which so many groups are open
abbrev pub Reads : Type 0
Reads = ℕ → List ℕ → Option (List Sign)

-- the sign that the text begins with, before those that f gives for the rest
abbrev pub next_signs : Reads → ℕ → List ℕ → Option (List Sign)
next_signs f d [] = None
next_signs f d (c ∷ text) =
    if c == 92 then after_backslash (f d) text
    else if c == 91 then after_bracket (f d) (set_body false text)
    else behind_sign (plain_sign d c) (f (depth_behind (plain_sign d c) d) text)

-- the text begins with this sign, which is written with so many characters: however the rest is read, the sign stands before it
abbrev pub IsNextSign : ℕ → List ℕ → Sign → ℕ → Type 0
IsNextSign depth text sign taken = (f : Reads) → next_signs f depth text ≡ behind_sign sign (f (depth_behind sign depth) (drop taken text))

-- the text begins with no sign
abbrev pub HasNoSign : ℕ → List ℕ → Type 0
HasNoSign depth text = (f : Reads) → next_signs f depth text ≡ None

-- what the code has read is what the text begins with
abbrev pub IsNextPart : ℕ → List ℕ → Option NextPart → Type 0
IsNextPart depth text None = HasNoSign depth text
IsNextPart depth text (Some next) = IsNextSign depth text (sign_of next.part) next.taken
