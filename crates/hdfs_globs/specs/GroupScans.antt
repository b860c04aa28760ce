-- A brace group is read character by character. No public clause cites this module.
use Rattle.std.specs.Prelude.{◌≡◌, ℕ, Bool, true, false, ◌==◌, ◌&&◌, ◌||◌, List, [], ◌∷◌, ◌++◌, map, drop, Option, Some, Vec, if◌then◌else◌}
use Rattle.std.specs.Option.{option_map}
use Rattle.std.specs.declared.alloc.Global.{Global}
use Rattle.hdfs_globs.specs.Expansions.{Group, group_at}
use Rattle.hdfs_globs.specs.declared.group.GroupSign.{GroupSign}
use Rattle.hdfs_globs.specs.declared.group.GroupSign.TheVariants.{Character, Backslash, Opens, Closes, Ends, Comma, Slash}
use Rattle.hdfs_globs.specs.declared.group.GroupText.{GroupText}
use Rattle.hdfs_globs.specs.declared.group.Scan.{Scan}

-- what the character is; escaped says that a backslash stands before it, and d groups are open inside
abbrev pub group_sign_of : Bool → ℕ → ℕ → GroupSign
group_sign_of true d c = Character
group_sign_of false d c =
    if c == 92 then Backslash
    else if c == 123 then Opens
    else if c == 125 && d == 0 then Ends
    else if c == 125 then Closes
    else if c == 44 && d == 0 then Comma
    else if c == 47 then Slash
    else Character

-- the texts of a list of them
abbrev pub shown_texts : Vec (Vec ℕ Global) Global → List (List ℕ)
shown_texts texts = map (λ a. a.items) texts.items

-- this text stands before the first alternative
abbrev pub before_alternatives : List ℕ → List (List ℕ) → List (List ℕ)
before_alternatives current [] = current ∷ []
before_alternatives current (text ∷ texts) = (current ++ text) ∷ texts

-- what was read of a group stands before the rest of it
abbrev pub led : List (List ℕ) → List ℕ → Bool → Group → Group
led done current slash g = record { alternatives = done ++ before_alternatives current g.alternatives; slash = slash || g.slash; after = g.after }

-- what was read and the group that the text goes on with are the whole
abbrev pub Scanned : Option Group → Scan → List ℕ → Type 0
Scanned whole s text = whole ≡ option_map (led (shown_texts s.alternatives) s.current.items s.slash) (group_at s.escaped s.depth text)

-- the same one character later, where the group may have ended
abbrev pub IsPassed : Option Group → Bool → Scan → List ℕ → Type 0
IsPassed whole false s text = Scanned whole s text
IsPassed whole true s text = whole ≡ Some (record { alternatives = shown_texts s.alternatives; slash = s.slash; after = text })

-- the group that the code has read in a text
abbrev pub shown_group : List ℕ → GroupText → Group
shown_group text g = record { alternatives = shown_texts g.alternatives; slash = g.slash; after = drop g.after text }
