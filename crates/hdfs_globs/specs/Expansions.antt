-- A pattern is opened: its brace groups with a slash inside become a pattern for each alternative.
use Rattle.std.specs.Prelude.{ℕ, zero, suc, ◌-◌, Bool, true, false, ◌==◌, ◌&&◌, List, [], ◌∷◌, ◌++◌, map, length, Option, Some, None, if◌then◌else◌}
use Rattle.std.specs.Option.{option_map}
use Rattle.hdfs_globs.specs.Escapes.{ends_escaping}

-- a group: the alternatives at its top level, without their backslashes; whether an unescaped slash stands inside; and what
-- stands behind its closing brace
pub record Group : Type 0 where
  pub alternatives : List (List ℕ)
  pub slash : Bool
  pub after : List ℕ

-- the character stands before the first text
abbrev pub before_first : ℕ → List (List ℕ) → List (List ℕ)
before_first c [] = (c ∷ []) ∷ []
before_first c (text ∷ texts) = (c ∷ text) ∷ texts

-- the character stands at the beginning of the group
abbrev pub with_character : ℕ → Group → Group
with_character c g = record g { alternatives = before_first c g.alternatives }

-- a slash stands at the beginning of the group
abbrev pub with_slash : Group → Group
with_slash g = record { alternatives = before_first 47 g.alternatives; slash = true; after = g.after }

-- an empty alternative stands at the beginning of the group
abbrev pub with_alternative : Group → Group
with_alternative g = record g { alternatives = [] ∷ g.alternatives }

-- the group whose text this is from some place on, d groups deeper, and escaped where a backslash stands before that
-- place; None where its closing brace is missing
unfoldable pub group_at : Bool → ℕ → List ℕ → Option Group
group_at escaped d [] = None
group_at true d (c ∷ text) = option_map (with_character c) (group_at false d text)
group_at false d (c ∷ text) =
    if c == 92 then group_at true d text
    else if c == 123 then option_map (with_character c) (group_at false (suc d) text)
    else if c == 125 && d == 0 then Some (record { alternatives = [] ∷ []; slash = false; after = text })
    else if c == 125 then option_map (with_character c) (group_at false (d - 1) text)
    else if c == 44 && d == 0 then option_map with_alternative (group_at false d text)
    else if c == 47 then option_map with_slash (group_at false d text)
    else option_map (with_character c) (group_at false d text)

-- a text cut at a group: what stands before it, its alternatives, and what stands behind it
pub record Cut : Type 0 where
  pub before : List ℕ
  pub alternatives : List (List ℕ)
  pub after : List ℕ

-- the character stands before the cut text
abbrev pub behind : ℕ → Option Cut → Option Cut
behind c None = None
behind c (Some cut) = Some (record cut { before = c ∷ cut.before })

-- the cut at this group, where it has a slash inside, and else the other
abbrev pub cut_or : Option Group → Option Cut → Option Cut
cut_or None other = other
cut_or (Some g) other = if g.slash then Some (record { before = []; alternatives = g.alternatives; after = g.after }) else other

-- the cut of the text at its first outer group that is closed and has an unescaped slash inside; d groups are open before
-- the text, and escaped says that a backslash stands there
unfoldable pub cut_from : Bool → ℕ → List ℕ → Option Cut
cut_from escaped d [] = None
cut_from true d (c ∷ text) = behind c (cut_from false d text)
cut_from false d (c ∷ text) =
    if c == 92 then behind c (cut_from true d text)
    else if c == 123 && d == 0 then cut_or (group_at false 0 text) (behind c (cut_from false 1 text))
    else if c == 123 then behind c (cut_from false (suc d) text)
    else if c == 125 then behind c (cut_from false (d - 1) text)
    else behind c (cut_from false d text)

-- the one list behind the other; None where one is missing
abbrev pub both : Option (List (List ℕ)) → Option (List (List ℕ)) → Option (List (List ℕ))
both None ys = None
both (Some xs) None = None
both (Some xs) (Some ys) = Some (xs ++ ys)

-- what each text opens to, joined; None where one is refused
unfoldable pub joined : (List ℕ → Option (List (List ℕ))) → List (List ℕ) → Option (List (List ℕ))
joined f [] = Some []
joined f (text ∷ texts) = both (f text) (joined f texts)

-- the text before stands in front of each
abbrev pub in_front : List ℕ → Option (List (List ℕ)) → Option (List (List ℕ))
in_front before texts = option_map (map (λ text. before ++ text)) texts

-- The text stands for itself where it isn't cut, and is refused where an unescaped backslash ends it; else each alternative
-- stands in the group's place, and the text from there on is opened again.
abbrev pub at_cut : (List ℕ → Option (List (List ℕ))) → List ℕ → Option Cut → Option (List (List ℕ))
at_cut again text None = if ends_escaping text then None else Some (text ∷ [])
at_cut again text (Some cut) = joined (λ alternative. in_front cut.before (again (alternative ++ cut.after))) cut.alternatives

-- what a text of fewer than n characters opens to
unfoldable pub opened : ℕ → List ℕ → Option (List (List ℕ))
opened zero text = None
opened (suc n) text = at_cut (opened n) text (cut_from false 0 text)

-- what a pattern opens to; None where one of these texts ends in an unescaped backslash
abbrev pub opens : List ℕ → Option (List (List ℕ))
opens pattern = opened (suc (length pattern)) pattern
