-- A pattern is opened by a list of texts that wait, each from a place on. No public clause cites this module.
use Rattle.std.specs.Prelude.{◌≡◌, ℕ, zero, suc, ◌+◌, Bool, true, false, List, [], ◌∷◌, ◌++◌, map, take, drop, length, Option, reverse, Some, None, String, Vec, string_bytes}
use Rattle.std.specs.Str.{chars}
use Rattle.std.specs.declared.alloc.Global.{Global}
use Rattle.hdfs_globs.specs.Expansions.{Cut, cut_from, both, in_front, opens}
use Rattle.hdfs_globs.specs.declared.work.Work.{Work}

-- the text, and the place
abbrev pub shown_work : Work → List ℕ × ℕ
shown_work work = (work.text.items, work.from)

-- the alternative between the two texts, to be opened from its beginning on
abbrev pub child : List ℕ → List ℕ → List ℕ → List ℕ × ℕ
child front back alternative = (front ++ (alternative ++ back), length front)

-- what a text opens to from the place on
abbrev pub opens_from : List ℕ × ℕ → Option (List (List ℕ))
opens_from work = in_front (take work.1 work.0) (opens (drop work.1 work.0))

-- what all texts open to, joined
abbrev pub all_opened : List (List ℕ × ℕ) → Option (List (List ℕ))
all_opened [] = Some []
all_opened (work ∷ works) = both (opens_from work) (all_opened works)

-- the characters of texts
abbrev pub shown_strings : List (String Global) → List (List ℕ)
shown_strings texts = map (λ s. chars (string_bytes s)) texts

-- the texts that wait, the next one first
abbrev pub waiting : Vec Work Global → List (List ℕ × ℕ)
waiting stack = reverse (map shown_work stack.items)

-- these texts and what those that wait open to are the whole; else it is refused
abbrev pub IsOpened : Option (List (List ℕ)) → Bool → List (String Global) → List (List ℕ × ℕ) → Type 0
IsOpened whole true texts works = whole ≡ both (Some (shown_strings texts)) (all_opened works)
IsOpened whole false texts works = whole ≡ None

-- what was to be opened as a whole still is
abbrev pub KeepsWhole : List (String Global) → List (List ℕ × ℕ) → Bool → List (String Global) → List (List ℕ × ℕ) → Type 0
KeepsWhole texts works goes_on texts' works' = (whole : Option (List (List ℕ))) → IsOpened whole true texts works → IsOpened whole goes_on texts' works'

-- the sum over the alternatives of a cut
abbrev pub sum_after : (List ℕ → ℕ) → List ℕ → List (List ℕ) → ℕ
sum_after f after [] = 0
sum_after f after (alternative ∷ alternatives) = f (alternative ++ after) + sum_after f after alternatives

-- one, and one for each text made of the alternatives
abbrev pub nodes_at : (List ℕ → ℕ) → Option Cut → ℕ
nodes_at again None = 1
nodes_at again (Some cut) = suc (sum_after again cut.after cut.alternatives)

-- how many texts a text of fewer than n characters is opened through
unfoldable pub nodes_in : ℕ → List ℕ → ℕ
nodes_in zero text = 1
nodes_in (suc n) text = nodes_at (nodes_in n) (cut_from false 0 text)

-- how many texts a text is opened through
abbrev pub nodes : List ℕ → ℕ
nodes text = nodes_in (suc (length text)) text

-- how many texts those that wait are opened through
abbrev pub all_nodes : List (List ℕ × ℕ) → ℕ
all_nodes [] = 0
all_nodes (work ∷ works) = nodes (drop work.1 work.0) + all_nodes works
