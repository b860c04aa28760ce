-- A script's entries, one after another.
use Rattle.std.proofs.Common.{◌≡◌, ℕ, ◌+◌, ◌<◌, ◌≤◌, ◌==◌, true, false, nat_le, List, [], ◌∷◌, length, get_or, take, drop, map, Option, Some, None, if◌then◌else◌, refl, sym, ◌∙◌, ap, arith}
use Rattle.std.specs.List.{slice_split}
use Rattle.std.proofs.lemmas.List.{at_drop_more, length-map}
use Rattle.std.proofs.lemmas.Bool.Decides.{nat_tests}
use Rattle.hdfs_script.specs.declared.entry.Entry.{Entry}
use Rattle.hdfs_script.specs.declared.entry.Entry.TheVariants.{Bad}
use Rattle.hdfs_script.specs.declared.entry.Place.{Place}
use Rattle.hdfs_script.specs.Entries.{entry_of}
use Rattle.hdfs_script.specs.Parsing.{bad_from, good_front, first_out}
use Rattle.hdfs_script.specs.Scripts.{may_stand, place_behind, line_entries, ends_bad, entries_in, script_limit}

-- the next entry is that of the next line
pub entries-drop : (limit number : ℕ) (pieces : List (List ℕ)) (i : ℕ) (line : List ℕ) (entry : Entry) → (i < length pieces) × (line ≡ get_or pieces i line) → entry ≡ (if number == limit then Bad else entry_of line) → bad_from limit number (map entry_of (drop i pieces)) ≡ entry ∷ bad_from limit (number + 1) (map entry_of (drop (i + 1) pieces))
entries-drop limit number pieces i line entry turn is =
    at_drop_more (λ ps. bad_from limit number (map entry_of ps)) pieces i line turn.0
    ∙ ap (λ p. (if number == limit then Bad else entry_of p) ∷ bad_from limit (number + 1) (map entry_of (drop (i + 1) pieces))) (sym turn.1)
    ∙ ap (λ e. e ∷ bad_from limit (number + 1) (map entry_of (drop (i + 1) pieces))) (sym is)

-- what stands in front of the first bad entry, one more and none
pub front_more : (place next : Place) (entry : Entry) (left rest : List Entry) → left ≡ entry ∷ rest → may_stand place entry ≡ true → next ≡ place_behind place entry → good_front place left ≡ entry ∷ good_front next rest
front_more place next entry left rest is stands behind =
    ap (good_front place) is ∙ rw stands refl ∙ ap (λ (p : Place). entry ∷ good_front p rest) (sym behind)

pub front_none : (place : Place) (entry : Entry) (left rest : List Entry) → left ≡ entry ∷ rest → may_stand place entry ≡ false → good_front place left ≡ []
front_none place entry left rest is stands = ap (good_front place) is ∙ rw stands refl

-- the first line that is bad by its text or its place, where the next one isn't, where it is, and where none is left
pub out_more : (place next : Place) (number : ℕ) (entry : Entry) (left rest : List Entry) (total : Option ℕ) → left ≡ entry ∷ rest → may_stand place entry ≡ true → next ≡ place_behind place entry → first_out place number left ≡ total → first_out next (number + 1) rest ≡ total
out_more place next number entry left rest total is stands behind so_far =
    let here : first_out place number (entry ∷ rest) ≡ first_out (place_behind place entry) (number + 1) rest = rw stands refl in
    ap (λ (p : Place). first_out p (number + 1) rest) behind ∙ sym here ∙ ap (first_out place number) (sym is) ∙ so_far

pub out_bad : (place : Place) (number : ℕ) (entry : Entry) (left rest : List Entry) (total : Option ℕ) → left ≡ entry ∷ rest → may_stand place entry ≡ false → first_out place number left ≡ total → Some number ≡ total
out_bad place number entry left rest total is stands so_far =
    let here : first_out place number (entry ∷ rest) ≡ Some number = rw stands refl in
    sym here ∙ ap (first_out place number) (sym is) ∙ so_far

pub out_all : (place : Place) (number : ℕ) (left : List Entry) (total : Option ℕ) → left ≡ [] → first_out place number left ≡ total → None ≡ total
out_all place number left total none so_far = ap (first_out place number) (sym none) ∙ so_far

-- no line has the number 0
none_bad : (number : ℕ) (entries : List Entry) → bad_from 0 (number + 1) entries ≡ entries
none_bad number [] = refl
none_bad number (entry ∷ rest) =
    let no : (number + 1 == 0) ≡ false = grind (arith, nat_tests) in
    rw (no, none_bad (number + 1) rest) refl

-- the line of the greatest number is the last one
last_bad : (limit number : ℕ) (entries : List Entry) → limit ≡ number + length entries → bad_from limit (number + 1) entries ≡ ends_bad entries
last_bad limit number [] is = refl
last_bad limit number (entry ∷ []) is =
    let yes : (number + 1 == limit) ≡ true = grind (arith, nat_tests) in
    rw yes refl
last_bad limit number (entry ∷ next ∷ rest) is =
    let no : (number + 1 == limit) ≡ false = grind (arith, nat_tests) in
    let there = last_bad limit (number + 1) (next ∷ rest) (omega (arith, is)) in
    rw (no, there) refl

-- the entries of a script that isn't too long, and of one that is
pub entries_short : (bytes : List ℕ) → length bytes ≤ script_limit → bad_from 0 1 (line_entries bytes) ≡ entries_in bytes
entries_short bytes short =
    let yes : nat_le (length bytes) script_limit ≡ true = grind (arith, nat_tests) in
    none_bad 0 (line_entries bytes) ∙ rw yes refl

pub entries_long : (limit : ℕ) (bytes front : List ℕ) → script_limit < length bytes → front ≡ take script_limit bytes → limit ≡ length (slice_split (λ b. b == 10) front) → bad_from limit 1 (line_entries front) ≡ entries_in bytes
entries_long limit bytes front long is count =
    let no : nat_le (length bytes) script_limit ≡ false = grind (arith, nat_tests) in
    last_bad limit 0 (line_entries front) (omega (arith, count, length-map (slice_split (λ b. b == 10) front) entry_of)) ∙ ap (λ bs. ends_bad (line_entries bs)) is ∙ rw no refl
