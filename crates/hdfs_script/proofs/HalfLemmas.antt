-- Which line is bad, from its two halves: what a parser has read, and what a store takes of it.
use Rattle.std.proofs.Common.{if◌then◌else◌, ◌≡◌, ℕ, ◌+◌, ◌<◌, nat_le, Bool, true, false, ◌&&◌, ◌||◌, List, [], ◌∷◌, Option, Some, None, Ok, Err, refl, sym, ◌∙◌, ap, arith, lit<}
use Rattle.std.proofs.lemmas.Bool.Decides.{nat_tests}
use Rattle.hdfs_cluster.specs.declared.store.Line.{Line}
use Rattle.hdfs_cluster.specs.declared.store.Line.TheVariants as lines
use Rattle.hdfs_cluster.specs.Files.{State}
use Rattle.hdfs_cluster.specs.Loading.{takes, with_line, with_loaded}
use Rattle.hdfs_cluster.specs.Shown.{Loaded}
use Rattle.hdfs_script.specs.declared.entry.Entry.{Entry}
use Rattle.hdfs_script.specs.declared.entry.Entry.TheVariants.{Blank, Sets, Loads, Runs, Bad}
use Rattle.hdfs_script.specs.declared.entry.NumberedLine.{NumberedLine}
use Rattle.hdfs_script.specs.declared.entry.Parsed.{Parsed}
use Rattle.hdfs_script.specs.declared.entry.Place.{Place}
use Rattle.hdfs_script.specs.declared.entry.ScriptSettings.{ScriptSettings}
use Rattle.hdfs_script.specs.Parsing.{Parses, good_front, first_out, first_file, first_set, first_untaken, numbered_from, or_else, plain_lines, untaken_set}
use Rattle.hdfs_script.specs.Scripts.{Script, SoFar, begins, script, entries_in, lines_of, commands_of, first_bad, first_place, is_fault, is_taken, may_stand, no_settings, place_behind, settings_from, unless_bad, with_entry}

-- what is loaded so far, where these are the settings of all that is loaded
abbrev loaded_over : ScriptSettings → SoFar → Loaded
loaded_over given so_far = record { settings = Some given.cluster; lines = so_far.lines }

-- the first bad line of a half that was read: one that isn't taken, or else the first that is bad by its text or place
abbrev bad_half : Bool → SoFar → ℕ → List Entry → Option ℕ → Option ℕ
bad_half fresh so_far number front out =
    or_else (untaken_set fresh (first_set number front))
    (or_else (first_untaken fresh (loaded_over (settings_from so_far.given front) so_far) so_far.state (numbered_from number front)) out)

-- where nothing is set
untaken_none : (fresh : Bool) → untaken_set fresh None ≡ None
untaken_none true = refl
untaken_none false = refl

-- an entry that sets nothing, where it stands in order and where not
no_set_if : (stands : Bool) (number : ℕ) (entry : Entry) (front : List Entry) → first_set number (entry ∷ front) ≡ None → first_set number (if stands then entry ∷ front else []) ≡ None
no_set_if true number entry front there = there
no_set_if false number entry front there = refl

-- a line that is loaded has a part of its own
part_of_line : (line : Line) → 0 < (if is_fault line then 2 else 1)
part_of_line line = by_fault (is_fault line)
  where
    by_fault : (fault : Bool) → 0 < (if fault then 2 else 1)
    by_fault true = lit< tt
    by_fault false = lit< tt

-- behind a line that is loaded nothing is set
no_sets : (place : Place) (number : ℕ) (entries : List Entry) → 0 < place.part → first_set number (good_front place entries) ≡ None
no_sets place number [] behind = refl
no_sets place number (Sets setting ∷ rest) behind =
    let no : nat_le place.part 0 ≡ false = grind (arith, nat_tests) in
    rw no refl
no_sets place number (Blank ∷ rest) behind = no_set_if (may_stand place Blank) number Blank _ (no_sets (place_behind place Blank) (number + 1) rest behind)
no_sets place number (Loads line ∷ rest) behind =
    no_set_if (may_stand place (Loads line)) number (Loads line) _ (no_sets (place_behind place (Loads line)) (number + 1) rest (part_of_line line))
no_sets place number (Runs command ∷ rest) behind =
    no_set_if (may_stand place (Runs command)) number (Runs command) _ (no_sets (place_behind place (Runs command)) (number + 1) rest (lit< tt))
no_sets place number (Bad ∷ rest) behind = refl

-- where nothing is set, the settings stay
settings_kept : (given : ScriptSettings) (number : ℕ) (front : List Entry) → first_set number front ≡ None → settings_from given front ≡ given
settings_kept given number [] none = refl
settings_kept given number (Sets setting ∷ rest) none = absurd (cc)
settings_kept given number (Blank ∷ rest) none = settings_kept given (number + 1) rest none
settings_kept given number (Loads line ∷ rest) none = settings_kept given (number + 1) rest none
settings_kept given number (Runs command ∷ rest) none = settings_kept given (number + 1) rest none
settings_kept given number (Bad ∷ rest) none = settings_kept given (number + 1) rest none

-- the first bad line of a line that is loaded and of what stands behind it, by whether it's taken
loading : (taken : Bool) (number : ℕ) (sets a b out : Option ℕ) → sets ≡ None → a ≡ or_else sets (or_else b out)
    → (if taken then a else Some number) ≡ or_else sets (or_else (if taken then b else Some number) out)
loading true number sets a b out none there = there
loading false number sets a b out none there = rw none refl

-- A store takes a line behind what is loaded so far. One that isn't fresh takes faults alone.
abbrev takes_behind : Bool → ScriptSettings → SoFar → Line → Bool
takes_behind fresh given so_far line = (fresh || is_fault line) && takes (loaded_over given so_far) so_far.state.files line

-- an entry that stands in order, by whether it's taken
standing : (fresh : Bool) (so_far : SoFar) (place : Place) (number : ℕ) (entry : Entry) (rest : List Entry)
    → first_bad fresh (with_entry so_far entry) (place_behind place entry) (number + 1) rest ≡ bad_half fresh (with_entry so_far entry) (number + 1) (good_front (place_behind place entry) rest) (first_out (place_behind place entry) (number + 1) rest)
    → (if is_taken fresh so_far entry then first_bad fresh (with_entry so_far entry) (place_behind place entry) (number + 1) rest else Some number)
    ≡ bad_half fresh so_far number (entry ∷ good_front (place_behind place entry) rest) (first_out (place_behind place entry) (number + 1) rest)
standing fresh so_far place number Blank rest there = there
standing fresh so_far place number (Runs command) rest there = there
standing fresh so_far place number Bad rest there = there
standing true so_far place number (Sets setting) rest there = there
standing false so_far place number (Sets setting) rest there = refl
standing fresh so_far place number (Loads line) rest there =
    let front = good_front (place_behind place (Loads line)) rest in
    let none : first_set (number + 1) front ≡ None = no_sets (place_behind place (Loads line)) (number + 1) rest (part_of_line line) in
    let kept : settings_from so_far.given front ≡ so_far.given = settings_kept so_far.given (number + 1) front none in
    let sets = untaken_set fresh (first_set (number + 1) front) in
    let behind = first_untaken fresh (loaded_over (settings_from so_far.given front) (with_entry so_far (Loads line))) (with_line so_far.state line) (numbered_from (number + 1) front) in
    let out = first_out (place_behind place (Loads line)) (number + 1) rest in
    loading (is_taken fresh so_far (Loads line)) number sets _ behind out (ap (untaken_set fresh) none ∙ untaken_none fresh) there
    ∙ ap (λ (given : ScriptSettings). or_else sets (or_else (if takes_behind fresh given so_far line then behind else Some number) out)) (sym kept)

-- The first bad line is one that sets something or is loaded and isn't taken, in front of those that are bad by their text or
-- place, or else the first of these.
pub halves : (fresh : Bool) (so_far : SoFar) (place : Place) (number : ℕ) (entries : List Entry) → first_bad fresh so_far place number entries ≡ bad_half fresh so_far number (good_front place entries) (first_out place number entries)
halves fresh so_far place number [] = rw (untaken_none fresh) refl
halves fresh so_far place number (entry ∷ rest) =
    placing (may_stand place entry) (standing fresh so_far place number entry rest (halves fresh (with_entry so_far entry) (place_behind place entry) (number + 1) rest))
  where
    placing : (stands : Bool) → (if is_taken fresh so_far entry then first_bad fresh (with_entry so_far entry) (place_behind place entry) (number + 1) rest else Some number)
        ≡ bad_half fresh so_far number (entry ∷ good_front (place_behind place entry) rest) (first_out (place_behind place entry) (number + 1) rest)
        → (if stands && is_taken fresh so_far entry then first_bad fresh (with_entry so_far entry) (place_behind place entry) (number + 1) rest else Some number)
        ≡ bad_half fresh so_far number (if stands then entry ∷ good_front (place_behind place entry) rest else []) (if stands then first_out (place_behind place entry) (number + 1) rest else Some number)
    placing true there = there
    placing false there = rw (untaken_none fresh) refl

-- where no line is bad by its text or place all was read
good_if : (stands : Bool) (number : ℕ) (entry : Entry) (out : Option ℕ) (front rest : List Entry) → (out ≡ None → front ≡ rest) → (if stands then out else Some number) ≡ None → (if stands then entry ∷ front else []) ≡ entry ∷ rest
good_if true number entry out front rest there none = ap (λ es. entry ∷ es) (there none)
good_if false number entry out front rest there none = absurd (cc)

all_good : (place : Place) (number : ℕ) (entries : List Entry) → first_out place number entries ≡ None → good_front place entries ≡ entries
all_good place number [] none = refl
all_good place number (entry ∷ rest) none =
    good_if (may_stand place entry) number entry (first_out (place_behind place entry) (number + 1) rest) (good_front (place_behind place entry) rest) rest (all_good (place_behind place entry) (number + 1) rest) none

plain_numbered : (number : ℕ) (entries : List Entry) → plain_lines (numbered_from number entries) ≡ lines_of entries
plain_numbered number [] = refl
plain_numbered number (Blank ∷ rest) = plain_numbered (number + 1) rest
plain_numbered number (Sets setting ∷ rest) = plain_numbered (number + 1) rest
plain_numbered number (Loads line ∷ rest) = ap (λ t. line ∷ t) (plain_numbered (number + 1) rest)
plain_numbered number (Runs command ∷ rest) = plain_numbered (number + 1) rest
plain_numbered number (Bad ∷ rest) = plain_numbered (number + 1) rest

pub second_none : (first second : Option ℕ) → or_else first second ≡ None → second ≡ None
second_none None second none = none
second_none (Some number) second none = absurd (cc)

-- the script that was read
abbrev pub script_read : Parsed → Script
script_read read = record { settings = read.settings; lines = plain_lines read.lines; commands = read.commands }

-- what is loaded before the first line of what was read
abbrev pub loaded_none : Parsed → Loaded
loaded_none read = record { settings = Some read.settings.cluster; lines = [] }

-- the first bad line of what was read
abbrev pub bad_read : Bool → State → Parsed → Option ℕ
bad_read fresh state read = or_else (untaken_set fresh read.sets) (or_else (first_untaken fresh (loaded_none read) state read.lines) read.bad)

first_bad_read : (fresh : Bool) (state : State) (bytes : List ℕ) (read : Parsed) → Parses bytes read → first_bad fresh (begins state) first_place 1 (entries_in bytes) ≡ bad_read fresh state read
first_bad_read fresh state bytes read parses =
    halves fresh (begins state) first_place 1 (entries_in bytes) ∙ rw (← parses.settings, ← parses.sets, ← parses.lines, ← parses.bad) refl

-- no line is bad
pub script_from : (fresh : Bool) (state : State) (bytes : List ℕ) (read : Parsed) → Parses bytes read → bad_read fresh state read ≡ None → script fresh state bytes ≡ Ok (script_read read)
script_from fresh state bytes read parses none =
    let good : read.bad ≡ None = second_none (first_untaken fresh (loaded_none read) state read.lines) read.bad (second_none (untaken_set fresh read.sets) _ none) in
    let whole : good_front first_place (entries_in bytes) ≡ entries_in bytes = all_good first_place 1 (entries_in bytes) (sym parses.bad ∙ good) in
    let settings : read.settings ≡ settings_from no_settings (entries_in bytes) = parses.settings ∙ ap (settings_from no_settings) whole in
    let lines : plain_lines read.lines ≡ lines_of (entries_in bytes) = ap plain_lines parses.lines ∙ plain_numbered 1 (good_front first_place (entries_in bytes)) ∙ ap lines_of whole in
    let commands : read.commands ≡ commands_of (entries_in bytes) = parses.commands ∙ ap commands_of whole in
    ap (λ bad. unless_bad bad (entries_in bytes)) (first_bad_read fresh state bytes read parses ∙ none) ∙ rw (← settings, ← lines, ← commands) refl

-- the first bad line is this one
pub refused_from : (fresh : Bool) (state : State) (bytes : List ℕ) (read : Parsed) (number : ℕ) → Parses bytes read → bad_read fresh state read ≡ Some number → script fresh state bytes ≡ Err number
refused_from fresh state bytes read number parses is =
    ap (λ bad. unless_bad bad (entries_in bytes)) (first_bad_read fresh state bytes read parses ∙ is)

-- a store that isn't fresh takes faults alone, and all of them
pub untaken_held : (loaded : Loaded) (state : State) (lines : List NumberedLine) → first_untaken false loaded state lines ≡ first_file lines
untaken_held loaded state [] = refl
untaken_held loaded state (numbered ∷ rest) = by_line numbered.line (untaken_held (with_loaded loaded numbered.line) state rest)
  where
    by_line : (line : Line) → first_untaken false (with_loaded loaded line) state rest ≡ first_file rest → (if (false || is_fault line) && takes loaded state.files line then first_untaken false (with_loaded loaded line) (with_line state line) rest else Some numbered.number) ≡ (if is_fault line then first_file rest else Some numbered.number)
    by_line (lines.Fault fault) there = there
    by_line (lines.Dir path) there = refl
    by_line (lines.File path attributes bytes) there = refl
    by_line (lines.Short path block node len) there = refl
