-- The two halves of which line is bad: by its text and its place, as a parser tells it, and over a store. The program's
-- contract needs neither.
use Rattle.std.specs.Prelude.{◌≡◌, ℕ, ◌+◌, Bool, true, false, ◌&&◌, ◌||◌, ◌==◌, List, [], ◌∷◌, ◌++◌, map, Option, Some, None, if◌then◌else◌}
use Rattle.hdfs_cluster.specs.declared.store.Line.{Line}
use Rattle.hdfs_cluster.specs.Files.{State}
use Rattle.hdfs_model.specs.Limits.{are_settings}
use Rattle.hdfs_cluster.specs.Loading.{AreValid, takes, with_line, with_loaded}
use Rattle.hdfs_cluster.specs.Shown.{Loaded}
use Rattle.hdfs_script.specs.declared.entry.Entry.{Entry}
use Rattle.hdfs_script.specs.declared.entry.Entry.TheVariants.{Sets, Loads, Bad}
use Rattle.hdfs_script.specs.declared.entry.NumberedLine.{NumberedLine}
use Rattle.hdfs_script.specs.declared.entry.Parsed.{Parsed}
use Rattle.hdfs_script.specs.declared.entry.Place.{Place}
use Rattle.hdfs_script.specs.Scripts.{entries_in, commands_of, first_place, is_fault, no_settings, may_stand, place_behind, session_settings, settings_from}

-- the entries in front of the first that is bad by its text or its place
abbrev pub good_front : Place → List Entry → List Entry
good_front place [] = []
good_front place (entry ∷ entries) = if may_stand place entry then entry ∷ good_front (place_behind place entry) entries else []

-- the number of the first line that is bad by its text or its place
abbrev pub first_out : Place → ℕ → List Entry → Option ℕ
first_out place number [] = None
first_out place number (entry ∷ entries) =
    if may_stand place entry then first_out (place_behind place entry) (number + 1) entries else Some number

-- the lines that are loaded, each with its number, where the next line has this one
abbrev pub numbered_from : ℕ → List Entry → List NumberedLine
numbered_from number [] = []
numbered_from number (Loads line ∷ entries) = record { number = number; line = line } ∷ numbered_from (number + 1) entries
numbered_from number (_ ∷ entries) = numbered_from (number + 1) entries

-- the number of the first entry that sets something, where the next line has this one
abbrev pub first_set : ℕ → List Entry → Option ℕ
first_set number [] = None
first_set number (Sets setting ∷ entries) = Some number
first_set number (_ ∷ entries) = first_set (number + 1) entries

-- What was read of a script: its settings, lines and commands up to the first line that is bad by its text or its place, the number
-- of the first line that sets something, and the number of that bad line. The settings are in the limits of a store and a session.
pub record Parses (bytes : List ℕ) (read : Parsed) : Type 0 where
  pub settings : read.settings ≡ settings_from no_settings (good_front first_place (entries_in bytes))
  pub valid : AreValid read.settings.cluster
  pub limited : are_settings (session_settings read.settings) ≡ true
  pub sets : read.sets ≡ first_set 1 (good_front first_place (entries_in bytes))
  pub lines : read.lines ≡ numbered_from 1 (good_front first_place (entries_in bytes))
  pub commands : read.commands ≡ commands_of (good_front first_place (entries_in bytes))
  pub bad : read.bad ≡ first_out first_place 1 (entries_in bytes)

-- lines without their numbers
abbrev pub plain_lines : List NumberedLine → List Line
plain_lines lines = map (λ numbered. numbered.line) lines

-- the number of the first line that plans no fault
abbrev pub first_file : List NumberedLine → Option ℕ
first_file [] = None
first_file (numbered ∷ rest) = if is_fault numbered.line then first_file rest else Some numbered.number

-- the number of the first line that a store doesn't take behind what was loaded, over the files so far
abbrev pub first_untaken : Bool → Loaded → State → List NumberedLine → Option ℕ
first_untaken fresh loaded state [] = None
first_untaken fresh loaded state (numbered ∷ rest) =
    if (fresh || is_fault numbered.line) && takes loaded state.files numbered.line
    then first_untaken fresh (with_loaded loaded numbered.line) (with_line state numbered.line) rest
    else Some numbered.number

-- the number of the first line that sets something, where the store doesn't take it: one that isn't fresh
abbrev pub untaken_set : Bool → Option ℕ → Option ℕ
untaken_set true sets = None
untaken_set false sets = sets

-- the first, where there is one, else the second
abbrev pub or_else : Option ℕ → Option ℕ → Option ℕ
or_else None second = second
or_else (Some first) second = Some first

-- What entries say was put behind what was read, where the first of them has this number; no public clause cites it.
pub record Gains (old : Parsed) (number : ℕ) (entries : List Entry) (new : Parsed) : Type 0 where
  pub settings : new.settings ≡ settings_from old.settings entries
  pub sets : new.sets ≡ or_else old.sets (first_set number entries)
  pub lines : new.lines ≡ old.lines ++ numbered_from number entries
  pub commands : new.commands ≡ old.commands ++ commands_of entries

-- entries of which the one of the number `limit` is bad, whatever its line says; no public clause cites it
abbrev pub bad_from : ℕ → ℕ → List Entry → List Entry
bad_from limit number [] = []
bad_from limit number (entry ∷ entries) = (if number == limit then Bad else entry) ∷ bad_from limit (number + 1) entries
