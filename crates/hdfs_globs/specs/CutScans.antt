-- The cut of a text is looked for character by character. No public clause cites this module.
use Rattle.std.specs.Prelude.{◌≡◌, ◌≤◌, ℕ, suc, ◌-◌, Bool, true, false, ◌==◌, List, take, drop, length, Some, None, if◌then◌else◌}
use Rattle.hdfs_globs.specs.Escapes.{ends_escaping}
use Rattle.hdfs_globs.specs.Expansions.{Cut, cut_from}
use Rattle.hdfs_globs.specs.GroupScans.{shown_texts}
use Rattle.hdfs_globs.specs.declared.cut.Found.{Found}
use Rattle.hdfs_globs.specs.declared.cut.Found.TheVariants.{Cut as CutAt, Whole, Escaping}
use Rattle.hdfs_globs.specs.declared.cut.FoundCut.{FoundCut}

-- how many groups are open behind the character
abbrev pub depth_past : Bool → ℕ → ℕ → ℕ
depth_past true d c = d
depth_past false d c = if c == 123 then suc d else if c == 125 then d - 1 else d

-- the cut that the code has found in a text
abbrev pub shown_cut : List ℕ → FoundCut → Cut
shown_cut text cut = record { before = take cut.begins text; alternatives = shown_texts cut.alternatives; after = drop cut.after text }

-- what the code has found in a text
abbrev pub IsFound : List ℕ → Found → Type 0
IsFound text (CutAt cut) = (cut_from false 0 text ≡ Some (shown_cut text cut)) × (cut.begins ≤ length text) × (cut.after ≤ length text)
IsFound text Whole = (cut_from false 0 text ≡ None) × (ends_escaping text ≡ false)
IsFound text Escaping = (cut_from false 0 text ≡ None) × (ends_escaping text ≡ true)
