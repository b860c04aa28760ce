-- What entries put behind what was read, one after another.
use Rattle.std.proofs.Common.{◌≡◌, ℕ, ◌+◌, List, [], ◌∷◌, ◌++◌, Option, Some, None, refl, sym, ◌∙◌, ap, subst, append_assoc}
use Rattle.std.proofs.lemmas.List.{append-nil}
use Rattle.hdfs_script.specs.declared.entry.Entry.{Entry}
use Rattle.hdfs_script.specs.declared.entry.Entry.TheVariants.{Blank, Sets, Loads, Runs, Bad}
use Rattle.hdfs_script.specs.declared.entry.Parsed.{Parsed}
use Rattle.hdfs_script.specs.declared.entry.ScriptSettings.{ScriptSettings}
use Rattle.hdfs_script.specs.Parsing.{Gains, Parses, first_out, first_set, good_front, numbered_from, or_else}
use Rattle.hdfs_script.specs.Scripts.{commands_of, entries_in, first_place, no_settings, settings_from}
use Rattle.hdfs_script.proofs.SettingLemmas.{limited_settings, valid_settings}

-- of an entry and those behind it, what is set
settings-cons : (given : ScriptSettings) (entry : Entry) (rest : List Entry) → settings_from (settings_from given (entry ∷ [])) rest ≡ settings_from given (entry ∷ rest)
settings-cons given Blank rest = refl
settings-cons given (Sets setting) rest = refl
settings-cons given (Loads line) rest = refl
settings-cons given (Runs command) rest = refl
settings-cons given Bad rest = refl

-- the first or none
or_else_none : (first : Option ℕ) → or_else first None ≡ first
or_else_none None = refl
or_else_none (Some number) = refl

-- the first line that sets something
sets-cons : (before : Option ℕ) (number : ℕ) (entry : Entry) (rest : List Entry) → or_else (or_else before (first_set number (entry ∷ []))) (first_set (number + 1) rest) ≡ or_else before (first_set number (entry ∷ rest))
sets-cons None number Blank rest = refl
sets-cons None number (Sets setting) rest = refl
sets-cons None number (Loads line) rest = refl
sets-cons None number (Runs command) rest = refl
sets-cons None number Bad rest = refl
sets-cons (Some first) number Blank rest = refl
sets-cons (Some first) number (Sets setting) rest = refl
sets-cons (Some first) number (Loads line) rest = refl
sets-cons (Some first) number (Runs command) rest = refl
sets-cons (Some first) number Bad rest = refl

-- the lines that are loaded
numbered-cons : (number : ℕ) (entry : Entry) (rest : List Entry) → numbered_from number (entry ∷ []) ++ numbered_from (number + 1) rest ≡ numbered_from number (entry ∷ rest)
numbered-cons number Blank rest = refl
numbered-cons number (Sets setting) rest = refl
numbered-cons number (Loads line) rest = refl
numbered-cons number (Runs command) rest = refl
numbered-cons number Bad rest = refl

-- the commands
commands-cons : (entry : Entry) (rest : List Entry) → commands_of (entry ∷ []) ++ commands_of rest ≡ commands_of (entry ∷ rest)
commands-cons Blank rest = refl
commands-cons (Sets setting) rest = refl
commands-cons (Loads line) rest = refl
commands-cons (Runs command) rest = refl
commands-cons Bad rest = refl

-- a list behind a list behind a list
behind : {X : Type 0} (a b c first second both : List X) → b ≡ a ++ first → c ≡ b ++ second → first ++ second ≡ both → c ≡ a ++ both
behind a b c first second both one two whole =
    two ∙ ap (λ xs. xs ++ second) one ∙ append_assoc a first second ∙ ap (λ xs. a ++ xs) whole

-- an entry, and those behind it
gains-cons : (number : ℕ) (entry : Entry) (rest : List Entry) (a b c : Parsed) → Gains a number (entry ∷ []) b → Gains b (number + 1) rest c → Gains a number (entry ∷ rest) c
gains-cons number entry rest a b c one more = record {
  settings = more.settings ∙ ap (λ given. settings_from given rest) one.settings ∙ settings-cons a.settings entry rest;
  sets = more.sets ∙ ap (λ sets. or_else sets (first_set (number + 1) rest)) one.sets ∙ sets-cons a.sets number entry rest;
  lines = behind a.lines b.lines c.lines _ _ _ one.lines more.lines (numbered-cons number entry rest);
  commands = behind a.commands b.commands c.commands _ _ _ one.commands more.commands (commands-cons entry rest);
}

-- no entry
gains_none : (number : ℕ) (a : Parsed) → Gains a number [] a
gains_none number a = record {
  settings = refl;
  sets = sym (or_else_none a.sets);
  lines = sym (append-nil a.lines);
  commands = sym (append-nil a.commands);
}

-- the entries in front of the first bad one, where another comes, and where none does
pub gains_more : (number : ℕ) (entry : Entry) (rest front : List Entry) (a b c : Parsed) → front ≡ entry ∷ rest → Gains a number (entry ∷ []) b → Gains b (number + 1) rest c → Gains a number front c
gains_more number entry rest front a b c is one more =
    subst (λ (entries : List Entry). Gains a number entries c) (sym is) (gains-cons number entry rest a b c one more)

pub gains_end : (number : ℕ) (front : List Entry) (a : Parsed) → front ≡ [] → Gains a number front a
gains_end number front a is = subst (λ (entries : List Entry). Gains a number entries a) (sym is) (gains_none number a)

-- the same entries
pub gains_same : (number : ℕ) (entries same : List Entry) (a b : Parsed) → entries ≡ same → Gains a number (good_front first_place entries) b → Gains a number (good_front first_place same) b
gains_same number entries same a b is gains = subst (λ (es : List Entry). Gains a number (good_front first_place es) b) is gains

-- What was put behind nothing is what was read.
pub parses_from-Gains : (bytes : List ℕ) (a b : Parsed) (bad : Option ℕ) → a.settings ≡ no_settings → a.sets ≡ None → a.lines ≡ [] → a.commands ≡ [] → Gains a 1 (good_front first_place (entries_in bytes)) b → bad ≡ first_out first_place 1 (entries_in bytes) → Parses bytes (record b { bad = bad })
parses_from-Gains bytes a b bad settings sets lines commands gains is =
    let set : b.settings ≡ settings_from no_settings (good_front first_place (entries_in bytes)) = gains.settings ∙ ap (λ given. settings_from given (good_front first_place (entries_in bytes))) settings in
    record {
      settings = set;
      valid = valid_settings bytes b.settings set;
      limited = limited_settings bytes b.settings set;
      sets = gains.sets ∙ ap (λ first. or_else first (first_set 1 (good_front first_place (entries_in bytes)))) sets;
      lines = gains.lines ∙ ap (λ xs. xs ++ numbered_from 1 (good_front first_place (entries_in bytes))) lines;
      commands = gains.commands ∙ ap (λ xs. xs ++ commands_of (good_front first_place (entries_in bytes))) commands;
      bad = is;
    }
