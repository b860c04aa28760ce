-- The words of a line.
use Rattle.std.proofs.Common.{◌≡◌, ◌≢◌, ℕ, true, false, ◌&&◌, nat_le, nat_lt, eqb, List, [], ◌∷◌, length, get_or, take, map, Some, refl, ◌∙◌, ap, arith}
use Rattle.std.specs.List.{list_all, slice_split}
use Rattle.std.specs.Str.{IsAscii, IsUtf8}
use Rattle.std.proofs.lemmas.Str.{IsUtf8-from_ascii}
use Rattle.std.proofs.lemmas.Str.Ascii.{IsAscii-nil, IsAscii-cons}
use Rattle.std.proofs.lemmas.Bool.Decides.{nat_tests}
use Rattle.hdfs_script.specs.declared.entry.Entry.{Entry}
use Rattle.hdfs_script.specs.declared.entry.Entry.TheVariants.{Blank, Sets, Loads, Runs, Bad}
use Rattle.hdfs_script.specs.Entries.{good, is_alphanumeric, words_entry, ascii_entry, entry_of}
use Rattle.hdfs_script.specs.Words.{is_word}

-- printable bytes are ASCII
pub IsAscii-from_printable : (text : List ℕ) → list_all (λ c. nat_le 33 c && nat_le c 126) text ≡ true → IsAscii text
IsAscii-from_printable [] h = IsAscii-nil
IsAscii-from_printable (c ∷ rest) h = IsAscii-cons c rest (grind (arith, nat_tests)) (IsAscii-from_printable rest (grind (arith, nat_tests)))

-- so are letters and digits
printable_from_user : (text : List ℕ) → list_all is_alphanumeric text ≡ true → list_all (λ c. nat_le 33 c && nat_le c 126) text ≡ true
printable_from_user [] h = refl
printable_from_user (c ∷ rest) h =
    let there : list_all (λ c. nat_le 33 c && nat_le c 126) rest ≡ true = printable_from_user rest (grind (arith, nat_tests)) in
    grind (arith, nat_tests)

pub printable_from_word : (text : List ℕ) → is_word text ≡ true → list_all (λ c. nat_le 33 c && nat_le c 126) text ≡ true
printable_from_word text h = grind (arith, nat_tests)

pub IsUtf8-from_word : (text : List ℕ) → is_word text ≡ true → IsUtf8 text
IsUtf8-from_word text h = IsUtf8-from_ascii text (IsAscii-from_printable text (printable_from_word text h))

-- letters and digits are a word
pub word_from_user : (text : List ℕ) → (nat_le 1 (length text) && list_all is_alphanumeric text) ≡ true → is_word text ≡ true
word_from_user text h =
    let printable = printable_from_user text (grind (arith, nat_tests)) in
    grind (arith, nat_tests)

-- a line of as many words as no line has
pub words_entry_other : {X : Type 0} (now : X → List ℕ) (words : List X) → length words ≢ 2 → length words ≢ 3 → length words ≢ 4 → length words ≢ 5 → length words ≢ 6 → length words ≢ 8 → Bad ≡ words_entry (map now words)
words_entry_other now [] two three four five six eight = refl
words_entry_other now (a ∷ []) two three four five six eight = refl
words_entry_other now (a ∷ b ∷ []) two three four five six eight = absurd (two refl)
words_entry_other now (a ∷ b ∷ c ∷ []) two three four five six eight = absurd (three refl)
words_entry_other now (a ∷ b ∷ c ∷ d ∷ []) two three four five six eight = absurd (four refl)
words_entry_other now (a ∷ b ∷ c ∷ d ∷ e ∷ []) two three four five six eight = absurd (five refl)
words_entry_other now (a ∷ b ∷ c ∷ d ∷ e ∷ f ∷ []) two three four five six eight = absurd (six refl)
words_entry_other now (a ∷ b ∷ c ∷ d ∷ e ∷ f ∷ g ∷ []) two three four five six eight = refl
words_entry_other now (a ∷ b ∷ c ∷ d ∷ e ∷ f ∷ g ∷ h ∷ []) two three four five six eight = absurd (eight refl)
words_entry_other now (a ∷ b ∷ c ∷ d ∷ e ∷ f ∷ g ∷ h ∷ i ∷ rest) two three four five six eight = refl

-- nine words tell as much as all
pub words_entry-take : (words : List (List ℕ)) → words_entry (take 9 words) ≡ words_entry words
words_entry-take [] = refl
words_entry-take (a ∷ []) = refl
words_entry-take (a ∷ b ∷ []) = refl
words_entry-take (a ∷ b ∷ c ∷ []) = refl
words_entry-take (a ∷ b ∷ c ∷ d ∷ []) = refl
words_entry-take (a ∷ b ∷ c ∷ d ∷ e ∷ []) = refl
words_entry-take (a ∷ b ∷ c ∷ d ∷ e ∷ f ∷ []) = refl
words_entry-take (a ∷ b ∷ c ∷ d ∷ e ∷ f ∷ g ∷ []) = refl
words_entry-take (a ∷ b ∷ c ∷ d ∷ e ∷ f ∷ g ∷ h ∷ []) = refl
words_entry-take (a ∷ b ∷ c ∷ d ∷ e ∷ f ∷ g ∷ h ∷ i ∷ rest) = refl

-- eight words, each by its place
pub eight_at : {X : Type 0} (now : X → List ℕ) (d : X) (words : List X) → length words ≡ 8 → map now words ≡ now (get_or words 0 d) ∷ now (get_or words 1 d) ∷ now (get_or words 2 d) ∷ now (get_or words 3 d) ∷ now (get_or words 4 d) ∷ now (get_or words 5 d) ∷ now (get_or words 6 d) ∷ now (get_or words 7 d) ∷ []
eight_at now d [] is = absurd (omega arith)
eight_at now d (a ∷ []) is = absurd (omega arith)
eight_at now d (a ∷ b ∷ []) is = absurd (omega arith)
eight_at now d (a ∷ b ∷ c ∷ []) is = absurd (omega arith)
eight_at now d (a ∷ b ∷ c ∷ e ∷ []) is = absurd (omega arith)
eight_at now d (a ∷ b ∷ c ∷ e ∷ f ∷ []) is = absurd (omega arith)
eight_at now d (a ∷ b ∷ c ∷ e ∷ f ∷ g ∷ []) is = absurd (omega arith)
eight_at now d (a ∷ b ∷ c ∷ e ∷ f ∷ g ∷ h ∷ []) is = absurd (omega arith)
eight_at now d (a ∷ b ∷ c ∷ e ∷ f ∷ g ∷ h ∷ i ∷ []) is = refl
eight_at now d (a ∷ b ∷ c ∷ e ∷ f ∷ g ∷ h ∷ i ∷ j ∷ rest) is = absurd (omega arith)

-- six words, each by its place
pub six_at : {X : Type 0} (now : X → List ℕ) (d : X) (words : List X) → length words ≡ 6 → map now words ≡ now (get_or words 0 d) ∷ now (get_or words 1 d) ∷ now (get_or words 2 d) ∷ now (get_or words 3 d) ∷ now (get_or words 4 d) ∷ now (get_or words 5 d) ∷ []
six_at now d [] is = absurd (omega arith)
six_at now d (a ∷ []) is = absurd (omega arith)
six_at now d (a ∷ b ∷ []) is = absurd (omega arith)
six_at now d (a ∷ b ∷ c ∷ []) is = absurd (omega arith)
six_at now d (a ∷ b ∷ c ∷ e ∷ []) is = absurd (omega arith)
six_at now d (a ∷ b ∷ c ∷ e ∷ f ∷ []) is = absurd (omega arith)
six_at now d (a ∷ b ∷ c ∷ e ∷ f ∷ g ∷ []) is = refl
six_at now d (a ∷ b ∷ c ∷ e ∷ f ∷ g ∷ h ∷ rest) is = absurd (omega arith)

-- a line that isn't blank
pub entry_of_words : (line : List ℕ) → length line ≢ 0 → get_or line 0 0 ≢ 35 → (words : List (List ℕ)) → words ≡ take 9 (slice_split (λ b. eqb b 32) line) → words_entry words ≡ ascii_entry line
entry_of_words [] some other words is = absurd (some refl)
entry_of_words (c ∷ rest) some other words is =
    let no : eqb c 35 ≡ false = grind (arith, nat_tests) in
    ap words_entry is ∙ words_entry-take (slice_split (λ b. eqb b 32) (c ∷ rest)) ∙ rw no refl

-- a line of ASCII, and one that isn't
pub entry_of_ascii : (line : List ℕ) (entry : Entry) → true ≡ list_all (λ b. nat_lt b 128) line → entry ≡ ascii_entry line → entry ≡ entry_of line
entry_of_ascii line entry ascii is = is ∙ rw (← ascii) refl

-- an entry that isn't bad is the one of which that is said
pub entry_of_good : (entry wanted : Entry) → Some entry ≡ good wanted → entry ≡ wanted
entry_of_good entry Bad is = absurd (cc is)
entry_of_good entry Blank is = cc is
entry_of_good entry (Sets setting) is = cc is
entry_of_good entry (Loads line) is = cc is
entry_of_good entry (Runs command) is = cc is
