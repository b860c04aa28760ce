-- The parts of what is printed.
use Rattle.std.proofs.Common.{◌≡◌, ℕ, ◌+◌, ◌-◌, ◌/◌, ◌%◌, ◌<◌, ◌≤◌, arith, length-drop, take_all, List, [], ◌∷◌, ◌++◌, length, get_or, take, drop, map, refl, sym, ◌∙◌, ap}
use Rattle.std.proofs.lemmas.List.{take-append-drop, at_drop_more}
use Rattle.std.specs.List.{concat}
use Rattle.hex.specs.Hex.{encode_with, encode_lower, lower_digits}
use Rattle.hdfs_model.specs.declared.commands.PathEntry.{PathEntry}
use Rattle.hdfs_model.specs.declared.commands.Reply.{Reply}
use Rattle.hdfs_script.specs.Texts.{entries_text, entry_line, octal, octal_before, reply_text, replies_text}

-- digits of more bytes
encode_with-append : (t xs ys : List ℕ) → encode_with t (xs ++ ys) ≡ encode_with t xs ++ encode_with t ys
unfolding encode_with
encode_with-append t [] ys = refl
encode_with-append t (x ∷ xs) ys = ap (λ rest. get_or t (x / 16) 0 ∷ get_or t (x % 16) 0 ∷ rest) (encode_with-append t xs ys)

pub encode_lower-split : (n : ℕ) (bytes : List ℕ) → encode_lower bytes ≡ encode_lower (take n bytes) ++ encode_lower (drop n bytes)
encode_lower-split n bytes = ap encode_lower (sym (take-append-drop n bytes)) ∙ encode_with-append lower_digits (take n bytes) (drop n bytes)

pub encode_lower-nil : encode_lower [] ≡ []
unfolding encode_with
encode_lower-nil = refl

-- the octal digits of a number are at most eleven
pub octal_starts : (n : ℕ) → octal n ≡ octal_before 11 n []
unfolding octal
octal_starts n = refl

-- what is left of some bytes behind a place is all that is there
pub rest_taken : (xs : List ℕ) (k n : ℕ) → length xs ≡ n → take (n - k) (drop k xs) ≡ drop k xs
rest_taken xs k n long = take_all (n - k) (drop k xs) (omega (arith, length-drop k xs, long))

-- the replies from a place on
pub replies_text-drop : (replies : List Reply) (i : ℕ) (reply : Reply) → i < length replies → reply ≡ get_or replies i reply → replies_text (drop i replies) ≡ reply_text reply ++ replies_text (drop (i + 1) replies)
replies_text-drop replies i reply within is = at_drop_more replies_text replies i reply within ∙ ap (λ r. reply_text r ++ replies_text (drop (i + 1) replies)) (sym is)

-- the entries from a place on
pub entries_text-drop : (entries : List PathEntry) (i : ℕ) (entry : PathEntry) → i < length entries → entry ≡ get_or entries i entry → entries_text (drop i entries) ≡ entry_line entry ++ entries_text (drop (i + 1) entries)
entries_text-drop entries i entry within is = at_drop_more entries_text entries i entry within ∙ ap (λ e. entry_line e ++ entries_text (drop (i + 1) entries)) (sym is)

-- the pieces from a place on
pub concat-drop : {X : Type 0} (now : X → List ℕ) (pieces : List X) (i : ℕ) (d : X) → i < length pieces → concat (map now (drop i pieces)) ≡ now (get_or pieces i d) ++ concat (map now (drop (i + 1) pieces))
concat-drop now pieces i d within = at_drop_more (λ ps. concat (map now ps)) pieces i d within
