-- The characters of a text that grows by one.
use Rattle.std.proofs.Common.{◌≡◌, ℕ, List, [], ◌∷◌, ◌++◌, ap, ◌∙◌, sym, string_bytes, String, Global}
use Rattle.std.specs.Str.{chars, IsUtf8}
use Rattle.std.specs.Char.{IsScalar}
use Rattle.std.proofs.lemmas.Str.{chars-append, IsUtf8-encode, chars_past_char, chars-nil}
use Rattle.std.proofs.lemmas.List.{append-nil}
use lib.Utf8.{encode}

one_character : (c : ℕ) → IsScalar c → chars (encode c) ≡ c ∷ []
one_character c s = chars_past_char (encode c) [] c (IsUtf8-encode c s) (sym (append-nil (encode c))) ∙ ap (λ (x : List ℕ). c ∷ x) chars-nil

pub chars-push : (bs : List ℕ) (c : ℕ) → IsUtf8 bs → IsScalar c → chars (bs ++ encode c) ≡ chars bs ++ c ∷ []
chars-push bs c u s = chars-append bs (encode c) u ∙ ap (λ (x : List ℕ). chars bs ++ x) (one_character c s)

pub chars-no_bytes : (bs : List ℕ) → bs ≡ [] → chars bs ≡ []
chars-no_bytes bs e = ap chars e ∙ chars-nil

pub text-same : {s t : String Global} → s ≡ t → chars (string_bytes s) ≡ chars (string_bytes t)
text-same e = ap (λ (s : String Global). chars (string_bytes s)) e
