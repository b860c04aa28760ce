-- A set's text, member after member.
use Rattle.std.proofs.Common.{◌≡◌, ℕ, ◌+◌, ◌<◌, ◌≤◌, Bool, true, false, List, [], ◌∷◌, ◌++◌, Option, Some, None, length, drop, get_or, ap, ◌∙◌, sym, refl, arith}
use Rattle.std.specs.Option.{option_map}
use Rattle.std.proofs.lemmas.List.{append_assoc, append-nil, drop_all}
use Rattle.std.proofs.lemmas.Bool.Decides.{nat_tests}
use Rattle.hdfs_globs.proofs.Unescaped.{drop-item}
use Rattle.hdfs_globs.specs.Globs.{Member, SetBody, set_body, with_member}
use Rattle.hdfs_globs.specs.SetSigns.{set_sign_of}
use Rattle.hdfs_globs.specs.declared.glob_set.SetSign.TheVariants.{Character, Backslash, Ends, Begins}

-- these members stand at the beginning of the set
abbrev pub prefixed : List Member → SetBody → SetBody
prefixed ms s = record { members = ms ++ s.members; after = s.after }

body-character : (e : Bool) (c : ℕ) (t : List ℕ) → set_sign_of e c ≡ Character → set_body e (c ∷ t) ≡ option_map (with_member c e) (set_body false t)
unfolding set_body
body-character true c t h = refl
body-character false c t h = grind (arith, nat_tests)

body-backslash : (e : Bool) (c : ℕ) (t : List ℕ) → set_sign_of e c ≡ Backslash → set_body e (c ∷ t) ≡ set_body true t
unfolding set_body
body-backslash true c t h = cc
body-backslash false c t h = grind (arith, nat_tests)

body-ends : (e : Bool) (c : ℕ) (t : List ℕ) → set_sign_of e c ≡ Ends → set_body e (c ∷ t) ≡ Some (record { members = []; after = t })
unfolding set_body
body-ends true c t h = cc
body-ends false c t h = grind (arith, nat_tests)

body-begins : (e : Bool) (c : ℕ) (t : List ℕ) → set_sign_of e c ≡ Begins → set_body e (c ∷ t) ≡ None
unfolding set_body
body-begins true c t h = cc
body-begins false c t h = grind (arith, nat_tests)

body-end : (e : Bool) → set_body e [] ≡ None
unfolding set_body
body-end e = refl

-- what was read and what is left make the set's text
abbrev pub Rest : Option SetBody → List Member → Bool → List ℕ → Type 0
Rest whole ms e t = whole ≡ option_map (prefixed ms) (set_body e t)

map-prefixed : (ms : List Member) (m : Member) (o : Option SetBody) → option_map (prefixed ms) (option_map (with_member m.character m.escaped) o) ≡ option_map (prefixed (ms ++ m ∷ [])) o
map-prefixed ms m None = refl
map-prefixed ms m (Some s) = ap (λ (x : List Member). Some (record { members = x; after = s.after })) (sym (append_assoc ms (m ∷ []) s.members))

module _ (whole : Option SetBody) (ms : List Member) (e : Bool) (text : List ℕ) (i c : ℕ) (inside : i < length text) (item : c ≡ get_or text i c) where
  pub rest-character : (m : Member) → Rest whole ms e (drop i text) → set_sign_of e c ≡ Character → m ≡ record { character = c; escaped = e } → Rest whole (ms ++ m ∷ []) false (drop (i + 1) text)
  rest-character m left is same = left ∙ ap (λ (x : List ℕ). option_map (prefixed ms) (set_body e x)) (drop-item text i c inside item) ∙ ap (option_map (prefixed ms)) (body-character e c (drop (i + 1) text) is) ∙ rw (same) (map-prefixed ms (record { character = c; escaped = e }) (set_body false (drop (i + 1) text)))

  pub rest-backslash : Rest whole ms e (drop i text) → set_sign_of e c ≡ Backslash → Rest whole ms true (drop (i + 1) text)
  rest-backslash left is = left ∙ ap (λ (x : List ℕ). option_map (prefixed ms) (set_body e x)) (drop-item text i c inside item) ∙ ap (option_map (prefixed ms)) (body-backslash e c (drop (i + 1) text) is)

  pub rest-ends : Rest whole ms e (drop i text) → set_sign_of e c ≡ Ends → whole ≡ Some (record { members = ms; after = drop (i + 1) text })
  rest-ends left is = left ∙ ap (λ (x : List ℕ). option_map (prefixed ms) (set_body e x)) (drop-item text i c inside item) ∙ ap (option_map (prefixed ms)) (body-ends e c (drop (i + 1) text) is) ∙ ap (λ (x : List Member). Some (record { members = x; after = drop (i + 1) text })) (append-nil ms)

  pub rest-begins : Rest whole ms e (drop i text) → set_sign_of e c ≡ Begins → whole ≡ None
  rest-begins left is = left ∙ ap (λ (x : List ℕ). option_map (prefixed ms) (set_body e x)) (drop-item text i c inside item) ∙ ap (option_map (prefixed ms)) (body-begins e c (drop (i + 1) text) is)

pub rest-none : (whole : Option SetBody) (ms : List Member) (e : Bool) (text : List ℕ) (i : ℕ) → length text ≤ i → Rest whole ms e (drop i text) → whole ≡ None
rest-none whole ms e text i past left = left ∙ ap (λ (x : List ℕ). option_map (prefixed ms) (set_body e x)) (drop_all i text past) ∙ ap (option_map (prefixed ms)) (body-end e)
