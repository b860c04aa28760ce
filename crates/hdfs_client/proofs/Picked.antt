-- Which entries of a directory are picked, and texts as they are read.
use Rattle.std.proofs.Common.{◌≡◌, ◌≢◌, ◌↔◌, ℕ, Bool, true, false, IsTrue, List, [], ◌∷◌, ◌++◌, map, refl, sym, ◌∙◌, ap, Option, Some, None, Result, Ok, Err, IfNone, IfOk, IfErr, MatchOption, chars, encode_utf8_all, string_bytes, String, subst}
use Rattle.std.specs.Str.{IsUtf8}
use Rattle.std.proofs.lemmas.List.{append_cancel_left}
use Rattle.std.proofs.lemmas.Str.{encodes-chars, IsUtf8-string_bytes}
use Rattle.std.specs.declared.alloc.Global.{Global}
use Rattle.hdfs_globs.specs.Fits.{Matches}
use Rattle.hdfs_client.specs.Globbing.{IsWanted, Picks, nothing, passed, taken}
use Rattle.hdfs_client.specs.declared.status.FileStatus.{FileStatus}

pub none_of : {X : Type 0} (P : Type 0) (Q : X → Type 0) (r : Option X) → MatchOption r P Q → IfNone r P
none_of P Q None is = is
none_of P Q (Some x) is = tt

pub if_none : {X : Type 0} (P : Type 0) (r : Option X) → P → IfNone r P
if_none P None is = is
if_none P (Some x) is = tt

pub if_ok_so : {T E : Type 0} (P Q : T → Type 0) (r : Result T E) → ((x : T) → P x → Q x) → IfOk r P → IfOk r Q
if_ok_so P Q (Ok x) so is = so x is
if_ok_so P Q (Err e) so is = tt

pub if_err_so : {T E : Type 0} (P Q : E → Type 0) (r : Result T E) → ((e : E) → P e → Q e) → IfErr r P → IfErr r Q
if_err_so P Q (Ok x) so is = tt
if_err_so P Q (Err e) so is = so e is

pub same_bool : (r b : Bool) → (IsTrue r ↔ (b ≡ true)) → r ≡ b
same_bool true b both = sym (both.0 refl)
same_bool false true both = both.1 refl
same_bool false false both = refl

-- ---- names

pub same_name : (dir name other path : List ℕ) → path ≡ dir ++ 47 ∷ name → path ≡ dir ++ 47 ∷ other → name ≡ other
same_name dir name other path is so =
    let same : 47 ∷ name ≡ 47 ∷ other = append_cancel_left dir (47 ∷ name) (47 ∷ other) (sym is ∙ so) in cc

pub no_name : (dir rest path name : List ℕ) → path ≡ dir ++ rest → rest ≢ 47 ∷ name → path ≡ dir ++ 47 ∷ name → ⊥
no_name dir rest path name is apart so = apart (append_cancel_left dir rest (47 ∷ name) (sym is ∙ so))

pub wanted_if : {E : Type 0} (follow : Bool) (dir component : List ℕ) (status : FileStatus) (name : List ℕ) (r : Result Bool E)
    → status.path ≡ dir ++ 47 ∷ name → name ≢ [] → (follow ≡ true → status.isdir ≡ true)
    → IfOk r (λ b. IsTrue b ↔ Matches (chars component) (chars name)) → IfOk r (λ b. IsTrue b ↔ IsWanted follow dir component status)
wanted_if follow dir component status name r path some directory is =
    if_ok_so (λ b. IsTrue b ↔ Matches (chars component) (chars name)) (λ b. IsTrue b ↔ IsWanted follow dir component status) r
    (λ b both. (
      (λ yes. record { name = name; below = path; some = some; fits = both.0 yes; directory = directory }),
      (λ wanted. both.1 (subst (λ (n : List ℕ). Matches (chars component) (chars n)) (same_name dir wanted.name name status.path wanted.below path) wanted.fits)),
    )) is

-- ---- entries, one after another

pub one_taken : (Is : FileStatus → Type 0) (own picked : List FileStatus) (status : FileStatus) → Picks Is own picked → Is status
    → Picks Is (own ++ status ∷ []) (picked ++ status ∷ [])
one_taken Is _ _ status nothing is = taken status [] [] is nothing
one_taken Is _ _ status (taken first others picked so picks) is =
    taken first (others ++ status ∷ []) (picked ++ status ∷ []) so (one_taken Is others picked status picks is)
one_taken Is _ _ status (passed first others picked apart picks) is =
    passed first (others ++ status ∷ []) (picked ++ status ∷ []) apart (one_taken Is others picked status picks is)

pub one_passed : (Is : FileStatus → Type 0) (own picked : List FileStatus) (status : FileStatus) → Picks Is own picked → ¬ (Is status)
    → Picks Is (own ++ status ∷ []) picked
one_passed Is _ _ status nothing other = passed status [] [] other nothing
one_passed Is _ _ status (taken first others picked so picks) other =
    taken first (others ++ status ∷ []) picked so (one_passed Is others picked status picks other)
one_passed Is _ _ status (passed first others picked apart picks) other =
    passed first (others ++ status ∷ []) picked apart (one_passed Is others picked status picks other)

-- ---- texts

pub as_encoded : (name cs : List ℕ) → IsUtf8 name → chars name ≡ cs → name ≡ encode_utf8_all cs
as_encoded name cs text is = sym (encodes-chars name text) ∙ ap encode_utf8_all is

pub all_encoded : (strings : List (String Global)) → map encode_utf8_all (map (λ s. chars (string_bytes s)) strings) ≡ map string_bytes strings
all_encoded [] = refl
all_encoded (s ∷ strings) =
    let first : encode_utf8_all (chars (string_bytes s)) ≡ string_bytes s = encodes-chars (string_bytes s) (IsUtf8-string_bytes s) in
    let rest : map encode_utf8_all (map (λ (t : String Global). chars (string_bytes t)) strings) ≡ map string_bytes strings = all_encoded strings in
    cc
