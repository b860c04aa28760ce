-- The names of a map's keys, in order, and which of them are found.
use Rattle.std.proofs.Common.{◌≡◌, ℕ, ◌<◌, Bool, true, false, List, [], ◌∷◌, map, Option, Some, None, String, string_bytes, cond, Contains, ◌↔◌, ◌⊎◌, inl, inr, zero, suc, rules, refl, sym, ◌∙◌, subst, arith}
use Rattle.std.proofs.lemmas.Map.Text.{is_eq-slice_cmp}
use Rattle.std.proofs.lemmas.Slice.Eq.{bytes_eq-Decides}
use Rattle.std.proofs.lemmas.List.Elements.{Contains-append_right, Contains-append_cases}
use Rattle.std.specs.BTreeMap.{BTreeMap, is_at, get_by_text}
use Rattle.std.specs.Cmp.Lexicographic.{slice_cmp}
use Rattle.std.specs.List.{AllByRecursion}
use Rattle.std.specs.List.Sorted.{IsStrictlySortedBy}
use Rattle.std.specs.Map.{lookup, keys_of}
use Rattle.std.specs.Ordering.{nat_cmp, is_eq}
use Rattle.std.specs.Option.{option_map_or}
use Rattle.std.specs.String.{string_cmp}
use Rattle.std.specs.declared.cmp.Ordering.TheVariants.{Less}
use Rattle.hdfs_leases.specs.Files.{leases_of, leases_in, NoneIsEmpty}
use Rattle.hdfs_leases.proofs.Idle.{first_of}

-- the names of these keys
abbrev pub names_of : {A X : Type 0} → List (String A × X) → List (List ℕ)
names_of entries = map string_bytes (keys_of entries)

-- names below which a key stands
pub all_below : {A : Type 0} (key : String A) (keys : List (String A)) → AllByRecursion (λ other. string_cmp key other ≡ Less) keys
    → AllByRecursion (λ other. slice_cmp nat_cmp (string_bytes key) other ≡ Less) (map string_bytes keys)
all_below key [] below = tt
all_below key (first ∷ keys) below = (below.0, all_below key keys below.1)

-- names ascend as their keys do
pub names_ascend : {A : Type 0} (keys : List (String A)) → IsStrictlySortedBy string_cmp keys → IsStrictlySortedBy (slice_cmp nat_cmp) (map string_bytes keys)
unfolding IsStrictlySortedBy
names_ascend [] up = tt
names_ascend (key ∷ keys) up = (all_below key keys up.0, names_ascend keys up.1)

-- a name that is found is among them
pub among_if_found : {A X : Type 0} (entries : List (String A × X)) (name : List ℕ) (found : X)
    → lookup (is_at (λ key. slice_cmp nat_cmp name (string_bytes key))) entries ≡ Some found → Contains (names_of entries) name
among_if_found [] name found is = let bad : ⊥ = search rules in absurd bad
among_if_found {A} {X} (first ∷ entries) name found is =
    by_test (is_eq (slice_cmp nat_cmp name (string_bytes first.0)))
    (λ same. (bytes_eq-Decides name (string_bytes first.0)).0 (sym (is_eq-slice_cmp name (string_bytes first.0)) ∙ same))
    (among_if_found entries name found) is
  where
    by_test : (test : Bool) → (test ≡ true → name ≡ string_bytes first.0)
        → (lookup (is_at (λ key. slice_cmp nat_cmp name (string_bytes key))) entries ≡ Some found → Contains (names_of entries) name)
        → cond test (Some first.1) (lookup (is_at (λ key. slice_cmp nat_cmp name (string_bytes key))) entries) ≡ Some found → Contains (names_of (first ∷ entries)) name
    by_test true same behind is = (0, omega arith, sym (same refl))
    by_test false same behind is = Contains-append_right (string_bytes first.0 ∷ []) (names_of entries) name (behind is)

-- a name among them is found
pub found_if_among : {A X : Type 0} (entries : List (String A × X)) (name : List ℕ) → Contains (names_of entries) name
    → (found : X) × (lookup (is_at (λ key. slice_cmp nat_cmp name (string_bytes key))) entries ≡ Some found)
found_if_among [] name (k, below, is) = let bad : ⊥ = omega (arith, below) in absurd bad
found_if_among {A} {X} (first ∷ entries) name among =
    by_test (is_eq (slice_cmp nat_cmp name (string_bytes first.0)))
    (λ here. is_eq-slice_cmp name (string_bytes first.0) ∙ (bytes_eq-Decides name (string_bytes first.0)).1 here)
    (found_if_among entries name) (Contains-append_cases (string_bytes first.0 ∷ []) (names_of entries) name among)
  where
    by_test : (test : Bool) → (name ≡ string_bytes first.0 → test ≡ true)
        → (Contains (names_of entries) name → (found : X) × (lookup (is_at (λ key. slice_cmp nat_cmp name (string_bytes key))) entries ≡ Some found))
        → Contains (string_bytes first.0 ∷ []) name ⊎ Contains (names_of entries) name
        → (found : X) × (cond test (Some first.1) (lookup (is_at (λ key. slice_cmp nat_cmp name (string_bytes key))) entries) ≡ Some found)
    by_test true same others at = (first.1, refl)
    by_test false same others (inl (zero, below, here)) = let bad : false ≡ true = same (sym here) in search rules
    by_test false same others (inl (suc k, below, here)) = let bad : ⊥ = omega (arith, below) in absurd bad
    by_test false same others (inr behind) = others behind

-- a name is among them exactly where it has a file of which a lease is held
pub among_exactly : {A : Type 0} (named : BTreeMap (String A) (BTreeMap ℕ ℕ)) → NoneIsEmpty named → (name : List ℕ)
    → Contains (names_of named.entries) name ↔ ((id : ℕ) × (0 < leases_in named name id))
among_exactly named some name = (held, among)
  where
    held : Contains (names_of named.entries) name → (id : ℕ) × (0 < leases_in named name id)
    held at =
        let found = found_if_among named.entries name at in
        let file = first_of found.0 (some name found.0 found.1) in
        (file.0, subst (λ o. 0 < option_map_or (λ files. leases_of files file.0) o 0) (sym found.1) file.1)

    by_found : (found : Option (BTreeMap ℕ ℕ)) → get_by_text named name ≡ found → (id : ℕ) → 0 < option_map_or (λ files. leases_of files id) found 0
        → Contains (names_of named.entries) name
    by_found None is id none = let bad : ⊥ = omega (arith, none) in absurd bad
    by_found (Some files) is id some = among_if_found named.entries name files is

    among : (id : ℕ) × (0 < leases_in named name id) → Contains (names_of named.entries) name
    among (id, some) = by_found (get_by_text named name) refl id some
