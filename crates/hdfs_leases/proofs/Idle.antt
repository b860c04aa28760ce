-- No lease is held exactly where there is no file: the first file of a map would be found by its own id, and the first namespace by its own name.
use Rattle.std.proofs.Common.{◌≡◌, ◌≢◌, ℕ, ◌+◌, ◌<◌, List, [], ◌∷◌, length, Some, None, String, string_bytes, refl, sym, ◌∙◌, ap, subst, arith}
use Rattle.std.proofs.lemmas.Cmp.{tied_itself, nat_cmp_total, nat_list_cmp_total}
use Rattle.std.proofs.lemmas.Map.Entries.{lookup_head}
use Rattle.std.specs.BTreeMap.{BTreeMap, is_at, btree_map_len}
use Rattle.std.specs.Cmp.Lexicographic.{slice_cmp}
use Rattle.std.specs.Map.{lookup}
use Rattle.std.specs.Option.{option_map_or}
use Rattle.std.specs.Ordering.{nat_cmp, is_eq}
use Rattle.hdfs_leases.specs.Files.{leases_of}
use Rattle.hdfs_leases.specs.Leases.{IsIdle}
use Rattle.hdfs_leases.specs.declared.file_leases.FileLeases.{FileLeases}

-- a list of no length has nothing in it
pub none_by_length : {X : Type 0} (xs : List X) → length xs ≡ 0 → xs ≡ []
none_by_length [] none = refl
none_by_length (x ∷ xs) none = let bad : ⊥ = omega (arith, none) in absurd bad

-- the first file is found by its id
first_file : (file : ℕ × ℕ) (files : List (ℕ × ℕ)) → lookup (is_at (nat_cmp file.0)) (file ∷ files) ≡ Some file.1
first_file file files = lookup_head (is_at (nat_cmp file.0)) file files (ap is_eq (tied_itself nat_cmp_total file.0))

-- the first namespace is found by its name
first_namespace : {A X : Type 0} (first : String A × X) (named : List (String A × X))
    → lookup (is_at (λ key. slice_cmp nat_cmp (string_bytes first.0) (string_bytes key))) (first ∷ named) ≡ Some first.1
first_namespace first named =
    lookup_head (is_at (λ key. slice_cmp nat_cmp (string_bytes first.0) (string_bytes key))) first named (ap is_eq (tied_itself nat_list_cmp_total (string_bytes first.0)))

-- where there is a file, a lease of one is held
pub first_of : (files : BTreeMap ℕ ℕ) → files.entries ≢ [] → (id : ℕ) × (0 < leases_of files id)
first_of files some = by_first files.entries some
  where
    by_first : (entries : List (ℕ × ℕ)) → entries ≢ [] → (id : ℕ) × (0 < option_map_or (λ further. further + 1) (lookup (is_at (nat_cmp id)) entries) 0)
    by_first [] some = absurd (some refl)
    by_first (file ∷ entries) some =
        (file.0, subst (λ o. 0 < option_map_or (λ further. further + 1) o 0) (sym (first_file file entries)) (omega arith))

-- where no lease is held of any file, there is none
no_file : (files : List (ℕ × ℕ)) → ((id : ℕ) → option_map_or (λ further. further + 1) (lookup (is_at (nat_cmp id)) files) 0 ≡ 0) → files ≡ []
no_file [] none = refl
no_file (file ∷ files) none =
    let held : file.1 + 1 ≡ 0 = sym (ap (λ o. option_map_or (λ further. further + 1) o 0) (first_file file files)) ∙ none file.0 in
    let bad : ⊥ = omega (arith, held) in
    absurd bad

-- where no lease is held in any namespace, there is none
no_namespace : {A : Type 0} (named : List (String A × BTreeMap ℕ ℕ))
    → ((name : List ℕ) (files : BTreeMap ℕ ℕ) → lookup (is_at (λ key. slice_cmp nat_cmp name (string_bytes key))) named ≡ Some files → files.entries ≢ [])
    → ((name : List ℕ) (id : ℕ) → option_map_or (λ files. leases_of files id) (lookup (is_at (λ key. slice_cmp nat_cmp name (string_bytes key))) named) 0 ≡ 0)
    → named ≡ []
no_namespace [] some none = refl
no_namespace (first ∷ named) some none =
    let found = first_namespace first named in
    absurd
    (some (string_bytes first.0) first.1 found
    (no_file first.1.entries (λ id. sym (ap (λ o. option_map_or (λ files. leases_of files id) o 0) found) ∙ none (string_bytes first.0) id)))

-- without files no lease is held
pub idle_without_files : (leases : FileLeases) → btree_map_len leases.unnamed ≡ 0 → btree_map_len leases.named ≡ 0 → IsIdle leases
idle_without_files leases unnamed named None id =
    ap (λ files. option_map_or (λ further. further + 1) (lookup (is_at (nat_cmp id)) files) 0) (none_by_length leases.unnamed.entries unnamed)
idle_without_files leases unnamed named (Some name) id =
    ap (λ namespaces. option_map_or (λ files. leases_of files id) (lookup (is_at (λ key. slice_cmp nat_cmp name (string_bytes key))) namespaces) 0)
    (none_by_length leases.named.entries named)

-- where no lease is held, there are no files
pub no_files_if_idle : (leases : FileLeases) → IsIdle leases → (btree_map_len leases.unnamed ≡ 0) × (btree_map_len leases.named ≡ 0)
no_files_if_idle leases idle =
    (ap length (no_file leases.unnamed.entries (idle None)), ap length (no_namespace leases.named.entries leases.none_is_empty (λ name. idle (Some name))))
