-- The namespaces, once the files of one of them have changed.
use Rattle.std.proofs.Common.{◌≡◌, ◌≢◌, ℕ, ◌+◌, Bool, true, false, List, [], Option, Some, None, Result, Ok, Err, cond, refl, sym, ◌∙◌, ap, subst, arith, rules, String}
use Rattle.std.proofs.lemmas.Map.{update-update}
use Rattle.std.proofs.lemmas.Slice.Eq.{bytes_eq-Decides}
use Rattle.std.specs.BTreeMap.{BTreeMap, is_at, get_by_text}
use Rattle.std.specs.Map.{lookup, update}
use Rattle.std.specs.Option.{option_map_or}
use Rattle.std.specs.Ordering.{nat_cmp}
use Rattle.std.specs.Prelude.{OnOk, OnErr}
use Rattle.std.specs.Str.{bytes_eq}
use Rattle.hdfs_leases.specs.Files.{leases_of}

-- the leases of the file with this id in the files that were found
abbrev pub leases_at : Option (BTreeMap ℕ ℕ) → ℕ → ℕ
leases_at found id = option_map_or (λ files. leases_of files id) found 0

-- if files were found, there is one
abbrev pub HasFile : Option (BTreeMap ℕ ℕ) → Type 0
HasFile found = (files : BTreeMap ℕ ℕ) → found ≡ Some files → files.entries ≢ []

-- where none were found, each of them has one
pub nothing_found : HasFile None
nothing_found files is = let bad : ⊥ = search rules in absurd bad

-- where these were found, they have one
pub some_found : (new : BTreeMap ℕ ℕ) → new.entries ≢ [] → HasFile (Some new)
some_found new some files is = search rules

-- equal entries have equal leases
pub same_entries : (old new : BTreeMap ℕ ℕ) → new.entries ≡ old.entries → (id : ℕ) → leases_of new id ≡ leases_of old id
same_entries old new same id = ap (λ files. option_map_or (λ further. further + 1) (lookup (is_at (nat_cmp id)) files) 0) same

-- files without an entry have no leases
pub no_entries : (files : BTreeMap ℕ ℕ) → files.entries ≡ [] → (id : ℕ) → leases_of files id ≡ 0
no_entries files none id = ap (λ files. option_map_or (λ further. further + 1) (lookup (is_at (nat_cmp id)) files) 0) none

-- where a lease was added there is a file
pub added : (old new : BTreeMap ℕ ℕ) (id : ℕ) → leases_of new id ≡ leases_of old id + 1 → new.entries ≢ []
added old new id more none = let zero : leases_of new id ≡ 0 = no_entries new none id in omega (arith, zero, more)

-- where a lease was added, or all stayed, there is a file if there was one
pub still_some : {T E : Type 0} (result : Result T E) (old new : BTreeMap ℕ ℕ) (id : ℕ) → OnOk result (leases_of new id ≡ leases_of old id + 1)
    → OnErr result (new.entries ≡ old.entries) → old.entries ≢ [] → new.entries ≢ []
still_some (Ok done) old new id more same some = added old new id more
still_some (Err fault) old new id more same some = λ none. some (sym same ∙ none)

module _ (f f' : List ℕ → Option (BTreeMap ℕ ℕ)) (changed : List ℕ) (new : Option (BTreeMap ℕ ℕ)) (now : (name : List ℕ) → f' name ≡ update bytes_eq f changed new name) where
  -- what holds of the new files and of those at each name holds of those that are there now
  at_name : (P : Option (BTreeMap ℕ ℕ) → Type 0) (name : List ℕ) → (name ≡ changed → P new) → P (f name) → P (f' name)
  at_name P name here there = subst P (sym (now name)) (by_test (bytes_eq changed name) (bytes_eq-Decides changed name).0)
    where
      by_test : (b : Bool) → (b ≡ true → changed ≡ name) → P (cond b new (f name))
      by_test true is = here (sym (is refl))
      by_test false is = there

  -- each namespace has a file, if the changed one has
  pub all_have_files : ((name : List ℕ) → HasFile (f name)) → HasFile new → (name : List ℕ) → HasFile (f' name)
  all_have_files some this name = at_name HasFile name (λ _. this) (some name)

  -- all leases stay, if those of the changed namespace do
  pub all_stay : ((id : ℕ) → leases_at new id ≡ leases_at (f changed) id) → (name : List ℕ) (id : ℕ) → leases_at (f' name) id ≡ leases_at (f name) id
  all_stay same name id =
      at_name (λ o. leases_at o id ≡ leases_at (f name) id) name (λ is. same id ∙ ap (λ n. leases_at (f n) id) (sym is)) refl

  -- all leases but one stay, if those of the changed namespace do
  pub others_stay : (number : ℕ) → ((id : ℕ) → id ≢ number → leases_at new id ≡ leases_at (f changed) id)
      → (name : List ℕ) (id : ℕ) → ¬ ((name ≡ changed) × (id ≡ number)) → leases_at (f' name) id ≡ leases_at (f name) id
  others_stay number same name id apart =
      at_name (λ o. leases_at o id ≡ leases_at (f name) id) name (λ is. same id (λ this. apart (is, this)) ∙ ap (λ n. leases_at (f n) id) (sym is)) refl

-- what changes twice at a name is as if it had changed once
pub changed_twice : (f f' f'' : List ℕ → Option (BTreeMap ℕ ℕ)) (changed : List ℕ) (first second : Option (BTreeMap ℕ ℕ))
    → ((name : List ℕ) → f' name ≡ update bytes_eq f changed first name) → ((name : List ℕ) → f'' name ≡ update bytes_eq f' changed second name)
    → (name : List ℕ) → f'' name ≡ update bytes_eq f changed second name
changed_twice f f' f'' changed first second once twice name =
    twice name ∙ ap (λ o. cond (bytes_eq changed name) second o) (once name) ∙ update-update bytes_eq f changed first second name

-- a change at a text is one at the name that the text is
pub changed_at_text : {A : Type 0} (map before after : BTreeMap (String A) (BTreeMap ℕ ℕ)) (text name : List ℕ) (new : Option (BTreeMap ℕ ℕ)) → map ≡ before → text ≡ name
    → ((other : List ℕ) → get_by_text after other ≡ update bytes_eq (get_by_text map) text new other)
    → (other : List ℕ) → get_by_text after other ≡ update bytes_eq (get_by_text before) name new other
changed_at_text map before after text name new was is changes other =
    changes other ∙ ap (λ t. update bytes_eq (get_by_text map) t new other) is ∙ ap (λ m. update bytes_eq (get_by_text m) name new other) was
