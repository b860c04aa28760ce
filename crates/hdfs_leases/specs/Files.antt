-- Files, by their ids and by the namespaces that they stand in, with the leases that are held of each beyond its first.
use Rattle.std.specs.Prelude.{◌≡◌, ◌≢◌, ℕ, ◌+◌, List, [], Some, String}
use Rattle.std.specs.BTreeMap.{BTreeMap, get, get_by_text}
use Rattle.std.specs.Option.{option_map_or}
use Rattle.std.specs.Ordering.{nat_cmp}

-- how many leases of the file with this id are held: its first and those beyond it, and none where it isn't there
abbrev pub leases_of : BTreeMap ℕ ℕ → ℕ → ℕ
leases_of files id = option_map_or (λ further. further + 1) (get nat_cmp files id) 0

-- how many leases are held of the file with this namespace and this id
abbrev pub leases_in : {A : Type 0} → BTreeMap (String A) (BTreeMap ℕ ℕ) → List ℕ → ℕ → ℕ
leases_in named name id = option_map_or (λ files. leases_of files id) (get_by_text named name) 0

-- each namespace that is there has a file
abbrev pub NoneIsEmpty : {A : Type 0} → BTreeMap (String A) (BTreeMap ℕ ℕ) → Type 0
NoneIsEmpty named = (name : List ℕ) (files : BTreeMap ℕ ℕ) → get_by_text named name ≡ Some files → files.entries ≢ []
