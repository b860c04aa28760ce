-- What settings hold.
use Rattle.std.proofs.Common.{◌≡◌, ◌≢◌, ℕ, List, length, drop, append_assoc, [], ◌∷◌, ◌++◌, map, Bool, true, false, cond, refl, sym, ap, ◌∙◌, Some, None, Option, String, string_bytes, subst, IsPermutation, Bor}
use Rattle.std.specs.List.{filter_map, AllByRecursion, AllZip}
use Rattle.std.specs.Str.{bytes_eq}
use Rattle.std.proofs.lemmas.List.{map_push, append-nil, drop_at}
use Rattle.std.proofs.lemmas.List.Elements.{filter_map-append}
use Rattle.std.proofs.lemmas.List.Sorted.{IsPermutation-map}
use Rattle.std.proofs.lemmas.Map.Text.{btree_map_updates_text, is_eq-slice_cmp}
use Rattle.std.specs.Option.{option_map}
use Rattle.std.specs.Map.{lookup, keys_of}
use Rattle.std.specs.BTreeMap.{BTreeMap, get_by_text, is_at, IsOrdered, UpdatesBy}
use Rattle.std.specs.List.Sorted.{IsStrictlySortedBy}
use Rattle.std.specs.Ordering.{nat_cmp}
use Rattle.std.specs.Cmp.Lexicographic.{slice_cmp}
use Rattle.std.specs.String.{string_cmp}
use Rattle.std.specs.declared.cmp.Ordering.TheVariants.{Less}
use Rattle.hdfs_names.specs.Settings.{later, last_value}
use Rattle.hdfs_names.specs.Configurations.{entries_of, setting, pair_text, mount_text, mount_by, IsTable}
use Rattle.hdfs_names.proofs.Mounted.{starts, starts_not}
use Rattle.hdfs_names.specs.declared.settings.Configuration.{Configuration}

pub found_more : {A : Type 0} (f : List ℕ → Option (List ℕ)) (out : List (String A)) (value : String A) (ids : List (Bor (List ℕ))) (id : Bor (List ℕ)) → map string_bytes out ≡ filter_map f (map (λ x. x.now) ids)
    → f id.now ≡ Some (string_bytes value) → map string_bytes (out ++ value ∷ []) ≡ filter_map f (map (λ x. x.now) (ids ++ id ∷ []))
found_more f out value ids id e some =
    rw (map_push string_bytes out value)
    (rw (map_push (λ x. x.now) ids id)
    (rw (filter_map-append f (map (λ x. x.now) ids) (id.now ∷ []))
    (rw some (ap (λ (x : List (List ℕ)). x ++ string_bytes value ∷ []) e))))

pub found_none : {A : Type 0} (f : List ℕ → Option (List ℕ)) (out : List (String A)) (ids : List (Bor (List ℕ))) (id : Bor (List ℕ)) → map string_bytes out ≡ filter_map f (map (λ x. x.now) ids)
    → f id.now ≡ None → map string_bytes out ≡ filter_map f (map (λ x. x.now) (ids ++ id ∷ []))
found_none f out ids id e none =
    rw (map_push (λ x. x.now) ids id)
    (rw (filter_map-append f (map (λ x. x.now) ids) (id.now ∷ []))
    (rw none (e ∙ sym (append-nil _))))

-- the value of a key after one pair more, and what later pairs say of it
put_one : {B : Type 0} (b : Bool) (before after : Option (String B)) (rest : Option (List ℕ)) (v : String B) → after ≡ cond b (Some v) before
    → later (option_map string_bytes after) rest ≡ later (option_map string_bytes before) (later (cond b (Some (string_bytes v)) None) rest)
put_one true before after None v e = rw e refl
put_one true before after (Some r) v e = refl
put_one false before after None v e = rw e refl
put_one false before after (Some r) v e = refl

pub put_more : {A B : Type 0} (m n : BTreeMap (String A) (String B)) (k : String A) (v : String B) (left rest : List (String A × String B)) (key : List ℕ) (all : Option (List ℕ))
    → UpdatesBy string_cmp (λ x. slice_cmp nat_cmp (string_bytes k) (string_bytes x)) m n (Some v)
    → left ≡ (k, v) ∷ rest
    → later (option_map string_bytes (get_by_text m key)) (last_value (map pair_text left) key) ≡ all
    → later (option_map string_bytes (get_by_text n key)) (last_value (map pair_text rest) key) ≡ all
unfolding last_value
put_more m n k v left rest key all updates whole before =
    let after = btree_map_updates_text (string_bytes k) m n (Some v) updates key in
    put_one (bytes_eq (string_bytes k) key) (get_by_text m key) (get_by_text n key) (last_value (map pair_text rest) key) v after
    ∙ rw whole at before

pub put_all : {A B : Type 0} (m : BTreeMap (String A) (String B)) (left : List (String A × String B)) (key : List ℕ) (all : Option (List ℕ)) → left ≡ []
    → later (option_map string_bytes (get_by_text m key)) (last_value (map pair_text left) key) ≡ all
    → option_map string_bytes (get_by_text m key) ≡ all
unfolding last_value
put_all m left key all whole before = rw whole at before

map_cond : {A B : Type 0} (f : A → B) (b : Bool) (x y : Option A) → option_map f (cond b x y) ≡ cond b (option_map f x) (option_map f y)
map_cond f true x y = refl
map_cond f false x y = refl

finds_text : {A B : Type 0} (key : List ℕ) (es : List (String A × String B))
    → option_map string_bytes (lookup (is_at (λ k. slice_cmp nat_cmp key (string_bytes k))) es) ≡ lookup (bytes_eq key) (map pair_text es)
finds_text key [] = refl
finds_text key (e ∷ es) =
    rw (is_eq-slice_cmp key (string_bytes e.0))
    (map_cond string_bytes (bytes_eq key (string_bytes e.0)) (Some e.1) (lookup (is_at (λ k. slice_cmp nat_cmp key (string_bytes k))) es)
    ∙ ap (λ (x : Option (List ℕ)). cond (bytes_eq key (string_bytes e.0)) (Some (string_bytes e.1)) x) (finds_text key es))

below_texts : {A B : Type 0} (k : String A) (es : List (String A × String B)) → AllByRecursion (λ y. string_cmp k y ≡ Less) (keys_of es)
    → AllByRecursion (λ y. slice_cmp nat_cmp (string_bytes k) y ≡ Less) (keys_of (map pair_text es))
below_texts k [] h = tt
below_texts k (e ∷ es) h = (h.0, below_texts k es h.1)

rising_texts : {A B : Type 0} (es : List (String A × String B)) → IsStrictlySortedBy string_cmp (keys_of es)
    → IsStrictlySortedBy (slice_cmp nat_cmp) (keys_of (map pair_text es))
unfolding IsStrictlySortedBy
rising_texts [] h = tt
rising_texts (e ∷ es) h = (below_texts e.0 es h.0, rising_texts es h.1)

pub is_table : (c : Configuration) → IsOrdered string_cmp c.map → IsTable c
is_table c ordered = record { rising = rising_texts c.map.entries ordered; finds = λ key. finds_text key c.map.entries }

-- texts in another order are the same texts
pub reordered : {A : Type 0} (all : List (List ℕ)) (before moved after : List (String A)) → map string_bytes before ≡ all → IsPermutation before moved → after ≡ moved
    → IsPermutation all (map string_bytes after)
reordered all before moved after e p same =
    rw same (subst (λ (x : List (List ℕ)). IsPermutation x (map string_bytes moved)) e (IsPermutation-map string_bytes before moved p))

-- ---- what a key says of the mounts

pub mount_link : (link fallback key value rest path url : List ℕ) → key ≡ link ++ rest → path ≡ rest → url ≡ value
    → Some (Some path, url) ≡ mount_by link fallback (key, value)
mount_link link fallback key value rest path url e same told =
    let back : drop (length link) key ≡ rest = ap (drop (length link)) e ∙ drop_at link rest (length link) refl in
    rw (starts key link rest e) (rw (back, same, told) refl)

pub mount_fallback : (link fallback key value url : List ℕ) → ((rest : List ℕ) → key ≢ link ++ rest) → bytes_eq key fallback ≡ true → url ≡ value
    → let none : Option (List ℕ) = None in Some (none, url) ≡ mount_by link fallback (key, value)
mount_fallback link fallback key value url apart same told = rw (starts_not key link apart) (rw (same, told) refl)

pub mount_none : (link fallback key value : List ℕ) → ((rest : List ℕ) → key ≢ link ++ rest) → bytes_eq key fallback ≡ false
    → None ≡ mount_by link fallback (key, value)
mount_none link fallback key value apart other = rw (starts_not key link apart) (rw other refl)

-- one mount more, and the entries that are left
pub mount_more : {A B : Type 0} (f : (List ℕ × List ℕ) → Option (Option (List ℕ) × List ℕ)) (out : List (Option (String A) × String A)) (mount : Option (String A) × String A)
    (left rest : List (String B × String B)) (entry : String B × String B) (all : List (Option (List ℕ) × List ℕ))
    → left ≡ entry ∷ rest → Some (mount_text mount) ≡ f (pair_text entry)
    → map mount_text out ++ filter_map f (map pair_text left) ≡ all
    → map mount_text (out ++ mount ∷ []) ++ filter_map f (map pair_text rest) ≡ all
mount_more {B = B} f out mount left rest entry all whole found before =
    rw (map_push mount_text out mount)
    (append_assoc (map mount_text out) (mount_text mount ∷ []) (filter_map f (map pair_text rest))
    ∙ sym (ap (λ (x : List (String B × String B)). map mount_text out ++ filter_map f (map pair_text x)) whole
    ∙ rw (sym found) refl)
    ∙ before)

pub mount_less : {A B : Type 0} (f : (List ℕ × List ℕ) → Option (Option (List ℕ) × List ℕ)) (out : List (Option (String A) × String A))
    (left rest : List (String B × String B)) (entry : String B × String B) (all : List (Option (List ℕ) × List ℕ))
    → left ≡ entry ∷ rest → None ≡ f (pair_text entry)
    → map mount_text out ++ filter_map f (map pair_text left) ≡ all
    → map mount_text out ++ filter_map f (map pair_text rest) ≡ all
mount_less {B = B} f out left rest entry all whole none before =
    sym (ap (λ (x : List (String B × String B)). map mount_text out ++ filter_map f (map pair_text x)) whole ∙ rw (sym none) refl) ∙ before

pub mount_end : {A B : Type 0} (f : (List ℕ × List ℕ) → Option (Option (List ℕ) × List ℕ)) (out : List (Option (String A) × String A))
    (left : List (String B × String B)) (all : List (Option (List ℕ) × List ℕ))
    → left ≡ [] → map mount_text out ++ filter_map f (map pair_text left) ≡ all → map mount_text out ≡ all
mount_end {B = B} f out left all whole before =
    sym (append-nil (map mount_text out)) ∙ sym (ap (λ (x : List (String B × String B)). map mount_text out ++ filter_map f (map pair_text x)) whole) ∙ before

-- clones of texts are the same texts
pub cloned : {A B : Type 0} (es fs : List (String A × String B))
    → AllZip (λ p q. (string_bytes q.0 ≡ string_bytes p.0) × (string_bytes q.1 ≡ string_bytes p.1)) es fs → map pair_text fs ≡ map pair_text es
cloned [] [] h = refl
cloned [] (f ∷ fs) h = absurd h
cloned (e ∷ es) [] h = absurd h
cloned (e ∷ es) (f ∷ fs) h = let whole = cloned es fs h.1 in let key = h.0.0 in let value = h.0.1 in rw (key, value, whole) refl

-- settings with the same entries have the same values
pub same_values : (c d : Configuration) → entries_of c ≡ entries_of d → (key : List ℕ) → setting c key ≡ setting d key
same_values c d e key = finds_text key c.map.entries ∙ ap (lookup (bytes_eq key)) e ∙ sym (finds_text key d.map.entries)
