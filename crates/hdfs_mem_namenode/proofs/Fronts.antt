-- What stands above a path is shorter, and keeps the path rule where the path does.
use Rattle.std.proofs.Common.{◌≡◌, ◌<◌, ◌+◌, ℕ, Bool, true, false, cond, ◌&&◌, ◌||◌, List, [], ◌∷◌, ◌++◌, length, refl, sym, ◌∙◌, ap, subst, append_assoc, length-append, arith}
use Rattle.std.proofs.lemmas.Bool.{false≢true}
use Rattle.std.proofs.lemmas.List.Elements.{All-cons, All-nil, All-head, All-tail, All-contains, Contains-push}
use Rattle.std.proofs.lemmas.List.Folds.{list_all-append}
use Rattle.std.proofs.lemmas.Slice.Eq.{bytes_eq-Decides}
use Rattle.std.specs.List.{All, list_all, list_any, slice_split, onto_first}
use Rattle.std.specs.Str.{bytes_eq}
use Rattle.hdfs_cluster.proofs.Loads.{and_parts}
use Rattle.hdfs_names.specs.Paths.{is_path, is_slash, is_component, above_from, ancestors}

-- the parts of a list that goes on behind a slash
parts_step : (b : Bool) (x : ℕ) (xs : List ℕ) (d : ℕ) (ys : List ℕ) → is_slash x ≡ b
    → (first : List ℕ) × (rest : List (List ℕ)) × (slice_split is_slash xs ≡ first ∷ rest) × (slice_split is_slash (xs ++ d ∷ ys) ≡ first ∷ (rest ++ slice_split is_slash ys))
    → (first : List ℕ) × (rest : List (List ℕ)) × (slice_split is_slash (x ∷ xs) ≡ first ∷ rest) × (slice_split is_slash (x ∷ xs ++ d ∷ ys) ≡ first ∷ (rest ++ slice_split is_slash ys))
parts_step true x xs d ys is h = (
  [],
  h.0 ∷ h.1,
  ap (λ (b : Bool). cond b ([] ∷ slice_split is_slash xs) (onto_first x (slice_split is_slash xs))) is ∙ ap (λ (l : List (List ℕ)). [] ∷ l) h.2,
  ap (λ (b : Bool). cond b ([] ∷ slice_split is_slash (xs ++ d ∷ ys)) (onto_first x (slice_split is_slash (xs ++ d ∷ ys)))) is ∙ ap (λ (l : List (List ℕ)). [] ∷ l) h.3,
)
parts_step false x xs d ys is h = (
  x ∷ h.0,
  h.1,
  ap (λ (b : Bool). cond b ([] ∷ slice_split is_slash xs) (onto_first x (slice_split is_slash xs))) is ∙ ap (onto_first x) h.2,
  ap (λ (b : Bool). cond b ([] ∷ slice_split is_slash (xs ++ d ∷ ys)) (onto_first x (slice_split is_slash (xs ++ d ∷ ys)))) is ∙ ap (onto_first x) h.3,
)

parts_at : (xs : List ℕ) (d : ℕ) (ys : List ℕ) → is_slash d ≡ true
    → (first : List ℕ) × (rest : List (List ℕ)) × (slice_split is_slash xs ≡ first ∷ rest) × (slice_split is_slash (xs ++ d ∷ ys) ≡ first ∷ (rest ++ slice_split is_slash ys))
parts_at [] d ys is = ([], [], refl, ap (λ (b : Bool). cond b ([] ∷ slice_split is_slash ys) (onto_first d (slice_split is_slash ys))) is)
parts_at (x ∷ xs) d ys is = parts_step (is_slash x) x xs d ys refl (parts_at xs d ys is)

front_parts : (xs : List ℕ) (d : ℕ) (ys : List ℕ) → is_slash d ≡ true → list_all is_component (slice_split is_slash (xs ++ d ∷ ys)) ≡ true → list_all is_component (slice_split is_slash xs) ≡ true
front_parts xs d ys is all =
    let h = parts_at xs d ys is in
    ap (list_all is_component) h.2 ∙ (and_parts (list_all is_component (h.0 ∷ h.1)) (list_all is_component (slice_split is_slash ys)) (sym (list_all-append is_component (h.0 ∷ h.1) (slice_split is_slash ys)) ∙ sym (ap (list_all is_component) h.3) ∙ all)).0

or_right : (a b : Bool) → b ≡ true → (a || b) ≡ true
or_right true b is = refl
or_right false b is = is

path_of : (c : ℕ) (xs : List ℕ) → is_slash c ≡ true → list_all is_component (slice_split is_slash xs) ≡ true → is_path (c ∷ xs) ≡ true
path_of c xs slash all = ap (λ (b : Bool). b && (bytes_eq xs [] || list_all is_component (slice_split is_slash xs))) slash ∙ or_right (bytes_eq xs []) (list_all is_component (slice_split is_slash xs)) all

paths_above : (c : ℕ) (xs rest : List ℕ) → is_slash c ≡ true → list_all is_component (slice_split is_slash (xs ++ rest)) ≡ true → All (λ a. is_path a ≡ true) (above_from (c ∷ xs) rest)
paths_above c xs [] slash all = All-nil (λ a. is_path a ≡ true)
paths_above c xs (d ∷ rest) slash all =
    by_slash (is_slash d) refl (paths_above c (xs ++ d ∷ []) rest slash (ap (λ (l : List ℕ). list_all is_component (slice_split is_slash l)) (append_assoc xs (d ∷ []) rest) ∙ all))
  where
    by_slash : (b : Bool) → is_slash d ≡ b → All (λ a. is_path a ≡ true) (above_from (c ∷ xs ++ d ∷ []) rest)
        → All (λ a. is_path a ≡ true) (cond b ((c ∷ xs) ∷ above_from (c ∷ xs ++ d ∷ []) rest) (above_from (c ∷ xs ++ d ∷ []) rest))
    by_slash true is tail = All-cons (λ a. is_path a ≡ true) (c ∷ xs) _ (path_of c xs slash (front_parts xs d rest is all)) tail
    by_slash false is tail = tail

components_or_none : (rest : List ℕ) → (bytes_eq rest [] || list_all is_component (slice_split is_slash rest)) ≡ true → (rest ≡ [] → ⊥) → list_all is_component (slice_split is_slash rest) ≡ true
components_or_none rest is some = by_test (bytes_eq rest []) (bytes_eq-Decides rest []).0 is
  where
    by_test : (b : Bool) → (b ≡ true → rest ≡ []) → (b || list_all is_component (slice_split is_slash rest)) ≡ true → list_all is_component (slice_split is_slash rest) ≡ true
    by_test true none is = absurd (some (none refl))
    by_test false none is = is

all_paths : (path : List ℕ) → is_path path ≡ true → All (λ a. is_path a ≡ true) (ancestors path)
all_paths [] is = absurd (false≢true is)
all_paths (c ∷ []) is = All-nil (λ a. is_path a ≡ true)
all_paths (c ∷ d ∷ rest) is =
    let parts = and_parts (is_slash c) (bytes_eq (d ∷ rest) [] || list_all is_component (slice_split is_slash (d ∷ rest))) is in
    paths_above c [] (d ∷ rest) parts.0 (components_or_none (d ∷ rest) parts.1 (λ none. cc))

-- the directory in which a path stands keeps the path rule
pub front_is_path : (path front : List ℕ) → ancestors path ≡ ancestors front ++ front ∷ [] → is_path path ≡ true → is_path front ≡ true
front_is_path path front above is =
    All-contains (λ a. is_path a ≡ true) (ancestors front ++ front ∷ []) front (subst (All (λ a. is_path a ≡ true)) above (all_paths path is)) (Contains-push (ancestors front) front)

shorter_above : (before rest : List ℕ) → All (λ a. length a < length before + length rest) (above_from before rest)
shorter_above before [] = All-nil (λ a. length a < length before + length {A = ℕ} [])
shorter_above before (d ∷ rest) =
    by_slash (is_slash d) (subst (λ (n : ℕ). All (λ a. length a < n) (above_from (before ++ d ∷ []) rest)) (omega (arith, length-append before (d ∷ []))) (shorter_above (before ++ d ∷ []) rest))
  where
    by_slash : (b : Bool) → All (λ a. length a < length before + length (d ∷ rest)) (above_from (before ++ d ∷ []) rest)
        → All (λ a. length a < length before + length (d ∷ rest)) (cond b (before ∷ above_from (before ++ d ∷ []) rest) (above_from (before ++ d ∷ []) rest))
    by_slash true tail = All-cons (λ a. length a < length before + length (d ∷ rest)) before _ (omega arith) tail
    by_slash false tail = tail

all_shorter : (path : List ℕ) → All (λ a. length a < length path) (ancestors path)
all_shorter [] = All-nil (λ a. length a < length {A = ℕ} [])
all_shorter (c ∷ rest) = subst (λ (n : ℕ). All (λ a. length a < n) (above_from (c ∷ []) rest)) (omega arith) (shorter_above (c ∷ []) rest)

none_equal : (path : List ℕ) (paths : List (List ℕ)) → All (λ a. length a < length path) paths → list_any (bytes_eq path) paths ≡ false
none_equal path [] all = refl
none_equal path (a ∷ paths) all =
    ap (λ (b : Bool). b || list_any (bytes_eq path) paths) (differs (bytes_eq path a) (bytes_eq-Decides path a).0) ∙ none_equal path paths (All-tail (λ a. length a < length path) a paths all)
  where
    differs : (b : Bool) → (b ≡ true → path ≡ a) → b ≡ false
    differs true same = absurd (let is : path ≡ a = same refl in omega (arith, ap length is, All-head (λ a. length a < length path) a paths all))
    differs false same = refl

-- no path stands above itself
pub not_above_itself : (path : List ℕ) → list_any (bytes_eq path) (ancestors path) ≡ false
not_above_itself path = none_equal path (ancestors path) (all_shorter path)
