-- The names in a directory, as a namenode tells them, are the directory's walk without what lies below.
use Rattle.std.proofs.Common.{◌≡◌, ◌⊎◌, inl, inr, ℕ, zero, suc, ◌<◌, Bool, true, false, cond, not, ◌&&◌, ◌||◌, List, [], ◌∷◌, ◌++◌, length, take, drop, map, Contains, Option, Some, None, IsSome, is_some, refl, sym, ◌∙◌, ap, subst, arith, take-append-drop}
use Rattle.std.proofs.Math.Seq.{drop-append_seam, take-append_seam}
use Rattle.std.proofs.lemmas.Bool.{false≢true}
use Rattle.std.proofs.lemmas.List.Elements.{All-contains}
use Rattle.std.proofs.lemmas.Slice.Eq.{bytes_eq-Decides}
use Rattle.std.specs.List.{All, filter, list_any}
use Rattle.std.specs.Str.{bytes_eq}
use Rattle.hdfs_cluster.specs.Files.{IsState, State}
use Rattle.hdfs_cluster.specs.Names.{AreNamesBehind, IsNameIn, Rises, front_of, is_before}
use Rattle.hdfs_cluster.specs.Picture.{Picture}
use Rattle.hdfs_cluster.specs.Stores.{AgreesAt}
use Rattle.hdfs_names.specs.Paths.{root, is_slash}
use Rattle.hdfs_model.specs.Walks.{comes_before, in_order, is_listed, lies_in, rest_in, walk}
use Rattle.hdfs_model.proofs.Deleted.{here, there}
use Rattle.hdfs_model.proofs.Ordered.{In, IsInOrder, order_in, order_rises, order_there, rises_unique, same_first}
use Rattle.hdfs_model.proofs.Walking.{filter_in, filter_there, lies_some, listed_lies, names_before}
use Rattle.hdfs_model.proofs.Within.{in_from_contains}
use Rattle.hdfs_model.proofs.Both.{and_true, both_true}

pub contains_from_in : (x : List ℕ) (xs : List (List ℕ)) → In x xs → Contains xs x
contains_from_in x [] is = absurd is
contains_from_in x (y ∷ ys) (inl same) = (0, omega arith, same)
contains_from_in x (y ∷ ys) (inr later) = (let h = contains_from_in x ys later in (suc h.0, omega (arith, h.1), h.2))

-- paths that begin alike come as their ends do
pub common_front : (front a b : List ℕ) → comes_before (front ++ a) (front ++ b) ≡ comes_before a b
common_front [] a b = refl
common_front (c ∷ front) a b = same_first c (front ++ a) (front ++ b) ∙ common_front front a b

-- nothing comes before the empty text
behind_some : (a b : List ℕ) → is_before a b ≡ true → bytes_eq b [] ≡ false
behind_some [] [] is = absurd (false≢true is)
behind_some (c ∷ a) [] is = absurd (false≢true is)
behind_some a (d ∷ b) is = refl

-- a member of a list that rises isn't the empty text
rises_some : (from : List ℕ) (xs : List (List ℕ)) → Rises from xs → (x : List ℕ) → In x xs → bytes_eq x [] ≡ false
rises_some from [] rises x is = absurd is
rises_some from (y ∷ ys) rises x (inl same) = subst (λ (z : List ℕ). bytes_eq z [] ≡ false) same (behind_some from y rises.0)
rises_some from (y ∷ ys) rises x (inr later) = rises_some y ys rises.1 x later

abbrev pub IsPlain : List ℕ → Type 0
IsPlain name = list_any is_slash name ≡ false

-- names that rise, put behind a front, are in the order of a walk
in_front : (front from : List ℕ) (xs : List (List ℕ)) → IsPlain from → ((x : List ℕ) → In x xs → IsPlain x) → Rises from xs → IsInOrder (front ++ from) (map (λ x. front ++ x) xs)
in_front front from [] plain each rises = tt
in_front front from (x ∷ xs) plain each rises = (
  common_front front from x ∙ names_before from x plain (each x (inl refl)) ∙ rises.0,
  in_front front x xs (each x (inl refl)) (λ y is. each y (inr is)) rises.1,
)

pub first_some : (front x : List ℕ) → bytes_eq x [] ≡ false → comes_before [] (front ++ x) ≡ true
first_some [] [] is = absurd (false≢true (sym is))
first_some [] (c ∷ x) is = refl
first_some (c ∷ front) x is = refl

in_map : (front x : List ℕ) (xs : List (List ℕ)) → In x xs → In (front ++ x) (map (λ y. front ++ y) xs)
in_map front x [] is = absurd is
in_map front x (y ∷ ys) (inl same) = inl (ap (λ (z : List ℕ). front ++ z) same)
in_map front x (y ∷ ys) (inr later) = inr (in_map front x ys later)

from_map : (front path : List ℕ) (xs : List (List ℕ)) → In path (map (λ y. front ++ y) xs) → (x : List ℕ) × In x xs × (front ++ x ≡ path)
from_map front path [] is = absurd is
from_map front path (y ∷ ys) (inl same) = (y, inl refl, same)
from_map front path (y ∷ ys) (inr later) = (let f = from_map front path ys later in (f.0, inr f.1, f.2))

-- the path of a name in a directory is listed with it
pub name_listed : (dir name : List ℕ) → IsPlain name → bytes_eq name [] ≡ false → is_listed false dir (front_of dir ++ name) ≡ true
name_listed dir name plain some =
    let rest : rest_in dir (front_of dir ++ name) ≡ name = drop-append_seam (front_of dir) name in
    and_true (lies_in dir (front_of dir ++ name)) (not (list_any is_slash (rest_in dir (front_of dir ++ name))))
    (and_true (bytes_eq (front_of dir) (take (length (front_of dir)) (front_of dir ++ name))) (not (bytes_eq (rest_in dir (front_of dir ++ name)) []))
    ((bytes_eq-Decides (front_of dir) (take (length (front_of dir)) (front_of dir ++ name))).1 (sym (take-append_seam (front_of dir) name)))
    (ap (λ (r : List ℕ). not (bytes_eq r [])) rest ∙ ap not some))
    (ap (λ (r : List ℕ). not (list_any is_slash r)) rest ∙ ap not plain)

pub not_true : (b : Bool) → not b ≡ true → b ≡ false
not_true true is = absurd (false≢true is)
not_true false is = refl

some_before : (x : List ℕ) → bytes_eq x [] ≡ false → is_before [] x ≡ true
some_before [] is = absurd (false≢true (sym is))
some_before (c ∷ x) is = refl

-- what is listed with a directory is its front and a name
listed_name : (dir path : List ℕ) → is_listed false dir path ≡ true → (path ≡ front_of dir ++ rest_in dir path) × IsPlain (rest_in dir path) × (bytes_eq (rest_in dir path) [] ≡ false)
listed_name dir path is =
    let parts = both_true (lies_in dir path) (not (list_any is_slash (rest_in dir path))) is in
    let lies = both_true (bytes_eq (front_of dir) (take (length (front_of dir)) path)) (not (bytes_eq (rest_in dir path) [])) parts.0 in (
      sym (take-append-drop (length (front_of dir)) path)
          ∙ ap (λ (l : List ℕ). l ++ rest_in dir path) (sym ((bytes_eq-Decides (front_of dir) (take (length (front_of dir)) path)).0 lies.0)),
      not_true (list_any is_slash (rest_in dir path)) parts.1,
      not_true (bytes_eq (rest_in dir path) []) lies.1,
    )

module _ (p : Picture) (state : State) (is_state : IsState state) (agrees : (r : List ℕ) → AgreesAt p (p.names r) (state.files r)) (dir : List ℕ) (found : List (List ℕ))
    (are : AreNamesBehind p.names (front_of dir) [] found) where
  abbrev test : List ℕ → Bool
  test path = is_listed false dir path && is_some (state.files path)

  each : (name : List ℕ) → In name found → IsNameIn p.names (front_of dir) name
  each name is = All-contains (IsNameIn p.names (front_of dir)) found name are.there (contains_from_in name found is)

  to : (path : List ℕ) → In path (in_order (filter test state.paths)) → In path (map (λ name. front_of dir ++ name) found)
  to path is =
      let kept = both_true (is_listed false dir path) (is_some (state.files path)) (filter_in test state.paths path (order_in (filter test state.paths) path is)).1 in
      let name = listed_name dir path kept.0 in
      let stands = there p (p.names path) (state.files path) (agrees path) kept.1 in
      subst (λ (r : List ℕ). In r (map (λ name. front_of dir ++ name) found)) (sym name.0)
      (in_map (front_of dir) (rest_in dir path) found (in_from_contains (rest_in dir path) found
      (are.all (rest_in dir path) (record { plain = name.1; there = subst (λ (r : List ℕ). IsSome (p.names r)) name.0 stands }) (some_before (rest_in dir path) name.2))))

  back : (path : List ℕ) → In path (map (λ name. front_of dir ++ name) found) → In path (in_order (filter test state.paths))
  back path is =
      let from = from_map (front_of dir) path found is in
      let named = each from.0 from.1 in
      let stands = here p (p.names (front_of dir ++ from.0)) (state.files (front_of dir ++ from.0)) (agrees (front_of dir ++ from.0)) named.there in
      subst (λ (r : List ℕ). In r (in_order (filter test state.paths))) from.2
      (order_there (filter test state.paths) (front_of dir ++ from.0)
      (filter_there test state.paths (front_of dir ++ from.0) (in_from_contains (front_of dir ++ from.0) state.paths (is_state.listed (front_of dir ++ from.0) stands))
      (and_true (is_listed false dir (front_of dir ++ from.0)) (is_some (state.files (front_of dir ++ from.0))) (name_listed dir from.0 named.plain (rises_some [] found are.rising from.0 from.1)) stands)))

  ordered : (xs : List (List ℕ)) → Rises [] xs → ((x : List ℕ) → In x xs → IsPlain x) → IsInOrder [] (map (λ name. front_of dir ++ name) xs)
  ordered [] rises plain = tt
  ordered (x ∷ xs) rises plain =
      (first_some (front_of dir) x (behind_some [] x rises.0), in_front (front_of dir) x xs (plain x (inl refl)) (λ y is. plain y (inr is)) rises.1)

  -- the names that are told, with the directory before each, are its walk
  pub names_walk : walk state.files state.paths dir false ≡ map (λ name. front_of dir ++ name) found
  names_walk =
      rises_unique [] (in_order (filter test state.paths)) (map (λ name. front_of dir ++ name) found)
      (order_rises (filter test state.paths) (λ path is. lies_some dir path (listed_lies false dir path (both_true (is_listed false dir path) (is_some (state.files path)) (filter_in test state.paths path is).1).0)))
      (ordered found are.rising (λ name is. (each name is).plain)) to back
