-- The walk of a directory with all that lies below it: each entry, and right behind it the walk of what it is.
use Rattle.std.proofs.Common.{◌≡◌, ◌⊎◌, inl, inr, ⊎_elim, ℕ, zero, suc, ◌+◌, ◌<◌, ◌≤◌, Bool, true, false, cond, not, ◌&&◌, ◌||◌, eqb, ltb, List, [], ◌∷◌, ◌++◌, length, take, drop, Option, Some, None, IsSome, is_some, option_map, refl, sym, ◌∙◌, ap, subst, arith, append_assoc, take-append-drop}
use Rattle.std.proofs.Math.Seq.{drop-append_seam, take-append_seam}
use Rattle.std.proofs.lemmas.Bool.{false≢true}
use Rattle.std.proofs.lemmas.Bool.Decides.{nat_tests}
use Rattle.std.proofs.lemmas.List.{append-nil, length-append}
use Rattle.std.proofs.lemmas.List.Elements.{All-contains, Contains-append_right}
use Rattle.std.proofs.lemmas.List.Folds.{list_all-append}
use Rattle.std.proofs.lemmas.Slice.Eq.{bytes_eq-Decides}
use Rattle.std.specs.List.{All, filter, list_all, list_any, slice_split}
use Rattle.std.specs.Str.{bytes_eq}
use Rattle.hdfs_cluster.specs.Files.{Directory, IsState, Node, State, kind_of, kinds_of}
use Rattle.hdfs_cluster.specs.Names.{front_of}
use Rattle.hdfs_names.specs.Paths.{root, is_component, is_path, is_slash, above_from, ancestors}
use Rattle.hdfs_model.specs.Walks.{comes_before, in_order, is_listed, lies_in, rank, rest_in, walk}
use Rattle.hdfs_model.proofs.Listed.{IsPlain, common_front, name_listed, not_true}
use Rattle.hdfs_model.proofs.Deleted.{some_kind}
use Rattle.hdfs_model.proofs.Ordered.{In, IsInOrder, lower, order_in, order_rises, order_there, rises_unique}
use Rattle.hdfs_model.proofs.Planted.{split_append}
use Rattle.hdfs_model.proofs.Walking.{any_from_in, filter_in, filter_there, lies_some, rank_other}
use Rattle.hdfs_model.proofs.Within.{ancestors_below, in_from_contains}
use Rattle.hdfs_model.proofs.Both.{and_true, both_true}

-- these are components, with slashes between them
abbrev AreComponents : List ℕ → Type 0
AreComponents rest = list_all is_component (slice_split is_slash rest) ≡ true

behind_slash : (xs ys : List ℕ) → AreComponents (xs ++ 47 ∷ ys) → AreComponents ys
behind_slash xs ys are =
    (both_true (list_all is_component (slice_split is_slash xs)) (list_all is_component (slice_split is_slash ys))
    (sym (list_all-append is_component (slice_split is_slash xs) (slice_split is_slash ys)) ∙ ap (list_all is_component) (sym (split_append is_slash xs 47 ys refl)) ∙ are)).1

path_components : (c : ℕ) (rest : List ℕ) → is_path (c ∷ rest) ≡ true → bytes_eq rest [] ≡ false → AreComponents rest
path_components c rest named some =
    by (bytes_eq rest []) some (both_true (is_slash c) (bytes_eq rest [] || list_all is_component (slice_split is_slash rest)) named).1
  where
    by : (b : Bool) → b ≡ false → (b || list_all is_component (slice_split is_slash rest)) ≡ true → AreComponents rest
    by true off is = absurd (false≢true (sym off))
    by false off is = is

some_components : (rest : List ℕ) → AreComponents rest → bytes_eq rest [] ≡ false
some_components [] are = absurd (false≢true are)
some_components (c ∷ rest) are = refl

no_slash_first : (rest : List ℕ) → AreComponents (47 ∷ rest) → ⊥
no_slash_first rest are = false≢true are

some_behind : (xs ys : List ℕ) (c : ℕ) → bytes_eq (xs ++ c ∷ ys) [] ≡ false
some_behind [] ys c = refl
some_behind (x ∷ xs) ys c = refl

-- a name, and what follows its slash, if one does
abbrev HasName : List ℕ → Type 0
HasName rest = IsPlain rest ⊎ ((name : List ℕ) × (more : List ℕ) × IsPlain name × (rest ≡ name ++ 47 ∷ more))

has_name : (rest : List ℕ) → HasName rest
has_name [] = inl refl
has_name (c ∷ rest) = by (is_slash c) refl (has_name rest)
  where
    slash : is_slash c ≡ true → c ≡ 47
    slash is = grind (arith, nat_tests, is)

    by : (b : Bool) → is_slash c ≡ b → HasName rest → HasName (c ∷ rest)
    by true is later = inr ([], rest, refl, ap (λ (x : ℕ). x ∷ rest) (slash is))
    by false off (inl plain) = inl (ap (λ (b : Bool). b || list_any is_slash rest) off ∙ plain)
    by false off (inr (name, more, plain, is)) = inr (c ∷ name, more, ap (λ (b : Bool). b || list_any is_slash name) off ∙ plain, ap (λ (l : List ℕ). c ∷ l) is)

-- what lies in a directory begins as the paths in it do, and goes on
lies_cut : (dir path : List ℕ) → lies_in dir path ≡ true → (path ≡ front_of dir ++ rest_in dir path) × (bytes_eq (rest_in dir path) [] ≡ false)
lies_cut dir path is =
    let lies = both_true (bytes_eq (front_of dir) (take (length (front_of dir)) path)) (not (bytes_eq (rest_in dir path) [])) is in (
      sym (take-append-drop (length (front_of dir)) path)
          ∙ ap (λ (l : List ℕ). l ++ rest_in dir path) (sym ((bytes_eq-Decides (front_of dir) (take (length (front_of dir)) path)).0 lies.0)),
      not_true (bytes_eq (rest_in dir path) []) lies.1,
    )

lies_made : (dir rest : List ℕ) → bytes_eq rest [] ≡ false → lies_in dir (front_of dir ++ rest) ≡ true
lies_made dir rest some =
    and_true (bytes_eq (front_of dir) (take (length (front_of dir)) (front_of dir ++ rest))) (not (bytes_eq (rest_in dir (front_of dir ++ rest)) []))
    ((bytes_eq-Decides (front_of dir) (take (length (front_of dir)) (front_of dir ++ rest))).1 (sym (take-append_seam (front_of dir) rest)))
    (ap (λ (r : List ℕ). not (bytes_eq r [])) (drop-append_seam (front_of dir) rest) ∙ ap not some)

-- what a directory's paths begin with isn't empty
front_some : (dir : List ℕ) → (c : ℕ) × (cs : List ℕ) × (front_of dir ≡ c ∷ cs)
front_some dir = by (bytes_eq root dir) dir
  where
    by : (b : Bool) (d : List ℕ) → (c : ℕ) × (cs : List ℕ) × (cond b root (d ++ 47 ∷ []) ≡ c ∷ cs)
    by true d = (47, [], refl)
    by false [] = (47, [], refl)
    by false (c ∷ d) = (c, d ++ 47 ∷ [], refl)

-- and what stands in one isn't the root, so what lies in that begins with it and a slash
child_front : (dir name : List ℕ) → bytes_eq name [] ≡ false → front_of (front_of dir ++ name) ≡ (front_of dir ++ name) ++ 47 ∷ []
child_front dir name some = by (bytes_eq root (front_of dir ++ name)) refl
  where
    name_length : (n : List ℕ) → bytes_eq n [] ≡ false → 0 < length n
    name_length [] is = absurd (false≢true (sym is))
    name_length (c ∷ n) is = omega arith

    by : (b : Bool) → bytes_eq root (front_of dir ++ name) ≡ b → cond b root ((front_of dir ++ name) ++ 47 ∷ []) ≡ (front_of dir ++ name) ++ 47 ∷ []
    by true is =
        (let front = front_some dir in
        let n = ap length ((bytes_eq-Decides root (front_of dir ++ name)).0 is) in
        absurd (omega (arith, n, length-append (front_of dir) name, ap length front.2, name_length name some)))
    by false is = refl

-- what follows a directory's front in a path are components
rest_components : (dir rest : List ℕ) → is_path (front_of dir ++ rest) ≡ true → bytes_eq rest [] ≡ false → AreComponents rest
rest_components dir rest named some = by (bytes_eq root dir) dir named
  where
    by : (b : Bool) (d : List ℕ) → is_path (cond b root (d ++ 47 ∷ []) ++ rest) ≡ true → AreComponents rest
    by true d named = path_components 47 rest named some
    by false [] named = path_components 47 rest named some
    by false (c ∷ d) named =
        (let moved : is_path (c ∷ d ++ 47 ∷ rest) ≡ true = subst (λ (l : List ℕ). is_path (c ∷ l) ≡ true) (append_assoc d (47 ∷ []) rest) named in
        behind_slash d rest (path_components c (d ++ 47 ∷ rest) moved (some_behind d rest 47)))

-- what lies below a name comes before a later name
below_before : (name other more : List ℕ) → IsPlain name → IsPlain other → comes_before name other ≡ true → comes_before (name ++ 47 ∷ more) other ≡ true
below_before name [] more plain plain' is = absurd (no_end name is)
  where
    no_end : (a : List ℕ) → comes_before a [] ≡ true → ⊥
    no_end [] is = false≢true is
    no_end (c ∷ a) is = false≢true is
below_before [] (d ∷ other) more plain plain' is = lower 47 d more other (ap (ltb 0) (rank_other d (first (is_slash d) (list_any is_slash other) plain')) ∙ above d)
  where
    first : (a b : Bool) → (a || b) ≡ false → a ≡ false
    first true b is = absurd (false≢true (sym is))
    first false b is = refl

    above : (x : ℕ) → ltb 0 (suc x) ≡ true
    above x = grind (arith, nat_tests)
below_before (c ∷ name) (d ∷ other) more plain plain' is =
    by (ltb (rank c) (rank d)) (eqb (rank c) (rank d)) is (below_before name other more (second (is_slash c) (list_any is_slash name) plain) (second (is_slash d) (list_any is_slash other) plain'))
  where
    second : (a b : Bool) → (a || b) ≡ false → b ≡ false
    second true b is = absurd (false≢true (sym is))
    second false b is = is

    by : (l e : Bool) → cond l true (e && comes_before name other) ≡ true → (comes_before name other ≡ true → comes_before (name ++ 47 ∷ more) other ≡ true)
        → cond l true (e && comes_before (name ++ 47 ∷ more) other) ≡ true
    by true e is rest = refl
    by false true is rest = rest is
    by false false is rest = absurd (false≢true is)

in_append : (x : List ℕ) (xs ys : List (List ℕ)) → In x xs ⊎ In x ys → In x (xs ++ ys)
in_append x [] ys (inl is) = absurd is
in_append x [] ys (inr is) = is
in_append x (z ∷ zs) ys (inl (inl same)) = inl same
in_append x (z ∷ zs) ys (inl (inr later)) = inr (in_append x zs ys (inl later))
in_append x (z ∷ zs) ys (inr is) = inr (in_append x zs ys (inr is))

from_append : (x : List ℕ) (xs ys : List (List ℕ)) → In x (xs ++ ys) → In x xs ⊎ In x ys
from_append x [] ys is = inr is
from_append x (z ∷ zs) ys (inl same) = inl (inl same)
from_append x (z ∷ zs) ys (inr later) = ⊎_elim (λ (a : In x zs). inl (inr a)) (λ b. inr b) (from_append x zs ys later)

-- one list in order behind another
append_ordered : (from : List ℕ) (xs ys : List (List ℕ)) → IsInOrder from xs → IsInOrder from ys → ((x : List ℕ) → In x xs → IsInOrder x ys) → IsInOrder from (xs ++ ys)
append_ordered from [] ys f g each = g
append_ordered from (x ∷ xs) ys f g each = (f.0, append_ordered x xs ys f.1 (each x (inl refl)) (λ y is. each y (inr is)))

raised : (from : List ℕ) (xs : List (List ℕ)) → IsInOrder [] xs → ((x : List ℕ) → In x xs → comes_before from x ≡ true) → IsInOrder from xs
raised from [] rises each = tt
raised from (x ∷ xs) rises each = (each x (inl refl), rises.1)

module _ (state : State) (is_state : IsState state) where
  abbrev below : List ℕ → List (List ℕ)
  below dir = walk state.files state.paths dir true

  abbrev inside : List ℕ → List (List ℕ)
  inside dir = walk state.files state.paths dir false

  -- each of these, and right behind it its own walk
  abbrev pub each_below : List (List ℕ) → List (List ℕ)
  each_below [] = []
  each_below (path ∷ paths) = path ∷ (below path ++ each_below paths)

  listed_in : (recursive : Bool) (dir path : List ℕ) → In path (walk state.files state.paths dir recursive) → (is_listed recursive dir path ≡ true) × (is_some (state.files path) ≡ true)
  listed_in recursive dir path is =
      both_true (is_listed recursive dir path) (is_some (state.files path))
      (filter_in (λ p. is_listed recursive dir p && is_some (state.files p)) state.paths path (order_in (filter (λ p. is_listed recursive dir p && is_some (state.files p)) state.paths) path is)).1

  listed_there : (recursive : Bool) (dir path : List ℕ) → is_listed recursive dir path ≡ true → is_some (state.files path) ≡ true → In path (walk state.files state.paths dir recursive)
  listed_there recursive dir path listed some =
      order_there (filter (λ p. is_listed recursive dir p && is_some (state.files p)) state.paths) path
      (filter_there (λ p. is_listed recursive dir p && is_some (state.files p)) state.paths path (in_from_contains path state.paths (is_state.listed path some)) (and_true (is_listed recursive dir path) (is_some (state.files path)) listed some))

  -- what stands in a directory
  record Child (dir path : List ℕ) : Type 0 where
    name : List ℕ
    is : path ≡ front_of dir ++ name
    plain : IsPlain name
    some : bytes_eq name [] ≡ false
    stands : is_some (state.files path) ≡ true

  child_of : (dir path : List ℕ) → In path (inside dir) → Child dir path
  child_of dir path is =
      let listed = listed_in false dir path is in
      let parts = both_true (lies_in dir path) (not (list_any is_slash (rest_in dir path))) listed.0 in
      let cut = lies_cut dir path parts.0 in
      record { name = rest_in dir path; is = cut.0; plain = not_true (list_any is_slash (rest_in dir path)) parts.1; some = cut.1; stands = listed.1 }

  -- what lies below one is it, a slash and more
  below_child : (dir path x : List ℕ) → Child dir path → In x (below path) → (more : List ℕ) × (x ≡ path ++ 47 ∷ more) × (bytes_eq more [] ≡ false) × (is_some (state.files x) ≡ true)
  below_child dir path x child is =
      let listed = listed_in true path x is in
      let cut = lies_cut path x listed.0 in (
        rest_in path x,
        cut.0 ∙ ap (λ (l : List ℕ). l ++ rest_in path x) (ap front_of child.is ∙ child_front dir child.name child.some ∙ ap (λ (l : List ℕ). l ++ 47 ∷ []) (sym child.is)) ∙ append_assoc path (47 ∷ []) (rest_in path x),
        cut.1,
        listed.1,
      )

  -- it comes behind it, and before what comes behind that in the directory
  child_before : (path x more : List ℕ) → x ≡ path ++ 47 ∷ more → comes_before path x ≡ true
  child_before path x more is =
      ap (λ (l : List ℕ). comes_before l x) (sym (append-nil path)) ∙ ap (comes_before (path ++ [])) is ∙ common_front path [] (47 ∷ more)

  sibling_before : (dir path other x more : List ℕ) → Child dir path → Child dir other → comes_before path other ≡ true → x ≡ path ++ 47 ∷ more → comes_before x other ≡ true
  sibling_before dir path other x more child next before is =
      let names : comes_before child.name next.name ≡ true =
      sym (common_front (front_of dir) child.name next.name) ∙ ap (λ (l : List ℕ). comes_before l (front_of dir ++ next.name)) (sym child.is) ∙ ap (comes_before path) (sym next.is) ∙ before in
      ap (λ (l : List ℕ). comes_before l other) (is ∙ ap (λ (l : List ℕ). l ++ 47 ∷ more) child.is ∙ append_assoc (front_of dir) child.name (47 ∷ more))
      ∙ ap (comes_before (front_of dir ++ (child.name ++ 47 ∷ more))) next.is
      ∙ common_front (front_of dir) (child.name ++ 47 ∷ more) next.name
      ∙ below_before child.name next.name more child.plain next.plain names

  below_ordered : (path : List ℕ) → IsInOrder [] (below path)
  below_ordered path =
      order_rises (filter (λ p. is_listed true path p && is_some (state.files p)) state.paths)
      (λ x is. lies_some path x (both_true (is_listed true path x) (is_some (state.files x)) (filter_in (λ p. is_listed true path p && is_some (state.files p)) state.paths x is).1).0)

  each_ordered : (dir from : List ℕ) (paths : List (List ℕ)) → IsInOrder from paths → ((x : List ℕ) → In x paths → Child dir x) → IsInOrder from (each_below paths)
  each_ordered dir from [] rises each = tt
  each_ordered dir from (path ∷ paths) rises each =
      let child = each path (inl refl) in
      let rest = each_ordered dir path paths rises.1 (λ x is. each x (inr is)) in (
        rises.0,
        append_ordered path (below path) (each_below paths)
            (raised path (below path) (below_ordered path) (λ x is. let b = below_child dir path x child is in child_before path x b.0 b.1))
            rest
            (λ x is. let b = below_child dir path x child is in behind paths rises.1 (λ y there. each y (inr there)) rest x b.0 b.1),
      )
    where
      behind : (others : List (List ℕ)) → IsInOrder path others → ((y : List ℕ) → In y others → Child dir y) → IsInOrder path (each_below others) → (x more : List ℕ) → x ≡ path ++ 47 ∷ more → IsInOrder x (each_below others)
      behind [] up kids rest x more is = tt
      behind (other ∷ others) up kids rest x more is = (sibling_before dir path other x more (each path (inl refl)) (kids other (inl refl)) up.0 is, rest.1)

  -- a member is one of these, or lies below one
  each_in : (x : List ℕ) (paths : List (List ℕ)) → In x (each_below paths) → In x paths ⊎ ((path : List ℕ) × In path paths × In x (below path))
  each_in x [] is = absurd is
  each_in x (path ∷ paths) (inl same) = inl (inl same)
  each_in x (path ∷ paths) (inr later) =
      ⊎_elim (λ (b : In x (below path)). inr (path, inl refl, b)) (λ more. ⊎_elim (λ (a : In x paths). inl (inr a)) (λ b. inr (b.0, inr b.1, b.2)) (each_in x paths more)) (from_append x (below path) (each_below paths) later)

  each_there : (x : List ℕ) (paths : List (List ℕ)) → In x paths ⊎ ((path : List ℕ) × In path paths × In x (below path)) → In x (each_below paths)
  each_there x [] (inl is) = absurd is
  each_there x [] (inr b) = absurd b.1
  each_there x (path ∷ paths) (inl (inl same)) = inl same
  each_there x (path ∷ paths) (inl (inr later)) = inr (in_append x (below path) (each_below paths) (inr (each_there x paths (inl later))))
  each_there x (path ∷ paths) (inr (found, inl same, b)) = inr (in_append x (below path) (each_below paths) (inl (subst (λ (p : List ℕ). In x (below p)) (sym same) b)))
  each_there x (path ∷ paths) (inr (found, inr later, b)) = inr (in_append x (below path) (each_below paths) (inr (each_there x paths (inr (found, later, b)))))

  some_node : (node : Option Node) (kind : _) → option_map kind_of node ≡ Some kind → is_some node ≡ true
  some_node None kind is = absurd (cc (is))
  some_node (Some node) kind is = refl

  -- what is above a path that stands is a directory
  above_stands : (dir name more x : List ℕ) → x ≡ (front_of dir ++ name) ++ 47 ∷ more → is_some (state.files x) ≡ true → is_some (state.files (front_of dir ++ name)) ≡ true
  above_stands dir name more x is some =
      let front = front_some dir in
      let child : front_of dir ++ name ≡ front.0 ∷ (front.1 ++ name) = ap (λ (l : List ℕ). l ++ name) front.2 in
      let path : List ℕ = front.0 ∷ (front.1 ++ name) in
      let all = is_state.tree.above x (some_kind (state.files x) some) in
      let above : ancestors x ≡ ancestors path ++ path ∷ above_from (path ++ 47 ∷ []) more =
      ap ancestors (is ∙ ap (λ (l : List ℕ). l ++ 47 ∷ more) child) ∙ ancestors_below front.0 (front.1 ++ name) more in
      let dir_there : kinds_of state.files path ≡ Some Directory =
      All-contains (λ a. kinds_of state.files a ≡ Some Directory) (ancestors path ++ path ∷ above_from (path ++ 47 ∷ []) more) path
      (subst (All (λ a. kinds_of state.files a ≡ Some Directory)) above all)
      (Contains-append_right (ancestors path) (path ∷ above_from (path ++ 47 ∷ []) more) path (0, omega arith, refl)) in
      subst (λ (l : List ℕ). is_some (state.files l) ≡ true) (sym child) (some_node (state.files path) Directory dir_there)

  named_part : (dir x name more : List ℕ) → x ≡ front_of dir ++ rest_in dir x → AreComponents (rest_in dir x) → is_some (state.files x) ≡ true → IsPlain name → rest_in dir x ≡ name ++ 47 ∷ more
      → In x (each_below (inside dir))
  named_part dir x [] more cut are some plain is = absurd (no_slash_first more (subst AreComponents is are))
  named_part dir x (c ∷ name) more cut are some plain is =
      let path : List ℕ = front_of dir ++ c ∷ name in
      let at : x ≡ path ++ 47 ∷ more = cut ∙ ap (λ (l : List ℕ). front_of dir ++ l) is ∙ sym (append_assoc (front_of dir) (c ∷ name) (47 ∷ more)) in
      let more_some = some_components more (behind_slash (c ∷ name) more (subst AreComponents is are)) in
      let stands = above_stands dir (c ∷ name) more x at some in
      let lies : lies_in path x ≡ true =
      subst (λ (l : List ℕ). lies_in path l ≡ true)
      (ap (λ (l : List ℕ). l ++ more) (child_front dir (c ∷ name) refl) ∙ append_assoc path (47 ∷ []) more ∙ sym at)
      (lies_made path more more_some) in
      each_there x (inside dir) (inr (path, listed_there false dir path (name_listed dir (c ∷ name) plain refl) stands, listed_there true path x lies some))

  to : (dir x : List ℕ) → In x (below dir) → In x (each_below (inside dir))
  to dir x is =
      let listed = listed_in true dir x is in
      let cut = lies_cut dir x listed.0 in
      let named = is_state.tree.named x (some_kind (state.files x) listed.1) in
      let are = rest_components dir (rest_in dir x) (subst (λ (l : List ℕ). is_path l ≡ true) cut.0 named) cut.1 in
      ⊎_elim
      (λ plain. each_there x (inside dir) (inl (listed_there false dir x (and_true (lies_in dir x) (not (list_any is_slash (rest_in dir x))) listed.0 (ap not plain)) listed.1)))
      (λ named. named_part dir x named.0 named.1 cut.0 are listed.1 named.2 named.3)
      (has_name (rest_in dir x))

  back : (dir x : List ℕ) → In x (each_below (inside dir)) → In x (below dir)
  back dir x is =
      ⊎_elim
      (λ here. (let listed = listed_in false dir x here in
      listed_there true dir x (both_true (lies_in dir x) (not (list_any is_slash (rest_in dir x))) listed.0).0 listed.1))
      (λ lower. (let child = child_of dir lower.0 lower.1 in
      let b = below_child dir lower.0 x child lower.2 in
      let at : x ≡ front_of dir ++ (child.name ++ 47 ∷ b.0) = b.1 ∙ ap (λ (l : List ℕ). l ++ 47 ∷ b.0) child.is ∙ append_assoc (front_of dir) child.name (47 ∷ b.0) in
      listed_there true dir x (subst (λ (l : List ℕ). lies_in dir l ≡ true) (sym at) (lies_made dir (child.name ++ 47 ∷ b.0) (some_behind child.name b.0 47))) b.3))
      (each_in x (inside dir) is)

  inside_ordered : (dir : List ℕ) → IsInOrder [] (inside dir)
  inside_ordered dir =
      order_rises (filter (λ p. is_listed false dir p && is_some (state.files p)) state.paths)
      (λ x is. lies_some dir x (both_true (lies_in dir x) (not (list_any is_slash (rest_in dir x)))
      (both_true (is_listed false dir x) (is_some (state.files x)) (filter_in (λ p. is_listed false dir p && is_some (state.files p)) state.paths x is).1).0).0)

  -- all that lies below a directory: each that stands in it, and right behind that what lies below it
  pub walk_descends : (dir : List ℕ) → walk state.files state.paths dir true ≡ each_below (walk state.files state.paths dir false)
  walk_descends dir =
      rises_unique [] (below dir) (each_below (inside dir)) (below_ordered dir) (each_ordered dir [] (inside dir) (inside_ordered dir) (child_of dir)) (to dir) (back dir)

  nothing_in : (xs : List (List ℕ)) → ((x : List ℕ) → In x xs → ⊥) → xs ≡ []
  nothing_in [] none = refl
  nothing_in (x ∷ xs) none = absurd (none x (inl refl))

  -- nothing lies below what is no directory
  pub walk_of_other : (path : List ℕ) → is_path path ≡ true → (kinds_of state.files path ≡ Some Directory → ⊥) → walk state.files state.paths path true ≡ []
  walk_of_other [] named other = absurd (false≢true named)
  walk_of_other (c ∷ path) named other = nothing_in (below (c ∷ path)) none
    where
      fronts : (b : Bool) → bytes_eq root (c ∷ path) ≡ b → cond b root ((c ∷ path) ++ 47 ∷ []) ≡ (c ∷ path) ++ 47 ∷ []
      fronts true is = absurd (other (subst (λ (l : List ℕ). kinds_of state.files l ≡ Some Directory) ((bytes_eq-Decides root (c ∷ path)).0 is) is_state.tree.root))
      fronts false is = refl

      none : (x : List ℕ) → In x (below (c ∷ path)) → ⊥
      none x is =
          let listed = listed_in true (c ∷ path) x is in
          let cut = lies_cut (c ∷ path) x listed.0 in
          let more = rest_in (c ∷ path) x in
          let at : x ≡ c ∷ path ++ 47 ∷ more = cut.0 ∙ ap (λ (l : List ℕ). l ++ more) (fronts (bytes_eq root (c ∷ path)) refl) ∙ append_assoc (c ∷ path) (47 ∷ []) more in
          let above : ancestors x ≡ ancestors (c ∷ path) ++ (c ∷ path) ∷ above_from ((c ∷ path) ++ 47 ∷ []) more = ap ancestors at ∙ ancestors_below c path more in
          other (All-contains (λ a. kinds_of state.files a ≡ Some Directory) (ancestors (c ∷ path) ++ (c ∷ path) ∷ above_from ((c ∷ path) ++ 47 ∷ []) more) (c ∷ path)
          (subst (All (λ a. kinds_of state.files a ≡ Some Directory)) above (is_state.tree.above x (some_kind (state.files x) listed.1)))
          (Contains-append_right (ancestors (c ∷ path)) ((c ∷ path) ∷ above_from ((c ∷ path) ++ 47 ∷ []) more) (c ∷ path) (0, omega arith, refl)))
