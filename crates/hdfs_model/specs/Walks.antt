-- What stands in a directory and below it, in the order of a walk.
use Rattle.std.specs.Prelude.{ℕ, suc, Bool, true, false, not, ◌&&◌, List, [], ◌∷◌, length, take, drop, map, filter, Option, is_some, if◌then◌else◌}
use Rattle.std.specs.List.{list_any}
use Rattle.std.specs.Str.{bytes_eq}
use Rattle.hdfs_cluster.specs.Names.{front_of, is_before}
use Rattle.hdfs_names.specs.Paths.{is_slash}

-- where a byte stands among the others: a slash before all of them
abbrev pub rank : ℕ → ℕ
rank c = if is_slash c then 0 else suc c

-- One path comes before another in a walk: in the order of texts, but a slash before all other bytes. So what lies in a directory comes
-- right behind it; names, which have no slash, come in the order of texts.
abbrev pub comes_before : List ℕ → List ℕ → Bool
comes_before a b = is_before (map rank a) (map rank b)

-- what is left of a path behind what the paths in a directory begin with
abbrev pub rest_in : List ℕ → List ℕ → List ℕ
rest_in dir path = drop (length (front_of dir)) path

-- the path lies in the directory, or below it: it begins as the paths in it do, and goes on
abbrev pub lies_in : List ℕ → List ℕ → Bool
lies_in dir path = bytes_eq (front_of dir) (take (length (front_of dir)) path) && not (bytes_eq (rest_in dir path) [])

-- whether a path is listed with a directory: where it lies in it, and unless the listing is recursive no slash follows
abbrev pub is_listed : Bool → List ℕ → List ℕ → Bool
is_listed true dir path = lies_in dir path
is_listed false dir path = lies_in dir path && not (list_any is_slash (rest_in dir path))

-- a path among others that are in order, each once
abbrev pub put_path : List ℕ → List (List ℕ) → List (List ℕ)
put_path path [] = path ∷ []
put_path path (other ∷ rest) =
    if comes_before path other then path ∷ other ∷ rest else if bytes_eq path other then other ∷ rest else other ∷ put_path path rest

-- paths in order, each once
abbrev pub in_order : List (List ℕ) → List (List ℕ)
in_order [] = []
in_order (path ∷ paths) = put_path path (in_order paths)

-- What is listed with a directory of a map that has no path but these: in order, and where the listing is recursive each directory right
-- before what lies in it.
abbrev pub walk : {X : Type 0} → (List ℕ → Option X) → List (List ℕ) → List ℕ → Bool → List (List ℕ)
walk map paths dir recursive = in_order (filter (λ path. is_listed recursive dir path && is_some (map path)) paths)
