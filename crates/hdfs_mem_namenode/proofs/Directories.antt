-- Directories that are made above a path.
use Rattle.std.proofs.Common.{◌≡◌, ⊎_elim, ℕ, zero, suc, ◌+◌, ◌-◌, Bool, true, false, cond, ◌||◌, List, [], ◌∷◌, ◌++◌, length, get_or, Option, Some, None, is_some, unwrap_or, refl, sym, ◌∙◌, ap, subst, length-append, arith}
use Rattle.std.proofs.Math.Path.{fun_ext}
use Rattle.std.proofs.lemmas.Bool.{false≢true}
use Rattle.std.proofs.lemmas.List.{get_or-append-add}
use Rattle.std.proofs.lemmas.List.Folds.{list_any-append}
use Rattle.std.proofs.lemmas.Slice.Eq.{bytes_eq-Decides}
use Rattle.std.specs.List.{list_any}
use Rattle.std.specs.Str.{bytes_eq}
use Rattle.hdfs_cluster.specs.Files.{Kind, Directory, ClosedFile, OpenFile, IsTree, is_file}
use Rattle.hdfs_names.specs.Paths.{root, is_path, ancestors, parent_of}
use Rattle.hdfs_cluster.specs.Refusals.{with_parents}
use Rattle.hdfs_cluster.proofs.Trees.{ancestors_cases, tree_with}
use Rattle.hdfs_mem_namenode.specs.Adding.{with_directories}
use Rattle.hdfs_mem_namenode.proofs.Fronts.{front_is_path, not_above_itself}
use Rattle.hdfs_mem_namenode.proofs.Naming.{bytes_eq_flip}

pub parent_root : (path : List ℕ) → ancestors path ≡ [] → parent_of path ≡ root
parent_root path none = ap (λ (paths : List (List ℕ)). get_or paths (length paths - 1) root) none

last_of : (paths : List (List ℕ)) (path : List ℕ) → get_or (paths ++ path ∷ []) (length (paths ++ path ∷ []) - 1) root ≡ path
last_of paths path =
    let end : length (paths ++ path ∷ []) - 1 ≡ length paths + 0 = omega (arith, length-append paths (path ∷ [])) in
    ap (λ (n : ℕ). get_or (paths ++ path ∷ []) n root) end ∙ get_or-append-add paths (path ∷ []) 0 root

pub parent_push : (path front : List ℕ) → ancestors path ≡ ancestors front ++ front ∷ [] → parent_of path ≡ front
parent_push path front above = ap (λ (paths : List (List ℕ)). get_or paths (length paths - 1) root) above ∙ last_of (ancestors front) front

or_false : (a b : Bool) → (a || (b || false)) ≡ (a || b)
or_false true b = refl
or_false false true = refl
or_false false false = refl

pub any_front : (test : List ℕ → Bool) (path front : List ℕ) → ancestors path ≡ ancestors front ++ front ∷ [] → list_any test (ancestors path) ≡ (list_any test (ancestors front) || test front)
any_front test path front above = ap (list_any test) above ∙ list_any-append test (ancestors front) (front ∷ []) ∙ or_false (list_any test (ancestors front)) (test front)

above_front : (path front q : List ℕ) → ancestors path ≡ ancestors front ++ front ∷ [] → list_any (bytes_eq q) (ancestors path) ≡ (list_any (bytes_eq q) (ancestors front) || bytes_eq front q)
above_front path front q above = any_front (bytes_eq q) path front above ∙ ap (λ (b : Bool). list_any (bytes_eq q) (ancestors front) || b) (bytes_eq_flip q front)

module _ {X : Type 0} (dir : X) where
  there_at : (a b : Bool) (o : Option X) → (b ≡ true → (x : X) × (o ≡ Some x)) → cond (a || b) (Some (unwrap_or o dir)) o ≡ cond a (Some (unwrap_or o dir)) o
  there_at true b o is = refl
  there_at false true o is = let some = is refl in ap (λ (o : Option X). Some (unwrap_or o dir)) some.1 ∙ sym some.1
  there_at false false o is = refl

  missing_at : (a b : Bool) (o : Option X) → (b ≡ true → o ≡ None) → cond a (Some (unwrap_or (cond b (Some dir) o) dir)) (cond b (Some dir) o) ≡ cond (a || b) (Some (unwrap_or o dir)) o
  missing_at true true o is = ap (λ (o : Option X). Some (unwrap_or o dir)) (sym (is refl))
  missing_at true false o is = refl
  missing_at false true o is = ap (λ (o : Option X). Some (unwrap_or o dir)) (sym (is refl))
  missing_at false false o is = refl

  undone_at : (b : Bool) (o p : Option X) → (b ≡ true → o ≡ None) → p ≡ cond b (Some dir) o → cond b None p ≡ o
  undone_at true o p is same = sym (is refl)
  undone_at false o p is same = same

  module _ (map : List ℕ → Option X) (path front : List ℕ) (above : ancestors path ≡ ancestors front ++ front ∷ []) where
    -- where the front is there, what is made above the path is made above the front
    pub made_there : (x : X) → map front ≡ Some x → (q : List ℕ) → with_directories map dir path q ≡ with_directories map dir front q
    made_there x is q =
        ap (λ (b : Bool). cond b (Some (unwrap_or (map q) dir)) (map q)) (above_front path front q above)
        ∙ there_at (list_any (bytes_eq q) (ancestors front)) (bytes_eq front q) (map q) (λ same. (x, ap map (sym ((bytes_eq-Decides front q).0 same)) ∙ is))

    -- where it isn't, it is made first
    pub made_missing : map front ≡ None → (map' : List ℕ → Option X) → ((q : List ℕ) → map' q ≡ cond (bytes_eq front q) (Some dir) (map q)) → (q : List ℕ) → with_directories map' dir front q ≡ with_directories map dir path q
    made_missing none map' now q =
        ap (λ (o : Option X). cond (list_any (bytes_eq q) (ancestors front)) (Some (unwrap_or o dir)) o) (now q)
        ∙ missing_at (list_any (bytes_eq q) (ancestors front)) (bytes_eq front q) (map q) (λ same. ap map (sym ((bytes_eq-Decides front q).0 same)) ∙ none)
        ∙ sym (ap (λ (b : Bool). cond b (Some (unwrap_or (map q) dir)) (map q)) (above_front path front q above))

  -- what was put at a path at which nothing stood is taken away again
  pub undone : (map map' map'' : List ℕ → Option X) (path : List ℕ) → map path ≡ None → ((q : List ℕ) → map' q ≡ cond (bytes_eq path q) (Some dir) (map q)) → ((q : List ℕ) → map'' q ≡ cond (bytes_eq path q) None (map' q)) → (q : List ℕ) → map'' q ≡ map q
  undone map map' map'' path none put gone q = gone q ∙ undone_at (bytes_eq path q) (map q) (map' q) (λ same. ap map (sym ((bytes_eq-Decides path q).0 same)) ∙ none) (put q)

  pub made_none : (map : List ℕ → Option X) (path : List ℕ) → ancestors path ≡ [] → (q : List ℕ) → with_directories map dir path q ≡ map q
  made_none map path none q = ap (λ (paths : List (List ℕ)). cond (list_any (bytes_eq q) paths) (Some (unwrap_or (map q) dir)) (map q)) none

-- the kinds with directories above a path are a tree, and its parent is one of these
abbrev IsMade : (List ℕ → Option Kind) → List ℕ → Type 0
IsMade kinds path = IsTree (with_directories kinds Directory path) × (with_directories kinds Directory path (parent_of path) ≡ Some Directory)

directory_or_none : (o : Option Kind) → is_file o ≡ false → unwrap_or o Directory ≡ Directory
directory_or_none None is = refl
directory_or_none (Some Directory) is = refl
directory_or_none (Some ClosedFile) is = absurd (false≢true (sym is))
directory_or_none (Some OpenFile) is = absurd (false≢true (sym is))

no_or : (a b : Bool) → (a || b) ≡ false → (a ≡ false) × (b ≡ false)
no_or true b is = absurd (false≢true (sym is))
no_or false b is = (refl, is)

module _ (kinds : List ℕ → Option Kind) (tree : IsTree kinds) where
  module _ (path front : List ℕ) (above : ancestors path ≡ ancestors front ++ front ∷ []) (here : is_file (kinds front) ≡ false) where
    step_at : (a b : Bool) (o : Option Kind) → (b ≡ true → unwrap_or o Directory ≡ Directory) → cond (a || b) (Some (unwrap_or o Directory)) o ≡ cond b (Some Directory) (cond a (Some (unwrap_or o Directory)) o)
    step_at true true o is = ap Some (is refl)
    step_at true false o is = refl
    step_at false true o is = ap Some (is refl)
    step_at false false o is = refl

    step : (q : List ℕ) → with_directories kinds Directory path q ≡ cond (bytes_eq front q) (Some Directory) (with_directories kinds Directory front q)
    step q =
        ap (λ (b : Bool). cond b (Some (unwrap_or (kinds q) Directory)) (kinds q)) (above_front path front q above)
        ∙ step_at (list_any (bytes_eq q) (ancestors front)) (bytes_eq front q) (kinds q)
        (λ same. directory_or_none (kinds q) (ap (λ (p : List ℕ). is_file (kinds p)) (sym ((bytes_eq-Decides front q).0 same)) ∙ here))

    at_front : with_directories kinds Directory path front ≡ Some Directory
    at_front = step front ∙ ap (λ (b : Bool). cond b (Some Directory) (with_directories kinds Directory front front)) ((bytes_eq-Decides front front).1 refl)

    made_step : is_path front ≡ true → IsMade kinds front → IsMade kinds path
    made_step named made =
        (by_front (with_directories kinds Directory front front) refl, subst (λ (p : List ℕ). with_directories kinds Directory path p ≡ Some Directory) (sym (parent_push path front above)) at_front)
      where
        same_at : (b : Bool) (q : List ℕ) (k : Kind) → (b ≡ true → front ≡ q) → with_directories kinds Directory front front ≡ Some k → k ≡ Directory → cond b (Some Directory) (with_directories kinds Directory front q) ≡ with_directories kinds Directory front q
        same_at true q k is there dir = ap Some (sym dir) ∙ sym there ∙ ap (with_directories kinds Directory front) (is refl)
        same_at false q k is there dir = refl

        directory_at : (a : Bool) (o : Option Kind) (k : Kind) → is_file o ≡ false → cond a (Some (unwrap_or o Directory)) o ≡ Some k → k ≡ Directory
        directory_at true o k no_file is = let d = directory_or_none o no_file in cc
        directory_at false None k no_file is = absurd (cc)
        directory_at false (Some Directory) k no_file is = cc
        directory_at false (Some ClosedFile) k no_file is = absurd (false≢true (sym no_file))
        directory_at false (Some OpenFile) k no_file is = absurd (false≢true (sym no_file))

        by_front : (o : Option Kind) → with_directories kinds Directory front front ≡ o → IsTree (with_directories kinds Directory path)
        by_front None is = tree_with (with_directories kinds Directory front) (with_directories kinds Directory path) front Directory made.0 is made.1 named step
        by_front (Some k) is =
            subst IsTree
            (sym (fun_ext (λ q. step q ∙ same_at (bytes_eq front q) q k (bytes_eq-Decides front q).0 is (directory_at (list_any (bytes_eq front) (ancestors front)) (kinds front) k here is))))
            made.0

  made_by : (n : ℕ) (path : List ℕ) → length (ancestors path) ≡ n → list_any (λ a. is_file (kinds a)) (ancestors path) ≡ false → is_path path ≡ true → IsMade kinds path
  made_by zero path count files named =
      ⊎_elim
      (λ none. (subst IsTree (sym (fun_ext (made_none Directory kinds path none))) tree, made_none Directory kinds path none (parent_of path) ∙ ap kinds (parent_root path none) ∙ tree.root))
      (λ more. absurd (omega (arith, ap length more.1, length-append (ancestors more.0) (more.0 ∷ []))))
      (ancestors_cases path)
  made_by (suc n) path count files named =
      ⊎_elim
      (λ none. absurd (omega (arith, ap length none)))
      (λ more.
      let parts = no_or (list_any (λ a. is_file (kinds a)) (ancestors more.0)) (is_file (kinds more.0)) (sym (any_front (λ a. is_file (kinds a)) path more.0 more.1) ∙ files) in
      let front_named = front_is_path path more.0 more.1 named in
      made_step path more.0 more.1 parts.1 front_named (made_by n more.0 (omega (arith, ap length more.1, length-append (ancestors more.0) (more.0 ∷ []))) parts.0 front_named))
      (ancestors_cases path)

  pub made_tree : (path : List ℕ) → list_any (λ a. is_file (kinds a)) (ancestors path) ≡ false → is_path path ≡ true → IsMade kinds path
  made_tree path files named = made_by (length (ancestors path)) path refl files named

  -- a tree in which a file was put at a new path, with directories above it
  pub tree_with_parents : (path : List ℕ) (new : Kind) → kinds path ≡ None → list_any (λ a. is_file (kinds a)) (ancestors path) ≡ false → is_path path ≡ true → IsTree (with_parents kinds Directory path new)
  tree_with_parents path new none files named =
      let made = made_tree path files named in
      tree_with (with_directories kinds Directory path) (with_parents kinds Directory path new) path new made.0
      (ap (λ (b : Bool). cond b (Some (unwrap_or (kinds path) Directory)) (kinds path)) (not_above_itself path) ∙ none) made.1 named (λ q. refl)

-- a value put at a path before the directories above it are made
pub made_around : {X : Type 0} (dir x : X) (map map' : List ℕ → Option X) (path : List ℕ) → ((q : List ℕ) → map' q ≡ cond (bytes_eq path q) (Some x) (map q)) → (q : List ℕ) → with_directories map' dir path q ≡ with_parents map dir path x q
made_around {X} dir x map map' path now q =
    ap (λ (o : Option X). cond (list_any (bytes_eq q) (ancestors path)) (Some (unwrap_or o dir)) o) (now q) ∙ by_tests (bytes_eq path q) (list_any (bytes_eq q) (ancestors path)) (map q)
  where
    by_tests : (b a : Bool) (o : Option X) → cond a (Some (unwrap_or (cond b (Some x) o) dir)) (cond b (Some x) o) ≡ cond b (Some x) (cond a (Some (unwrap_or o dir)) o)
    by_tests true true o = refl
    by_tests true false o = refl
    by_tests false a o = refl

pub some_known : {X : Type 0} (o : Option X) → is_some o ≡ true → (x : X) × (o ≡ Some x)
some_known None is = absurd (false≢true is)
some_known (Some x) is = (x, refl)

pub none_known : {X : Type 0} (o : Option X) → is_some o ≡ false → o ≡ None
none_known None is = refl
none_known (Some x) is = absurd (false≢true (sym is))
