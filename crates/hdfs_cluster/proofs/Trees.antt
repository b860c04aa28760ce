-- Trees of paths: what stands above, and what a new path keeps.
use Rattle.std.proofs.Common.{◌≡◌, ◌⊎◌, inl, inr, ⊎_elim, ℕ, Bool, true, false, cond, ◌||◌, List, [], ◌∷◌, ◌++◌, Option, Some, None, IsSome, refl, sym, ◌∙◌, ap, subst, append_assoc}
use Rattle.std.proofs.lemmas.List.{append-nil}
use Rattle.std.proofs.lemmas.List.Elements.{All-weaker, All-cons, All-nil, All-append, All-head, All-tail}
use Rattle.std.proofs.lemmas.Slice.Eq.{bytes_eq-Decides}
use Rattle.std.specs.List.{All, list_any}
use Rattle.std.specs.Str.{bytes_eq}
use Rattle.hdfs_names.specs.Paths.{root, is_path, is_slash, above_from, ancestors, parent_of}
use Rattle.hdfs_cluster.specs.Files.{Kind, Directory, IsTree, NotDirectory, is_file, no_file, no_file_at}
use Rattle.hdfs_names.proofs.Ancestors.{parent_push}

-- nothing stands above, or one path does last, and before it what stands above that
abbrev Above : List ℕ → List ℕ → Type 0
Above before bytes = (above_from before bytes ≡ []) ⊎ ((xs : List ℕ) × (above_from before bytes ≡ above_from before xs ++ (before ++ xs) ∷ []))

above_step : (b : Bool) (before : List ℕ) (c : ℕ) (rest : List ℕ) → is_slash c ≡ b → Above (before ++ c ∷ []) rest → Above before (c ∷ rest)
above_step true before c rest is (inl none) = inr ([], ap (λ (x : Bool). cond x (before ∷ above_from (before ++ c ∷ []) rest) (above_from (before ++ c ∷ []) rest)) is ∙ ap (λ (l : List (List ℕ)). before ∷ l) none ∙ ap (λ (l : List ℕ). l ∷ []) (sym (append-nil before)))
above_step false before c rest is (inl none) = inl (ap (λ (x : Bool). cond x (before ∷ above_from (before ++ c ∷ []) rest) (above_from (before ++ c ∷ []) rest)) is ∙ none)
above_step b before c rest is (inr more) =
    inr (c ∷ more.0, by_test (is_slash c) ∙ ap (λ (l : List ℕ). above_from before (c ∷ more.0) ++ l ∷ []) (append_assoc before (c ∷ []) more.0))
  where
    by_test : (x : Bool) → cond x (before ∷ above_from (before ++ c ∷ []) rest) (above_from (before ++ c ∷ []) rest) ≡ cond x (before ∷ above_from (before ++ c ∷ []) more.0) (above_from (before ++ c ∷ []) more.0) ++ ((before ++ c ∷ []) ++ more.0) ∷ []
    by_test true = ap (λ (l : List (List ℕ)). before ∷ l) more.1
    by_test false = more.1

above_cases : (before bytes : List ℕ) → Above before bytes
above_cases before [] = inl refl
above_cases before (c ∷ rest) = above_step (is_slash c) before c rest refl (above_cases (before ++ c ∷ []) rest)

pub ancestors_cases : (path : List ℕ) → (ancestors path ≡ []) ⊎ ((front : List ℕ) × (ancestors path ≡ ancestors front ++ front ∷ []))
ancestors_cases [] = inl refl
ancestors_cases (c ∷ rest) = ⊎_elim (λ none. inl none) (λ more. inr (c ∷ more.0, more.1)) (above_cases (c ∷ []) rest)

abbrev IsDirectory : (List ℕ → Option Kind) → List ℕ → Type 0
IsDirectory kinds path = kinds path ≡ Some Directory

-- what stands above a path whose parent is a directory
pub above_parent : (kinds : List ℕ → Option Kind) (path : List ℕ) → IsTree kinds → kinds (parent_of path) ≡ Some Directory → All (IsDirectory kinds) (ancestors path)
above_parent kinds path tree there =
    ⊎_elim
    (λ none. subst (All (IsDirectory kinds)) (sym none) (All-nil (IsDirectory kinds)))
    (λ more. (let here : kinds more.0 ≡ Some Directory = subst (λ (p : List ℕ). kinds p ≡ Some Directory) (parent_push path more.0 more.1) there in
    subst (All (IsDirectory kinds)) (sym more.1) (All-append (IsDirectory kinds) (ancestors more.0) (more.0 ∷ []) (tree.above more.0 (subst IsSome (sym here) refl)) (All-cons (IsDirectory kinds) more.0 [] here (All-nil (IsDirectory kinds))))))
    (ancestors_cases path)

module _ (kinds kinds' : List ℕ → Option Kind) (path : List ℕ) (new : Kind) (tree : IsTree kinds) (is_new : kinds path ≡ None) (parent : kinds (parent_of path) ≡ Some Directory) (named : is_path path ≡ true) (now : (q : List ℕ) → kinds' q ≡ cond (bytes_eq path q) (Some new) (kinds q)) where
  at_test : (b : Bool) (q : List ℕ) (k : Kind) → (b ≡ true → path ≡ q) → kinds q ≡ Some k → cond b (Some new) (kinds q) ≡ Some k
  at_test true q k same there = let gone : kinds q ≡ None = ap kinds (sym (same refl)) ∙ is_new in absurd (cc (gone, there))
  at_test false q k same there = there

  -- what was there is there
  stays : (q : List ℕ) (k : Kind) → kinds q ≡ Some k → kinds' q ≡ Some k
  stays q k there = now q ∙ at_test (bytes_eq path q) q k (bytes_eq-Decides path q).0 there

  all_stay : (q : List ℕ) → All (IsDirectory kinds) (ancestors q) → All (IsDirectory kinds') (ancestors q)
  all_stay q all = All-weaker (IsDirectory kinds) (IsDirectory kinds') (λ a there. stays a Directory there) (ancestors q) all

  -- what is there was there, or it is the new path
  was : (b : Bool) (q : List ℕ) → (b ≡ true → path ≡ q) → IsSome (cond b (Some new) (kinds q)) → (path ≡ q) ⊎ IsSome (kinds q)
  was true q same is = inl (same refl)
  was false q same is = inr is

  cases : (q : List ℕ) → IsSome (kinds' q) → (path ≡ q) ⊎ IsSome (kinds q)
  cases q is = was (bytes_eq path q) q (bytes_eq-Decides path q).0 (subst IsSome (now q) is)

  -- a new path whose parent is a directory keeps the tree
  pub tree_with : IsTree kinds'
  tree_with = record {
    root = stays root Directory tree.root;
    above = λ q is. all_stay q (⊎_elim (λ same. subst (λ (p : List ℕ). All (IsDirectory kinds) (ancestors p)) same (above_parent kinds path tree parent)) (tree.above q) (cases q is));
    named = λ q is. ⊎_elim (λ same. subst (λ (p : List ℕ). is_path p ≡ true) same named) (tree.named q) (cases q is);
  }

no_file_above : (kinds : List ℕ → Option Kind) (paths : List (List ℕ)) → All (IsDirectory kinds) paths → list_any (λ a. is_file (kinds a)) paths ≡ false
no_file_above kinds [] all = refl
no_file_above kinds (p ∷ paths) all =
    ap (λ (b : Bool). b || list_any (λ a. is_file (kinds a)) paths) (ap is_file (All-head (IsDirectory kinds) p paths all)) ∙ no_file_above kinds paths (All-tail (IsDirectory kinds) p paths all)

-- over a tree a path that is there has no file above it
pub no_file_there : (kinds : List ℕ → Option Kind) (path : List ℕ) (k : Kind) → IsTree kinds → kinds path ≡ Some k → no_file kinds path ≡ no_file_at (Some k)
no_file_there kinds path k tree there =
    ap (λ (b : Bool). cond b (Some NotDirectory) (no_file_at (kinds path))) (no_file_above kinds (ancestors path) (tree.above path (subst IsSome (sym there) refl))) ∙ ap no_file_at there
