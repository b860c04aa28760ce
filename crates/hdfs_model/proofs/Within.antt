-- Paths that lie below others: what stands above a path that stays, stays with it.
use Rattle.std.proofs.Common.{◌≡◌, ◌≢◌, ◌⊎◌, inl, inr, ⊎_elim, ℕ, zero, suc, ◌+◌, ◌<◌, Bool, true, false, cond, ◌||◌, List, [], ◌∷◌, ◌++◌, length, take, drop, Contains, refl, sym, ◌∙◌, ap, subst, arith, append_assoc, take-append-drop}
use Rattle.std.proofs.Math.Seq.{take-append_seam}
use Rattle.std.proofs.lemmas.Bool.{false≢true}
use Rattle.std.proofs.lemmas.Bool.Decides.{nat_tests}
use Rattle.std.proofs.lemmas.List.{append-nil, length-append}
use Rattle.std.proofs.lemmas.Slice.Eq.{bytes_eq-Decides}
use Rattle.std.specs.Str.{bytes_eq}
use Rattle.hdfs_cluster.specs.Names.{is_below, is_within}
use Rattle.hdfs_names.specs.Paths.{root, is_path, is_slash, above_from, ancestors}
use Rattle.hdfs_names.proofs.Ancestors.{above_from-append}
use Rattle.hdfs_model.proofs.Ordered.{In}

pub in_from_contains : (x : List ℕ) (xs : List (List ℕ)) → Contains xs x → In x xs
in_from_contains x [] (k, lt, is) = absurd (omega (arith, lt))
in_from_contains x (y ∷ ys) (zero, lt, is) = inl is
in_from_contains x (y ∷ ys) (suc k, lt, is) = inr (in_from_contains x ys (k, omega (arith, lt), is))

-- what lies below a directory is that, a slash, and a rest
pub below_cut : (dir path : List ℕ) → is_below dir path ≡ true → (rest : List ℕ) × (path ≡ dir ++ 47 ∷ rest)
below_cut dir path is =
    let front : List ℕ = dir ++ 47 ∷ [] in
    let same : front ≡ take (length front) path = (bytes_eq-Decides front (take (length front) path)).0 is in (
      drop (length front) path,
      sym (take-append-drop (length front) path) ∙ ap (λ (l : List ℕ). l ++ drop (length front) path) (sym same) ∙ append_assoc dir (47 ∷ []) (drop (length front) path),
    )

-- and the other way round
pub below_made : (dir rest : List ℕ) → is_below dir (dir ++ 47 ∷ rest) ≡ true
below_made dir rest =
    let front : List ℕ = dir ++ 47 ∷ [] in
    (bytes_eq-Decides front (take (length front) (dir ++ 47 ∷ rest))).1
    (sym (take-append_seam front rest) ∙ ap (take (length front)) (append_assoc dir (47 ∷ []) rest))

-- what lies below what is within a directory lies below it too
pub below_within : (dir path rest : List ℕ) → is_within dir path ≡ true → is_below dir (path ++ 47 ∷ rest) ≡ true
below_within dir path rest is = by (bytes_eq dir path) refl is
  where
    by : (b : Bool) → bytes_eq dir path ≡ b → (b || is_below dir path) ≡ true → is_below dir (path ++ 47 ∷ rest) ≡ true
    by true same is = subst (λ (x : List ℕ). is_below dir (x ++ 47 ∷ rest) ≡ true) ((bytes_eq-Decides dir path).0 same) (below_made dir rest)
    by false other is =
        (let cut = below_cut dir path is in
        subst (λ (x : List ℕ). is_below dir (x ++ 47 ∷ rest) ≡ true) (sym cut.1)
        (subst (λ (x : List ℕ). is_below dir x ≡ true) (sym (append_assoc dir (47 ∷ cut.0) (47 ∷ rest))) (below_made dir (cut.0 ++ 47 ∷ rest))))

slash : (c : ℕ) → is_slash c ≡ true → c ≡ 47
slash c is = grind (arith, nat_tests, is)

-- what stands above bytes is cut off at a slash
abbrev IsCut : List ℕ → List ℕ → List ℕ → Type 0
IsCut before bytes a = (xs : List ℕ) × (ys : List ℕ) × (a ≡ before ++ xs) × (bytes ≡ xs ++ 47 ∷ ys)

cut_in : (before bytes a : List ℕ) → In a (above_from before bytes) → IsCut before bytes a
cut_in before [] a is = absurd is
cut_in before (c ∷ rest) a is = by (is_slash c) refl is (cut_in (before ++ c ∷ []) rest a)
  where
    onward : IsCut (before ++ c ∷ []) rest a → IsCut before (c ∷ rest) a
    onward (xs, ys, at, cut) = (c ∷ xs, ys, at ∙ append_assoc before (c ∷ []) xs, ap (λ (l : List ℕ). c ∷ l) cut)

    by : (b : Bool) → is_slash c ≡ b → In a (cond b (before ∷ above_from (before ++ c ∷ []) rest) (above_from (before ++ c ∷ []) rest))
        → (In a (above_from (before ++ c ∷ []) rest) → IsCut (before ++ c ∷ []) rest a) → IsCut before (c ∷ rest) a
    by true on (inl same) more = ([], rest, sym same ∙ sym (append-nil before), ap (λ (x : ℕ). x ∷ rest) (slash c on))
    by true on (inr later) more = onward (more later)
    by false off later more = onward (more later)

-- a path is what stands above it, a slash, and a rest
pub above_cut : (path a : List ℕ) → In a (ancestors path) → (rest : List ℕ) × (path ≡ a ++ 47 ∷ rest)
above_cut [] a is = absurd is
above_cut (c ∷ rest) a is =
    let cut = cut_in (c ∷ []) rest a is in
    (cut.1, ap (λ (l : List ℕ). c ∷ l) cut.3 ∙ ap (λ (l : List ℕ). l ++ 47 ∷ cut.1) (sym cut.2))

-- what stands above a path that isn't within a directory isn't within it either
pub above_outside : (dir path a : List ℕ) → is_within dir path ≡ false → In a (ancestors path) → is_within dir a ≡ false
above_outside dir path a away is = by (is_within dir a) refl
  where
    or_true : (b : Bool) → (b || true) ≡ true
    or_true true = refl
    or_true false = refl

    by : (b : Bool) → is_within dir a ≡ b → b ≡ false
    by false off = refl
    by true within =
        (let cut = above_cut path a is in
        let below = subst (λ (x : List ℕ). is_below dir x ≡ true) (sym cut.1) (below_within dir a cut.0 within) in
        absurd (false≢true (sym away ∙ ap (λ (b : Bool). bytes_eq dir path || b) below ∙ or_true (bytes_eq dir path))))

-- what stands above a directory, and that, stands above what lies below it
pub ancestors_below : (c : ℕ) (dir rest : List ℕ) → ancestors (c ∷ dir ++ 47 ∷ rest) ≡ ancestors (c ∷ dir) ++ (c ∷ dir) ∷ above_from (c ∷ dir ++ 47 ∷ []) rest
ancestors_below c dir rest = above_from-append (c ∷ []) dir (47 ∷ rest)

-- the root isn't within another path
pub root_outside : (path : List ℕ) → is_path path ≡ true → path ≢ root → is_within path root ≡ false
root_outside [] is apart = absurd (false≢true is)
root_outside (c ∷ path) is apart = by (bytes_eq (c ∷ path) root) (is_below (c ∷ path) root) refl refl
  where
    too_long : (rest : List ℕ) → root ≡ c ∷ path ++ 47 ∷ rest → ⊥
    too_long rest same = (let n = ap length same in omega (arith, n, length-append path (47 ∷ rest)))

    by : (a b : Bool) → bytes_eq (c ∷ path) root ≡ a → is_below (c ∷ path) root ≡ b → (a || b) ≡ false
    by true b same below = absurd (apart ((bytes_eq-Decides (c ∷ path) root).0 same))
    by false true other below = (let cut = below_cut (c ∷ path) root below in absurd (too_long cut.0 cut.1))
    by false false other away = refl
