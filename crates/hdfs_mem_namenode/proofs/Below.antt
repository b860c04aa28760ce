-- The paths that begin so are found one behind another.
use Rattle.std.proofs.Common.{◌≡◌, ℕ, Bool, true, false, List, [], ◌∷◌, ◌++◌, Option, IsSome, append_assoc, refl, sym, ◌∙◌, ap, subst}
use Rattle.std.proofs.lemmas.Bool.{false≢true}
use Rattle.std.proofs.lemmas.List.{append-nil}
use Rattle.std.proofs.lemmas.List.Elements.{All-nil, All-push, Contains-append_left, Contains-push}
use Rattle.std.specs.List.{All, Contains}
use Rattle.hdfs_cluster.specs.declared.picture.Entry.{Entry}
use Rattle.hdfs_cluster.specs.Names.{is_before}
use Rattle.hdfs_mem_namenode.proofs.Bytes.{before_front, before_neither, begins_so, zero_next}

-- something stands at a path that begins so
abbrev pub IsInFront : (List ℕ → Option Entry) → List ℕ → List ℕ → Type 0
IsInFront names front key = ((x : List ℕ) × (key ≡ front ++ x)) × IsSome (names key)

-- these are the paths that begin so and stand before a text
pub record Collects (names : List ℕ → Option Entry) (front start : List ℕ) (keys : List (List ℕ)) : Type 0 where
  pub begins : (x : List ℕ) × (start ≡ front ++ x)
  pub fronts : All (IsInFront names front) keys
  pub all : (x : List ℕ) → IsSome (names (front ++ x)) → is_before (front ++ x) start ≡ true → Contains keys (front ++ x)

-- nothing that begins so stands before it
not_before : (front x : List ℕ) → is_before (front ++ x) front ≡ false
not_before front x = ap (is_before (front ++ x)) (sym (append-nil front)) ∙ before_front front x [] ∙ at_end x
  where
    at_end : (x : List ℕ) → is_before x [] ≡ false
    at_end [] = refl
    at_end (c ∷ x) = refl

module _ (names : List ℕ → Option Entry) (front : List ℕ) where
  pub collects_none : Collects names front front []
  collects_none = record {
    begins = ([], sym (append-nil front));
    fronts = All-nil (IsInFront names front);
    all = λ x some before. absurd (false≢true (sym (not_before front x) ∙ before));
  }

  module _ (start : List ℕ) (keys : List (List ℕ)) (collects : Collects names front start keys) where
    module _ (path : List ℕ) (from : is_before path start ≡ false) (least : (q : List ℕ) → IsSome (names q) → is_before q start ≡ false → is_before q path ≡ false) where
      -- the first one left doesn't begin so
      pub collects_before : ((rest : List ℕ) → path ≡ front ++ rest → ⊥) → (x : List ℕ) → IsSome (names (front ++ x)) → Contains keys (front ++ x)
      collects_before outside x some = by (is_before (front ++ x) start) refl
        where
          by : (b : Bool) → is_before (front ++ x) start ≡ b → Contains keys (front ++ x)
          by true before = collects.all x some before
          by false behind =
              let y = collects.begins in
              let inside = begins_so front y.0 x path (ap (is_before path) (sym y.1) ∙ from) (least (front ++ x) some behind) in
              absurd (outside inside.0 inside.1)

      -- it does
      pub collects_more : (rest : List ℕ) → path ≡ front ++ rest → IsSome (names path) → Collects names front (path ++ 0 ∷ []) (keys ++ path ∷ [])
      collects_more rest is there = record {
        begins = (rest ++ 0 ∷ [], ap (λ (p : List ℕ). p ++ 0 ∷ []) is ∙ append_assoc front rest (0 ∷ []));
        fronts = All-push (IsInFront names front) keys path collects.fronts ((rest, is), there);
        all = λ x some before. by x some before (is_before (front ++ x) start) refl;
      }
        where
          by : (x : List ℕ) → IsSome (names (front ++ x)) → is_before (front ++ x) (path ++ 0 ∷ []) ≡ true → (b : Bool) → is_before (front ++ x) start ≡ b → Contains (keys ++ path ∷ []) (front ++ x)
          by x some before true early = Contains-append_left keys (path ∷ []) (front ++ x) (collects.all x some early)
          by x some before false late = subst (Contains (keys ++ path ∷ [])) (before_neither path (front ++ x) (upto (is_before path (front ++ x)) refl) (least (front ++ x) some late)) (Contains-push keys path)
            where
              upto : (b : Bool) → is_before path (front ++ x) ≡ b → b ≡ false
              upto true is_true = absurd (false≢true (sym (zero_next path (front ++ x) is_true) ∙ before))
              upto false is_false = refl
