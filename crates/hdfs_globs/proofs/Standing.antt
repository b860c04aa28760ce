-- The code's marks and the state stay in step.
use Rattle.std.proofs.Common.{◌≡◌, ℕ, zero, suc, ◌+◌, ◌<◌, ◌≤◌, ◌==◌, Bool, true, false, List, [], ◌∷◌, ◌++◌, length, get_or, drop, map, reverse, replicate, ap, ◌∙◌, sym, refl, arith, Vec, Global}
use Rattle.std.specs.Vec.{with_items}
use Rattle.std.proofs.lemmas.List.{with_items_is, reverse-append, length-replicate, get_or-replicate, drop_more, drop_all}
use Rattle.std.proofs.lemmas.Bool.Decides.{nat_tests}
use Rattle.hdfs_globs.specs.Patterns.{sign_of}
use Rattle.hdfs_globs.specs.Places.{Places, Marks, Open, State, StandsAs, GroupsAre, either_of, at_or, at_end, step, run}
use Rattle.hdfs_globs.specs.declared.glob.Part.{Part}
use Rattle.hdfs_globs.specs.declared.places.Group.{Group}
use Rattle.hdfs_globs.specs.declared.places.Reached.{Reached}

pub marks-at : (n : ℕ) (xs ys : List Bool) (p : Places) → ys ≡ xs → Marks n xs p → Marks n ys p
marks-at n xs ys p e marks = rw e marks

pub marks-with : (n : ℕ) (v : Vec Bool Global) (ws : List Bool) (p : Places) → length ws ≡ v.len → Marks n ws p → Marks n (with_items v ws).items p
marks-with n v ws p e marks = marks-at n ws (with_items v ws).items p (with_items_is v ws e) marks

pub start-marks : (n : ℕ) → Marks n (true ∷ replicate n false) (λ j. j == 0)
start-marks n = record { long = ap suc (length-replicate n false); same = one-at-first }
  where
    one-at-first : (k : ℕ) → k ≤ n → get_or (true ∷ replicate n false) k false ≡ (k == 0)
    one-at-first zero h = refl
    one-at-first (suc k) h = get_or-replicate n k false false (omega arith) ∙ grind (arith, nat_tests)

module _ (n : ℕ) (r r' : Reached) (g : Group) (rest : List Group) (had : r.groups.items ≡ rest ++ g ∷ []) where
  taken : (os : List Open) → GroupsAre n (reverse r.groups.items) os → GroupsAre n (g ∷ reverse rest) os
  taken os groups = rw (had, reverse-append rest (g ∷ [])) at groups

  or-at : (g' : Group) → r'.groups.items ≡ rest ++ g' ∷ [] → g'.begun.items ≡ g.begun.items → ((p q : Places) → Marks n g.ended.items p → Marks n r.places.items q → Marks n g'.ended.items (either_of p q)) → r'.places.items ≡ g.begun.items
      → (p : Places) (os : List Open) → Marks n r.places.items p → GroupsAre n (g ∷ reverse rest) os → StandsAs n r' (at_or p os)
  or-at g' has begun ended now p [] marks groups = absurd groups
  or-at g' has begun ended now p (o ∷ os) marks groups = record {
    places = rw now groups.0;
    groups = rw (has, reverse-append rest (g' ∷ [])) (rw begun groups.0, ended o.ended p groups.1 marks, groups.2);
  }

  pub alternative-begins : (g' : Group) → r'.groups.items ≡ rest ++ g' ∷ [] → g'.begun.items ≡ g.begun.items → ((p q : Places) → Marks n g.ended.items p → Marks n r.places.items q → Marks n g'.ended.items (either_of p q)) → r'.places.items ≡ g.begun.items
      → (s : State) → StandsAs n r s → StandsAs n r' (at_or s.places s.groups)
  alternative-begins g' has begun ended now s stands = or-at g' has begun ended now s.places s.groups stands.places (taken s.groups stands.groups)

  end-at : r'.groups.items ≡ rest → ((p q : Places) → Marks n g.ended.items p → Marks n r.places.items q → Marks n r'.places.items (either_of p q))
      → (p : Places) (os : List Open) → Marks n r.places.items p → GroupsAre n (g ∷ reverse rest) os → StandsAs n r' (at_end p os)
  end-at has ended p [] marks groups = absurd groups
  end-at has ended p (o ∷ os) marks groups = record { places = ended o.ended p groups.1 marks; groups = rw has groups.2 }

  pub group-ends : r'.groups.items ≡ rest → ((p q : Places) → Marks n g.ended.items p → Marks n r.places.items q → Marks n r'.places.items (either_of p q))
      → (s : State) → StandsAs n r s → StandsAs n r' (at_end s.places s.groups)
  group-ends has ended s stands = end-at has ended s.places s.groups stands.places (taken s.groups stands.groups)

pub run-more : (text : List ℕ) (parts : List Part) (i : ℕ) (x : Part) (s : State) → i < length parts → x ≡ get_or parts i x → run text (map sign_of (drop (i + 1) parts)) (step text (sign_of x) s) ≡ run text (map sign_of (drop i parts)) s
unfolding run
run-more text parts i x s inside item = sym (ap (λ (xs : List Part). run text (map sign_of xs) s) (drop_more parts i x inside ∙ ap (λ (y : Part). y ∷ drop (i + 1) parts) (sym item)))

pub run-all : (text : List ℕ) (parts : List Part) (i : ℕ) (s : State) → length parts ≤ i → run text (map sign_of (drop i parts)) s ≡ s
unfolding run
run-all text parts i s past = ap (λ (xs : List Part). run text (map sign_of xs) s) (drop_all i parts past)
