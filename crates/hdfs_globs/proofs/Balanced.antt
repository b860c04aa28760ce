-- The signs of a text are spelled by a glob.
use Rattle.std.proofs.Common.{◌≡◌, ℕ, zero, suc, ◌-◌, ◌<◌, Bool, true, false, not, cond, List, [], ◌∷◌, ◌++◌, Option, Some, None, length, ap, ◌∙◌, sym, subst, refl, arith, ◌==◌, ◌&&◌}
use Rattle.std.proofs.lemmas.List.{append_assoc}
use Rattle.std.proofs.lemmas.Bool.Decides.{nat_tests}
use Rattle.hdfs_globs.specs.NextSigns.{plain_sign, depth_behind}
use Rattle.hdfs_globs.proofs.SignsRead.{signs-next}
use Rattle.hdfs_globs.specs.Globs.{Sign, One, SetBody, set_body, set_of, signs, signs_of, behind_sign, behind_set, after_backslash, after_bracket}
use Rattle.hdfs_globs.specs.Globs.Sign.{one, many, group_begins, or_else, group_ends}
use Rattle.hdfs_globs.specs.Globs.One.{itself, any}
use Rattle.hdfs_globs.specs.Fits.{Glob, Choice, spelled, spelled_choice}
use Rattle.hdfs_globs.specs.Fits.Glob.{nothing, then_one, then_many, then_group}
use Rattle.hdfs_globs.specs.Fits.Choice.{last, either}

-- the signs end d groups that are open before them
abbrev Tail : ℕ → List Sign → Type 0
Tail zero s = (g : Glob) × (s ≡ spelled g)
Tail (suc d) s = (choice : Choice) × (rest : List Sign) × (s ≡ spelled_choice choice ++ (group_ends ∷ rest)) × Tail d rest

-- parts that stand before every glob: f puts them there, and they are written as these signs
module _ (f : Glob → Glob) (pre : List Sign) (spells : (g : Glob) → spelled (f g) ≡ pre ++ spelled g) where
  front : Choice → Choice
  front (last g) = last (f g)
  front (either g choice) = either (f g) choice

  front-spelled : (choice : Choice) → spelled_choice (front choice) ≡ pre ++ spelled_choice choice
  unfolding front spelled spelled_choice
  front-spelled (last g) = spells g
  front-spelled (either g choice) = ap (λ (x : List Sign). x ++ (or_else ∷ spelled_choice choice)) (spells g) ∙ append_assoc pre (spelled g) (or_else ∷ spelled_choice choice)

  tail-front : (d : ℕ) (s : List Sign) → Tail d s → Tail d (pre ++ s)
  tail-front zero s (g, e) = (f g, ap (λ (x : List Sign). pre ++ x) e ∙ sym (spells g))
  tail-front (suc d) s (choice, rest, e, t) =
      (front choice, rest, ap (λ (x : List Sign). pre ++ x) e ∙ sym (append_assoc pre (spelled_choice choice) (group_ends ∷ rest)) ∙ ap (λ (x : List Sign). x ++ (group_ends ∷ rest)) (sym (front-spelled choice)), t)

tail-one : (o : One) (d : ℕ) (s : List Sign) → Tail d s → Tail d (one o ∷ s)
unfolding spelled
tail-one o d s t = tail-front (then_one o) (one o ∷ []) (λ g. refl) d s t

tail-many : (d : ℕ) (s : List Sign) → Tail d s → Tail d (many ∷ s)
unfolding spelled
tail-many d s t = tail-front then_many (many ∷ []) (λ g. refl) d s t

group-spelled : (choice : Choice) (g : Glob) → spelled (then_group choice g) ≡ (group_begins ∷ (spelled_choice choice ++ (group_ends ∷ []))) ++ spelled g
unfolding spelled
group-spelled choice g = ap (λ (x : List Sign). group_begins ∷ x) (sym (append_assoc (spelled_choice choice) (group_ends ∷ []) (spelled g)))

tail-begins : (d : ℕ) (s : List Sign) → Tail (suc d) s → Tail d (group_begins ∷ s)
tail-begins d s (choice, rest, e, t) =
    let e' : (group_begins ∷ (spelled_choice choice ++ (group_ends ∷ []))) ++ rest ≡ group_begins ∷ s = ap (λ (x : List Sign). group_begins ∷ x) (append_assoc (spelled_choice choice) (group_ends ∷ []) rest ∙ sym e) in
    subst (Tail d) e' (tail-front (then_group choice) (group_begins ∷ (spelled_choice choice ++ (group_ends ∷ []))) (group-spelled choice) d rest t)

tail-or : (d : ℕ) (s : List Sign) → Tail (suc d) s → Tail (suc d) (or_else ∷ s)
unfolding spelled spelled_choice
tail-or d s (choice, rest, e, t) = (either nothing choice, rest, ap (λ (x : List Sign). or_else ∷ x) e, t)

tail-ends : (d : ℕ) (s : List Sign) → Tail d s → Tail (suc d) (group_ends ∷ s)
unfolding spelled spelled_choice
tail-ends d s t = (last nothing, s, refl, t)

-- the signs, where there are any, end the groups that are open
abbrev IsTail : ℕ → Option (List Sign) → Type 0
IsTail d None = Unit {0}
IsTail d (Some s) = Tail d s

one-tail : (o : One) (d : ℕ) (r : Option (List Sign)) → IsTail d r → IsTail d (behind_sign (one o) r)
one-tail o d None h = tt
one-tail o d (Some s) h = tail-one o d s h

many-tail : (d : ℕ) (r : Option (List Sign)) → IsTail d r → IsTail d (behind_sign many r)
many-tail d None h = tt
many-tail d (Some s) h = tail-many d s h

begins-tail : (d : ℕ) (r : Option (List Sign)) → IsTail (suc d) r → IsTail d (behind_sign group_begins r)
begins-tail d None h = tt
begins-tail d (Some s) h = tail-begins d s h

or-tail : (d : ℕ) (r : Option (List Sign)) → IsTail (suc d) r → IsTail (suc d) (behind_sign or_else r)
or-tail d None h = tt
or-tail d (Some s) h = tail-or d s h

ends-tail : (d : ℕ) (r : Option (List Sign)) → IsTail d r → IsTail (suc d) (behind_sign group_ends r)
ends-tail d None h = tt
ends-tail d (Some s) h = tail-ends d s h

cond-when : {A : Type 0} (P : A → Type 0) (b : Bool) (x y : A) → (b ≡ true → P x) → (b ≡ false → P y) → P (cond b x y)
cond-when P true x y when unless = when refl
cond-when P false x y when unless = unless refl

module _ (d : ℕ) (r : ℕ → Option (List Sign)) (tails : (e : ℕ) → IsTail e (r e)) where
  abbrev Stands : Sign → Type 0
  Stands s = IsTail d (behind_sign s (r (depth_behind s d)))

  plain-tail : (c : ℕ) → (0 < d → Stands group_ends) → (0 < d → Stands or_else) → Stands (plain_sign d c)
  plain-tail c ends ors =
      cond-when Stands (c == 42) _ _ (λ _. many-tail d (r d) (tails d)) (λ _.
      cond-when Stands (c == 63) _ _ (λ _. one-tail any d (r d) (tails d)) (λ _.
      cond-when Stands (c == 123) _ _ (λ _. begins-tail d (r (suc d)) (tails (suc d))) (λ _.
      cond-when Stands (c == 125 && not (d == 0)) _ _ (λ e. ends (grind (arith, nat_tests))) (λ _.
      cond-when Stands (c == 44 && not (d == 0)) _ _ (λ e. ors (grind (arith, nat_tests))) (λ _.
      one-tail (itself c) d (r d) (tails d))))))

sign-tail : (d : ℕ) (r : ℕ → Option (List Sign)) (c : ℕ) → ((e : ℕ) → IsTail e (r e)) → IsTail d (behind_sign (plain_sign d c) (r (depth_behind (plain_sign d c) d)))
sign-tail zero r c tails = plain-tail zero r tails c (λ h. absurd (omega arith)) (λ h. absurd (omega arith))
sign-tail (suc d) r c tails =
    let e : suc d - 1 ≡ d = omega arith in
    plain-tail (suc d) r tails c (λ h. subst (λ (k : ℕ). IsTail (suc d) (behind_sign group_ends (r k))) (sym e) (ends-tail d (r d) (tails d))) (λ h. or-tail d (r (suc d)) (tails (suc d)))

backslash-tail : (f : List ℕ → Option (List Sign)) (d : ℕ) (text : List ℕ) → ((t : List ℕ) → IsTail d (f t)) → IsTail d (after_backslash f text)
backslash-tail f d [] tails = tt
backslash-tail f d (c ∷ text) tails = one-tail (itself c) d (f text) (tails text)

bracket-tail : (f : List ℕ → Option (List Sign)) (d : ℕ) (o : Option SetBody) → ((t : List ℕ) → IsTail d (f t)) → IsTail d (after_bracket f o)
bracket-tail f d None tails = tt
bracket-tail f d (Some body) tails = elim (set_of body.members) as (λ o. IsTail d (behind_set f o body.after)) [ None ↦ tt | Some set ↦ one-tail set d (f body.after) (tails body.after) ]

signs-tail : (n d : ℕ) (text : List ℕ) → IsTail d (signs_of n d text)
unfolding signs_of spelled
signs-tail n zero [] = (nothing, refl)
signs-tail n (suc d) [] = tt
signs-tail zero d (c ∷ text) = tt
signs-tail (suc n) d (c ∷ text) = subst (IsTail d) (sym (signs-next n d c text))
    (cond-when (IsTail d) (c == 92) _ _ (λ _. backslash-tail (signs_of n d) d text (λ t. signs-tail n d t)) (λ _.
    cond-when (IsTail d) (c == 91) _ _ (λ _. bracket-tail (signs_of n d) d (set_body false text) (λ t. signs-tail n d t)) (λ _.
    sign-tail d (λ e. signs_of n e text) c (λ e. signs-tail n e text))))

-- signs that a glob's text answers are spelled by a glob
pub spelled-signs : (text : List ℕ) (s : List Sign) → signs text ≡ Some s → (g : Glob) × (s ≡ spelled g)
spelled-signs text s e = let h : IsTail 0 (Some s) = subst (IsTail 0) e (signs-tail (length text) 0 text) in h
