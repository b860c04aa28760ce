-- The signs of a glob, one after the other.
use Rattle.std.proofs.Common.{◌≡◌, ℕ, zero, suc, ◌+◌, ◌-◌, ◌<◌, ◌≤◌, Bool, true, false, cond, List, [], ◌∷◌, ◌++◌, Option, Some, None, length, drop, ap, ◌∙◌, sym, refl, arith, ◌==◌}
use Rattle.std.specs.Option.{option_map}
use Rattle.std.proofs.lemmas.List.{append_assoc, append-nil, drop-drop, drop_all, length-drop}
use Rattle.std.proofs.lemmas.Bool.Decides.{nat_tests}
use Rattle.hdfs_globs.specs.Globs.{Sign, SetBody, set_body, set_of, signs_of, behind_sign, behind_set, after_backslash, after_bracket, with_member}
use Rattle.hdfs_globs.specs.NextSigns.{Reads, IsNextSign, HasNoSign, depth_behind, next_signs}

-- the signs of what is left of a glob, before which d groups are open
abbrev pub signs_left : ℕ → List ℕ → Option (List Sign)
signs_left d text = signs_of (length text) d text

-- with one step of fuel the first sign is read
pub signs-next : (n d c : ℕ) (t : List ℕ) → signs_of (suc n) d (c ∷ t) ≡ next_signs (signs_of n) d (c ∷ t)
unfolding signs_of
signs-next n d c t = grind (arith, nat_tests)

cond_same : {A : Type 0} (b : Bool) (x x' y y' : A) → x ≡ x' → y ≡ y' → cond b x y ≡ cond b x' y'
cond_same true x x' y y' e h = e
cond_same false x x' y y' e h = h

-- what stands behind the set is no longer than this
abbrev Shorter : ℕ → Option SetBody → Type 0
Shorter n None = Unit {0}
Shorter n (Some body) = length body.after ≤ n

shorter-cond : (n : ℕ) (b : Bool) (x y : Option SetBody) → Shorter n x → Shorter n y → Shorter n (cond b x y)
shorter-cond n true x y h k = h
shorter-cond n false x y h k = k

shorter-more : (n : ℕ) (o : Option SetBody) → Shorter n o → Shorter (suc n) o
shorter-more n None h = tt
shorter-more n (Some body) h = omega arith

shorter-member : (n c : ℕ) (e : Bool) (o : Option SetBody) → Shorter n o → Shorter (suc n) (option_map (with_member c e) o)
shorter-member n c e None h = tt
shorter-member n c e (Some body) h = omega arith

set-shorter : (e : Bool) (text : List ℕ) → Shorter (length text) (set_body e text)
unfolding set_body
set-shorter e [] = tt
set-shorter true (c ∷ text) = shorter-member (length text) c true (set_body false text) (set-shorter false text)
set-shorter false (c ∷ text) =
    let n = length text in
    shorter-cond (suc n) (c == 92) _ _ (shorter-more n (set_body true text) (set-shorter true text))
    (shorter-cond (suc n) (c == 93) _ _ (omega arith)
    (shorter-cond (suc n) (c == 91) _ _ tt (shorter-member n c false (set_body false text) (set-shorter false text))))

-- the two agree on texts of at most n characters
abbrev AgreeUpTo : ℕ → Reads → Reads → Type 0
AgreeUpTo n f g = (d : ℕ) (text : List ℕ) → length text ≤ n → f d text ≡ g d text

backslash-same : (f g : Reads) (d : ℕ) (text : List ℕ) → AgreeUpTo (length text) f g → after_backslash (f d) text ≡ after_backslash (g d) text
backslash-same f g d [] same = refl
backslash-same f g d (c ∷ text) same = ap (behind_sign _) (same d text (omega arith))

bracket-same : (f g : Reads) (d n : ℕ) (o : Option SetBody) → Shorter n o → AgreeUpTo n f g → after_bracket (f d) o ≡ after_bracket (g d) o
bracket-same f g d n None h same = refl
bracket-same f g d n (Some body) h same = elim (set_of body.members) as (λ o. behind_set (f d) o body.after ≡ behind_set (g d) o body.after) [ None ↦ refl | Some set ↦ ap (behind_sign _) (same d body.after h) ]

next-same : (f g : Reads) (d c : ℕ) (text : List ℕ) → AgreeUpTo (length text) f g → next_signs f d (c ∷ text) ≡ next_signs g d (c ∷ text)
next-same f g d c text same =
    cond_same (c == 92) _ _ _ _ (backslash-same f g d text same)
    (cond_same (c == 91) _ _ _ _ (bracket-same f g d (length text) (set_body false text) (set-shorter false text) same)
    (ap (behind_sign _) (same _ text (omega arith))))

fuel-same : (n m d : ℕ) (text : List ℕ) → length text ≤ n → length text ≤ m → signs_of n d text ≡ signs_of m d text
unfolding signs_of
fuel-same n m zero [] h k = refl
fuel-same n m (suc d) [] h k = refl
fuel-same zero m d (c ∷ text) h k = absurd (omega arith)
fuel-same (suc n) zero d (c ∷ text) h k = absurd (omega arith)
fuel-same (suc n) (suc m) d (c ∷ text) h k =
    signs-next n d c text ∙ next-same (signs_of n) (signs_of m) d c text (λ e t l. fuel-same n m e t (omega arith) (omega arith)) ∙ sym (signs-next m d c text)

signs-step : (n d : ℕ) (text : List ℕ) → 0 < length text → signs_of (suc n) d text ≡ next_signs (signs_of n) d text
signs-step n d [] h = absurd (omega arith)
signs-step n d (c ∷ text) h = signs-next n d c text

left-step : (text : List ℕ) (at d : ℕ) → at < length text → signs_left d (drop at text) ≡ next_signs (signs_of (length text - at - 1)) d (drop at text)
left-step text at d inside =
    let e : length (drop at text) ≡ length text - at = length-drop at text in
    fuel-same (length (drop at text)) (suc (length text - at - 1)) d (drop at text) (omega arith) (omega arith) ∙ signs-step (length text - at - 1) d (drop at text) (omega arith)

pub left-none : (text : List ℕ) (at d : ℕ) → at < length text → HasNoSign d (drop at text) → signs_left d (drop at text) ≡ None
left-none text at d inside none = left-step text at d inside ∙ none (signs_of (length text - at - 1))

pub left-some : (text : List ℕ) (at d taken : ℕ) (s : Sign) → at < length text → 0 < taken → IsNextSign d (drop at text) s taken
    → signs_left d (drop at text) ≡ behind_sign s (signs_left (depth_behind s d) (drop (at + taken) text))
left-some text at d taken s inside on some =
    let d' : ℕ = depth_behind s d in
    let at' : ℕ = at + taken in
    let rest : drop taken (drop at text) ≡ drop at' text = drop-drop taken at text in
    let e : length (drop at' text) ≡ length text - at' = length-drop at' text in
    left-step text at d inside ∙ some (signs_of (length text - at - 1)) ∙ ap (λ (t : List ℕ). behind_sign s (signs_of (length text - at - 1) d' t)) rest
    ∙ ap (behind_sign s) (fuel-same (length text - at - 1) (length (drop at' text)) d' (drop at' text) (omega arith) (omega arith))

-- these signs stand before the others
abbrev pub before_signs : List Sign → Option (List Sign) → Option (List Sign)
before_signs done o = option_map (λ rest. done ++ rest) o

signs-moved : (done : List Sign) (s : Sign) (o : Option (List Sign)) → before_signs done (behind_sign s o) ≡ before_signs (done ++ s ∷ []) o
signs-moved done s None = refl
signs-moved done s (Some rest) = ap (λ (x : List Sign). Some x) (sym (append_assoc done (s ∷ []) rest))

pub turn-some : (whole : Option (List Sign)) (done done' : List Sign) (text : List ℕ) (at d taken : ℕ) (s : Sign) → at < length text → 0 < taken → IsNextSign d (drop at text) s taken → done' ≡ done ++ s ∷ []
    → whole ≡ before_signs done (signs_left d (drop at text)) → whole ≡ before_signs done' (signs_left (depth_behind s d) (drop (at + taken) text))
turn-some whole done done' text at d taken s inside on some grown left =
    let rest : Option (List Sign) = signs_left (depth_behind s d) (drop (at + taken) text) in
    left ∙ ap (before_signs done) (left-some text at d taken s inside on some) ∙ signs-moved done s rest ∙ ap (λ (x : List Sign). before_signs x rest) (sym grown)

pub turn-none : (whole : Option (List Sign)) (done : List Sign) (text : List ℕ) (at d : ℕ) → at < length text → HasNoSign d (drop at text) → whole ≡ before_signs done (signs_left d (drop at text)) → whole ≡ None
turn-none whole done text at d inside none left = left ∙ ap (before_signs done) (left-none text at d inside none)

end-open : (d : ℕ) → 0 < d → signs_left d [] ≡ None
unfolding signs_of
end-open zero h = absurd (omega arith)
end-open (suc d) h = refl

end-closed : (d : ℕ) → d ≡ 0 → signs_left d [] ≡ Some []
unfolding signs_of
end-closed zero h = refl
end-closed (suc d) h = absurd (omega arith)

pub all-open : (whole : Option (List Sign)) (done : List Sign) (text : List ℕ) (at d : ℕ) → length text ≤ at → 0 < d → whole ≡ before_signs done (signs_left d (drop at text)) → whole ≡ None
all-open whole done text at d past deep left = left ∙ ap (λ (x : List ℕ). before_signs done (signs_left d x)) (drop_all at text past) ∙ ap (before_signs done) (end-open d deep)

pub all-closed : (whole : Option (List Sign)) (done : List Sign) (text : List ℕ) (at d : ℕ) → length text ≤ at → d ≡ 0 → whole ≡ before_signs done (signs_left d (drop at text)) → whole ≡ Some done
all-closed whole done text at d past closed left = left ∙ ap (λ (x : List ℕ). before_signs done (signs_left d x)) (drop_all at text past) ∙ ap (before_signs done) (end-closed d closed) ∙ ap (λ (x : List Sign). Some x) (append-nil done)
