-- A brace group, character after character.
use Rattle.std.proofs.Common.{◌≡◌, ℕ, suc, ◌+◌, ◌-◌, ◌<◌, ◌≤◌, Bool, true, false, cond, List, [], ◌∷◌, ◌++◌, Option, Some, None, length, drop, ap, ◌∙◌, sym, refl, arith, ◌==◌, ◌&&◌, ◌||◌}
use Rattle.std.specs.Option.{option_map}
use Rattle.std.proofs.lemmas.List.{append_assoc, append-nil, drop_all}
use Rattle.std.proofs.Math.Bool.{or-true, or-false}
use Rattle.std.proofs.lemmas.Bool.Decides.{nat_tests}
use Rattle.hdfs_globs.specs.Expansions.{Group, group_at, with_character, with_slash, with_alternative, before_first}
use Rattle.hdfs_globs.specs.GroupScans.{group_sign_of, led, before_alternatives}
use Rattle.hdfs_globs.specs.declared.group.GroupSign.TheVariants.{Character, Backslash, Opens, Closes, Ends, Comma, Slash}

at-character : (e : Bool) (d c : ℕ) (t : List ℕ) → group_sign_of e d c ≡ Character → group_at e d (c ∷ t) ≡ option_map (with_character c) (group_at false d t)
unfolding group_at
at-character true d c t h = refl
at-character false d c t h = grind (arith, nat_tests)

at-backslash : (e : Bool) (d c : ℕ) (t : List ℕ) → group_sign_of e d c ≡ Backslash → group_at e d (c ∷ t) ≡ group_at true d t
unfolding group_at
at-backslash true d c t h = cc
at-backslash false d c t h = grind (arith, nat_tests)

at-opens : (e : Bool) (d c : ℕ) (t : List ℕ) → group_sign_of e d c ≡ Opens → group_at e d (c ∷ t) ≡ option_map (with_character c) (group_at e (suc d) t)
unfolding group_at
at-opens true d c t h = cc
at-opens false d c t h = grind (arith, nat_tests)

at-closes : (e : Bool) (d c : ℕ) (t : List ℕ) → group_sign_of e d c ≡ Closes → group_at e d (c ∷ t) ≡ option_map (with_character c) (group_at e (d - 1) t)
unfolding group_at
at-closes true d c t h = cc
at-closes false d c t h = grind (arith, nat_tests)

at-slash : (e : Bool) (d c : ℕ) (t : List ℕ) → group_sign_of e d c ≡ Slash → group_at e d (c ∷ t) ≡ option_map with_slash (group_at e d t)
unfolding group_at
at-slash true d c t h = cc
at-slash false d c t h = grind (arith, nat_tests)

slash-is : (e : Bool) (d c : ℕ) → group_sign_of e d c ≡ Slash → c ≡ 47
slash-is true d c h = cc
slash-is false d c h = grind (arith, nat_tests)

at-comma : (e : Bool) (d c : ℕ) (t : List ℕ) → group_sign_of e d c ≡ Comma → group_at e d (c ∷ t) ≡ option_map with_alternative (group_at e d t)
unfolding group_at
at-comma true d c t h = cc
at-comma false d c t h = grind (arith, nat_tests)

at-ends : (e : Bool) (d c : ℕ) (t : List ℕ) → group_sign_of e d c ≡ Ends → group_at e d (c ∷ t) ≡ Some (record { alternatives = [] ∷ []; slash = false; after = t })
unfolding group_at
at-ends true d c t h = cc
at-ends false d c t h = grind (arith, nat_tests)

at-end : (e : Bool) (d : ℕ) → group_at e d [] ≡ None
unfolding group_at
at-end e d = refl

-- a group has an alternative, and each is shorter than the text, together with what stands behind the group
abbrev pub EachShorter : ℕ → List (List ℕ) → List ℕ → Type 0
EachShorter n [] after = Unit {0}
EachShorter n (a ∷ texts) after = (length a + length after < n) × EachShorter n texts after

abbrev HasSome : List (List ℕ) → Type 0
HasSome [] = ⊥
HasSome (a ∷ texts) = Unit {0}

abbrev pub IsGroupIn : ℕ → Option Group → Type 0
IsGroupIn n None = Unit {0}
IsGroupIn n (Some g) = HasSome g.alternatives × (length g.after < n) × EachShorter n g.alternatives g.after

pub each-more : (n : ℕ) (texts : List (List ℕ)) (after : List ℕ) → EachShorter n texts after → EachShorter (suc n) texts after
each-more n [] after h = tt
each-more n (a ∷ texts) after h = (omega (arith, h.0), each-more n texts after h.1)

in-more : (n : ℕ) (o : Option Group) → IsGroupIn n o → IsGroupIn (suc n) o
in-more n None h = tt
in-more n (Some g) h = (h.0, omega (arith, h.1), each-more n g.alternatives g.after h.2)

each-before : (n c : ℕ) (texts : List (List ℕ)) (after : List ℕ) → HasSome texts → EachShorter n texts after → HasSome (before_first c texts) × EachShorter (suc n) (before_first c texts) after
each-before n c [] after some h = absurd some
each-before n c (a ∷ texts) after some h = (tt, (omega (arith, h.0), each-more n texts after h.1))

in-character : (n c : ℕ) (o : Option Group) → IsGroupIn n o → IsGroupIn (suc n) (option_map (with_character c) o)
in-character n c None h = tt
in-character n c (Some g) h = let b = each-before n c g.alternatives g.after h.0 h.2 in (b.0, omega (arith, h.1), b.1)

in-slash : (n : ℕ) (o : Option Group) → IsGroupIn n o → IsGroupIn (suc n) (option_map with_slash o)
in-slash n None h = tt
in-slash n (Some g) h = let b = each-before n 47 g.alternatives g.after h.0 h.2 in (b.0, omega (arith, h.1), b.1)

in-comma : (n : ℕ) (o : Option Group) → IsGroupIn n o → IsGroupIn (suc n) (option_map with_alternative o)
in-comma n None h = tt
in-comma n (Some g) h = (tt, omega (arith, h.1), (omega (arith, h.1), each-more n g.alternatives g.after h.2))

in-cond : (n : ℕ) (b : Bool) (x y : Option Group) → IsGroupIn n x → IsGroupIn n y → IsGroupIn n (cond b x y)
in-cond n true x y h k = h
in-cond n false x y h k = k

pub group-in : (e : Bool) (d : ℕ) (text : List ℕ) → IsGroupIn (length text) (group_at e d text)
unfolding group_at
group-in e d [] = tt
group-in true d (c ∷ text) = in-character (length text) c (group_at false d text) (group-in false d text)
group-in false d (c ∷ text) =
    let n : ℕ = length text in
    let plain : Option Group = option_map (with_character c) (group_at false d text) in
    let slash : Option Group = cond (c == 47) (option_map with_slash (group_at false d text)) plain in
    let comma : Option Group = cond (c == 44 && d == 0) (option_map with_alternative (group_at false d text)) slash in
    let closes : Option Group = cond (c == 125) (option_map (with_character c) (group_at false (d - 1) text)) comma in
    let ends : Option Group = cond (c == 125 && d == 0) (Some (record { alternatives = [] ∷ []; slash = false; after = text })) closes in
    let opens : Option Group = cond (c == 123) (option_map (with_character c) (group_at false (suc d) text)) ends in
    in-cond (suc n) (c == 92) (group_at true d text) opens (in-more n (group_at true d text) (group-in true d text))
    (in-cond (suc n) (c == 123) (option_map (with_character c) (group_at false (suc d) text)) ends (in-character n c (group_at false (suc d) text) (group-in false (suc d) text))
    (in-cond (suc n) (c == 125 && d == 0) (Some (record { alternatives = [] ∷ []; slash = false; after = text })) closes (tt, omega arith, (omega arith, tt))
    (in-cond (suc n) (c == 125) (option_map (with_character c) (group_at false (d - 1) text)) comma (in-character n c (group_at false (d - 1) text) (group-in false (d - 1) text))
    (in-cond (suc n) (c == 44 && d == 0) (option_map with_alternative (group_at false d text)) slash (in-comma n (group_at false d text) (group-in false d text))
    (in-cond (suc n) (c == 47) (option_map with_slash (group_at false d text)) plain (in-slash n (group_at false d text) (group-in false d text))
    (in-character n c (group_at false d text) (group-in false d text)))))))

-- nothing was read yet
led-nothing : (n : ℕ) (o : Option Group) → IsGroupIn n o → option_map (led [] [] false) o ≡ o
led-nothing n None h = refl
led-nothing n (Some g) h = at g.alternatives h.0
  where
    at : (texts : List (List ℕ)) → HasSome texts → ◌≡◌ {A = Option Group} (Some (record { alternatives = before_alternatives [] texts; slash = g.slash; after = g.after })) (Some (record { alternatives = texts; slash = g.slash; after = g.after }))
    at [] some = absurd some
    at (a ∷ texts) some = refl

before-one : (current : List ℕ) (c : ℕ) (texts : List (List ℕ)) → before_alternatives current (before_first c texts) ≡ before_alternatives (current ++ c ∷ []) texts
before-one current c [] = refl
before-one current c (a ∷ texts) = ap (λ (x : List ℕ). x ∷ texts) (sym (append_assoc current (c ∷ []) a))

module _ (done : List (List ℕ)) (current : List ℕ) (slash : Bool) where
  led-character : (c : ℕ) (o : Option Group) → option_map (led done current slash) (option_map (with_character c) o) ≡ option_map (led done (current ++ c ∷ []) slash) o
  led-character c None = refl
  led-character c (Some g) = ap (λ (x : List (List ℕ)). Some (record { alternatives = done ++ x; slash = slash || g.slash; after = g.after })) (before-one current c g.alternatives)

  led-slash : (c : ℕ) → c ≡ 47 → (o : Option Group) → option_map (led done current slash) (option_map with_slash o) ≡ option_map (led done (current ++ c ∷ []) true) o
  led-slash c e None = refl
  led-slash c e (Some g) = rw e (ap (λ (x : List (List ℕ)). Some (record { alternatives = done ++ x; slash = slash || true; after = g.after })) (before-one current 47 g.alternatives) ∙ ap (λ (x : Bool). Some (record { alternatives = done ++ before_alternatives (current ++ 47 ∷ []) g.alternatives; slash = x; after = g.after })) (or-true slash))

  led-comma : (n : ℕ) (o : Option Group) → IsGroupIn n o → option_map (led done current slash) (option_map with_alternative o) ≡ option_map (led (done ++ current ∷ []) [] slash) o
  led-comma n None h = refl
  led-comma n (Some g) h = at g.alternatives h.0
    where
      at : (texts : List (List ℕ)) → HasSome texts → ◌≡◌ {A = Option Group} (Some (record { alternatives = done ++ ((current ++ []) ∷ texts); slash = slash || g.slash; after = g.after })) (Some (record { alternatives = (done ++ current ∷ []) ++ before_alternatives [] texts; slash = slash || g.slash; after = g.after }))
      at [] some = absurd some
      at (a ∷ texts) some = ap (λ (x : List (List ℕ)). Some (record { alternatives = x; slash = slash || g.slash; after = g.after })) (ap (λ (x : List ℕ). done ++ (x ∷ a ∷ texts)) (append-nil current) ∙ sym (append_assoc done (current ∷ []) (a ∷ texts)))

  led-ends : (t : List ℕ) → option_map (led done current slash) (Some (record { alternatives = [] ∷ []; slash = false; after = t })) ≡ Some (record { alternatives = done ++ current ∷ []; slash = slash; after = t })
  led-ends t = ap (λ (x : List ℕ). Some (record { alternatives = done ++ x ∷ []; slash = slash || false; after = t })) (append-nil current) ∙ ap (λ (x : Bool). Some (record { alternatives = done ++ current ∷ []; slash = x; after = t })) (or-false slash)

-- what was read and what the text goes on with are the whole
abbrev pub Rest : Option Group → List (List ℕ) → List ℕ → Bool → Bool → ℕ → List ℕ → Type 0
Rest whole done current slash e d text = whole ≡ option_map (led done current slash) (group_at e d text)

pub rest-begins : (whole : Option Group) (text : List ℕ) → whole ≡ group_at false 0 text → Rest whole [] [] false false 0 text
rest-begins whole text e = e ∙ sym (led-nothing (length text) (group_at false 0 text) (group-in false 0 text))

module _ (whole : Option Group) (done : List (List ℕ)) (current : List ℕ) (slash e : Bool) (d c : ℕ) (t : List ℕ) (left : Rest whole done current slash e d (c ∷ t)) where
  reads : {o : Option Group} → group_at e d (c ∷ t) ≡ o → whole ≡ option_map (led done current slash) o
  reads h = left ∙ ap (option_map (led done current slash)) h

  pub turn-character : (current' : List ℕ) → group_sign_of e d c ≡ Character → current' ≡ current ++ c ∷ [] → Rest whole done current' slash false d t
  turn-character current' h grown = rw grown (reads (at-character e d c t h) ∙ led-character done current slash c (group_at false d t))

  pub turn-backslash : group_sign_of e d c ≡ Backslash → Rest whole done current slash true d t
  turn-backslash h = reads (at-backslash e d c t h)

  pub turn-opens : (current' : List ℕ) (d' : ℕ) → group_sign_of e d c ≡ Opens → current' ≡ current ++ c ∷ [] → d' ≡ suc d → Rest whole done current' slash e d' t
  turn-opens current' d' h grown deeper = rw (grown, deeper) (reads (at-opens e d c t h) ∙ led-character done current slash c (group_at e (suc d) t))

  pub turn-closes : (current' : List ℕ) (d' : ℕ) → group_sign_of e d c ≡ Closes → current' ≡ current ++ c ∷ [] → d' ≡ d - 1 → Rest whole done current' slash e d' t
  turn-closes current' d' h grown higher = rw (grown, higher) (reads (at-closes e d c t h) ∙ led-character done current slash c (group_at e (d - 1) t))

  pub turn-slash : (current' : List ℕ) → group_sign_of e d c ≡ Slash → current' ≡ current ++ c ∷ [] → Rest whole done current' true e d t
  turn-slash current' h grown = rw grown (reads (at-slash e d c t h) ∙ led-slash done current slash c (slash-is e d c h) (group_at e d t))

  pub turn-comma : (done' : List (List ℕ)) (current' : List ℕ) → group_sign_of e d c ≡ Comma → done' ≡ done ++ current ∷ [] → current' ≡ [] → Rest whole done' current' slash e d t
  turn-comma done' current' h grown empty = rw (grown, empty) (reads (at-comma e d c t h) ∙ led-comma done current slash (length t) (group_at e d t) (group-in e d t))

  pub turn-ends : (done' : List (List ℕ)) → group_sign_of e d c ≡ Ends → done' ≡ done ++ current ∷ [] → whole ≡ Some (record { alternatives = done'; slash = slash; after = t })
  turn-ends done' h grown = rw grown (reads (at-ends e d c t h) ∙ led-ends done current slash t)

pub rest-none : (whole : Option Group) (done : List (List ℕ)) (current : List ℕ) (slash e : Bool) (d : ℕ) (text : List ℕ) (i : ℕ) → length text ≤ i → Rest whole done current slash e d (drop i text) → whole ≡ None
rest-none whole done current slash e d text i past left = left ∙ ap (λ (x : List ℕ). option_map (led done current slash) (group_at e d x)) (drop_all i text past) ∙ ap (option_map (led done current slash)) (at-end e d)
