-- What a pattern opens to doesn't depend on the fuel, and is what its alternatives open to.
use Rattle.std.proofs.Common.{◌≡◌, ℕ, zero, suc, ◌+◌, ◌-◌, ◌<◌, Bool, true, false, cond, List, [], ◌∷◌, ◌++◌, Option, Some, None, length, take, drop, map, reverse, subst, ap, ◌∙◌, sym, refl, arith, ◌==◌, ◌&&◌}
use Rattle.std.proofs.Math.Seq.{take-add}
use Rattle.std.proofs.lemmas.List.{append_assoc, append-nil, map-append, length-append, take_at, drop_at, take-append-drop, drop-drop, reverse-append, reverse-reverse, map-id}
use Rattle.hdfs_globs.specs.Escapes.{ends_escaping}
use Rattle.hdfs_globs.specs.Expansions.{Group, Cut, cut_from, cut_or, behind, group_at, both, joined, in_front, at_cut, opened, opens}
use Rattle.hdfs_globs.specs.CutScans.{IsFound}
use Rattle.hdfs_globs.specs.declared.cut.Found.{Found}
use Rattle.hdfs_globs.specs.Openings.{child, opens_from, all_opened, sum_after, nodes_at, nodes_in, nodes, all_nodes}
use Rattle.hdfs_globs.proofs.GroupsRead.{EachShorter, each-more, IsGroupIn, group-in}

-- each text made of an alternative is shorter than n
abbrev IsCutIn : ℕ → Option Cut → Type 0
IsCutIn n None = Unit {0}
IsCutIn n (Some cut) = EachShorter n cut.alternatives cut.after

in-behind : (n c : ℕ) (o : Option Cut) → IsCutIn n o → IsCutIn (suc n) (behind c o)
in-behind n c None h = tt
in-behind n c (Some cut) h = each-more n cut.alternatives cut.after h

in-group : (n : ℕ) (o : Option Group) (other : Option Cut) → IsGroupIn n o → IsCutIn (suc n) other → IsCutIn (suc n) (cut_or o other)
in-group n None other h k = k
in-group n (Some g) other h k = elim (g.slash) as (λ b. IsCutIn (suc n) (cond b (Some (record { before = []; alternatives = g.alternatives; after = g.after })) other)) [ true ↦ each-more n g.alternatives g.after h.2 | false ↦ k ]

cut-cond : (n : ℕ) (b : Bool) (x y : Option Cut) → IsCutIn n x → IsCutIn n y → IsCutIn n (cond b x y)
cut-cond n true x y h k = h
cut-cond n false x y h k = k

cut-in : (e : Bool) (d : ℕ) (text : List ℕ) → IsCutIn (length text) (cut_from e d text)
unfolding cut_from
cut-in e d [] = tt
cut-in true d (c ∷ text) = in-behind (length text) c (cut_from false d text) (cut-in false d text)
cut-in false d (c ∷ text) =
    let n : ℕ = length text in
    let plain : Option Cut = behind c (cut_from false d text) in
    let closes : Option Cut = cond (c == 125) (behind c (cut_from false (d - 1) text)) plain in
    let opens : Option Cut = cond (c == 123) (behind c (cut_from false (suc d) text)) closes in
    let begins : Option Cut = cond (c == 123 && d == 0) (cut_or (group_at false 0 text) (behind c (cut_from false 1 text))) opens in
    cut-cond (suc n) (c == 92) (behind c (cut_from true d text)) begins (in-behind n c (cut_from true d text) (cut-in true d text))
    (cut-cond (suc n) (c == 123 && d == 0) (cut_or (group_at false 0 text) (behind c (cut_from false 1 text))) opens (in-group n (group_at false 0 text) (behind c (cut_from false 1 text)) (group-in false 0 text) (in-behind n c (cut_from false 1 text) (cut-in false 1 text)))
    (cut-cond (suc n) (c == 123) (behind c (cut_from false (suc d) text)) closes (in-behind n c (cut_from false (suc d) text) (cut-in false (suc d) text))
    (cut-cond (suc n) (c == 125) (behind c (cut_from false (d - 1) text)) plain (in-behind n c (cut_from false (d - 1) text) (cut-in false (d - 1) text))
    (in-behind n c (cut_from false d text) (cut-in false d text)))))

-- two that agree on texts shorter than n agree on what is made of shorter ones
abbrev Agree : {A : Type 0} → ℕ → (List ℕ → A) → (List ℕ → A) → Type 0
Agree n f g = (text : List ℕ) → length text < n → f text ≡ g text

joined-same : (n : ℕ) (before after : List ℕ) (f g : List ℕ → Option (List (List ℕ))) → ((text : List ℕ) → length text < n → f text ≡ g text) → (texts : List (List ℕ)) → EachShorter n texts after → joined (λ a. in_front before (f (a ++ after))) texts ≡ joined (λ a. in_front before (g (a ++ after))) texts
unfolding joined
joined-same n before after f g same [] h = refl
joined-same n before after f g same (a ∷ texts) h =
    let l = length-append a after in
    ap (λ (o : Option (List (List ℕ))). both (in_front before o) (joined (λ b. in_front before (f (b ++ after))) texts)) (same (a ++ after) (omega (arith, h.0)))
    ∙ ap (both (in_front before (g (a ++ after)))) (joined-same n before after f g same texts h.1)

cut-same : (n : ℕ) (f g : List ℕ → Option (List (List ℕ))) → ((text : List ℕ) → length text < n → f text ≡ g text) → (text : List ℕ) (o : Option Cut) → IsCutIn n o → at_cut f text o ≡ at_cut g text o
cut-same n f g same text None h = refl
cut-same n f g same text (Some cut) h = joined-same n cut.before cut.after f g same cut.alternatives h

fuel-same : (n m : ℕ) (text : List ℕ) → length text < n → length text < m → opened n text ≡ opened m text
unfolding opened
fuel-same zero m text h k = absurd (omega arith)
fuel-same (suc n) zero text h k = absurd (omega arith)
fuel-same (suc n) (suc m) text h k = cut-same (length text) (opened n) (opened m) (λ t l. fuel-same n m t (omega arith) (omega arith)) text (cut_from false 0 text) (cut-in false 0 text)

opens-step : (text : List ℕ) → opens text ≡ at_cut opens text (cut_from false 0 text)
unfolding opened
opens-step text = cut-same (length text) (opened (length text)) opens (λ t l. fuel-same (length text) (suc (length t)) t l (omega arith)) text (cut_from false 0 text) (cut-in false 0 text)

-- the same for the number of texts
sum-same : (n : ℕ) (after : List ℕ) (f g : List ℕ → ℕ) → ((text : List ℕ) → length text < n → f text ≡ g text) → (texts : List (List ℕ)) → EachShorter n texts after → sum_after f after texts ≡ sum_after g after texts
sum-same n after f g same [] h = refl
sum-same n after f g same (a ∷ texts) h =
    let l = length-append a after in
    let here = same (a ++ after) (omega (arith, h.0)) in
    let more = sum-same n after f g same texts h.1 in
    rw (here, more)

nodes-same : (n : ℕ) (f g : List ℕ → ℕ) → ((text : List ℕ) → length text < n → f text ≡ g text) → (o : Option Cut) → IsCutIn n o → nodes_at f o ≡ nodes_at g o
nodes-same n f g same None h = refl
nodes-same n f g same (Some cut) h = ap suc (sum-same n cut.after f g same cut.alternatives h)

nodes-fuel : (n m : ℕ) (text : List ℕ) → length text < n → length text < m → nodes_in n text ≡ nodes_in m text
unfolding nodes_in
nodes-fuel zero m text h k = absurd (omega arith)
nodes-fuel (suc n) zero text h k = absurd (omega arith)
nodes-fuel (suc n) (suc m) text h k = nodes-same (length text) (nodes_in n) (nodes_in m) (λ t l. nodes-fuel n m t (omega arith) (omega arith)) (cut_from false 0 text) (cut-in false 0 text)

nodes-step : (text : List ℕ) → nodes text ≡ nodes_at nodes (cut_from false 0 text)
unfolding nodes_in
nodes-step text = nodes-same (length text) (nodes_in (length text)) nodes (λ t l. nodes-fuel (length text) (suc (length t)) t l (omega arith)) (cut_from false 0 text) (cut-in false 0 text)

-- `both` and `in_front`
both-assoc : (x y z : Option (List (List ℕ))) → both x (both y z) ≡ both (both x y) z
both-assoc None y z = refl
both-assoc (Some x) None z = refl
both-assoc (Some x) (Some y) None = refl
both-assoc (Some x) (Some y) (Some z) = ap (λ (t : List (List ℕ)). Some t) (sym (append_assoc x y z))

both-nil : (x : Option (List (List ℕ))) → both (Some []) x ≡ x
both-nil None = refl
both-nil (Some x) = refl

front-both : (p : List ℕ) (x y : Option (List (List ℕ))) → in_front p (both x y) ≡ both (in_front p x) (in_front p y)
front-both p None y = refl
front-both p (Some x) None = refl
front-both p (Some x) (Some y) = ap (λ (t : List (List ℕ)). Some t) (map-append (λ t. p ++ t) x y)

map-twice : (p q : List ℕ) (texts : List (List ℕ)) → map (λ t. p ++ t) (map (λ t. q ++ t) texts) ≡ map (λ t. (p ++ q) ++ t) texts
map-twice p q [] = refl
map-twice p q (t ∷ texts) = rw (append_assoc p q t, map-twice p q texts)

front-twice : (p q : List ℕ) (x : Option (List (List ℕ))) → in_front p (in_front q x) ≡ in_front (p ++ q) x
front-twice p q None = refl
front-twice p q (Some texts) = ap (λ (t : List (List ℕ)). Some t) (map-twice p q texts)

opened-append : (xs ys : List (List ℕ × ℕ)) → all_opened (xs ++ ys) ≡ both (all_opened xs) (all_opened ys)
opened-append [] ys = sym (both-nil (all_opened ys))
opened-append (x ∷ xs) ys = ap (both (opens_from x)) (opened-append xs ys) ∙ both-assoc (opens_from x) (all_opened xs) (all_opened ys)

nodes-append : (xs ys : List (List ℕ × ℕ)) → all_nodes (xs ++ ys) ≡ all_nodes xs + all_nodes ys
nodes-append [] ys = omega arith
nodes-append (x ∷ xs) ys = let ih = nodes-append xs ys in omega arith

-- the text of an alternative, opened from its beginning on
child-opens : (front back a : List ℕ) → opens_from (child front back a) ≡ in_front front (opens (a ++ back))
child-opens front back a =
    ap (λ (t : List ℕ). in_front t (opens (drop (length front) (front ++ (a ++ back))))) (take_at front (a ++ back) (length front) refl)
    ∙ ap (λ (t : List ℕ). in_front front (opens t)) (drop_at front (a ++ back) (length front) refl)

children-open : (p before after : List ℕ) (texts : List (List ℕ)) → in_front p (joined (λ a. in_front before (opens (a ++ after))) texts) ≡ all_opened (map (child (p ++ before) after) texts)
unfolding joined
children-open p before after [] = refl
children-open p before after (a ∷ texts) =
    front-both p (in_front before (opens (a ++ after))) (joined (λ b. in_front before (opens (b ++ after))) texts)
    ∙ ap (λ (o : Option (List (List ℕ))). both o (in_front p (joined (λ b. in_front before (opens (b ++ after))) texts))) (front-twice p before (opens (a ++ after)) ∙ sym (child-opens (p ++ before) after a))
    ∙ ap (both (opens_from (child (p ++ before) after a))) (children-open p before after texts)

children-nodes : (front back : List ℕ) (texts : List (List ℕ)) → all_nodes (map (child front back) texts) ≡ sum_after nodes back texts
children-nodes front back [] = refl
children-nodes front back (a ∷ texts) =
    let ih = children-nodes front back texts in
    let here = ap nodes (drop_at front (a ++ back) (length front) refl) in
    rw (here, ih)

module _ (text : List ℕ) (from : ℕ) where
  cut-opens : (cut : Cut) → cut_from false 0 (drop from text) ≡ Some cut → opens_from (text, from) ≡ all_opened (map (child (take from text ++ cut.before) cut.after) cut.alternatives)
  cut-opens cut found =
      ap (in_front (take from text)) (opens-step (drop from text) ∙ ap (at_cut opens (drop from text)) found)
      ∙ children-open (take from text) cut.before cut.after cut.alternatives

  cut-nodes : (cut : Cut) → cut_from false 0 (drop from text) ≡ Some cut → nodes (drop from text) ≡ suc (all_nodes (map (child (take from text ++ cut.before) cut.after) cut.alternatives))
  cut-nodes cut found = nodes-step (drop from text) ∙ ap (nodes_at nodes) found ∙ ap suc (sym (children-nodes (take from text ++ cut.before) cut.after cut.alternatives))

  whole-opens : cut_from false 0 (drop from text) ≡ None → ends_escaping (drop from text) ≡ false → opens_from (text, from) ≡ Some (text ∷ [])
  whole-opens none plain =
      ap (in_front (take from text)) (opens-step (drop from text) ∙ ap (at_cut opens (drop from text)) none ∙ ap (λ (b : Bool). cond b None (Some (drop from text ∷ []))) plain)
      ∙ ap (λ (t : List ℕ). Some (t ∷ [])) (take-append-drop from text)

  escaping-opens : cut_from false 0 (drop from text) ≡ None → ends_escaping (drop from text) ≡ true → opens_from (text, from) ≡ None
  escaping-opens none escaping =
      ap (in_front (take from text)) (opens-step (drop from text) ∙ ap (at_cut opens (drop from text)) none ∙ ap (λ (b : Bool). cond b None (Some (drop from text ∷ []))) escaping)

  pub some-nodes : 0 < nodes (drop from text)
  some-nodes = let e = nodes-step (drop from text) in let h = positive (cut_from false 0 (drop from text)) in omega arith
    where
      positive : (o : Option Cut) → 0 < nodes_at nodes o
      positive None = omega arith
      positive (Some cut) = omega arith

-- what lies on a stack, from the top
pub stacked : {A : Type 0} (new old kids : List A) → new ≡ old ++ reverse kids → reverse new ≡ kids ++ reverse old
stacked new old kids e = ap reverse e ∙ reverse-append old (reverse kids) ∙ ap (λ xs. xs ++ reverse old) (reverse-reverse kids)

-- the texts before and behind a group, by their places
pub front-place : (text : List ℕ) (from begins : ℕ) → take (from + begins) text ≡ take from text ++ take begins (drop from text)
front-place text from begins = take-add from begins text

pub back-place : (text : List ℕ) (from after : ℕ) → drop (from + after) text ≡ drop after (drop from text)
back-place text from after = sym (drop-drop after from text)

module _ (text : List ℕ) (from : ℕ) (ws : List (List ℕ × ℕ)) where
  pub less-whole : all_nodes ws < nodes (drop from text) + all_nodes ws
  less-whole = let h = some-nodes text from in omega arith

  pub less-cut : (cut : Cut) (new : List (List ℕ × ℕ)) → cut_from false 0 (drop from text) ≡ Some cut → new ≡ map (child (take from text ++ cut.before) cut.after) cut.alternatives ++ ws → all_nodes new < nodes (drop from text) + all_nodes ws
  less-cut cut new found e =
      let kids : List (List ℕ × ℕ) = map (child (take from text ++ cut.before) cut.after) cut.alternatives in
      let parts : all_nodes new ≡ all_nodes kids + all_nodes ws = ap all_nodes e ∙ nodes-append kids ws in
      let here : nodes (drop from text) ≡ suc (all_nodes kids) = cut-nodes text from cut found in
      omega (arith, parts, here)

  module _ (whole : Option (List (List ℕ))) (texts : List (List ℕ)) (left : whole ≡ both (Some texts) (both (opens_from (text, from)) (all_opened ws))) where
    pub turn-cut : (cut : Cut) (new : List (List ℕ × ℕ)) → cut_from false 0 (drop from text) ≡ Some cut → new ≡ map (child (take from text ++ cut.before) cut.after) cut.alternatives ++ ws → whole ≡ both (Some texts) (all_opened new)
    turn-cut cut new found e =
        let kids : List (List ℕ × ℕ) = map (child (take from text ++ cut.before) cut.after) cut.alternatives in
        left ∙ ap (both (Some texts)) (ap (λ (o : Option (List (List ℕ))). both o (all_opened ws)) (cut-opens text from cut found) ∙ sym (opened-append kids ws) ∙ ap all_opened (sym e))

    pub turn-whole : (texts' : List (List ℕ)) → cut_from false 0 (drop from text) ≡ None → ends_escaping (drop from text) ≡ false → texts' ≡ texts ++ text ∷ [] → whole ≡ both (Some texts') (all_opened ws)
    turn-whole texts' none plain grown =
        left ∙ ap (λ (o : Option (List (List ℕ))). both (Some texts) (both o (all_opened ws))) (whole-opens text from none plain) ∙ both-assoc (Some texts) (Some (text ∷ [])) (all_opened ws) ∙ ap (λ (t : List (List ℕ)). both (Some t) (all_opened ws)) (sym grown)

    pub turn-escaping : cut_from false 0 (drop from text) ≡ None → ends_escaping (drop from text) ≡ true → whole ≡ None
    turn-escaping none escaping = left ∙ ap (λ (o : Option (List (List ℕ))). both (Some texts) (both o (all_opened ws))) (escaping-opens text from none escaping)

-- the texts made of a cut, where the code has cut out front and back
pub kids-are : (text front back : List ℕ) (from begins after : ℕ) (alternatives : List (List ℕ)) (ws new : List (List ℕ × ℕ)) → front ≡ take (from + begins) text → back ≡ drop (from + after) text → new ≡ map (child front back) alternatives ++ ws
    → new ≡ map (child (take from text ++ take begins (drop from text)) (drop after (drop from text))) alternatives ++ ws
kids-are text front back from begins after alternatives ws new f b e =
    e ∙ ap (λ (x : List ℕ). map (child x back) alternatives ++ ws) (f ∙ front-place text from begins)
    ∙ ap (λ (x : List ℕ). map (child (take from text ++ take begins (drop from text)) x) alternatives ++ ws) (b ∙ back-place text from after)

pub found-at : (slice text : List ℕ) (from : ℕ) (found : Found) → slice ≡ drop from text → IsFound slice found → IsFound (drop from text) found
found-at slice text from found e h = subst (λ (t : List ℕ). IsFound t found) e h

-- before the first turn
pub opens-first : (pattern : List ℕ) (texts : List (List ℕ)) (ws : List (List ℕ × ℕ)) → texts ≡ [] → ws ≡ (pattern, 0) ∷ [] → opens pattern ≡ both (Some texts) (all_opened ws)
opens-first pattern texts ws t w =
    rw (t, w) (sym (both-nil (both (in_front [] (opens pattern)) (Some [])) ∙ both-end (in_front [] (opens pattern)) ∙ front-nothing (opens pattern)))
  where
    both-end : (x : Option (List (List ℕ))) → both x (Some []) ≡ x
    both-end None = refl
    both-end (Some x) = ap (λ (t : List (List ℕ)). Some t) (append-nil x)

    front-nothing : (x : Option (List (List ℕ))) → in_front [] x ≡ x
    front-nothing None = refl
    front-nothing (Some texts) = ap (λ (t : List (List ℕ)). Some t) (map-id texts)

pub popped : {A B : Type 0} (f : A → B) (xs rest : List A) (x : A) → xs ≡ rest ++ x ∷ [] → reverse (map f xs) ≡ f x ∷ reverse (map f rest)
popped f xs rest x e = ap (λ ys. reverse (map f ys)) e ∙ ap reverse (map-append f rest (x ∷ [])) ∙ reverse-append (map f rest) (f x ∷ [])
