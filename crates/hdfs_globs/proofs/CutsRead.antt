-- The cut of a text, character after character.
use Rattle.std.proofs.Common.{◌≡◌, ℕ, zero, suc, ◌+◌, ◌<◌, ◌≤◌, Bool, true, false, not, cond, List, [], ◌∷◌, ◌++◌, Option, Some, None, length, take, drop, get_or, ap, ◌∙◌, sym, refl, arith, ◌==◌, ◌&&◌}
use Rattle.std.proofs.lemmas.List.{append_assoc, append-nil, drop_all, drop_more, take_more}
use Rattle.std.proofs.lemmas.Bool.Decides.{nat_tests}
use Rattle.hdfs_globs.specs.Escapes.{ends_escaping_from}
use Rattle.hdfs_globs.specs.Expansions.{Group, Cut, group_at, cut_from, cut_or, behind}
use Rattle.hdfs_globs.specs.CutScans.{depth_past}

-- the character is no brace that may begin a cut
cut-past : (e : Bool) (d c : ℕ) (t : List ℕ) → (e ≡ false → d ≡ 0 → c ≡ 123 → ⊥) → cut_from e d (c ∷ t) ≡ behind c (cut_from (not e && (c == 92)) (depth_past e d c) t)
unfolding cut_from
cut-past true d c t not_there = refl
cut-past false zero c t not_there = let h : c ≡ 123 → ⊥ = not_there refl refl in grind (arith, nat_tests)
cut-past false (suc d) c t not_there = grind (arith, nat_tests)

cut-group : (c : ℕ) (t : List ℕ) → c ≡ 123 → cut_from false 0 (c ∷ t) ≡ cut_or (group_at false 0 t) (behind c (cut_from false 1 t))
unfolding cut_from
cut-group c t e = grind (arith, nat_tests)

same-past : (c : ℕ) (t : List ℕ) → c ≡ 123 → cut_from false 1 t ≡ cut_from (not false && (c == 92)) (depth_past false 0 c) t
same-past c t e = rw e

module _ (text : List ℕ) (at d : ℕ) (e : Bool) (x : ℕ) (is : drop at text ≡ x ∷ drop (at + 1) text) where
  -- nothing is cut at this character
  abbrev pub Past : Type 0
  Past = cut_from e d (drop at text) ≡ behind x (cut_from (not e && (x == 92)) (depth_past e d x) (drop (at + 1) text))

  pub none-past : (e ≡ false → d ≡ 0 → x ≡ 123 → ⊥) → Past
  none-past not_there = ap (cut_from e d) is ∙ cut-past e d x (drop (at + 1) text) not_there

  begins : e ≡ false → d ≡ 0 → x ≡ 123 → cut_from e d (drop at text) ≡ cut_or (group_at false 0 (drop (at + 1) text)) (behind x (cut_from (not e && (x == 92)) (depth_past e d x) (drop (at + 1) text)))
  begins plain outer brace = rw (plain, outer, is) (cut-group x (drop (at + 1) text) brace ∙ ap (λ (o : Option Cut). cut_or (group_at false 0 (drop (at + 1) text)) (behind x o)) (same-past x (drop (at + 1) text) brace))

  pub none-group : e ≡ false → d ≡ 0 → x ≡ 123 → group_at false 0 (drop (at + 1) text) ≡ None → Past
  none-group plain outer brace none = begins plain outer brace ∙ ap (λ (o : Option Group). cut_or o (behind x (cut_from (not e && (x == 92)) (depth_past e d x) (drop (at + 1) text)))) none

  pub none-slash : (g : Group) → e ≡ false → d ≡ 0 → x ≡ 123 → group_at false 0 (drop (at + 1) text) ≡ Some g → g.slash ≡ false → Past
  none-slash g plain outer brace some slash =
      let other : Option Cut = behind x (cut_from (not e && (x == 92)) (depth_past e d x) (drop (at + 1) text)) in
      begins plain outer brace ∙ ap (λ (o : Option Group). cut_or o other) some ∙ ap (λ (b : Bool). cond b (Some (record { before = []; alternatives = g.alternatives; after = g.after })) other) slash

  pub some-cut : (g : Group) → e ≡ false → d ≡ 0 → x ≡ 123 → group_at false 0 (drop (at + 1) text) ≡ Some g → g.slash ≡ true → cut_from e d (drop at text) ≡ Some (record { before = []; alternatives = g.alternatives; after = g.after })
  some-cut g plain outer brace some slash =
      let other : Option Cut = behind x (cut_from (not e && (x == 92)) (depth_past e d x) (drop (at + 1) text)) in
      begins plain outer brace ∙ ap (λ (o : Option Group). cut_or o other) some ∙ ap (λ (b : Bool). cond b (Some (record { before = []; alternatives = g.alternatives; after = g.after })) other) slash

-- this text stands before the cut text
abbrev pub led_cut : List ℕ → Option Cut → Option Cut
led_cut before None = None
led_cut before (Some cut) = Some (record { before = before ++ cut.before; alternatives = cut.alternatives; after = cut.after })

pub led-nothing : (o : Option Cut) → o ≡ led_cut [] o
led-nothing None = refl
led-nothing (Some cut) = refl

led-one : (before : List ℕ) (c : ℕ) (o : Option Cut) → led_cut before (behind c o) ≡ led_cut (before ++ c ∷ []) o
led-one before c None = refl
led-one before c (Some cut) = ap (λ (x : List ℕ). Some (record { before = x; alternatives = cut.alternatives; after = cut.after })) (sym (append_assoc before (c ∷ []) cut.before))

take-item : (text : List ℕ) (at x : ℕ) → at < length text → drop at text ≡ x ∷ drop (at + 1) text → take (at + 1) text ≡ take at text ++ x ∷ []
take-item text at x inside is =
    let whole : get_or text at x ∷ drop (at + 1) text ≡ x ∷ drop (at + 1) text = sym (drop_more text at x inside) ∙ is in
    let same : get_or text at x ≡ x = cc in
    take_more text at x inside ∙ ap (λ (y : ℕ). take at text ++ y ∷ []) same

ending-one : (e : Bool) (c : ℕ) (t : List ℕ) → ends_escaping_from e (c ∷ t) ≡ ends_escaping_from (not e && (c == 92)) t
unfolding ends_escaping_from
ending-one true c t = refl
ending-one false c t = refl

module _ (whole : Option Cut) (text : List ℕ) (at d x : ℕ) (e : Bool) (inside : at < length text) (is : drop at text ≡ x ∷ drop (at + 1) text) where
  pub cut-turn : Past text at d e x is → whole ≡ led_cut (take at text) (cut_from e d (drop at text)) → whole ≡ led_cut (take (at + 1) text) (cut_from (not e && (x == 92)) (depth_past e d x) (drop (at + 1) text))
  cut-turn past left =
      let o : Option Cut = cut_from (not e && (x == 92)) (depth_past e d x) (drop (at + 1) text) in
      left ∙ ap (led_cut (take at text)) past ∙ led-one (take at text) x o ∙ ap (λ (t : List ℕ). led_cut t o) (sym (take-item text at x inside is))

pub ending-turn : (whole : Bool) (text : List ℕ) (at x : ℕ) (e : Bool) → drop at text ≡ x ∷ drop (at + 1) text → whole ≡ ends_escaping_from e (drop at text) → whole ≡ ends_escaping_from (not e && (x == 92)) (drop (at + 1) text)
ending-turn whole text at x e is left = left ∙ ap (ends_escaping_from e) is ∙ ending-one e x (drop (at + 1) text)

pub cut-found : (whole : Option Cut) (text : List ℕ) (at d : ℕ) (e : Bool) (alternatives : List (List ℕ)) (after : List ℕ) → cut_from e d (drop at text) ≡ Some (record { before = []; alternatives = alternatives; after = after }) → whole ≡ led_cut (take at text) (cut_from e d (drop at text)) → whole ≡ Some (record { before = take at text; alternatives = alternatives; after = after })
cut-found whole text at d e alternatives after found left = left ∙ ap (led_cut (take at text)) found ∙ ap (λ (t : List ℕ). Some (record { before = t; alternatives = alternatives; after = after })) (append-nil (take at text))

pub cut-end : (whole : Option Cut) (text : List ℕ) (at d : ℕ) (e : Bool) → length text ≤ at → whole ≡ led_cut (take at text) (cut_from e d (drop at text)) → whole ≡ None
unfolding cut_from
cut-end whole text at d e past left = left ∙ ap (λ (t : List ℕ). led_cut (take at text) (cut_from e d t)) (drop_all at text past)

pub ending-end : (whole : Bool) (text : List ℕ) (at : ℕ) (e : Bool) → length text ≤ at → whole ≡ ends_escaping_from e (drop at text) → whole ≡ e
unfolding ends_escaping_from
ending-end whole text at e past left = left ∙ ap (ends_escaping_from e) (drop_all at text past)

pub head-same : {x y : ℕ} {l xs ys : List ℕ} → l ≡ x ∷ xs → l ≡ y ∷ ys → x ≡ y
head-same h k = cc
