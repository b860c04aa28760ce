-- A text that begins with a bracket begins with a set, or with no sign.
use Rattle.std.proofs.Common.{◌≡◌, ℕ, ◌+◌, List, ◌∷◌, Option, Some, None, false, drop, ap, sym, ◌∙◌, refl, add-one}
use Rattle.std.specs.Option.{option_map}
use Rattle.hdfs_globs.specs.Globs.{One, Sign, SetBody, set_body, set_of, behind_sign, behind_set, after_bracket}
use Rattle.hdfs_globs.specs.Globs.Sign.{one}
use Rattle.hdfs_globs.specs.SetSigns.{asked_by}
use Rattle.hdfs_globs.specs.NextSigns.{IsNextSign, HasNoSign}

some_same : {A : Type 0} {x y : A} → Some x ≡ Some y → x ≡ y
some_same e = cc

-- what a set asks, with what stands behind it
abbrev pub with_behind : List ℕ → One → One × List ℕ
with_behind behind asked = (asked, behind)

module _ (g : List ℕ → Option (List Sign)) where
  set-behind : (o : Option One) (behind after : List ℕ) (asked : One) → option_map (with_behind behind) o ≡ Some (with_behind after asked) → behind_set g o behind ≡ behind_sign (one asked) (g after)
  set-behind None behind after asked h = cc
  set-behind (Some a) behind after asked h = ap (λ (p : One × List ℕ). behind_sign (one p.0) (g p.1)) (some_same h)

  set-missing : (o : Option One) (behind : List ℕ) → option_map (with_behind behind) o ≡ None → behind_set g o behind ≡ None
  set-missing None behind h = refl
  set-missing (Some a) behind h = cc

  bracket-set : (o : Option SetBody) (after : List ℕ) (asked : One) → asked_by o ≡ Some (with_behind after asked) → after_bracket g o ≡ behind_sign (one asked) (g after)
  bracket-set None after asked h = cc
  bracket-set (Some body) after asked h = set-behind (set_of body.members) body.after after asked h

  bracket-missing : (o : Option SetBody) → asked_by o ≡ None → after_bracket g o ≡ None
  bracket-missing None h = refl
  bracket-missing (Some body) h = set-missing (set_of body.members) body.after h

pub next-set : (d n : ℕ) (text : List ℕ) (asked : One) → asked_by (set_body false text) ≡ Some (with_behind (drop n text) asked) → IsNextSign d (91 ∷ text) (one asked) (n + 1)
next-set d n text asked h =
    let rest : drop (n + 1) (91 ∷ text) ≡ drop n text = ap (λ (k : ℕ). drop k (91 ∷ text)) (add-one n) in
    λ f. bracket-set (f d) (set_body false text) (drop n text) asked h ∙ ap (λ (t : List ℕ). behind_sign (one asked) (f d t)) (sym rest)

pub next-no_set : (d : ℕ) (text : List ℕ) → asked_by (set_body false text) ≡ None → HasNoSign d (91 ∷ text)
next-no_set d text h = λ f. bracket-missing (f d) (set_body false text) h
