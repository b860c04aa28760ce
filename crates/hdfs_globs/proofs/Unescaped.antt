-- One turn of the loop that drops backslashes.
use Rattle.std.proofs.Common.{◌≡◌, ◌≢◌, ℕ, ◌+◌, ◌<◌, ◌≤◌, Bool, true, false, List, [], ◌∷◌, ◌++◌, length, drop, get_or, ap, ◌∙◌, sym, refl, arith}
use Rattle.std.proofs.lemmas.List.{drop_more, append_assoc, append-nil, drop_all}
use Rattle.std.proofs.lemmas.Bool.Decides.{nat_tests}
use Rattle.hdfs_globs.specs.Escapes.{unescaped_from}

-- what is left at a place within the list begins with the item there
pub drop-item : (items : List ℕ) (i c : ℕ) → i < length items → c ≡ get_or items i c → drop i items ≡ c ∷ drop (i + 1) items
drop-item items i c h e = drop_more items i c h ∙ ap (λ (x : ℕ). x ∷ drop (i + 1) items) (sym e)

pub unescaped-kept : (c : ℕ) (text : List ℕ) → unescaped_from true (c ∷ text) ≡ c ∷ unescaped_from false text
unfolding unescaped_from
unescaped-kept c text = refl

pub unescaped-backslash : (c : ℕ) (text : List ℕ) → c ≡ 92 → unescaped_from false (c ∷ text) ≡ unescaped_from true text
unfolding unescaped_from
unescaped-backslash c text e = grind (arith, nat_tests)

pub unescaped-plain : (c : ℕ) (text : List ℕ) → c ≢ 92 → unescaped_from false (c ∷ text) ≡ c ∷ unescaped_from false text
unfolding unescaped_from
unescaped-plain c text e = grind (arith, nat_tests)

pub unescaped-end : (escaped : Bool) → unescaped_from escaped [] ≡ []
unfolding unescaped_from
unescaped-end true = refl
unescaped-end false = refl

-- what is written and what is left make the whole
abbrev pub Left : List ℕ → List ℕ → List ℕ → Bool → ℕ → Type 0
Left whole items plain escaped i = plain ++ unescaped_from escaped (drop i items) ≡ whole

module _ (whole items plain plain' : List ℕ) (i c : ℕ) (inside : i < length items) (item : c ≡ get_or items i c) where
  pub turn-kept : (e e' : Bool) → Left whole items plain e i → e ≡ true → plain' ≡ plain ++ c ∷ [] → e' ≡ false → Left whole items plain' e' (i + 1)
  turn-kept e e' left was grown now = rw (grown, now, append_assoc) (rw (was, drop-item items i c inside item, unescaped-kept c (drop (i + 1) items)) at left)

  pub turn-backslash : (e e' : Bool) → Left whole items plain e i → e ≡ false → c ≡ 92 → plain' ≡ plain → e' ≡ true → Left whole items plain' e' (i + 1)
  turn-backslash e e' left was is same now = rw (same, now) (rw (was, drop-item items i c inside item, unescaped-backslash c (drop (i + 1) items) is) at left)

  pub turn-plain : (e e' : Bool) → Left whole items plain e i → e ≡ false → c ≢ 92 → plain' ≡ plain ++ c ∷ [] → e' ≡ false → Left whole items plain' e' (i + 1)
  turn-plain e e' left was isnt grown now = rw (grown, now, append_assoc) (rw (was, drop-item items i c inside item, unescaped-plain c (drop (i + 1) items) isnt) at left)

pub unescaped-all : (whole items plain : List ℕ) (e : Bool) (i : ℕ) → length items ≤ i → Left whole items plain e i → plain ≡ whole
unescaped-all whole items plain e i past left = sym (append-nil plain) ∙ rw (drop_all i items past, unescaped-end e) at left
