-- A text's pieces between bytes of one value are the parts that `split` gives.
use Rattle.std.proofs.Common.{sym, ◌≡◌, ℕ, Bool, not, List, [], ◌∷◌, length, refl, ap, ◌∙◌, eqb, ◌==◌, arith}
use Rattle.std.specs.List.{slice_split, filter}
use Rattle.std.proofs.lemmas.Bool.Decides.{nat_tests}
use Rattle.hdfs_globs.specs.Escapes.{pieces, components, is_some_text}

pub pieces-parts : (c : ℕ) (text : List ℕ) → pieces c text ≡ slice_split (λ b. eqb b c) text
unfolding pieces
pieces-parts c [] = refl
pieces-parts c (b ∷ text) = rw (pieces-parts c text)

-- the test that the code makes
abbrev pub is_long : List ℕ → Bool
is_long text = not (length text == 0)

pub is_long-some : (text : List ℕ) → is_long text ≡ is_some_text text
is_long-some [] = refl
is_long-some (c ∷ text) = grind (arith, nat_tests)

pub components-kept : (text : List ℕ) (kept : List (List ℕ)) → kept ≡ filter is_long (slice_split (λ b. eqb b 47) text) → kept ≡ components text
components-kept text kept e = e ∙ filter-same (slice_split (λ b. eqb b 47) text) ∙ ap (filter is_some_text) (sym (pieces-parts 47 text))
  where
    filter-same : (xs : List (List ℕ)) → filter is_long xs ≡ filter is_some_text xs
    filter-same [] = refl
    filter-same (x ∷ xs) = rw (is_long-some x, filter-same xs)
