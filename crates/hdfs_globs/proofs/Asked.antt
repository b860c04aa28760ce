-- The code's tests of a character decide what is asked for.
use Rattle.std.proofs.Common.{◌≡◌, ℕ, zero, suc, ◌<◌, ◌≤◌, List, [], ◌∷◌, length, slice_index_or, Decides, sym, subst, refl, arith, ◌⊎◌, inl, inr, ◌&&◌, nat_le}
use Rattle.std.proofs.lemmas.Bool.Decides.{Decides-eqb, Decides-not, Decides-and, Decides-or, nat_tests}
use Rattle.hdfs_globs.specs.Globs.{One}
use Rattle.hdfs_globs.specs.Globs.One.{itself, any, among, outside}
use Rattle.hdfs_globs.specs.Fits.{IsOne, IsWithin}
use Rattle.hdfs_globs.specs.Places.{is_one, is_within}

abbrev InRange : ℕ → ℕ × ℕ → Type 0
InRange c range = (range.0 ≤ c) × (c ≤ range.1)

within-here : (c : ℕ) (r : ℕ × ℕ) (rs : List (ℕ × ℕ)) → InRange c r → IsWithin (r ∷ rs) c
within-here c r rs h = (0, r, omega arith, refl, h)

within-later : (c : ℕ) (r : ℕ × ℕ) (rs : List (ℕ × ℕ)) → IsWithin rs c → IsWithin (r ∷ rs) c
within-later c r rs h = (suc h.0, h.1, omega (arith, h.2), h.3, h.4)

within-at : (c : ℕ) (r : ℕ × ℕ) (rs : List (ℕ × ℕ)) (k : ℕ) (x : ℕ × ℕ) → k < length (r ∷ rs) → slice_index_or (r ∷ rs) k x ≡ x → InRange c x → InRange c r ⊎ IsWithin rs c
within-at c r rs zero x l e h = inl (subst (InRange c) (sym e) h)
within-at c r rs (suc k) x l e h = inr (k, x, omega arith, e, h)

decides-le : (a b : ℕ) → Decides (nat_le a b) (a ≤ b)
decides-le a b = (λ e. grind (arith, nat_tests), λ h. grind (arith, nat_tests))

pub within-decides : (ranges : List (ℕ × ℕ)) (c : ℕ) → Decides (is_within ranges c) (IsWithin ranges c)
within-decides [] c = (λ e. cc, λ h. absurd (omega (arith, h.2)))
within-decides (r ∷ rs) c =
    let d = Decides-or (nat_le r.0 c && nat_le c r.1) (is_within rs c) (Decides-and (nat_le r.0 c) (nat_le c r.1) (decides-le r.0 c) (decides-le c r.1)) (within-decides rs c) in
    (λ e. either (d.0 e), λ h. d.1 (within-at c r rs h.0 h.1 h.2 h.3 h.4))
  where
    either : InRange c r ⊎ IsWithin rs c → IsWithin (r ∷ rs) c
    either (inl h) = within-here c r rs h
    either (inr h) = within-later c r rs h

pub one-decides : (o : One) (c : ℕ) → Decides (is_one o c) (IsOne o c)
one-decides (itself d) c = Decides-eqb c d
one-decides any c = (λ e. tt, λ h. refl)
one-decides (among ranges) c = within-decides ranges c
one-decides (outside ranges) c = Decides-not (is_within ranges c) (within-decides ranges c)
