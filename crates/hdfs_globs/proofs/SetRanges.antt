-- A set's ranges, one after the other.
use Rattle.std.proofs.Common.{◌≡◌, ℕ, ◌+◌, ◌<◌, ◌≤◌, true, false, List, [], ◌∷◌, ◌++◌, Option, Some, None, length, drop, map, ap, ◌∙◌, refl, arith, IfSome}
use Rattle.std.specs.Option.{option_map}
use Rattle.std.proofs.lemmas.List.{append-nil, drop_all, length-drop, length-map}
use Rattle.std.proofs.lemmas.Bool.Decides.{nat_tests}
use Rattle.hdfs_globs.specs.Globs.{Member, ranges_of, is_sign}
use Rattle.hdfs_globs.specs.SetSigns.{IsNextRange}
use Rattle.hdfs_globs.specs.Patterns.{member_of}
use Rattle.hdfs_globs.specs.declared.glob_set.SetMember.{SetMember}
use Rattle.hdfs_globs.specs.declared.glob_set.NextRange.{NextRange}

range-falls : (a b z : Member) (ms : List Member) → is_sign 45 b ≡ true → z.character < a.character → ranges_of (a ∷ b ∷ z ∷ ms) ≡ None
unfolding ranges_of
range-falls a b z ms dash falls = grind (arith, nat_tests)

range-rises : (a b z : Member) (ms : List Member) → is_sign 45 b ≡ true → a.character ≤ z.character → ranges_of (a ∷ b ∷ z ∷ ms) ≡ option_map (λ ranges. (a.character, z.character) ∷ ranges) (ranges_of ms)
unfolding ranges_of
range-rises a b z ms dash rises = grind (arith, nat_tests)

range-plain : (a b z : Member) (ms : List Member) → is_sign 45 b ≡ false → ranges_of (a ∷ b ∷ z ∷ ms) ≡ option_map (λ ranges. (a.character, a.character) ∷ ranges) (ranges_of (b ∷ z ∷ ms))
unfolding ranges_of
range-plain a b z ms dash = grind (arith, nat_tests)

range-short : (a : Member) (ms : List Member) → length ms < 2 → ranges_of (a ∷ ms) ≡ option_map (λ ranges. (a.character, a.character) ∷ ranges) (ranges_of ms)
unfolding ranges_of
range-short a [] h = refl
range-short a (b ∷ []) h = refl
range-short a (b ∷ z ∷ ms) h = absurd (omega arith)

-- what the code answers at a place
abbrev pub shown_next : List SetMember → ℕ → Option NextRange → Option ((ℕ × ℕ) × List Member)
shown_next members at next = option_map (λ next. (next.range, map member_of (drop (at + next.taken) members))) next

range-plain-any : (a b : Member) (ms : List Member) → is_sign 45 b ≡ false → ranges_of (a ∷ b ∷ ms) ≡ option_map (λ ranges. (a.character, a.character) ∷ ranges) (ranges_of (b ∷ ms))
range-plain-any a b [] dash = range-short a (b ∷ []) (omega arith)
range-plain-any a b (z ∷ ms) dash = range-plain a b z ms dash

between-cases : (members : List SetMember) (at : ℕ) (a b z : SetMember) → is_sign 45 (member_of b) ≡ true → (o : Option NextRange) → (o ≡ None → z.character < a.character) → IfSome o (λ next. (a.character ≤ z.character) × (next.range ≡ (a.character, z.character)) × (next.taken ≡ 3)) → IsNextRange (map member_of (a ∷ b ∷ z ∷ drop (at + 3) members)) (shown_next members at o)
between-cases members at a b z dash None none some = range-falls (member_of a) (member_of b) (member_of z) _ dash (none refl)
between-cases members at a b z dash (Some next) none some = rw (some.1, some.2) (range-rises (member_of a) (member_of b) (member_of z) (map member_of (drop (at + 3) members)) dash some.0)

pub ranges-end : (members : List SetMember) (at : ℕ) (whole : Option (List (ℕ × ℕ))) (ranges : List (ℕ × ℕ)) → length members ≤ at → whole ≡ option_map (λ more. ranges ++ more) (ranges_of (map member_of (drop at members))) → whole ≡ Some ranges
unfolding ranges_of
ranges-end members at whole ranges past left = left ∙ ap (λ (x : List SetMember). option_map (λ more. ranges ++ more) (ranges_of (map member_of x))) (drop_all at members past) ∙ ap (λ (x : List (ℕ × ℕ)). Some x) (append-nil ranges)

module _ (members : List SetMember) (at : ℕ) (a : SetMember) (is_a : drop at members ≡ a ∷ drop (at + 1) members) where
  pub next-short : (next : NextRange) → length members ≤ at + 2 → next.range ≡ (a.character, a.character) → next.taken ≡ 1 → IsNextRange (map member_of (drop at members)) (shown_next members at (Some next))
  next-short next short range taken = rw (range, taken) (ap (λ (x : List SetMember). ranges_of (map member_of x)) is_a ∙ range-short (member_of a) (map member_of (drop (at + 1) members)) (simp (length-map, length-drop) (omega arith)))

  pub next-plain : (next : NextRange) (b : SetMember) → drop (at + 1) members ≡ b ∷ drop (at + 1 + 1) members → is_sign 45 (member_of b) ≡ false → next.range ≡ (a.character, a.character) → next.taken ≡ 1 → IsNextRange (map member_of (drop at members)) (shown_next members at (Some next))
  next-plain next b is_b dash range taken = rw (range, taken, is_b) (ap (λ (x : List SetMember). ranges_of (map member_of x)) (is_a ∙ ap (λ (x : List SetMember). a ∷ x) is_b) ∙ range-plain-any (member_of a) (member_of b) (map member_of (drop (at + 1 + 1) members)) dash)

  pub next-between : (o : Option NextRange) (b z : SetMember) → drop (at + 1) members ≡ b ∷ drop (at + 1 + 1) members → drop (at + 2) members ≡ z ∷ drop (at + 2 + 1) members → is_sign 45 (member_of b) ≡ true → (o ≡ None → z.character < a.character) → IfSome o (λ next. (a.character ≤ z.character) × (next.range ≡ (a.character, z.character)) × (next.taken ≡ 3)) → IsNextRange (map member_of (drop at members)) (shown_next members at o)
  next-between o b z is_b is_z dash none some =
      let two : at + 1 + 1 ≡ at + 2 = omega arith in
      let three : at + 2 + 1 ≡ at + 3 = omega arith in
      let whole = ap (λ (x : List SetMember). map member_of x) (is_a ∙ ap (λ (x : List SetMember). a ∷ x) is_b ∙ ap (λ (x : List SetMember). a ∷ b ∷ x) (ap (λ (x : ℕ). drop x members) two ∙ is_z) ∙ ap (λ (x : ℕ). a ∷ b ∷ z ∷ drop x members) three) in
      rw whole (between-cases members at a b z dash o none some)
