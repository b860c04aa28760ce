-- One turn of the search for a wildcard.
use Rattle.std.proofs.Common.{◌≡◌, ℕ, ◌+◌, ◌<◌, ◌≤◌, ◌==◌, ◌||◌, Bool, true, false, List, [], ◌∷◌, length, drop, get_or, ap, ◌∙◌, refl}
use Rattle.std.proofs.lemmas.Bool.{or_left}
use Rattle.std.proofs.lemmas.List.{drop_all}
use Rattle.hdfs_globs.proofs.Unescaped.{drop-item}
use Rattle.hdfs_globs.specs.Globs.{has_wildcard_from}

abbrev wild : ℕ → Bool
wild c = (c == 42) || (c == 63) || (c == 123) || (c == 91)

or-false : (a b : Bool) → a ≡ false → a || b ≡ b
or-false false b h = refl
or-false true b h = cc

wild-escaped : (c : ℕ) (t : List ℕ) → has_wildcard_from true (c ∷ t) ≡ has_wildcard_from false t
unfolding has_wildcard_from
wild-escaped c t = refl

wild-yes : (c : ℕ) (t : List ℕ) → wild c ≡ true → has_wildcard_from false (c ∷ t) ≡ true
unfolding has_wildcard_from
wild-yes c t h = or_left (wild c) (has_wildcard_from (c == 92) t) h

wild-no : (c : ℕ) (t : List ℕ) → wild c ≡ false → has_wildcard_from false (c ∷ t) ≡ has_wildcard_from (c == 92) t
unfolding has_wildcard_from
wild-no c t h = or-false (wild c) (has_wildcard_from (c == 92) t) h

wild-end : (e : Bool) → has_wildcard_from e [] ≡ false
unfolding has_wildcard_from
wild-end e = refl

module _ (whole : Bool) (text : List ℕ) (e : Bool) (i c : ℕ) (inside : i < length text) (item : c ≡ get_or text i c) (left : whole ≡ has_wildcard_from e (drop i text)) where
  pub search-escaped : (e' : Bool) → e ≡ true → e' ≡ false → whole ≡ has_wildcard_from e' (drop (i + 1) text)
  search-escaped e' was now = rw now (rw (was, drop-item text i c inside item, wild-escaped c (drop (i + 1) text)) at left)

  pub search-found : e ≡ false → wild c ≡ true → whole ≡ true
  search-found was found = rw (was, drop-item text i c inside item, wild-yes c (drop (i + 1) text) found) at left

  pub search-on : (e' : Bool) → e ≡ false → wild c ≡ false → e' ≡ (c == 92) → whole ≡ has_wildcard_from e' (drop (i + 1) text)
  search-on e' was not now = rw now (rw (was, drop-item text i c inside item, wild-no c (drop (i + 1) text) not) at left)

pub search-end : (whole : Bool) (text : List ℕ) (e : Bool) (i : ℕ) → length text ≤ i → whole ≡ has_wildcard_from e (drop i text) → whole ≡ false
search-end whole text e i past left = left ∙ ap (has_wildcard_from e) (drop_all i text past) ∙ wild-end e
