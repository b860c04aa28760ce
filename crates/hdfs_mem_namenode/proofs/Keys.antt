-- The keys of a map of texts in their order byte by byte, and how many of them stand behind one.
use Rattle.std.proofs.Common.{◌≡◌, ℕ, zero, suc, ◌<◌, ◌≤◌, Bool, true, false, cond, not, List, [], ◌∷◌, length, Some, None, is_some, IsSome, String, refl, sym, ◌∙◌, ap, subst, arith}
use Rattle.std.proofs.lemmas.Bool.{false≢true}
use Rattle.std.proofs.lemmas.Map.Entries.{place_from_lookup}
use Rattle.std.proofs.lemmas.Map.Text.{is_eq-slice_cmp}
use Rattle.std.proofs.lemmas.Slice.Eq.{bytes_eq-Decides}
use Rattle.std.proofs.lemmas.Str.{IsUtf8-string_bytes}
use Rattle.std.specs.Prelude.{IsUtf8}
use Rattle.std.specs.BTreeMap.{BTreeMap, get, get_by_text, is_at}
use Rattle.std.proofs.lemmas.Cmp.{nat_list_cmp_total}
use Rattle.std.specs.Cmp.Lexicographic.{slice_cmp}
use Rattle.std.specs.List.{filter, slice_get}
use Rattle.std.specs.Ordering.{is_gt, is_lt, nat_cmp, ordering_reverse}
use Rattle.std.specs.declared.cmp.Ordering.{Ordering}
use Rattle.std.specs.declared.cmp.Ordering.TheVariants.{Less, Equal, Greater}
use Rattle.std.specs.String.{string_bytes, string_cmp}
use Rattle.hdfs_cluster.specs.Names.{is_before}
use Rattle.hdfs_mem_namenode.specs.Listing.{count_from}
use Rattle.hdfs_mem_namenode.proofs.Bytes.{before_cmp, before_trans, before_upto}
use Rattle.hdfs_mem_namenode.proofs.Directories.{some_known}

turned : (o p : Ordering) → o ≡ ordering_reverse p → is_gt o ≡ is_lt p
turned o Less is = ap is_gt is
turned o Equal is = ap is_gt is
turned o Greater is = ap is_gt is

-- the other side of the order
pub after_cmp : (a b : List ℕ) → is_gt (slice_cmp nat_cmp a b) ≡ is_before b a
after_cmp a b = turned (slice_cmp nat_cmp a b) (slice_cmp nat_cmp b a) (nat_list_cmp_total.antisymm a b) ∙ before_cmp b a

module _ {A X : Type 0} (m : BTreeMap (String A) X) where
  -- what stands at a text stands at a key
  pub key_of : (q : List ℕ) → IsSome (get_by_text m q) → (k : String A) × (q ≡ string_bytes k)
  key_of q some =
      let known = some_known (get_by_text m q) some in
      let place = place_from_lookup (is_at (λ k. slice_cmp nat_cmp q (string_bytes k))) m.entries known.0 known.1 in
      (place.1, (bytes_eq-Decides q (string_bytes place.1)).0 (sym (is_eq-slice_cmp q (string_bytes place.1)) ∙ place.3))

  -- what stands at a path stands at text
  pub texts_at : (q : List ℕ) → IsSome (get_by_text m q) → IsUtf8 q
  texts_at q some = let k = key_of q some in subst IsUtf8 (sym k.1) (IsUtf8-string_bytes k.0)

  -- where no key stands from a text on, all stand before it
  pub all_before : (start : String A) → ((k : String A) → is_gt (string_cmp start k) ≡ false → get string_cmp m k ≡ None) → (q : List ℕ) → IsSome (get_by_text m q) → is_before q (string_bytes start) ≡ true
  all_before start none q some = by (is_before q (string_bytes start)) refl
    where
      by : (b : Bool) → is_before q (string_bytes start) ≡ b → b ≡ true
      by true is = refl
      by false is =
          let k = key_of q some in
          let within : is_gt (string_cmp start k.0) ≡ false = after_cmp (string_bytes start) (string_bytes k.0) ∙ ap (λ (l : List ℕ). is_before l (string_bytes start)) (sym k.1) ∙ is in
          absurd (false≢true (sym (ap is_some (none k.0 within)) ∙ subst (λ (l : List ℕ). is_some (get_by_text m l) ≡ true) k.1 some))

  -- the first key from a text on
  pub first_key : (start first : String A) → ((k : String A) → is_gt (string_cmp start k) ≡ false → IsSome (get string_cmp m k) → is_gt (string_cmp first k) ≡ false)
      → (q : List ℕ) → IsSome (get_by_text m q) → is_before q (string_bytes start) ≡ false → is_before q (string_bytes first) ≡ false
  first_key start first least q some from =
      let k = key_of q some in
      let within : is_gt (string_cmp start k.0) ≡ false = after_cmp (string_bytes start) (string_bytes k.0) ∙ ap (λ (l : List ℕ). is_before l (string_bytes start)) (sym k.1) ∙ from in
      ap (λ (l : List ℕ). is_before l (string_bytes first)) k.1 ∙ sym (after_cmp (string_bytes first) (string_bytes k.0))
      ∙ least k.0 within (subst (λ (l : List ℕ). is_some (get_by_text m l) ≡ true) k.1 some)

not_true : (b : Bool) → b ≡ true → not b ≡ false
not_true b is = ap not is

not_false : (b : Bool) → b ≡ false → not b ≡ true
not_false b is = ap not is

-- fewer pass a stronger test, one of the list less
module _ {X : Type 0} (p q : X → Bool) (weaker : (x : X) → q x ≡ true → p x ≡ true) where
  no_more : (xs : List X) → length (filter q xs) ≤ length (filter p xs)
  no_more [] = omega arith
  no_more (x ∷ xs) = by (p x) (q x) (weaker x) (no_more xs)
    where
      by : (b c : Bool) → (c ≡ true → b ≡ true) → length (filter q xs) ≤ length (filter p xs) → length (cond c (x ∷ filter q xs) (filter q xs)) ≤ length (cond b (x ∷ filter p xs) (filter p xs))
      by true true w rest = omega (arith, rest)
      by true false w rest = omega (arith, rest)
      by false true w rest = absurd (false≢true (w refl))
      by false false w rest = rest

  fewer : (xs : List X) (i : ℕ) (x : X) → slice_get xs i ≡ Some x → p x ≡ true → q x ≡ false → length (filter q xs) < length (filter p xs)
  fewer [] i x at is isnt = absurd (cc)
  fewer (y ∷ xs) zero x at is isnt =
      let same : y ≡ x = cc in
      by (p y) (q y) (ap p same ∙ is) (ap q same ∙ isnt) (no_more xs)
    where
      by : (b c : Bool) → b ≡ true → c ≡ false → length (filter q xs) ≤ length (filter p xs) → length (cond c (y ∷ filter q xs) (filter q xs)) < length (cond b (y ∷ filter p xs) (filter p xs))
      by true false b c rest = omega (arith, rest)
      by true true b c rest = absurd (false≢true (sym c))
      by false e b c rest = absurd (false≢true b)
  fewer (y ∷ xs) (suc i) x at is isnt = by (p y) (q y) (weaker y) (fewer xs i x at is isnt)
    where
      by : (b c : Bool) → (c ≡ true → b ≡ true) → length (filter q xs) < length (filter p xs) → length (cond c (y ∷ filter q xs) (filter q xs)) < length (cond b (y ∷ filter p xs) (filter p xs))
      by true true w rest = omega (arith, rest)
      by true false w rest = omega (arith, rest)
      by false true w rest = absurd (false≢true (w refl))
      by false false w rest = rest

-- fewer keys stand from a text on that is behind a key, which stands from another one on
pub fewer_from : {A X : Type 0} (m : BTreeMap (String A) X) (start next key : List ℕ) → IsSome (get_by_text m key) → is_before key start ≡ false → is_before key next ≡ true → count_from m.entries next < count_from m.entries start
fewer_from {A} {X} m start next key some from behind =
    let known = some_known (get_by_text m key) some in
    let place = place_from_lookup (is_at (λ k. slice_cmp nat_cmp key (string_bytes k))) m.entries known.0 known.1 in
    let same : key ≡ string_bytes place.1 = (bytes_eq-Decides key (string_bytes place.1)).0 (sym (is_eq-slice_cmp key (string_bytes place.1)) ∙ place.3) in
    fewer (λ (e : String A × X). not (is_before (string_bytes e.0) start)) (λ (e : String A × X). not (is_before (string_bytes e.0) next))
    (λ e is. not_false (is_before (string_bytes e.0) start) (on (string_bytes e.0) is)) m.entries place.0 (place.1, known.0) place.2
    (not_false (is_before (string_bytes place.1) start) (subst (λ (l : List ℕ). is_before l start ≡ false) same from))
    (not_true (is_before (string_bytes place.1) next) (subst (λ (l : List ℕ). is_before l next ≡ true) same behind))
  where
    was_false : (b : Bool) → not b ≡ true → b ≡ false
    was_false true is = absurd (false≢true is)
    was_false false is = refl

    on : (text : List ℕ) → not (is_before text next) ≡ true → is_before text start ≡ false
    on text is = by (is_before text start) refl
      where
        by : (b : Bool) → is_before text start ≡ b → b ≡ false
        by true before = absurd (false≢true (sym (was_false (is_before text next) is) ∙ before_trans text start next before (before_upto start key next from behind)))
        by false before = refl
