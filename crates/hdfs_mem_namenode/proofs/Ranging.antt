-- The entries of a map of texts from a text on, one behind another, and the names in a directory that are counted along them.
use Rattle.std.proofs.Common.{◌≡◌, ℕ, zero, suc, ◌+◌, ◌<◌, Bool, true, false, cond, not, ◌||◌, List, [], ◌∷◌, ◌++◌, length, Option, Some, IsSome, is_some, String, refl, sym, ◌∙◌, ap, subst, arith}
use Rattle.std.proofs.lemmas.Bool.{false≢true}
use Rattle.std.proofs.lemmas.List.Elements.{All-cons, All-filter, All-head, All-nil, All-tail}
use Rattle.std.proofs.lemmas.List.Kept.{IsStrictlySortedBy-filter}
use Rattle.std.proofs.lemmas.Map.Entries.{place_from_lookup}
use Rattle.std.proofs.lemmas.Map.Keys.{sorted_tail}
use Rattle.std.proofs.lemmas.Map.Text.{is_eq-slice_cmp}
use Rattle.std.proofs.lemmas.Map.Views.{All-after_first, All-found}
use Rattle.std.proofs.lemmas.Slice.Eq.{bytes_eq-Decides}
use Rattle.std.specs.BTreeMap.{BTreeMap, IsOrdered, get_by_text, is_at}
use Rattle.std.specs.Cmp.Lexicographic.{slice_cmp}
use Rattle.std.specs.List.{All, filter, list_any, slice_get}
use Rattle.std.specs.List.Sorted.{IsStrictlySortedBy}
use Rattle.std.specs.Map.{keys_of}
use Rattle.std.specs.Ordering.{is_gt, is_le, is_lt, nat_cmp}
use Rattle.std.specs.Str.{bytes_eq}
use Rattle.std.specs.String.{string_bytes, string_cmp, string_cmp_total}
use Rattle.std.specs.declared.cmp.Ordering.{Ordering}
use Rattle.std.specs.declared.cmp.Ordering.TheVariants.{Less, Equal, Greater}
use Rattle.hdfs_cluster.specs.declared.messages.FileStatusMsg.{FileStatusMsg}
use Rattle.hdfs_cluster.specs.declared.picture.BlockEntry.{BlockEntry}
use Rattle.hdfs_cluster.specs.declared.picture.Entry.{Entry}
use Rattle.hdfs_cluster.specs.Names.{is_before}
use Rattle.hdfs_names.specs.Paths.{is_slash}
use Rattle.hdfs_mem_namenode.specs.Listing.{AreFrom, CountsBehind, GoesOn, IsNext, IsUnderWay, NoneBehind, Starts}
use Rattle.hdfs_mem_namenode.proofs.Bytes.{before_cmp, before_from, before_itself, before_not, before_trans, zero_behind, zero_next}
use Rattle.hdfs_mem_namenode.proofs.Children.{past_behind, starts_first, starts_next, starts_none, starts_outside, starts_past}
use Rattle.hdfs_mem_namenode.proofs.Directories.{some_known}
use Rattle.hdfs_mem_namenode.proofs.Keys.{after_cmp, fewer_from}
use Rattle.hdfs_mem_namenode.proofs.Pages.{CountsTo, Listed, counted_all, counted_more, none_counted}

-- a key isn't past a text exactly where it doesn't stand before it
pub from_key : {A : Type 0} (start k : String A) → is_le (string_cmp start k) ≡ not (is_before (string_bytes k) (string_bytes start))
from_key start k = le_gt (string_cmp start k) ∙ ap not (after_cmp (string_bytes start) (string_bytes k))
  where
    le_gt : (o : Ordering) → is_le o ≡ not (is_gt o)
    le_gt Less = refl
    le_gt Equal = refl
    le_gt Greater = refl

was_false : (b : Bool) → not b ≡ true → b ≡ false
was_false true is = absurd (false≢true is)
was_false false is = refl

module _ {A X : Type 0} where
  keys_filter : (p : String A → Bool) (es : List (String A × X)) → keys_of (filter (λ e. p e.0) es) ≡ filter p (keys_of es)
  keys_filter p [] = refl
  keys_filter p (e ∷ es) = by (p e.0) (keys_filter p es)
    where
      by : (b : Bool) → keys_of (filter (λ e. p e.0) es) ≡ filter p (keys_of es) → keys_of (cond b (e ∷ filter (λ e. p e.0) es) (filter (λ e. p e.0) es)) ≡ cond b (e.0 ∷ filter p (keys_of es)) (filter p (keys_of es))
      by true rest = ap (λ ks. e.0 ∷ ks) rest
      by false rest = rest

  kept_pass : (p : String A × X → Bool) (es : List (String A × X)) → All (λ e. p e ≡ true) (filter p es)
  kept_pass p [] = All-nil (λ e. p e ≡ true)
  kept_pass p (e ∷ es) = by (p e) refl (kept_pass p es)
    where
      by : (b : Bool) → p e ≡ b → All (λ e. p e ≡ true) (filter p es) → All (λ e. p e ≡ true) (cond b (e ∷ filter p es) (filter p es))
      by true is rest = All-cons (λ e. p e ≡ true) e (filter p es) is rest
      by false is rest = rest

  any_kept : (p t : String A × X → Bool) (es : List (String A × X)) (i : ℕ) (e : String A × X) → slice_get es i ≡ Some e → p e ≡ true → t e ≡ true → list_any t (filter p es) ≡ true
  any_kept p t [] i e at passes is = absurd (cc)
  any_kept p t (x ∷ es) zero e at passes is =
      let same : x ≡ e = cc in
      by (p x) (ap p same ∙ passes)
    where
      by : (b : Bool) → b ≡ true → list_any t (cond b (x ∷ filter p es) (filter p es)) ≡ true
      by true h = (let same : x ≡ e = cc in ap (λ (b : Bool). b || list_any t (filter p es)) (ap t same ∙ is))
      by false h = absurd (false≢true h)
  any_kept p t (x ∷ es) (suc i) e at passes is = by (p x) (any_kept p t es i e at passes is)
    where
      or_right : (a b : Bool) → b ≡ true → (a || b) ≡ true
      or_right true b is = refl
      or_right false b is = is

      by : (b : Bool) → list_any t (filter p es) ≡ true → list_any t (cond b (x ∷ filter p es) (filter p es)) ≡ true
      by true rest = or_right (t x) (list_any t (filter p es)) rest
      by false rest = rest

-- whether the key of an entry doesn't stand before a text
abbrev pub stands_from : {A X : Type 0} → List ℕ → String A × X → Bool
stands_from start e = not (is_before (string_bytes e.0) start)

module _ {A X : Type 0} (m : BTreeMap (String A) X) where
  weaker_all : (start : List ℕ) (es : List (String A × X)) → All (λ e. stands_from start e ≡ true) es → All (λ e. is_before (string_bytes e.0) start ≡ false) es
  weaker_all start [] all = All-nil (λ e. is_before (string_bytes e.0) start ≡ false)
  weaker_all start (e ∷ es) all =
      All-cons (λ e. is_before (string_bytes e.0) start ≡ false) e es (was_false (is_before (string_bytes e.0) start) (All-head (λ e. stands_from start e ≡ true) e es all))
      (weaker_all start es (All-tail (λ e. stands_from start e ≡ true) e es all))

  pub are_from : IsOrdered string_cmp m → (start : List ℕ) → AreFrom m start (filter (stands_from start) m.entries)
  are_from ordered start = record {
    sorted = subst (IsStrictlySortedBy string_cmp) (sym (keys_filter (λ k. not (is_before (string_bytes k) start)) m.entries)) (IsStrictlySortedBy-filter string_cmp (λ k. not (is_before (string_bytes k) start)) (keys_of m.entries) ordered);
    there = All-filter (stands_from start) (λ e. get_by_text m (string_bytes e.0) ≡ Some e.1) m.entries (All-found string_cmp_total m ordered);
    from = weaker_all start (filter (stands_from start) m.entries) (kept_pass (stands_from start) m.entries);
    all = λ q some from. found q some from;
    counted = omega arith;
  }
    where
      found : (q : List ℕ) → IsSome (get_by_text m q) → is_before q start ≡ false → list_any (λ e. bytes_eq q (string_bytes e.0)) (filter (stands_from start) m.entries) ≡ true
      found q some from =
          let known = some_known (get_by_text m q) some in
          let place = place_from_lookup (is_at (λ k. slice_cmp nat_cmp q (string_bytes k))) m.entries known.0 known.1 in
          let is : bytes_eq q (string_bytes place.1) ≡ true = sym (is_eq-slice_cmp q (string_bytes place.1)) ∙ place.3 in
          let same : q ≡ string_bytes place.1 = (bytes_eq-Decides q (string_bytes place.1)).0 is in
          any_kept (stands_from start) (λ e. bytes_eq q (string_bytes e.0)) m.entries place.0 (place.1, known.0) place.2
          (ap not (ap (λ (l : List ℕ). is_before l start) (sym same) ∙ from)) is

  -- there is none
  pub from_none : (start : List ℕ) → AreFrom m start [] → (q : List ℕ) → IsSome (get_by_text m q) → is_before q start ≡ true
  from_none start are q some = by (is_before q start) refl
    where
      by : (b : Bool) → is_before q start ≡ b → b ≡ true
      by true is = refl
      by false is = absurd (false≢true (are.all q some is))

  module _ (start : List ℕ) (e : String A × X) (rest : List (String A × X)) (are : AreFrom m start (e ∷ rest)) where
    abbrev key : List ℕ
    key = string_bytes e.0

    pub here : get_by_text m key ≡ Some e.1
    here = All-head (λ e. get_by_text m (string_bytes e.0) ≡ Some e.1) e rest are.there

    pub from_start : is_before key start ≡ false
    from_start = All-head (λ e. is_before (string_bytes e.0) start ≡ false) e rest are.from

    less_before : (k : String A) → string_cmp e.0 k ≡ Less → is_before key (string_bytes k) ≡ true
    less_before k less = sym (before_cmp key (string_bytes k)) ∙ ap is_lt less

    behind_any : (es : List (String A × X)) → All (λ k. string_cmp e.0 k ≡ Less) (keys_of es) → (q : List ℕ) → list_any (λ e. bytes_eq q (string_bytes e.0)) es ≡ true → is_before key q ≡ true
    behind_any [] all q any = absurd (false≢true any)
    behind_any (x ∷ es) all q any = by (bytes_eq q (string_bytes x.0)) (bytes_eq-Decides q (string_bytes x.0)).0 any (behind_any es (All-tail (λ k. string_cmp e.0 k ≡ Less) x.0 (keys_of es) all) q)
      where
        by : (b : Bool) → (b ≡ true → q ≡ string_bytes x.0) → (b || list_any (λ e. bytes_eq q (string_bytes e.0)) es) ≡ true → (list_any (λ e. bytes_eq q (string_bytes e.0)) es ≡ true → is_before key q ≡ true) → is_before key q ≡ true
        by true same any more = subst (λ (l : List ℕ). is_before key l ≡ true) (sym (same refl)) (less_before x.0 (All-head (λ k. string_cmp e.0 k ≡ Less) x.0 (keys_of es) all))
        by false same any more = more any

    above : All (λ k. string_cmp e.0 k ≡ Less) (keys_of rest)
    above = All-after_first string_cmp e.0 (keys_of rest) are.sorted

    pub least : (q : List ℕ) → IsSome (get_by_text m q) → is_before q start ≡ false → is_before q key ≡ false
    least q some from = by (bytes_eq q key) (bytes_eq-Decides q key).0 (are.all q some from)
      where
        by : (b : Bool) → (b ≡ true → q ≡ key) → (b || list_any (λ e. bytes_eq q (string_bytes e.0)) rest) ≡ true → is_before q key ≡ false
        by true same any = ap (λ (l : List ℕ). is_before l key) (same refl) ∙ before_itself key
        by false same any = before_not key q (behind_any rest above q any)

    next_from : (es : List (String A × X)) → All (λ k. string_cmp e.0 k ≡ Less) (keys_of es) → All (λ e. is_before (string_bytes e.0) (key ++ 0 ∷ []) ≡ false) es
    next_from [] all = All-nil (λ e. is_before (string_bytes e.0) (key ++ 0 ∷ []) ≡ false)
    next_from (x ∷ es) all =
        All-cons (λ e. is_before (string_bytes e.0) (key ++ 0 ∷ []) ≡ false) x es (zero_next key (string_bytes x.0) (less_before x.0 (All-head (λ k. string_cmp e.0 k ≡ Less) x.0 (keys_of es) all)))
        (next_from es (All-tail (λ k. string_cmp e.0 k ≡ Less) x.0 (keys_of es) all))

    pub next_are : AreFrom m (key ++ 0 ∷ []) rest
    next_are = record {
      sorted = sorted_tail string_cmp e.0 (keys_of rest) are.sorted;
      there = All-tail (λ e. get_by_text m (string_bytes e.0) ≡ Some e.1) e rest are.there;
      from = next_from rest above;
      all = λ q some from. by_start q some from (is_before q start) refl;
      counted = (let fewer = fewer_from m start (key ++ 0 ∷ []) key (ap is_some here) from_start (zero_behind key) in let so_far = are.counted in omega (arith, fewer, so_far));
    }
      where
        by_key : (q : List ℕ) → is_before q (key ++ 0 ∷ []) ≡ false → (b : Bool) → (b ≡ true → q ≡ key) → (b || list_any (λ e. bytes_eq q (string_bytes e.0)) rest) ≡ true → list_any (λ e. bytes_eq q (string_bytes e.0)) rest ≡ true
        by_key q from true same any = absurd (false≢true (sym (subst (λ (l : List ℕ). is_before l (key ++ 0 ∷ []) ≡ false) (same refl) from) ∙ zero_behind key))
        by_key q from false same any = any

        by_start : (q : List ℕ) → IsSome (get_by_text m q) → is_before q (key ++ 0 ∷ []) ≡ false → (b : Bool) → is_before q start ≡ b → list_any (λ e. bytes_eq q (string_bytes e.0)) rest ≡ true
        by_start q some from true early = absurd (false≢true (sym from ∙ before_trans q key (key ++ 0 ∷ []) (before_from q start key early from_start) (zero_behind key)))
        by_start q some from false late = by_key q from (bytes_eq q key) (bytes_eq-Decides q key).0 (are.all q some late)

    -- from a text on behind the first of them there are fewer
    pub fewer_entries : (next : List ℕ) → is_before key next ≡ true → length (filter (stands_from next) m.entries) < length (e ∷ rest)
    fewer_entries next behind = (let fewer = fewer_from m start next key (ap is_some here) from_start behind in let so_far = are.counted in omega (arith, fewer, so_far))

-- the entries from behind a name on
pub goes_first : {A : Type 0} (m : BTreeMap (String A) Entry) (front after : List ℕ) → IsOrdered string_cmp m → (rest : List (String A × Entry)) (text : List ℕ) → text ≡ (front ++ after) ++ 0 ∷ [] → rest ≡ filter (stands_from text) m.entries
    → GoesOn m front after rest
goes_first m front after ordered rest text is entries = record {
  start = text;
  starts = subst (Starts (get_by_text m) front after) (sym is) (starts_first (get_by_text m) front after);
  are = subst (AreFrom m text) (sym entries) (are_from m ordered text);
}

module _ {A : Type 0} (m : BTreeMap (String A) Entry) (front last : List ℕ) (old : List (String A × Entry)) (goes : GoesOn m front last old) where
  abbrev names : List ℕ → Option Entry
  names = get_by_text m

  -- none is left
  pub goes_none : old ≡ [] → NoneBehind names front last
  goes_none none = starts_none names front last goes.start goes.starts (from_none m goes.start (subst (AreFrom m goes.start) none goes.are))

  module _ (e : String A × Entry) (rest : List (String A × Entry)) (steps : old ≡ e ∷ rest) where
    are' : AreFrom m goes.start (e ∷ rest)
    are' = subst (AreFrom m goes.start) steps goes.are

    -- the first one doesn't begin so
    pub goes_outside : ((r : List ℕ) → string_bytes e.0 ≡ front ++ r → ⊥) → NoneBehind names front last
    goes_outside outside = starts_outside names front last goes.start goes.starts (string_bytes e.0) (from_start m goes.start e rest are') (least m goes.start e rest are') outside

    module _ (name : List ℕ) (is : string_bytes e.0 ≡ front ++ name) where
      -- it is a name in the directory
      pub goes_next : list_any is_slash name ≡ false → IsNext names front last name
      goes_next plain =
          starts_next names front last goes.start goes.starts (string_bytes e.0) (from_start m goes.start e rest are') (least m goes.start e rest are') name is (ap is_some (here m goes.start e rest are')) plain

      pub goes_here : get_by_text m (string_bytes e.0) ≡ Some e.1
      goes_here = here m goes.start e rest are'

      pub goes_behind : GoesOn m front name rest
      goes_behind = record {
        start = string_bytes e.0 ++ 0 ∷ [];
        starts = subst (Starts names front name) (ap (λ (l : List ℕ). l ++ 0 ∷ []) (sym is)) (starts_first names front name);
        are = next_are m goes.start e rest are';
      }

      module _ (part tail : List ℕ) (parts : name ≡ part ++ 47 ∷ tail) (text : List ℕ) (at : text ≡ (front ++ part) ++ 48 ∷ []) (fresh : List (String A × Entry)) (entries : fresh ≡ filter (stands_from text) m.entries) where
        -- it lies in a directory of the directory, which is passed over
        pub goes_past : IsOrdered string_cmp m → GoesOn m front last fresh
        goes_past ordered = record {
          start = text;
          starts = subst (Starts names front last) (sym at)
              (starts_past names front last goes.start goes.starts (string_bytes e.0) (from_start m goes.start e rest are') (least m goes.start e rest are') name is part tail parts);
          are = subst (AreFrom m text) (sym entries) (are_from m ordered text);
        }

        pub goes_fewer : length fresh < length old
        goes_fewer =
            let behind : is_before (string_bytes e.0) text ≡ true = ap (is_before (string_bytes e.0)) at
            ∙ past_behind names front last goes.start goes.starts (string_bytes e.0) (from_start m goes.start e rest are') (least m goes.start e rest are') name is part tail parts in
            let fewer = fewer_entries m goes.start e rest are' text behind in
            let now = ap length entries in
            let was = ap length steps in
            omega (arith, fewer, now, was)

-- so many names behind a text were counted, and these are the entries that are left
pub record CountsAlong {A : Type 0} (m : BTreeMap (String A) Entry) (front after : List ℕ) (count : ℕ) (rest : List (String A × Entry)) : Type 0 where
  pub last : List ℕ
  pub counts : CountsTo (get_by_text m) front after count last
  pub goes : GoesOn m front last rest

pub along_first : {A : Type 0} (m : BTreeMap (String A) Entry) (front after : List ℕ) (rest : List (String A × Entry)) → GoesOn m front after rest → CountsAlong m front after 0 rest
along_first m front after rest goes = record { last = after; counts = none_counted (get_by_text m) front after; goes = goes }

module _ {A : Type 0} (m : BTreeMap (String A) Entry) (front after : List ℕ) (count : ℕ) (old : List (String A × Entry)) (along : CountsAlong m front after count old) where
  pub along_none : NoneBehind (get_by_text m) front along.last → CountsBehind (get_by_text m) front after count
  along_none none = counted_all (get_by_text m) front after count along.last along.counts none

  pub along_child : (name : List ℕ) (rest : List (String A × Entry)) → IsNext (get_by_text m) front along.last name → GoesOn m front name rest → (count' : ℕ) → count' ≡ count + 1 → CountsAlong m front after count' rest
  along_child name rest next goes count' more = record {
    last = name;
    counts = subst (λ (n : ℕ). CountsTo (get_by_text m) front after n name) (sym more) (counted_more (get_by_text m) front after count along.last along.counts name next);
    goes = goes;
  }

-- these names behind a text were listed, and these are the entries that are left
pub record ListedAlong {A : Type 0} (m : BTreeMap (String A) Entry) (table : ℕ → Option BlockEntry) (front from : List ℕ) (listing : List FileStatusMsg) (rest : List (String A × Entry)) : Type 0 where
  pub last : List ℕ
  pub listed : Listed (get_by_text m) table front from listing last
  pub goes : GoesOn m front last rest

-- it is so of a front that has the same bytes
pub under_way : {A : Type 0} (m : BTreeMap (String A) Entry) (front front' last : List ℕ) (rest : List (String A × Entry)) → front' ≡ front → GoesOn m front last rest → IsUnderWay m front' rest
under_way m front front' last rest same goes = record { last = last; goes = subst (λ (f : List ℕ). GoesOn m f last rest) (sym same) goes }
