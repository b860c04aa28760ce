-- What a view of a cluster keeps: that no count fell, and what an ask leaves. Whatever the view is, the service has it still behind its calls.
use Rattle.std.proofs.Common.{◌≡◌, ℕ, ◌+◌, ◌-◌, ◌^◌, ◌<◌, ◌≤◌, Bool, true, false, cond, Option, refl, sym, ◌∙◌, ap, arith}
use Rattle.std.proofs.lemmas.Bool.{and_from, and_parts, le-leb, leb-true, lt-ltb, ltb-true}
use Rattle.std.specs.Prelude.{nat_le, nat_lt}
use Rattle.hdfs_cluster.specs.Counts.{Rose}
use Rattle.hdfs_cluster.specs.Picture.{Picture, Told}
use Rattle.hdfs_cluster.specs.Repeating.{Leaves}
use Rattle.hdfs_cluster.specs.Shown.{Shown, Later}
use Rattle.hdfs_namenode.specs.Asked.{SameService}
use Rattle.hdfs_namenode.specs.Views.{View, Whole, OfService, HasView, asks_in, calls_in, is_among, picture_in, see}
use Rattle.hdfs_namenode.specs.declared.proxy.NameServiceProxy.{NameServiceProxy}
use Rattle.hdfs_namenode.proofs.Services.{reaches_same}

-- a number of a service's namenodes is among them, and none else is
among : (first count i : ℕ) → first ≤ i → i < first + count → is_among first count i ≡ true
among first count i low high = and_from (nat_le first i) (nat_lt i (first + count)) (le-leb first i low) (lt-ltb i (first + count) high)

among_parts : (first count i : ℕ) → is_among first count i ≡ true → (first ≤ i) × (i < first + count)
among_parts first count i is =
    let both = and_parts (nat_le first i) (nat_lt i (first + count)) is in
    (leb-true first i both.0, ltb-true i (first + count) both.1)

-- what was told is told in each view
pub told_seen : (view : View) (P : Picture → Picture → Type 0) (a b : Option Picture) → Told P a b → Told P (picture_in view a) (picture_in view b)
told_seen Whole P a b h = h
told_seen (OfService first count) P a b h = tt

fall_seen : (b : Bool) (x y end : ℕ) → x ≤ y → cond b x end ≤ cond b y end
fall_seen true x y end fall = fall
fall_seen false x y end fall = omega arith

pub later_seen : (view : View) (s t : Shown) → Later s t → Later (see view s) (see view t)
later_seen Whole s t h = h
later_seen (OfService first count) s t h = record {
  counts = record {
    asks = λ i. fall_seen (is_among first count i) (s.counts.asks i) (t.counts.asks i) (2 ^ 64 - 1) (h.counts.asks i);
    calls = λ i. fall_seen (is_among first count i) (s.counts.calls i) (t.counts.calls i) 0 (h.counts.calls i);
    links = h.counts.links;
    nodes = h.counts.nodes;
  };
  namenodes = h.namenodes;
  loaded = h.loaded;
}

pub leaves_seen : (view : View) (s t : Shown) → Leaves s t → Leaves (see view s) (see view t)
leaves_seen Whole s t h = h
leaves_seen (OfService first count) s t h = record {
  later = later_seen (OfService first count) s t h.later;
  reads = h.reads;
  writes = h.writes;
  links = h.links;
  nodes = h.nodes;
  bytes = tt;
}

-- the service that had a view has it behind its calls
pub view_same : (view : View) (proxy proxy' : NameServiceProxy) (s s' : Shown) → SameService proxy proxy' → s'.namenodes ≡ s.namenodes → HasView proxy s view
    → HasView proxy' s' view
view_same Whole proxy proxy' s s' same namenodes has = reaches_same proxy proxy' s s' same namenodes has
view_same (OfService first count) proxy proxy' s s' same namenodes has = (has.0 ∙ sym same.first, has.1 ∙ sym same.count)

pub view_later : (view : View) (proxy proxy' : NameServiceProxy) (s s' : Shown) → SameService proxy proxy' → Later s s' → HasView proxy s view → HasView proxy' s' view
view_later view proxy proxy' s s' same later has = view_same view proxy proxy' s s' same later.namenodes has

module _ (proxy : NameServiceProxy) (s : Shown) where
  -- a count of a namenode of the service is seen
  pub call_seen : (view : View) → HasView proxy s view → (calls : ℕ → ℕ) (i : ℕ) → proxy.first ≤ i → i < proxy.first + proxy.count → calls_in view calls i ≡ calls i
  call_seen Whole has calls i low high = refl
  call_seen (OfService first count) has calls i low high =
      ap (λ (b : Bool). cond b (calls i) 0) (among first count i (omega (arith, has.0, low)) (omega (arith, has.0, has.1, high)))

  -- each namenode counts as asked where each one of the service was
  pub asks_seen : (view : View) → HasView proxy s view → (before now : ℕ → ℕ)
      → ((i : ℕ) → proxy.first ≤ i → i < proxy.first + proxy.count → Rose (before i) (now i))
      → (i : ℕ) → i < s.namenodes → Rose (asks_in view before i) (asks_in view now i)
  asks_seen Whole has before now each i low = each i (omega (arith, has.first)) (omega (arith, has.first, has.all, low))
  asks_seen (OfService first count) has before now each i low = by (is_among first count i) refl
    where
      by : (b : Bool) → is_among first count i ≡ b → Rose (cond b (before i) (2 ^ 64 - 1)) (cond b (now i) (2 ^ 64 - 1))
      by true is = (let parts = among_parts first count i is in each i (omega (arith, has.0, parts.0)) (omega (arith, has.0, has.1, parts.1)))
      by false is = omega arith
