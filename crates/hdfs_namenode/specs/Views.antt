-- How the caller of a service sees a cluster: all of it, where the service is all its namenodes and is asked plainly; and else as far as the
-- service goes.
use Rattle.std.specs.Prelude.{◌≡◌, ℕ, ◌+◌, ◌-◌, ◌^◌, ◌&&◌, nat_le, nat_lt, Bool, Option, None, if◌then◌else◌}
use Rattle.hdfs_cluster.specs.Picture.{Picture}
use Rattle.hdfs_cluster.specs.Shown.{Shown}
use Rattle.hdfs_namenode.specs.Asked.{ReachesAll, Through}
use Rattle.hdfs_namenode.specs.declared.proxy.NameServiceProxy.{NameServiceProxy}

-- all that a cluster shows, or what it shows of so many namenodes from this one on
pub data View : Type 0 where
  Whole : View
  OfService : ℕ → ℕ → View

-- a namenode is one of so many from this one on
abbrev pub is_among : ℕ → ℕ → ℕ → Bool
is_among first count i = nat_le first i && nat_lt i (first + count)

-- the picture, which is told where all is seen
abbrev pub picture_in : View → Option Picture → Option Picture
picture_in Whole picture = picture
picture_in (OfService first count) picture = None

-- how often namenodes were asked: of others nothing is told, and their counts stand at their last value
abbrev pub asks_in : View → (ℕ → ℕ) → ℕ → ℕ
asks_in Whole asks i = asks i
asks_in (OfService first count) asks i = if is_among first count i then asks i else 2 ^ 64 - 1

-- how often namenodes have failed: of others nothing is told, and their counts never rise
abbrev pub calls_in : View → (ℕ → ℕ) → ℕ → ℕ
calls_in Whole calls i = calls i
calls_in (OfService first count) calls i = if is_among first count i then calls i else 0

-- what is seen of a cluster
abbrev pub see : View → Shown → Shown
see view shown = record shown {
  picture = picture_in view shown.picture;
  counts = record shown.counts { asks = asks_in view shown.counts.asks; calls = calls_in view shown.counts.calls };
}

-- a service has this view of a cluster
abbrev pub HasView : NameServiceProxy → Shown → View → Type 0
HasView proxy shown Whole = ReachesAll proxy shown
HasView proxy shown (OfService first count) = (first ≡ proxy.first) × (count ≡ proxy.count)

-- the view that each service has
abbrev pub view_of : NameServiceProxy → View
view_of proxy = OfService proxy.first proxy.count

-- this is so in each view that a service has of a cluster
abbrev pub InEachView : {C : Type 0} → (C → Shown) → Through C → ((Shown → Shown) → Type 0) → Type 0
InEachView shown old IsSo = (view : View) → HasView old.proxy (shown old.cluster) view → IsSo (see view)

-- from one moment to another this is so, as a service sees it
abbrev pub Seen : {C : Type 0} → (C → Shown) → Through C → C → (Shown → Shown → Type 0) → Type 0
Seen shown old new IsSo = InEachView shown old (λ see. IsSo (see (shown old.cluster)) (see (shown new)))
