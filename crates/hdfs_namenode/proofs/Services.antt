-- Services of namenodes: what is kept of them from call to call, and that one that has all namenodes asks each of them.
use Rattle.std.proofs.Common.{◌≡◌, ℕ, ◌+◌, ◌<◌, ◌≤◌, Bool, true, false, Option, refl, sym, ◌∙◌, ap, subst, arith}
use Rattle.std.specs.Prelude.{IfSome, Result, ◌&&◌, ◌||◌, not}
use Rattle.hdfs_cluster.specs.declared.asks.Ask.{Ask}
use Rattle.hdfs_cluster.specs.declared.asks.Answer.{Answer}
use Rattle.hdfs_cluster.specs.declared.asks.AskFault.{AskFault}
use Rattle.hdfs_cluster.specs.declared.errors.HdfsError.{HdfsError}
use Rattle.hdfs_cluster.specs.Shown.{Shown, Later}
use Rattle.hdfs_cluster.proofs.Ordering.{order_below, order_has}
use Rattle.hdfs_cluster.proofs.Relaying.{Below, Has}
use Rattle.hdfs_namenode.specs.Asked.{Asked, AskedInOrder, IsNew, IsPlain, IsServiceOf, ReachesAll, SameService, Through, is_observed, needs_sync, order_of}
use Rattle.hdfs_namenode.specs.Clients.{SameClient, proxy_of}
use Rattle.hdfs_namenode.specs.declared.protocol.NamenodeProtocol.{NamenodeProtocol}
use Rattle.hdfs_namenode.specs.declared.proxy.NameServiceProxy.{NameServiceProxy}

pub same_service_refl : (proxy : NameServiceProxy) → SameService proxy proxy
same_service_refl proxy = record { first = refl; count = refl; aligned = refl; find_observer = refl; plain = λ plain. plain; within = λ shown of. of }

pub same_service_trans : (a b c : NameServiceProxy) → SameService a b → SameService b c → SameService a c
same_service_trans a b c f g = record {
  first = g.first ∙ f.first;
  count = g.count ∙ f.count;
  aligned = g.aligned ∙ f.aligned;
  find_observer = g.find_observer ∙ f.find_observer;
  plain = λ plain. g.plain (f.plain plain);
  within = λ shown of. g.within shown (f.within shown of);
}

pub same_client_refl : (a : NamenodeProtocol) → SameClient a a
same_client_refl a = record { service = same_service_refl (proxy_of a); name = refl; defaults = refl; key = refl; leases = refl }

pub same_client_trans : (a b c : NamenodeProtocol) → SameClient a b → SameClient b c → SameClient a c
same_client_trans a b c f g = record {
  service = same_service_trans (proxy_of a) (proxy_of b) (proxy_of c) f.service g.service;
  name = g.name ∙ f.name;
  defaults = g.defaults ∙ f.defaults;
  key = g.key ∙ f.key;
  leases = g.leases ∙ f.leases;
}

-- a service of all namenodes that the cluster has is one of the cluster's namenodes
pub reaches_service : (proxy : NameServiceProxy) (s : Shown) → ReachesAll proxy s → IsServiceOf proxy s
reaches_service proxy s r = record {
  within = omega (arith, r.first, r.all);
  from = omega (arith, r.first);
  below = omega (arith, r.first, r.below);
  observer = subst (λ (o : Option ℕ). IfSome o (λ i. (proxy.first ≤ i) × (i < proxy.first + proxy.count))) (sym r.plain.unknown) tt;
}

-- it begins so
pub reaches_new : (from many : ℕ) (proxy : NameServiceProxy) (s : Shown) → IsNew from many false false proxy → from ≡ 0 → many ≡ s.namenodes → 0 < many
    → ReachesAll proxy s
reaches_new from many proxy s new first all some = record {
  first = new.first ∙ first;
  all = new.count ∙ all;
  below = omega (arith, new.remembered, new.count, first, some);
  plain = record { apart = new.aligns; unobserved = new.observes; unknown = new.unknown };
}

-- it stays so from call to call
pub reaches_same : (proxy proxy' : NameServiceProxy) (s s' : Shown) → SameService proxy proxy' → s'.namenodes ≡ s.namenodes → ReachesAll proxy s → ReachesAll proxy' s'
reaches_same proxy proxy' s s' same namenodes r =
    let of = same.within s (reaches_service proxy s r) in
    record {
      first = same.first ∙ r.first;
      all = same.count ∙ r.all ∙ sym namenodes;
      below = omega (arith, of.below, same.first, same.count, r.first);
      plain = same.plain r.plain;
    }

pub reaches_later : (proxy proxy' : NameServiceProxy) (s s' : Shown) → SameService proxy proxy' → Later s s' → ReachesAll proxy s → ReachesAll proxy' s'
reaches_later proxy proxy' s s' same later r = reaches_same proxy proxy' s s' same later.namenodes r

pub service_same : (proxy proxy' : NameServiceProxy) (s s' : Shown) → SameService proxy proxy' → s'.namenodes ≡ s.namenodes → IsServiceOf proxy s → IsServiceOf proxy' s'
service_same proxy proxy' s s' same namenodes of =
    let now = same.within s of in
    record { within = omega (arith, now.within, namenodes); from = now.from; below = now.below; observer = now.observer }

pub service_later : (proxy proxy' : NameServiceProxy) (s s' : Shown) → SameService proxy proxy' → Later s s' → IsServiceOf proxy s → IsServiceOf proxy' s'
service_later proxy proxy' s s' same later of = service_same proxy proxy' s s' same later.namenodes of

-- each namenode that a service asks is one of the cluster's
pub service_below : (proxy : NameServiceProxy) (s : Shown) → IsServiceOf proxy s → Below s.namenodes (order_of proxy)
service_below proxy s of = order_below s.namenodes proxy.remembered proxy.first proxy.count (omega (arith, of.below, of.within)) of.within

-- and where it has all of them, each one of the cluster's is asked
pub reaches_has : (proxy : NameServiceProxy) (s : Shown) (a : ℕ) → ReachesAll proxy s → a < s.namenodes → Has a (order_of proxy)
reaches_has proxy s a r low = order_has proxy.remembered proxy.first proxy.count a (omega (arith, r.first)) (omega (arith, r.first, r.all, low))

-- a service that is plain makes no other ask than the one that it is to make
unneeded : (write : Bool) (proxy : NameServiceProxy) → IsPlain proxy → needs_sync write proxy ≡ false
unneeded write proxy plain = ap (λ (b : Bool). b && not proxy.synced && (write || proxy.find_observer)) plain.apart

never_and : (b : Bool) → (not b && false) ≡ false
never_and true = refl
never_and false = refl

not_observed : (write : Bool) (proxy : NameServiceProxy) → IsPlain proxy → is_observed write proxy ≡ false
not_observed write proxy plain = ap (λ (b : Bool). not write && b) plain.unobserved ∙ never_and write

pub asked_plain : {C : Type 0} (serves : C → ℕ → Ask → Result Answer AskFault → C → Type 0) (write : Bool) (ask : Ask) (old : Through C) (outcome : Result Answer HdfsError)
    (new : Through C) → IsPlain old.proxy → Asked serves write ask old outcome new → AskedInOrder serves write ask old outcome new
asked_plain serves write ask old outcome new plain asked = (asked.in_step (unneeded write old.proxy plain)).in_order (not_observed write old.proxy plain)
