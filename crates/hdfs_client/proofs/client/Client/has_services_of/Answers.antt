-- One more service is the cluster's; behind the last one they all are.
use Rattle.std.proofs.Common.{◌≡◌, ◌≢◌, ◌<◌, ◌+◌, ◌==◌, ℕ, Some, sym, refl, ◌∙◌, subst, ap, arith, inl, inr, get_or, length, List, slice_get}
use Rattle.std.proofs.lemmas.Bool.{cases_Bool, false≢true}
use Rattle.std.proofs.lemmas.Bool.Decides.{Decides-eqb}
use Rattle.std.proofs.lemmas.Option.{slice_get_within}
use Rattle.hdfs_namenode.specs.Asked.{IsServiceOf}
use Rattle.hdfs_namenode.specs.Clients.{proxy_of}
use Rattle.hdfs_namenode.specs.declared.protocol.NamenodeProtocol.{NamenodeProtocol}
use Rattle.hdfs_client.proofs.Asking.{found_at, same_some}
use Rattle.hdfs_client.proofs.client.Client.has_services_of.Goals as goal

one_more : (services : List NamenodeProtocol) (i k : ℕ) (here namenode : NamenodeProtocol) (P : NamenodeProtocol → Type 0)
    → ((j : ℕ) (other : NamenodeProtocol) → j < i → slice_get services j ≡ Some other → P other) → i < length services → here ≡ get_or services i here
    → P here → k < i + 1 → slice_get services k ≡ Some namenode → P namenode
one_more services i k here namenode P before within at is low found = elim (cases_Bool (k == i)) [
  | inl same ↦ subst P (sym (same_some here namenode (slice_get services k)
      (ap (λ (j : ℕ). slice_get services j) ((Decides-eqb k i).0 same) ∙ found_at services i here within at) found)) is
  | inr apart ↦
      let other : k ≢ i = λ e. false≢true (sym apart ∙ (Decides-eqb k i).1 e) in
      before k namenode (omega arith) found
]

pub services-preserved : goal.services-preserved
services-preserved g c = λ k namenode low is.
    let value = c.deref-namenode-items.ensures.value in
    one_more c.args.self.now.services.items c.services.namenode-index k c.namenode-item.result namenode
    (λ n. IsServiceOf (proxy_of n) (g.C.Cluster.shown c.args.cluster.now)) c.services.invariant
    (subst (λ (xs : List NamenodeProtocol). c.services.namenode-index < length xs) value c.services-test.true)
    (c.namenode-item.is ∙ ap (λ (xs : List NamenodeProtocol). get_or xs c.services.namenode-index c.namenode-item.result) value)
    (c.is_service_of.ensures.0 c.if-not-is_service_of.false) low is

pub returns : goal.returns
returns g c = (
  (λ is k namenode at.
      let low = slice_get_within c.args.self.now.services.items k namenode at in
      c.services.invariant k namenode (omega (arith, low, c.services-test.false, ap (length {A = NamenodeProtocol}) c.deref-namenode-items.ensures.value)) at),
  (λ all. refl),
)
