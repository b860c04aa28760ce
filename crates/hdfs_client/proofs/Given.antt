-- A lease is given back by a service of a client, which stays a client of its cluster.
use Rattle.std.proofs.Common.{◌≡◌, ◌≢◌, ◌⊎◌, inl, inr, ℕ, zero, suc, ◌≤◌, ◌==◌, Bool, true, false, List, [], ◌∷◌, length, slice_get, Option, Some, None, refl, sym, ◌∙◌, ap, subst, arith}
use Rattle.std.proofs.lemmas.Bool.{cases_Bool, false≢true}
use Rattle.std.proofs.lemmas.Bool.Decides.{Decides-eqb}
use Rattle.hdfs_cluster.specs.Shown.{Shown}
use Rattle.hdfs_cluster.proofs.Frames.{later_refl}
use Rattle.hdfs_leases.specs.declared.file_leases.FileLeases.{FileLeases}
use Rattle.hdfs_namenode.specs.Asked.{IsServiceOf, SameService}
use Rattle.hdfs_namenode.specs.Clients.{ChangesLeases, SameButLeases, SameClient, leases_of, proxy_of}
use Rattle.hdfs_namenode.specs.declared.protocol.NamenodeProtocol.{NamenodeProtocol}
use Rattle.hdfs_namenode.specs.declared.proxy.NameServiceProxy.{NameServiceProxy}
use Rattle.hdfs_namenode.proofs.Services.{same_client_trans, same_service_refl, same_service_trans, service_later}
use Rattle.hdfs_client.specs.Clients.{IsClientOf, SameBut, service_at, services_of}
use Rattle.hdfs_client.specs.Holding.{ChangesService, GivesBack, GivesLease, MayGive}
use Rattle.hdfs_client.specs.declared.client.Client.{Client}
use Rattle.hdfs_client.specs.declared.file_lease.FileLease.{FileLease}
use Rattle.hdfs_client.proofs.Asking.{same_some}
use Rattle.hdfs_client.proofs.Serving.{Used}

not_none : {T : Type 0} {x : T} {o : Option T} → o ≡ Some x → o ≡ None → ⊥
not_none some none = absurd (cc (some, none))

-- what was done to one service is what the client's service of that number came to
pub changes_by : (Changes : NamenodeProtocol → NamenodeProtocol → Type 0) {client client' : Client} {k : ℕ} {before after : NamenodeProtocol}
    → Used client k before after client' → Changes before after → ChangesService Changes k client client'
changes_by Changes {client} {client'} {k} {before} {after} at so = record {
  others = at.others;
  service = λ found is.
      (after, at.is, subst (λ (n : NamenodeProtocol). Changes n after) (same_some found before (service_at client k) is at.was) so);
  none = λ is. absurd (not_none at.was is);
}

same_but_refl : (k : ℕ) (client : Client) → SameBut k client client
same_but_refl k client = record { others = λ other apart. refl; mounts = refl; addresses = refl; replacement = refl }

-- nothing was done
pub changes_none : (Changes : NamenodeProtocol → NamenodeProtocol → Type 0) → ((n : NamenodeProtocol) → Changes n n) → (k : ℕ) (client : Client)
    → ChangesService Changes k client client
changes_none Changes refl_of k client = record {
  others = same_but_refl k client;
  service = λ found is. (found, is, refl_of found);
  none = λ is. is;
}

same_leases_refl : (n : NamenodeProtocol) → SameButLeases n n
same_leases_refl n = record { service = same_service_refl (proxy_of n); name = refl; defaults = refl; key = refl }

-- there is no service of this number
pub changes_beyond : (Changes : NamenodeProtocol → NamenodeProtocol → Type 0) (k : ℕ) (client : Client) → length (services_of client) ≤ k
    → ChangesService Changes k client client
changes_beyond Changes k client low = record {
  others = same_but_refl k client;
  service = λ found is. absurd (not_none is (beyond (services_of client) k low));
  none = λ is. is;
}
  where
    beyond : (services : List NamenodeProtocol) (k : ℕ) → length services ≤ k → slice_get services k ≡ None
    beyond [] k low = refl
    beyond (first ∷ services) zero low = absurd (omega (arith, low))
    beyond (first ∷ services) (suc k) low = beyond services k (omega (arith, low))

-- none was held
pub gives_none : (n : NamenodeProtocol) → GivesBack None n n
gives_none n = record { same = same_leases_refl n; given = λ lease is. absurd (cc is); kept = λ is. refl }

from_leases : {a b : NamenodeProtocol} → ChangesLeases a b → SameButLeases a b
from_leases {a} {b} changes = record {
  service = subst (λ (proxy : NameServiceProxy). SameService (proxy_of a) proxy) (sym changes.proxy) (same_service_refl (proxy_of a));
  name = changes.name;
  defaults = changes.defaults;
  key = changes.key;
}

-- one was
pub gives_some : (lease : FileLease) {a b : NamenodeProtocol} → GivesLease lease (leases_of a) (leases_of b) → ChangesLeases a b → GivesBack (Some lease) a b
gives_some lease {a} {b} given changes = record {
  same = from_leases changes;
  given = λ other is. subst (λ (l : FileLease). GivesLease l (leases_of a) (leases_of b)) (cc is) given;
  kept = λ is. absurd (cc is);
}

-- the one that is held was given back by the service that was used
pub gives_at : (held : Option FileLease) (lease : FileLease) {client client' : Client} {k : ℕ} {a b : NamenodeProtocol} → Some lease ≡ held
    → Used client k a b client' → GivesLease lease (leases_of a) (leases_of b) → ChangesLeases a b → ChangesService (GivesBack held) k client client'
gives_at held lease {client} {client'} {k} {a} {b} is at given changes =
    changes_by (GivesBack held) at (subst (λ (l : Option FileLease). GivesBack l a b) is (gives_some lease given changes))

-- behind what left the leases as they were
gives_behind : (lease : Option FileLease) {a b c : NamenodeProtocol} → SameClient a b → GivesBack lease b c → GivesBack lease a c
gives_behind lease {a} {b} {c} first gives = record {
  same = record {
    service = same_service_trans (proxy_of a) (proxy_of b) (proxy_of c) first.service gives.same.service;
    name = gives.same.name ∙ first.name;
    defaults = gives.same.defaults ∙ first.defaults;
    key = gives.same.key ∙ first.key;
  };
  given = λ held is. subst (λ (l : FileLeases). GivesLease held l (leases_of c)) first.leases (gives.given held is);
  kept = λ is. gives.kept is ∙ first.leases;
}

same_but_trans : {k : ℕ} {a b c : Client} → SameBut k a b → SameBut k b c → SameBut k a c
same_but_trans one two = record {
  others = λ other apart. two.others other apart ∙ one.others other apart;
  mounts = two.mounts ∙ one.mounts;
  addresses = two.addresses ∙ one.addresses;
  replacement = two.replacement ∙ one.replacement;
}

may_behind : (done : Bool) (lease : Option FileLease) (a b c : NamenodeProtocol) → SameClient a b → MayGive done lease b c → MayGive done lease a c
may_behind true lease a b c first gives = gives_behind lease first gives
may_behind false lease a b c first same = same_client_trans a b c first same

-- a service was used that left its leases as they were, and then gave one back, or didn't
pub may_then : (done : Bool) (lease : Option FileLease) {client mid client' : Client} {k : ℕ} {before after : NamenodeProtocol} → Used client k before after mid
    → SameClient before after → ChangesService (MayGive done lease) k mid client' → ChangesService (MayGive done lease) k client client'
may_then done lease {client} {mid} {client'} {k} {before} {after} at same changes =
    let to = changes.service after at.is in
    changes_by (MayGive done lease) (record { was = at.was; is = to.1; others = same_but_trans at.others changes.others }) (may_behind done lease before after to.0 same to.2)

-- it stays a client of the cluster
pub client_gives : (lease : Option FileLease) {k : ℕ} {client client' : Client} → ChangesService (GivesBack lease) k client client'
    → (shown : Shown) → IsClientOf client shown → IsClientOf client' shown
client_gives lease {k} {client} {client'} changes shown of = record {
  many = of.many ∙ ap length (sym changes.others.addresses);
  each = λ i namenode is. by i namenode is (cases_Bool (i == k));
}
  where
    here : (namenode : NamenodeProtocol) → service_at client' k ≡ Some namenode → (was : Option NamenodeProtocol) → service_at client k ≡ was
        → IsServiceOf (proxy_of namenode) shown
    here namenode is None none = absurd (not_none is (changes.none none))
    here namenode is (Some before) some =
        let to = changes.service before some in
        subst (λ (n : NamenodeProtocol). IsServiceOf (proxy_of n) shown) (same_some namenode to.0 (service_at client' k) is to.1)
        (service_later (proxy_of before) (proxy_of to.0) shown shown to.2.same.service (later_refl shown) (of.each k before some))

    by : (i : ℕ) (namenode : NamenodeProtocol) → service_at client' i ≡ Some namenode → ((i == k) ≡ true) ⊎ ((i == k) ≡ false)
        → IsServiceOf (proxy_of namenode) shown
    by i namenode is (inl same) = here namenode (subst (λ (n : ℕ). service_at client' n ≡ Some namenode) ((Decides-eqb i k).0 same) is) (service_at client k) refl
    by i namenode is (inr apart) =
        let other : i ≢ k = λ e. false≢true (sym apart ∙ (Decides-eqb i k).1 e) in
        of.each i namenode (sym (changes.others.others i other) ∙ is)
