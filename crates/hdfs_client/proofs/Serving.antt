-- A client that has used one of its services stays a client of its cluster, and its writers stay its own.
use Rattle.std.proofs.Common.{◌≡◌, ◌≢◌, ◌⊎◌, inl, inr, ℕ, zero, suc, ◌<◌, ◌==◌, length, true, false, List, [], ◌∷◌, get_or, set, Some, slice_get, sym, ◌∙◌, ap, subst, arith}
use Rattle.std.proofs.lemmas.Bool.{cases_Bool, false≢true}
use Rattle.std.proofs.lemmas.Bool.Decides.{Decides-eqb}
use Rattle.hdfs_cluster.specs.Shown.{Shown}
use Rattle.hdfs_file_writer.specs.declared.file_writer.FileWriter as inner
use Rattle.hdfs_names.specs.declared.mounts.Resolved.{Resolved}
use Rattle.hdfs_namenode.specs.Asked.{IsServiceOf, SameService}
use Rattle.hdfs_namenode.specs.Clients.{leases_of, proxy_of}
use Rattle.hdfs_namenode.specs.declared.protocol.NamenodeProtocol.{NamenodeProtocol}
use Rattle.hdfs_namenode.proofs.Services.{same_service_refl, service_same}
use Rattle.hdfs_client.specs.Clients.{IsClientOf, SameBut, addresses_of, leads_to, mounts_of, replacement_of, service_at, services_of}
use Rattle.hdfs_client.specs.Holding.{KeepsLeases}
use Rattle.hdfs_opening.specs.Opening.{KeepsService}
use Rattle.hdfs_client.specs.Writing.{FailsAt, OpensAt, lease_of, open_of, service_of}
use Rattle.hdfs_client.specs.declared.client.Client.{Client}
use Rattle.hdfs_client.specs.declared.file_lease.FileLease.{FileLease}
use Rattle.hdfs_client.specs.declared.writing.FileWriter.{FileWriter}
use Rattle.hdfs_client.proofs.Asking.{found_at, put_elsewhere, put_there, same_some}

-- the service of this number, by what an index gives
pub at_service : (client : Client) (k : ℕ) (namenode : NamenodeProtocol) → k < client.services.len → namenode ≡ get_or (services_of client) k namenode
    → service_at client k ≡ Some namenode
at_service client k namenode low is = found_at (services_of client) k namenode (subst (λ (n : ℕ). k < n) client.services.ok.0 low) is

-- One of a client's services was used: which one, and what it is then.
pub record Used (client : Client) (k : ℕ) (before after : NamenodeProtocol) (client' : Client) : Type 0 where
  pub was : service_at client k ≡ Some before
  pub is : service_at client' k ≡ Some after
  pub others : SameBut k client client'

pub used : (client client' : Client) (k : ℕ) (before after : NamenodeProtocol) → k < client.services.len → before ≡ get_or (services_of client) k before
    → services_of client' ≡ set (services_of client) k after
    → (mounts_of client' ≡ mounts_of client) × (addresses_of client' ≡ addresses_of client) × (replacement_of client' ≡ replacement_of client)
    → Used client k before after client'
used client client' k before after low is put rest =
    let within : k < length (services_of client) = subst (λ (n : ℕ). k < n) client.services.ok.0 low in record {
      was = found_at (services_of client) k before within is;
      is = ap (λ (services : List NamenodeProtocol). slice_get services k) put ∙ put_there (services_of client) k after within;
      others = record {
        others = λ other apart. ap (λ (services : List NamenodeProtocol). slice_get services other) put
            ∙ put_elsewhere (services_of client) k other after apart;
        mounts = rest.0;
        addresses = rest.1;
        replacement = rest.2;
      };
    }

pub below_some : (services : List NamenodeProtocol) (k : ℕ) (namenode : NamenodeProtocol) → slice_get services k ≡ Some namenode → k < length services
below_some [] k namenode is = absurd (cc is)
below_some (first ∷ services) zero namenode is = omega arith
below_some (first ∷ services) (suc k) namenode is = let h = below_some services k namenode is in omega (arith, h)

-- what an index gives is the service that is known to be there
pub service_used : (client : Client) (k : ℕ) (namenode before : NamenodeProtocol) → service_at client k ≡ Some namenode
    → before ≡ get_or (services_of client) k before → before ≡ namenode
service_used client k namenode before at is =
    same_some namenode before (service_at client k) at (found_at (services_of client) k before (below_some (services_of client) k namenode at) is)

-- the same of one that is known to be there
pub used_at : (client client' : Client) (k : ℕ) (namenode before after : NamenodeProtocol) → service_at client k ≡ Some namenode
    → before ≡ get_or (services_of client) k before → services_of client' ≡ set (services_of client) k after
    → (mounts_of client' ≡ mounts_of client) × (addresses_of client' ≡ addresses_of client) × (replacement_of client' ≡ replacement_of client)
    → Used client k before after client'
used_at client client' k namenode before after at =
    used client client' k before after (subst (λ (n : ℕ). k < n) (sym client.services.ok.0) (below_some (services_of client) k namenode at))

-- what is so of a file that is open, and of its service, once that stands in its place again
pub of_put : (P : NamenodeProtocol → inner.FileWriter → Type 0) (services : List NamenodeProtocol) (k : ℕ) (after : NamenodeProtocol) {file : inner.FileWriter}
    → k < length services → P after file → (other : inner.FileWriter) → Some file ≡ Some other
    → (namenode : NamenodeProtocol) × (slice_get (set services k after) k ≡ Some namenode) × P namenode other
of_put P services k after {file} within so other there =
    let same : file ≡ other = cc in
    (after, put_there services k after within, subst (P after) same so)

-- it stays a client of the cluster
pub client_goes : {client client' : Client} {k : ℕ} {before after : NamenodeProtocol} {old new : Shown} → IsClientOf client old
    → Used client k before after client' → SameService (proxy_of before) (proxy_of after) → new.namenodes ≡ old.namenodes → IsClientOf client' new
client_goes {client} {client'} {k} {before} {after} {old} {new} of at same count = record {
  many = count ∙ of.many ∙ ap length (sym at.others.addresses);
  each = λ i namenode is. by i namenode is (cases_Bool (i == k));
}
  where
    by : (i : ℕ) (namenode : NamenodeProtocol) → service_at client' i ≡ Some namenode → ((i == k) ≡ true) ⊎ ((i == k) ≡ false) → IsServiceOf (proxy_of namenode) new
    by i namenode is (inl here) =
        let there : service_at client' i ≡ Some after = ap (λ (n : ℕ). service_at client' n) ((Decides-eqb i k).0 here) ∙ at.is in
        subst (λ (n : NamenodeProtocol). IsServiceOf (proxy_of n) new) (same_some namenode after (service_at client' i) is there)
        (service_same (proxy_of before) (proxy_of after) old new same count (of.each k before at.was))
    by i namenode is (inr apart) =
        let other : i ≢ k = λ e. false≢true (sym apart ∙ (Decides-eqb i k).1 e) in
        service_same (proxy_of namenode) (proxy_of namenode) old new (same_service_refl (proxy_of namenode)) count
        (of.each i namenode (sym (at.others.others i other) ∙ is))

-- a file was opened so
pub opens_at : (Opens : List ℕ → NamenodeProtocol → inner.FileWriter → FileLease → NamenodeProtocol → Type 0) {client client' : Client} {src : List ℕ}
    {to : Resolved} {before after : NamenodeProtocol} {file : inner.FileWriter} {lease : FileLease} (writer : FileWriter) → leads_to client src ≡ Some to
    → Used client to.service before after client' → open_of writer ≡ Some file → lease_of writer ≡ Some lease → service_of writer ≡ to.service
    → Opens to.path before file lease after → OpensAt Opens client src writer client'
opens_at Opens {client} {client'} {src} {to} {before} {after} {file} {lease} writer leads at opened holds service opens = record {
  to = to;
  leads = leads;
  before = before;
  was = at.was;
  after = after;
  is = at.is;
  file = file;
  opened = opened;
  lease = lease;
  holds = holds;
  service = service;
  opens = opens;
  others = at.others;
}

-- none was opened so
pub fails_at : (Fails : List ℕ → NamenodeProtocol → NamenodeProtocol → Type 0) {client client' : Client} {src : List ℕ} {to : Resolved}
    {before after : NamenodeProtocol} → leads_to client src ≡ Some to → Used client to.service before after client' → Fails to.path before after
    → KeepsService before after → KeepsLeases (leases_of before) (leases_of after) → FailsAt Fails client src client'
fails_at Fails {client} {client'} {src} {to} {before} {after} leads at fails same leases = record {
  to = to;
  leads = leads;
  before = before;
  was = at.was;
  after = after;
  is = at.is;
  fails = fails;
  same = same;
  leases = leases;
  others = at.others;
}
