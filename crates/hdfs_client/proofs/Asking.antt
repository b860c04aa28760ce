-- A client asks the service to which a path leads. Of its services that one alone changes, so it stays a client of its cluster.
use Rattle.std.proofs.Common.{◌≡◌, ◌≢◌, ◌⊎◌, ℕ, zero, suc, ◌<◌, ◌==◌, length, Bool, true, false, List, [], ◌∷◌, IsErrAnd, get_or, set, Option, Some, Result, Ok, Err, slice_get, inl, inr, refl, sym, ◌∙◌, ap, subst, arith, length-set}
use Rattle.std.proofs.lemmas.Bool.{cases_Bool, false≢true}
use Rattle.std.proofs.lemmas.Bool.Decides.{Decides-eqb}
use Rattle.std.proofs.lemmas.List.{get_or-set_same}
use Rattle.std.proofs.lemmas.Option.{slice_get-get_or}
use Rattle.hdfs_cluster.specs.declared.asks.Ask.{Ask}
use Rattle.hdfs_cluster.specs.declared.asks.Answer.{Answer}
use Rattle.hdfs_cluster.specs.declared.asks.AskFault.{AskFault}
use Rattle.hdfs_cluster.specs.declared.errors.HdfsError.{HdfsError}
use Rattle.hdfs_cluster.specs.declared.errors.HdfsError.TheVariants as errors
use Rattle.hdfs_cluster.specs.Shown.{Shown, Later, Served}
use Rattle.hdfs_cluster.proofs.Frames.{later_refl}
use Rattle.hdfs_names.specs.declared.mounts.Resolved.{Resolved}
use Rattle.hdfs_namenode.specs.Asked.{AskedOnce, IsServiceOf, Through, as_answer}
use Rattle.hdfs_namenode.specs.Clients.{SameClient, proxy_of, through}
use Rattle.hdfs_namenode.proofs.Observers.{asked_later}
use Rattle.hdfs_namenode.proofs.Services.{same_client_refl, same_service_refl, service_later}
use Rattle.hdfs_namenode.specs.declared.protocol.NamenodeProtocol.{NamenodeProtocol}
use Rattle.hdfs_client.specs.Clients.{AsksAt, IsClientOf, addresses_of, leads_to, mounts_of, replacement_of, service_at, services_of}
use Rattle.hdfs_client.specs.declared.client.Client.{Client}
use Rattle.hdfs_client.proofs.Leading.{leads_somewhere}

-- ---- one of some services

-- there is one at most
pub same_some : (a b : NamenodeProtocol) (o : Option NamenodeProtocol) → o ≡ Some a → o ≡ Some b → b ≡ a
same_some a b o is is' = cc

-- there is one at each place
pub record Found (services : List NamenodeProtocol) (k : ℕ) : Type 0 where
  pub namenode : NamenodeProtocol
  pub is : slice_get services k ≡ Some namenode

found : (services : List NamenodeProtocol) (k : ℕ) → k < length services → Found services k
found [] k low = absurd (omega arith)
found (namenode ∷ services) zero low = record { namenode = namenode; is = refl }
found (namenode ∷ services) (suc k) low =
    let other = found services k (omega arith) in
    record { namenode = other.namenode; is = other.is }

pub found_at : (services : List NamenodeProtocol) (k : ℕ) (namenode : NamenodeProtocol) → k < length services → namenode ≡ get_or services k namenode
    → slice_get services k ≡ Some namenode
found_at services k namenode low is = slice_get-get_or services k namenode low ∙ ap (λ (n : NamenodeProtocol). Some n) (sym is)

pub put_there : (services : List NamenodeProtocol) (k : ℕ) (namenode : NamenodeProtocol) → k < length services → slice_get (set services k namenode) k ≡ Some namenode
put_there services k namenode low =
    slice_get-get_or (set services k namenode) k namenode (omega (arith, length-set services k namenode))
    ∙ ap (λ (n : NamenodeProtocol). Some n) (get_or-set_same services k namenode namenode low)

pub put_elsewhere : (services : List NamenodeProtocol) (k other : ℕ) (namenode : NamenodeProtocol) → other ≢ k
    → slice_get (set services k namenode) other ≡ slice_get services other
put_elsewhere [] k other namenode apart = refl
put_elsewhere (first ∷ services) zero zero namenode apart = absurd (apart refl)
put_elsewhere (first ∷ services) zero (suc other) namenode apart = refl
put_elsewhere (first ∷ services) (suc k) zero namenode apart = refl
put_elsewhere (first ∷ services) (suc k) (suc other) namenode apart = put_elsewhere services k other namenode (λ e. apart (ap suc e))

-- the service of a client that is asked is one of the cluster's
pub is_service : (client : Client) (shown : Shown) (k : ℕ) (namenode : NamenodeProtocol) → IsClientOf client shown → k < client.services.len
    → namenode ≡ get_or (services_of client) k namenode → IsServiceOf (proxy_of namenode) shown
is_service client shown k namenode of low is =
    of.each k namenode (found_at (services_of client) k namenode (subst (λ (n : ℕ). k < n) client.services.ok.0 low) is)

-- ---- one ask

-- there was no memory for it
pub for_memory : {T : Type 0} (answer : T → Answer) (result : Result T HdfsError) → IsErrAnd result (λ error. error ≡ errors.NoMemory)
    → as_answer answer result ≡ Err errors.NoMemory
for_memory answer (Ok value) is = absurd is
for_memory answer (Err error) is = ap (λ (e : HdfsError). Err e) is

module _ {C : Type 0} (serves : C → ℕ → Ask → Result Answer AskFault → C → Type 0) (write : Bool) (ask : List ℕ → Ask) where
  pub asks_nothing : (client : Client) (src : List ℕ) (old : C) (outcome : Result Answer HdfsError) → outcome ≡ Err errors.NoMemory
      → AsksAt serves write ask client src old outcome client old
  asks_nothing client src old outcome is =
      let led = leads_somewhere client src in
      let there = found (services_of client) led.to.service led.within in record {
        to = led.to;
        leads = led.is;
        before = there.namenode;
        was = there.is;
        after = there.namenode;
        is = there.is;
        asked = inr (record { same = refl; is = is });
        keeps = same_client_refl there.namenode;
        others = record { others = λ other apart. refl; mounts = refl; addresses = refl; replacement = refl };
      }

  pub asks_made : (client client' : Client) (src : List ℕ) (to : Resolved) (made : Ask) (before after : NamenodeProtocol) (old new : C)
      (outcome : Result Answer HdfsError) → leads_to client src ≡ Some to → made ≡ ask to.path → to.service < client.services.len
      → before ≡ get_or (services_of client) to.service before → services_of client' ≡ set (services_of client) to.service after
      → (mounts_of client' ≡ mounts_of client) × (addresses_of client' ≡ addresses_of client) × (replacement_of client' ≡ replacement_of client)
      → AskedOnce serves write made (through before old) outcome (through after new) → SameClient before after
      → AsksAt serves write ask client src old outcome client' new
  asks_made client client' src to made before after old new outcome leads is_made low is put rest asked keeps =
      let within : to.service < length (services_of client) = subst (λ (n : ℕ). to.service < n) client.services.ok.0 low in record {
        to = to;
        leads = leads;
        before = before;
        was = found_at (services_of client) to.service before within is;
        after = after;
        is = ap (λ (services : List NamenodeProtocol). slice_get services to.service) put ∙ put_there (services_of client) to.service after within;
        asked = subst (λ (a : Ask). AskedOnce serves write a (through before old) outcome (through after new)) is_made asked;
        keeps = keeps;
        others = record {
          others = λ other apart. ap (λ (services : List NamenodeProtocol). slice_get services other) put
              ∙ put_elsewhere (services_of client) to.service other after apart;
          mounts = rest.0;
          addresses = rest.1;
          replacement = rest.2;
        };
      }

  pub asks_at : (client client' : Client) (src : List ℕ) (to : Resolved) (path : List ℕ) (before after : NamenodeProtocol) (old new : C)
      (outcome : Result Answer HdfsError) → leads_to client src ≡ Some to → path ≡ to.path → to.service < client.services.len
      → before ≡ get_or (services_of client) to.service before → services_of client' ≡ set (services_of client) to.service after
      → (mounts_of client' ≡ mounts_of client) × (addresses_of client' ≡ addresses_of client) × (replacement_of client' ≡ replacement_of client)
      → AskedOnce serves write (ask path) (through before old) outcome (through after new) → SameClient before after
      → AsksAt serves write ask client src old outcome client' new
  asks_at client client' src to path before after old new outcome leads named =
      asks_made client client' src to (ask path) before after old new outcome leads (ap ask named)

-- ---- it stays a client of its cluster

module _ {C : Type 0} (shown : C → Shown) (serves : C → ℕ → Ask → Result Answer AskFault → C → Type 0)
    (rows : (old new : C) (i : ℕ) (ask : Ask) (result : Result Answer AskFault) → serves old i ask result new → Served (shown old) i ask result (shown new)) where
  once_later : (write : Bool) (ask : Ask) (old new : Through C) (outcome : Result Answer HdfsError) → AskedOnce serves write ask old outcome new
      → Later (shown old.cluster) (shown new.cluster)
  once_later write ask old new outcome (inl asked) = asked_later shown serves rows write ask old outcome new asked
  once_later write ask old new outcome (inr none) = subst (λ (t : Through C). Later (shown old.cluster) (shown t.cluster)) (sym none.same) (later_refl (shown old.cluster))

  pub client_later : (write : Bool) (ask : List ℕ → Ask) (client client' : Client) (src : List ℕ) (old new : C) (outcome : Result Answer HdfsError)
      → IsClientOf client (shown old) → AsksAt serves write ask client src old outcome client' new → IsClientOf client' (shown new)
  client_later write ask client client' src old new outcome of at = record {
    many = later.namenodes ∙ of.many ∙ ap length (sym at.others.addresses);
    each = λ k namenode is. by k namenode is (cases_Bool (k == at.to.service));
  }
    where
      later : Later (shown old) (shown new)
      later = once_later write (ask at.to.path) (through at.before old) (through at.after new) outcome at.asked

      by : (k : ℕ) (namenode : NamenodeProtocol) → service_at client' k ≡ Some namenode → ((k == at.to.service) ≡ true) ⊎ ((k == at.to.service) ≡ false)
          → IsServiceOf (proxy_of namenode) (shown new)
      by k namenode is (inl here) =
          let at_k : service_at client' k ≡ Some at.after = ap (λ (i : ℕ). service_at client' i) ((Decides-eqb k at.to.service).0 here) ∙ at.is in
          subst (λ (n : NamenodeProtocol). IsServiceOf (proxy_of n) (shown new)) (same_some namenode at.after (service_at client' k) is at_k)
          (service_later (proxy_of at.before) (proxy_of at.after) (shown old) (shown new) at.keeps.service later (of.each at.to.service at.before at.was))
      by k namenode is (inr apart) =
          let other : k ≢ at.to.service = λ e. false≢true (sym apart ∙ (Decides-eqb k at.to.service).1 e) in
          service_later (proxy_of namenode) (proxy_of namenode) (shown old) (shown new) (same_service_refl (proxy_of namenode)) later
          (of.each k namenode (sym (at.others.others k other) ∙ is))
