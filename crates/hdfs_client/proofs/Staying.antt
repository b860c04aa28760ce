-- A client stays what it was, call by call.
use Rattle.std.proofs.Common.{◌≡◌, ◌≢◌, ◌⊎◌, ◌==◌, ℕ, Bool, true, false, List, Option, Some, None, Result, inl, inr, refl, sym, ◌∙◌, subst}
use Rattle.std.proofs.lemmas.Bool.{cases_Bool, false≢true}
use Rattle.std.proofs.lemmas.Bool.Decides.{Decides-eqb}
use Rattle.hdfs_cluster.specs.declared.asks.Ask.{Ask}
use Rattle.hdfs_cluster.specs.declared.asks.Answer.{Answer}
use Rattle.hdfs_cluster.specs.declared.asks.AskFault.{AskFault}
use Rattle.hdfs_cluster.specs.declared.errors.HdfsError.{HdfsError}
use Rattle.hdfs_namenode.specs.declared.protocol.NamenodeProtocol.{NamenodeProtocol}
use Rattle.hdfs_namenode.proofs.Services.{same_client_refl, same_client_trans}
use Rattle.hdfs_client.specs.Clients.{AsksAt, IsSameAt, Stays, service_at}
use Rattle.hdfs_client.specs.declared.client.Client.{Client}

same_at_refl : (o : Option NamenodeProtocol) → IsSameAt o o
same_at_refl None = tt
same_at_refl (Some namenode) = same_client_refl namenode

same_at_trans : (a b c : Option NamenodeProtocol) → IsSameAt a b → IsSameAt b c → IsSameAt a c
same_at_trans None None None one two = tt
same_at_trans None None (Some after) one two = absurd two
same_at_trans None (Some mid) c one two = absurd one
same_at_trans (Some before) None c one two = absurd one
same_at_trans (Some before) (Some mid) None one two = absurd two
same_at_trans (Some before) (Some mid) (Some after) one two = same_client_trans before mid after one two

pub stays_refl : (client : Client) → Stays client client
stays_refl client = record { mounts = refl; addresses = refl; replacement = refl; services = λ k. same_at_refl (service_at client k) }

pub stays_trans : {a b c : Client} → Stays a b → Stays b c → Stays a c
stays_trans {a} {b} {c} one two = record {
  mounts = two.mounts ∙ one.mounts;
  addresses = two.addresses ∙ one.addresses;
  replacement = two.replacement ∙ one.replacement;
  services = λ k. same_at_trans (service_at a k) (service_at b k) (service_at c k) (one.services k) (two.services k);
}

-- one ask leaves it so
pub stays_asked : {C : Type 0} (serves : C → ℕ → Ask → Result Answer AskFault → C → Type 0) (write : Bool) (ask : List ℕ → Ask) (client client' : Client)
    (src : List ℕ) (old new : C) (outcome : Result Answer HdfsError) → AsksAt serves write ask client src old outcome client' new → Stays client client'
stays_asked serves write ask client client' src old new outcome at = record {
  mounts = at.others.mounts;
  addresses = at.others.addresses;
  replacement = at.others.replacement;
  services = λ k. by k (cases_Bool (k == at.to.service));
}
  where
    by : (k : ℕ) → ((k == at.to.service) ≡ true) ⊎ ((k == at.to.service) ≡ false) → IsSameAt (service_at client k) (service_at client' k)
    by k (inl here) =
        let place : k ≡ at.to.service = (Decides-eqb k at.to.service).0 here in
        subst (λ (i : ℕ). IsSameAt (service_at client i) (service_at client' i)) (sym place)
        (subst (λ (o : Option NamenodeProtocol). IsSameAt o (service_at client' at.to.service)) (sym at.was)
        (subst (λ (o : Option NamenodeProtocol). IsSameAt (Some at.before) o) (sym at.is) at.keeps))
    by k (inr apart) =
        let other : k ≢ at.to.service = λ e. false≢true (sym apart ∙ (Decides-eqb k at.to.service).1 e) in
        subst (λ (o : Option NamenodeProtocol). IsSameAt (service_at client k) o) (sym (at.others.others k other)) (same_at_refl (service_at client k))
