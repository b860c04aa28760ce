-- A path is renamed where both lead through one mount. Where they lead is known, so what holds there holds wherever they are said to lead.
use Rattle.std.proofs.Common.{◌≡◌, ℕ, ◌==◌, Bool, true, false, List, Option, Some, Result, Ok, Err, IsErrAnd, inr, refl, sym, ◌∙◌, ap, subst}
use Rattle.std.proofs.lemmas.Bool.Decides.{Decides-eqb}
use Rattle.hdfs_cluster.specs.declared.asks.Ask.{Ask}
use Rattle.hdfs_cluster.specs.declared.asks.Ask.TheVariants as asks
use Rattle.hdfs_cluster.specs.declared.asks.Answer.{Answer}
use Rattle.hdfs_cluster.specs.declared.asks.Answer.TheVariants as answers
use Rattle.hdfs_cluster.specs.declared.asks.AskFault.{AskFault}
use Rattle.hdfs_cluster.specs.declared.errors.HdfsError.{HdfsError}
use Rattle.hdfs_cluster.specs.declared.errors.HdfsError.TheVariants as errors
use Rattle.hdfs_names.specs.declared.mounts.Resolved.{Resolved}
use Rattle.hdfs_namenode.specs.Asked.{as_answer}
use Rattle.hdfs_client.specs.Calls.{Renames, RenamesBetween, as_client}
use Rattle.hdfs_client.specs.Clients.{AsksAt, leads_to}
use Rattle.hdfs_client.specs.declared.client.Client.{Client}
use Rattle.hdfs_client.specs.declared.errors.ClientError.{ClientError}
use Rattle.hdfs_client.specs.declared.errors.ClientError.TheVariants as client_errors
use Rattle.hdfs_client.proofs.Asking.{asks_nothing}

one_place : (o : Option Resolved) (a b : Resolved) → o ≡ Some a → o ≡ Some b → a ≡ b
one_place o a b is is' = cc

module _ {C : Type 0} (serves : C → ℕ → Ask → Result Answer AskFault → C → Type 0) (overwrite : Bool) (client : Client) (src dst : List ℕ) (old : C) where
  -- there was no memory for the paths
  pub renames_nothing : (result : Result (Unit {0}) ClientError) → result ≡ Err (client_errors.Hdfs errors.NoMemory)
      → Renames serves overwrite client src dst old result client old
  renames_nothing result is from to leads leads' = by (from.link == to.link)
    where
      by : (b : Bool) → RenamesBetween serves (λ at. asks.Rename at to.path overwrite) b client src old result client old
      by true = record { outcome = Err errors.NoMemory; asks = asks_nothing serves true (λ at. asks.Rename at to.path overwrite) client src old (Err errors.NoMemory) refl; has = is }
      by false = (inr is, refl, refl)

  pub renames_by : (client' : Client) (new : C) (result : Result (Unit {0}) ClientError) (from to : Resolved) (outcome : Result (Unit {0}) HdfsError)
      → leads_to client src ≡ Some from → leads_to client dst ≡ Some to → from.link ≡ to.link
      → AsksAt serves true (λ at. asks.Rename at to.path overwrite) client src old (as_answer (λ _. answers.Rename) outcome) client' new
      → result ≡ as_client outcome → Renames serves overwrite client src dst old result client' new
  renames_by client' new result from to outcome leads_from leads_dst same asked is from' to' leads leads' =
      let at_from = one_place (leads_to client src) from from' leads_from leads in
      let at_to = one_place (leads_to client dst) to to' leads_dst leads' in
      let linked : (from'.link == to'.link) ≡ true =
      (Decides-eqb from'.link to'.link).1 (sym (ap (λ (t : Resolved). t.link) at_from) ∙ same ∙ ap (λ (t : Resolved). t.link) at_to) in
      subst (λ (b : Bool). RenamesBetween serves (λ at. asks.Rename at to'.path overwrite) b client src old result client' new) (sym linked)
      (record {
        outcome = outcome;
        asks = subst (λ (t : Resolved). AsksAt serves true (λ at. asks.Rename at t.path overwrite) client src old (as_answer (λ _. answers.Rename) outcome) client' new)
            at_to asked;
        has = is;
      })

pub for_memory : (result : Result (Unit {0}) ClientError) → IsErrAnd result (λ error. error ≡ client_errors.Hdfs errors.NoMemory)
    → result ≡ Err (client_errors.Hdfs errors.NoMemory)
for_memory (Ok value) is = absurd is
for_memory (Err error) is = ap (λ (e : ClientError). Err e) is

-- the error of an ask is passed on
pub passed_on : (outcome : Result (Unit {0}) HdfsError) (result : Result (Unit {0}) ClientError) (error : HdfsError) → outcome ≡ Err error
    → IsErrAnd result (λ e. e ≡ client_errors.Hdfs error) → result ≡ as_client outcome
passed_on outcome (Ok value) error was is = absurd is
passed_on outcome (Err e) error was is = ap (λ (x : ClientError). Err x) is ∙ sym (ap (as_client {T = Unit {0}}) was)

pub went : (outcome : Result (Unit {0}) HdfsError) (value : Unit {0}) → outcome ≡ Ok value → Ok tt ≡ as_client outcome
went outcome value was = sym (ap (as_client {T = Unit {0}}) was)
