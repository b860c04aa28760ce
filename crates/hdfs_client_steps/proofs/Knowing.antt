-- What a client knows of a cluster's defaults, from call to call.
use Rattle.std.proofs.Common.{◌≡◌, ℕ, Bool, List, Option, Some, None, refl, sym, subst}
use Rattle.std.specs.Prelude.{IfSome, Result}
use Rattle.hdfs_cluster.specs.declared.asks.Answer.{Answer}
use Rattle.hdfs_cluster.specs.declared.asks.Ask.{Ask}
use Rattle.hdfs_cluster.specs.declared.asks.AskFault.{AskFault}
use Rattle.hdfs_cluster.specs.declared.errors.HdfsError.{HdfsError}
use Rattle.hdfs_cluster.specs.declared.messages.ServerDefaults.{ServerDefaults}
use Rattle.hdfs_cluster.specs.Files.{State}
use Rattle.hdfs_cluster.specs.Shown.{Shown}
use Rattle.hdfs_model.specs.declared.commands.Command.{Command}
use Rattle.hdfs_model.specs.declared.commands.Reply.{Reply}
use Rattle.hdfs_model.specs.Sessions.{defaults_of}
use Rattle.hdfs_model.specs.Steps.{World}
use Rattle.hdfs_namenode.specs.Clients.{defaults_of as kept_by}
use Rattle.hdfs_namenode.specs.declared.protocol.NamenodeProtocol.{NamenodeProtocol}
use Rattle.hdfs_client.specs.Clients.{AsksAt, IsSameAt, Stays, service_at}
use Rattle.hdfs_client.specs.declared.client.Client.{Client}
use Rattle.hdfs_client.proofs.Staying.{stays_asked}
use Rattle.hdfs_commands.specs.Meeting.{KnowsDefaults}
use Rattle.hdfs_client_steps.specs.Steps.{Does, Knows, KnowsStill}

-- an ask leaves a client what it was
pub asked_stays : {C : Type 0} {serves : C → ℕ → Ask → Result Answer AskFault → C → Type 0} {write : Bool} {ask : List ℕ → Ask} {client client' : Client}
    {src : List ℕ} {old new : C} {outcome : Result Answer HdfsError} → AsksAt serves write ask client src old outcome client' new → Stays client client'
asked_stays {C} {serves} {write} {ask} {client} {client'} {src} {old} {new} {outcome} at =
    stays_asked serves write ask client client' src old new outcome at

module _ {client client' : Client} (s t : Shown) (stays : Stays client client') where
  -- a client that stays knows no other defaults where the cluster has those that it had
  pub knows_stays : defaults_of t.picture ≡ defaults_of s.picture → Knows client s → Knows client' t
  knows_stays same knows k namenode' is =
      by (service_at client k) refl (subst (λ (o : Option NamenodeProtocol). IsSameAt (service_at client k) o) is (stays.services k))
    where
      by : (o : Option NamenodeProtocol) → service_at client k ≡ o → IsSameAt o (Some namenode') → KnowsDefaults t (kept_by namenode')
      by None was kept = absurd kept
      by (Some namenode) was kept =
          subst (λ (o : Option ServerDefaults). KnowsDefaults t o) (sym kept.defaults)
          (subst (λ (d : ServerDefaults). IfSome (kept_by namenode) (λ known. known ≡ d)) (sym same) (knows k namenode was))

-- so it does behind a call that did a command
pub still_knows : {client client' : Client} {s t : Shown} {world : World} {state : State} {command : Command} {path : List ℕ} {before after : List ℕ → Bool}
    {result : Result Reply HdfsError} → Stays client client' → Does world state command path before s after t result
    → Does world state command path before s after t result × KnowsStill client s client' t
still_knows {s = s} {t = t} stays does = (does, knows_stays s t stays does.defaults)
