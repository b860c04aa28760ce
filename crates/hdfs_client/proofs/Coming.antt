-- What an ask of a client came to, where the service to which the path leads is whole.
use Rattle.std.proofs.Common.{◌≡◌, ℕ, ◌<◌, Bool, List, Some, subst}
use Rattle.std.specs.Prelude.{Result}
use Rattle.hdfs_cluster.specs.declared.asks.Answer.{Answer}
use Rattle.hdfs_cluster.specs.declared.asks.Ask.{Ask}
use Rattle.hdfs_cluster.specs.declared.asks.AskFault.{AskFault}
use Rattle.hdfs_cluster.specs.declared.errors.HdfsError.{HdfsError}
use Rattle.hdfs_cluster.specs.Picture.{Picture}
use Rattle.hdfs_cluster.specs.Shown.{Served, Shown}
use Rattle.hdfs_names.specs.declared.mounts.Resolved.{Resolved}
use Rattle.hdfs_namenode.specs.Clients.{through}
use Rattle.hdfs_namenode.specs.Relaying.{Came}
use Rattle.hdfs_opening.proofs.Coming.{came_once}
use Rattle.hdfs_client.specs.Clients.{AsksAt, leads_to}
use Rattle.hdfs_client.specs.Writing.{ReachesWhole}
use Rattle.hdfs_client.specs.declared.client.Client.{Client}

module _ {C : Type 0} {shown : C → Shown} {serves : C → ℕ → Ask → Result Answer AskFault → C → Type 0}
    (rows : (old new : C) (i : ℕ) (ask : Ask) (result : Result Answer AskFault) → serves old i ask result new → Served (shown old) i ask result (shown new))
    (below : (c : C) (p : Picture) → (shown c).picture ≡ Some p → p.active < (shown c).namenodes) where
  -- the ask at the path that this is called where it leads
  pub came_at : {write : Bool} {ask : List ℕ → Ask} {client client' : Client} {src : List ℕ} {old new : C} {outcome : Result Answer HdfsError}
      → AsksAt serves write ask client src old outcome client' new → ReachesWhole client src (shown old) → (to : Resolved) → leads_to client src ≡ Some to
      → Came (shown old) (ask to.path) outcome (shown new)
  came_at {write} {ask} {client} {client'} {src} {old} {new} {outcome} at reaches to leads =
      let there = at.leads in
      let same : at.to ≡ to = cc (there, leads) in
      subst (λ (r : Resolved). Came (shown old) (ask r.path) outcome (shown new)) same
      (came_once rows below write (ask at.to.path) (through at.before old) (through at.after new) outcome (reaches at.to at.before at.leads at.was) at.asked)
