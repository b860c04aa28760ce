-- What was listed, and of it what is wanted.
use Rattle.std.proofs.Common.{ℕ, List, inr, subst, sym}
use Rattle.hdfs_client.specs.Clients.{mounts_of}
use Rattle.hdfs_client.specs.Globbing.{FailsToList, IsListed}
use Rattle.hdfs_client.specs.Listing.{LetsListAt}
use Rattle.hdfs_client.proofs.Fetching.{passed_on}
use Rattle.hdfs_client.proofs.client.Client.pick.Goals as goal

pub listed-requires-clause-allowed : goal.listed-requires-clause-allowed
listed-requires-clause-allowed g c =
    subst (λ (p : List ℕ). LetsListAt g.C.Cluster.allows (mounts_of c.args.self.now) p) (sym c.or_root.ensures) c.requires.allowed

pub returns-in_err-own-clause-err : goal.returns-in_err-own-clause-err
returns-in_err-own-clause-err g c =
    passed_on _ c.in_err-own.field-0.0 c.from_residual.result c.from_residual.ensures.1
    (inr (subst (λ (p : List ℕ). FailsToList g.C.Cluster.serves g.C.Cluster.may_answer (mounts_of c.args.self.now) c.args.limit p c.in_err-own.field-0.0)
    c.or_root.ensures c.in_err-own.ensures.err))

pub returns-clause-picked : goal.returns-clause-picked
returns-clause-picked g c = record {
  own = c.in_ok-own.own.items;
  lists = subst (λ (p : List ℕ). IsListed g.C.Cluster.serves g.C.Cluster.may_answer (mounts_of c.args.self.now) c.args.limit p c.in_ok-own.own.items)
      c.or_root.ensures c.in_ok-own.ensures.listed;
  picks = c.in_ok-picked.ensures;
}
