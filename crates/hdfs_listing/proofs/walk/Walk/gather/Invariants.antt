-- What was gathered so far is no more than is allowed, and each was answered; over a told picture the rest is due still.
use Rattle.std.proofs.Common.{◌≡◌, ◌≤◌, ◌-◌, All, vec_len}
use Rattle.hdfs_cluster.specs.declared.picture.LastAnswer.TheVariants as last_answers
use Rattle.hdfs_cluster.specs.Repeating.{Leaves}
use Rattle.hdfs_model.specs.Listings.{IsListedEntry}
use Rattle.hdfs_namenode.specs.Clients.{SameClient}
use Rattle.hdfs_listing.specs.Walking.{AllMayDo, todo_of}
use Rattle.hdfs_listing.proofs.Gathering.{SoGathered}
use Rattle.hdfs_listing.proofs.walk.Walk.gather.Given as goal

abbrev pub invariant-entries : goal.invariant-entries
invariant-entries g l = record {
  client : SameClient l.fn.namenode l.namenode;
  leaves : Leaves (g.C.Cluster.shown l.fn.cluster) (g.C.Cluster.shown l.cluster);
  keeps : (l.self.given ≡ l.fn.self.given) × (l.self.path ≡ l.fn.self.path) × (l.self.recursive ≡ l.fn.self.recursive);
  may : AllMayDo g.C.Cluster.may_answer l.fn.self.recursive l.fn.self.path (todo_of l.self);
  last : (g.C.Cluster.shown l.cluster).last ≡ last_answers.Fine;
  count : vec_len l.found ≤ l.limit;
  answered : All (IsListedEntry g.C.Cluster.may_answer l.fn.self.recursive l.fn.self.path) l.found.items;
  so : SoGathered (g.C.Cluster.shown l.fn.cluster) (g.C.Cluster.shown l.cluster) l.fn.self.recursive (todo_of l.fn.self) (todo_of l.self) l.found.items;
}

abbrev pub decreases-entries : goal.decreases-entries
decreases-entries g l = l.limit - vec_len l.found
