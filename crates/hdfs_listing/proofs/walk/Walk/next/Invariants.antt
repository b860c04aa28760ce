-- What is to be done gives the same paths still, and each page that is turned leaves fewer to be turned before an entry is given.
use Rattle.std.proofs.Common.{◌≡◌, ℕ, List, Some}
use Rattle.hdfs_cluster.specs.declared.picture.LastAnswer.TheVariants as last_answers
use Rattle.hdfs_cluster.specs.Files.{State}
use Rattle.hdfs_cluster.specs.Picture.{Picture, SameButActive}
use Rattle.hdfs_cluster.specs.Repeating.{Leaves}
use Rattle.hdfs_namenode.specs.Clients.{SameClient}
use Rattle.hdfs_listing.specs.Listing.{Tells}
use Rattle.hdfs_listing.specs.Walking.{AllMayDo, IsDue, todo_of}
use Rattle.hdfs_listing.proofs.Turning.{open_pages}
use Rattle.hdfs_listing.proofs.walk.Walk.next.Given as goal

abbrev pub invariant-tasks : goal.invariant-tasks
invariant-tasks g l = record {
  client : SameClient l.fn.namenode l.namenode;
  leaves : Leaves (g.C.Cluster.shown l.fn.cluster) (g.C.Cluster.shown l.cluster);
  keeps : (l.self.given ≡ l.fn.self.given) × (l.self.path ≡ l.fn.self.path) × (l.self.recursive ≡ l.fn.self.recursive);
  may : AllMayDo g.C.Cluster.may_answer l.fn.self.recursive l.fn.self.path (todo_of l.self);
  last : (g.C.Cluster.shown l.fn.cluster).last ≡ last_answers.Fine → (g.C.Cluster.shown l.cluster).last ≡ last_answers.Fine;
  told : (p : Picture) (state : State) (paths : List (List ℕ)) → (g.C.Cluster.shown l.fn.cluster).picture ≡ Some p → Tells p state
      → IsDue p.names state l.fn.self.recursive (todo_of l.fn.self) paths
      → (q : Picture) × ((g.C.Cluster.shown l.cluster).picture ≡ Some q) × SameButActive p q × IsDue q.names state l.fn.self.recursive (todo_of l.self) paths;
}

abbrev pub decreases-tasks : goal.decreases-tasks
decreases-tasks g l = open_pages (todo_of l.self)
