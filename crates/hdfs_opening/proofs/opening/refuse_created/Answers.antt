-- The file is deleted again, which leaves links as they were.
use Rattle.hdfs_cluster.specs.declared.asks.Answer.TheVariants as answers
use Rattle.hdfs_cluster.specs.declared.asks.Ask.TheVariants as asks
use Rattle.std.proofs.Common.{false, true}
use Rattle.hdfs_namenode.specs.Asked.{as_answer}
use Rattle.hdfs_namenode.specs.Clients.{through}
use Rattle.hdfs_namenode.proofs.Observers.{once_leaves}
use Rattle.hdfs_opening.proofs.Kept.{links_from}
use Rattle.hdfs_opening.proofs.opening.refuse_created.Goals as goal

pub returns-clause-keeps : goal.returns-clause-keeps
returns-clause-keeps g c = (
  c.delete-deleted.ensures.keeps,
  links_from
      (once_leaves g.C.Cluster.shown g.C.Cluster.serves g.met.C.Cluster.serves_rows true (asks.Delete c.args.path.now false)
      (through c.args.namenode.now c.args.cluster.now) (as_answer answers.Delete c.delete-deleted.result) (through c.delete-deleted.new.self c.delete-deleted.new.cluster)
      c.delete-deleted.ensures.asked),
)
