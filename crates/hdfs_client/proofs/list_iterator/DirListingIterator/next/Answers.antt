-- A page where one is wanted, and then the first of the entries that are held.
use Rattle.hdfs_client.proofs.Rests.{fails, turns}
use Rattle.hdfs_client.proofs.ToldTurns.{turn_failed, turn_told}
use Rattle.hdfs_client.proofs.Turned.{asked_fault}
use Rattle.hdfs_client.specs.Clients.{mounts_of}
use Rattle.hdfs_client.specs.Iterating.{left_of}
use Rattle.hdfs_client.proofs.list_iterator.DirListingIterator.next.Goals as goal

pub returns-in-Err-clause-turns : goal.returns-in-Err-clause-turns
returns-in-Err-clause-turns g c =
    fails g.C.Cluster.may_answer (mounts_of c.args.client.now) (left_of c.args.self.now) (left_of c.turn_page.new.self) (left_of c.end.new.self) c.in-Err.error
    c.in-Err.ensures.path c.end.ensures

pub returns-in-Err-clause-told : goal.returns-in-Err-clause-told
returns-in-Err-clause-told g c =
    λ reaches. turn_failed g.C.Cluster.shown g.C.Cluster.serves g.met.C.Cluster.serves_rows g.met.C.Cluster.active_below c.args.client.now c.turn_page.new.client
    c.args.cluster.now c.turn_page.new.cluster (left_of c.args.self.now) (left_of c.turn_page.new.self) (left_of c.end.new.self) reaches c.in-Err.error
    c.in-Err.ensures.asked c.in-Err.ensures.quiet c.in-Err.ensures.path c.end.ensures

pub returns-clause-turns : goal.returns-clause-turns
returns-clause-turns g c =
    turns g.C.Cluster.may_answer (mounts_of c.args.client.now) (left_of c.args.self.now) (left_of c.turn_page.new.self) (left_of c.give.new.self) c.give.result
    c.in_default.ensures.opens c.give.ensures

pub returns-clause-asked : goal.returns-clause-asked
returns-clause-asked g c =
    λ wants. asked_fault g.C.Cluster.serves _ _ _ _ (left_of c.args.self.now) (left_of c.turn_page.new.self) (left_of c.give.new.self) c.give.result
    c.in_default.ensures.path c.give.ensures (c.in_default.ensures.asked wants)

pub returns-clause-told : goal.returns-clause-told
returns-clause-told g c =
    λ reaches. turn_told g.C.Cluster.shown g.C.Cluster.serves g.met.C.Cluster.serves_rows g.met.C.Cluster.active_below c.args.client.now c.turn_page.new.client
    c.args.cluster.now c.turn_page.new.cluster (left_of c.args.self.now) (left_of c.turn_page.new.self) (left_of c.give.new.self) reaches g.C.Cluster.may_answer
    c.give.result c.in_default.ensures.asked c.in_default.ensures.quiet c.in_default.ensures.opens c.give.ensures
