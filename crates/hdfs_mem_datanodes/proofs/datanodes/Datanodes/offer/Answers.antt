-- Nothing is seen to change, and at other datanodes nothing does.
use Rattle.std.proofs.Common.{Some, refl, sym, rules}
use Rattle.hdfs_mem_faults.specs.Series.{uuid_of}
use Rattle.hdfs_mem_datanodes.specs.Uuids.{first_node}
use Rattle.hdfs_mem_datanodes.specs.Replicas.{SameReplica}
use Rattle.hdfs_mem_datanodes.proofs.Nodes.{same_replica_refl, lent}
use Rattle.hdfs_mem_datanodes.proofs.datanodes.Datanodes.offer.Goals as goal

pub invariant_of-self : goal.invariant_of-self
invariant_of-self c =
    let o = lent c.args.self.now.by_uuid (c.get_mut.follows.lender c.offer.new.self) c.args.uuid.now c.args.block c.in-Some.node.now c.offer.new.self ((c.get_mut.follows.holds c.offer.new.self).3 (search rules)) c.in-Some.ensures.value c.offer.ensures.rest in
    record {
      some = c.args.self.now.some;
      first = o.stays first_node c.args.self.now.first;
      numbered = λ k below. o.stays (uuid_of k) (c.args.self.now.numbered k below);
    }

pub returns-in-Some-clause-others : goal.returns-in-Some-clause-others
returns-in-Some-clause-others c =
    let o = lent c.args.self.now.by_uuid (c.get_mut.follows.lender c.offer.new.self) c.args.uuid.now c.args.block c.in-Some.node.now c.offer.new.self ((c.get_mut.follows.holds c.offer.new.self).3 (search rules)) c.in-Some.ensures.value c.offer.ensures.rest in
    o.others

pub returns-in-Some-clause-same : goal.returns-in-Some-clause-same
returns-in-Some-clause-same c =
    let o = lent c.args.self.now.by_uuid (c.get_mut.follows.lender c.offer.new.self) c.args.uuid.now c.args.block c.in-Some.node.now c.offer.new.self ((c.get_mut.follows.holds c.offer.new.self).3 (search rules)) c.in-Some.ensures.value c.offer.ensures.rest in
    o.related SameReplica same_replica_refl c.offer.ensures.same

pub returns-in-Some-clause-rest : goal.returns-in-Some-clause-rest
returns-in-Some-clause-rest c =
    let o = lent c.args.self.now.by_uuid (c.get_mut.follows.lender c.offer.new.self) c.args.uuid.now c.args.block c.in-Some.node.now c.offer.new.self ((c.get_mut.follows.holds c.offer.new.self).3 (search rules)) c.in-Some.ensures.value c.offer.ensures.rest in
    record { there = o.there; count = refl }
