-- One datanode takes the block, and everything else stays.
use Rattle.std.proofs.Common.{◌≡◌, Some, refl, sym, rules, ◌≢◌}
use Rattle.hdfs_mem_faults.specs.Series.{uuid_of}
use Rattle.hdfs_mem_datanodes.specs.Uuids.{first_node}
use Rattle.hdfs_mem_datanodes.specs.Replicas.{held_by, SameLinksOf}
use Rattle.hdfs_mem_datanodes.proofs.Nodes.{lent}
use Rattle.hdfs_mem_datanodes.proofs.datanodes.Datanodes.hold_on.Goals as goal

pub invariant_of-self : goal.invariant_of-self
invariant_of-self c =
    let o = lent c.args.self.now.by_uuid (c.get_mut.follows.lender c.hold.new.self) c.args.uuid.now c.args.block c.in-Some.node.now c.hold.new.self ((c.get_mut.follows.holds c.hold.new.self).3 (search rules)) c.in-Some.ensures.value c.hold.ensures.rest in
    record {
      some = c.args.self.now.some;
      first = o.stays first_node c.args.self.now.first;
      numbered = λ k below. o.stays (uuid_of k) (c.args.self.now.numbered k below);
    }

pub returns-in-Some-clause-nodes : goal.returns-in-Some-clause-nodes
returns-in-Some-clause-nodes c =
    let o = lent c.args.self.now.by_uuid (c.get_mut.follows.lender c.hold.new.self) c.args.uuid.now c.args.block c.in-Some.node.now c.hold.new.self ((c.get_mut.follows.holds c.hold.new.self).3 (search rules)) c.in-Some.ensures.value c.hold.ensures.rest in
    o.others

pub returns-in-Some-clause-others : goal.returns-in-Some-clause-others
returns-in-Some-clause-others c =
    let o = lent c.args.self.now.by_uuid (c.get_mut.follows.lender c.hold.new.self) c.args.uuid.now c.args.block c.in-Some.node.now c.hold.new.self ((c.get_mut.follows.holds c.hold.new.self).3 (search rules)) c.in-Some.ensures.value c.hold.ensures.rest in
    λ d other apart. o.each
    (λ d b o n. b ≢ c.args.block → held_by n ≡ held_by o) (λ other. absurd (other refl)) (λ d b elsewhere o other. refl) d other apart

pub returns-in-Some-clause-links : goal.returns-in-Some-clause-links
returns-in-Some-clause-links c =
    let o = lent c.args.self.now.by_uuid (c.get_mut.follows.lender c.hold.new.self) c.args.uuid.now c.args.block c.in-Some.node.now c.hold.new.self ((c.get_mut.follows.holds c.hold.new.self).3 (search rules)) c.in-Some.ensures.value c.hold.ensures.rest in
    o.related SameLinksOf (λ o link. refl) c.hold.ensures.links

pub returns-in-Some-clause-rest : goal.returns-in-Some-clause-rest
returns-in-Some-clause-rest c =
    let o = lent c.args.self.now.by_uuid (c.get_mut.follows.lender c.hold.new.self) c.args.uuid.now c.args.block c.in-Some.node.now c.hold.new.self ((c.get_mut.follows.holds c.hold.new.self).3 (search rules)) c.in-Some.ensures.value c.hold.ensures.rest in
    record { there = o.there; count = refl }
