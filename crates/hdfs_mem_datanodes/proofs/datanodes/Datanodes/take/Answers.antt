-- One replica takes its piece, and the others stay.
use Rattle.std.proofs.Common.{◌≡◌, ℕ, Bool, Some, refl, sym, ap, rules, ◌&&◌, eqb, cond}
use Rattle.hdfs_mem_faults.specs.Series.{uuid_of}
use Rattle.hdfs_mem_datanodes.specs.Uuids.{first_node}
use Rattle.hdfs_mem_datanodes.specs.Nodes.{is_here}
use Rattle.hdfs_mem_datanodes.specs.Replicas.{held_by, whole_by, undisturbed_by}
use Rattle.hdfs_mem_datanodes.proofs.Nodes.{here_true, here_false, lent}
use Rattle.hdfs_mem_datanodes.proofs.datanodes.Datanodes.take.Goals as goal

pub invariant_of-self : goal.invariant_of-self
invariant_of-self c =
    let o = lent c.args.self.now.by_uuid (c.get_mut.follows.lender c.take.new.self) c.args.uuid.now c.args.block c.in-Some.node.now c.take.new.self ((c.get_mut.follows.holds c.take.new.self).3 (search rules)) c.in-Some.ensures.value c.take.ensures.rest in
    record {
      some = c.args.self.now.some;
      first = o.stays first_node c.args.self.now.first;
      numbered = λ k below. o.stays (uuid_of k) (c.args.self.now.numbered k below);
    }

pub returns-in-Some-clause-bytes : goal.returns-in-Some-clause-bytes
returns-in-Some-clause-bytes c =
    let o = lent c.args.self.now.by_uuid (c.get_mut.follows.lender c.take.new.self) c.args.uuid.now c.args.block c.in-Some.node.now c.take.new.self ((c.get_mut.follows.holds c.take.new.self).3 (search rules)) c.in-Some.ensures.value c.take.ensures.rest in
    o.each
    (λ d b o n. held_by n ≡ cond (is_here c.args.uuid.now c.args.block d b) (whole_by o) (held_by o))
    (rw here_true c.take.ensures.bytes)
    (λ d b apart o. let elsewhere = here_false c.args.uuid.now c.args.block d b apart in sym (ap (λ (t : Bool). cond t (whole_by o) (held_by o)) elsewhere))

pub returns-in-Some-clause-whole : goal.returns-in-Some-clause-whole
returns-in-Some-clause-whole c =
    let o = lent c.args.self.now.by_uuid (c.get_mut.follows.lender c.take.new.self) c.args.uuid.now c.args.block c.in-Some.node.now c.take.new.self ((c.get_mut.follows.holds c.take.new.self).3 (search rules)) c.in-Some.ensures.value c.take.ensures.rest in
    o.related (λ o n. whole_by n ≡ whole_by o) (λ o. refl) c.take.ensures.whole

pub returns-in-Some-clause-links : goal.returns-in-Some-clause-links
returns-in-Some-clause-links c =
    let o = lent c.args.self.now.by_uuid (c.get_mut.follows.lender c.take.new.self) c.args.uuid.now c.args.block c.in-Some.node.now c.take.new.self ((c.get_mut.follows.holds c.take.new.self).3 (search rules)) c.in-Some.ensures.value c.take.ensures.rest in
    o.each
    (λ d b o n. (other : ℕ) → undisturbed_by n other ≡ cond (is_here c.args.uuid.now c.args.block d b) (undisturbed_by o other && eqb c.args.link other) (undisturbed_by o other))
    (λ other. rw here_true (c.take.ensures.links other))
    (λ d b apart o other. let elsewhere = here_false c.args.uuid.now c.args.block d b apart in sym (ap (λ (t : Bool). cond t (undisturbed_by o other && eqb c.args.link other) (undisturbed_by o other)) elsewhere))

pub returns-in-Some-clause-rest : goal.returns-in-Some-clause-rest
returns-in-Some-clause-rest c =
    let o = lent c.args.self.now.by_uuid (c.get_mut.follows.lender c.take.new.self) c.args.uuid.now c.args.block c.in-Some.node.now c.take.new.self ((c.get_mut.follows.holds c.take.new.self).3 (search rules)) c.in-Some.ensures.value c.take.ensures.rest in
    record { there = o.there; count = refl }
