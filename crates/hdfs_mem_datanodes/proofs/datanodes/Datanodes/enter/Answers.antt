-- A link more is undisturbed, and everything else stays.
use Rattle.std.proofs.Common.{◌≡◌, ℕ, Some, refl, sym, rules, true}
use Rattle.hdfs_mem_faults.specs.Series.{uuid_of}
use Rattle.hdfs_mem_datanodes.specs.Uuids.{first_node}
use Rattle.hdfs_mem_datanodes.specs.Replicas.{held_by, undisturbed_by}
use Rattle.hdfs_mem_datanodes.proofs.Nodes.{lent}
use Rattle.hdfs_mem_datanodes.proofs.datanodes.Datanodes.enter.Goals as goal

pub invariant_of-self : goal.invariant_of-self
invariant_of-self c =
    let o = lent c.args.self.now.by_uuid (c.get_mut.follows.lender c.enter.new.self) c.args.uuid.now c.args.block c.in-Some.node.now c.enter.new.self ((c.get_mut.follows.holds c.enter.new.self).3 (search rules)) c.in-Some.ensures.value c.enter.ensures.rest in
    record {
      some = c.args.self.now.some;
      first = o.stays first_node c.args.self.now.first;
      numbered = λ k below. o.stays (uuid_of k) (c.args.self.now.numbered k below);
    }

pub returns-in-Some-clause-others : goal.returns-in-Some-clause-others
returns-in-Some-clause-others c =
    let o = lent c.args.self.now.by_uuid (c.get_mut.follows.lender c.enter.new.self) c.args.uuid.now c.args.block c.in-Some.node.now c.enter.new.self ((c.get_mut.follows.holds c.enter.new.self).3 (search rules)) c.in-Some.ensures.value c.enter.ensures.rest in
    o.related (λ o n. (other : ℕ) → (c.args.link ≡ other → ⊥) → undisturbed_by n other ≡ undisturbed_by o other) (λ o other apart. refl) c.enter.ensures.others

pub returns-in-Some-clause-kept : goal.returns-in-Some-clause-kept
returns-in-Some-clause-kept c =
    let o = lent c.args.self.now.by_uuid (c.get_mut.follows.lender c.enter.new.self) c.args.uuid.now c.args.block c.in-Some.node.now c.enter.new.self ((c.get_mut.follows.holds c.enter.new.self).3 (search rules)) c.in-Some.ensures.value c.enter.ensures.rest in
    o.related (λ o n. undisturbed_by o c.args.link ≡ true → undisturbed_by n c.args.link ≡ true) (λ o is. is) c.enter.ensures.kept

pub returns-in-Some-clause-bytes : goal.returns-in-Some-clause-bytes
returns-in-Some-clause-bytes c =
    let o = lent c.args.self.now.by_uuid (c.get_mut.follows.lender c.enter.new.self) c.args.uuid.now c.args.block c.in-Some.node.now c.enter.new.self ((c.get_mut.follows.holds c.enter.new.self).3 (search rules)) c.in-Some.ensures.value c.enter.ensures.rest in
    o.related (λ o n. held_by n ≡ held_by o) (λ o. refl) c.enter.ensures.bytes

pub returns-in-Some-clause-rest : goal.returns-in-Some-clause-rest
returns-in-Some-clause-rest c =
    let o = lent c.args.self.now.by_uuid (c.get_mut.follows.lender c.enter.new.self) c.args.uuid.now c.args.block c.in-Some.node.now c.enter.new.self ((c.get_mut.follows.holds c.enter.new.self).3 (search rules)) c.in-Some.ensures.value c.enter.ensures.rest in
    record { there = o.there; count = refl }
