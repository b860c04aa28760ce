-- One replica loses its end, and the others stay.
use Rattle.std.proofs.Common.{◌≡◌, ℕ, Bool, false, Some, take, refl, sym, ap, rules, cond}
use Rattle.std.proofs.lemmas.Result.{on_ok_weaker, on_err_weaker}
use Rattle.hdfs_mem_faults.specs.Series.{uuid_of}
use Rattle.hdfs_mem_datanodes.specs.Uuids.{first_node}
use Rattle.hdfs_mem_datanodes.specs.Nodes.{is_here}
use Rattle.hdfs_mem_datanodes.specs.Replicas.{held_by, undisturbed_by, SameReplica}
use Rattle.hdfs_mem_datanodes.proofs.Nodes.{here_true, here_false, same_replica_refl, lent}
use Rattle.hdfs_mem_datanodes.proofs.datanodes.Datanodes.cut.Goals as goal

pub invariant_of-self : goal.invariant_of-self
invariant_of-self c =
    let o = lent c.args.self.now.by_uuid (c.get_mut.follows.lender c.cut.new.self) c.args.uuid.now c.args.block c.in-Some.node.now c.cut.new.self ((c.get_mut.follows.holds c.cut.new.self).3 (search rules)) c.in-Some.ensures.value c.cut.ensures.rest in
    record {
      some = c.args.self.now.some;
      first = o.stays first_node c.args.self.now.first;
      numbered = λ k below. o.stays (uuid_of k) (c.args.self.now.numbered k below);
    }

pub returns-in-Some-clause-bytes : goal.returns-in-Some-clause-bytes
returns-in-Some-clause-bytes c =
    let o = lent c.args.self.now.by_uuid (c.get_mut.follows.lender c.cut.new.self) c.args.uuid.now c.args.block c.in-Some.node.now c.cut.new.self ((c.get_mut.follows.holds c.cut.new.self).3 (search rules)) c.in-Some.ensures.value c.cut.ensures.rest in
    on_ok_weaker c.cut.result (λ here. o.each
    (λ d b o n. held_by n ≡ cond (is_here c.args.uuid.now c.args.block d b) (take c.args.len (held_by o)) (held_by o))
    (rw here_true here)
    (λ d b apart o. let elsewhere = here_false c.args.uuid.now c.args.block d b apart in sym (ap (λ (t : Bool). cond t (take c.args.len (held_by o)) (held_by o)) elsewhere)))
    c.cut.ensures.bytes

pub returns-in-Some-clause-links : goal.returns-in-Some-clause-links
returns-in-Some-clause-links c =
    let o = lent c.args.self.now.by_uuid (c.get_mut.follows.lender c.cut.new.self) c.args.uuid.now c.args.block c.in-Some.node.now c.cut.new.self ((c.get_mut.follows.holds c.cut.new.self).3 (search rules)) c.in-Some.ensures.value c.cut.ensures.rest in
    on_ok_weaker c.cut.result (λ here. o.each
    (λ d b o n. (link : ℕ) → undisturbed_by n link ≡ cond (is_here c.args.uuid.now c.args.block d b) false (undisturbed_by o link))
    (λ link. rw here_true (here link))
    (λ d b apart o link. let elsewhere = here_false c.args.uuid.now c.args.block d b apart in sym (ap (λ (t : Bool). cond t false (undisturbed_by o link)) elsewhere)))
    c.cut.ensures.links

pub returns-in-Some-clause-err : goal.returns-in-Some-clause-err
returns-in-Some-clause-err c =
    let o = lent c.args.self.now.by_uuid (c.get_mut.follows.lender c.cut.new.self) c.args.uuid.now c.args.block c.in-Some.node.now c.cut.new.self ((c.get_mut.follows.holds c.cut.new.self).3 (search rules)) c.in-Some.ensures.value c.cut.ensures.rest in
    on_err_weaker c.cut.result (λ same. o.related SameReplica same_replica_refl same)
    c.cut.ensures.err

pub returns-in-Some-clause-rest : goal.returns-in-Some-clause-rest
returns-in-Some-clause-rest c =
    let o = lent c.args.self.now.by_uuid (c.get_mut.follows.lender c.cut.new.self) c.args.uuid.now c.args.block c.in-Some.node.now c.cut.new.self ((c.get_mut.follows.holds c.cut.new.self).3 (search rules)) c.in-Some.ensures.value c.cut.ensures.rest in
    record { there = o.there; count = refl }
