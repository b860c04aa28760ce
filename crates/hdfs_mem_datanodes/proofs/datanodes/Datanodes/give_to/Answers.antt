-- One datanode is given the block, and everything else stays.
use Rattle.std.proofs.Common.{◌≡◌, Option, Some, false, refl, sym, ◌∙◌, subst, rules}
use Rattle.std.proofs.lemmas.Bool.{false≢true}
use Rattle.std.proofs.lemmas.Result.{on_ok_weaker, on_err_weaker}
use Rattle.hdfs_mem_faults.specs.Series.{uuid_of}
use Rattle.hdfs_mem_datanodes.specs.declared.datanode.Datanode.{Datanode}
use Rattle.hdfs_mem_datanodes.specs.Uuids.{first_node}
use Rattle.hdfs_mem_datanodes.specs.Nodes.{is_here, replica_in}
use Rattle.hdfs_mem_datanodes.specs.Replicas.{IsGiven, SameReplica}
use Rattle.hdfs_mem_datanodes.proofs.Nodes.{here_true, same_replica_refl, lent}
use Rattle.hdfs_mem_datanodes.proofs.datanodes.Datanodes.give_to.Goals as goal

pub invariant_of-self : goal.invariant_of-self
invariant_of-self c =
    let o = lent c.args.self.now.by_uuid (c.get_mut.follows.lender c.give.new.self) c.args.uuid.now c.args.block c.in-Some.node.now c.give.new.self ((c.get_mut.follows.holds c.give.new.self).3 (search rules)) c.in-Some.ensures.value c.give.ensures.rest in
    record {
      some = c.args.self.now.some;
      first = o.stays first_node c.args.self.now.first;
      numbered = λ k below. o.stays (uuid_of k) (c.args.self.now.numbered k below);
    }

pub returns-in-Some-clause-given : goal.returns-in-Some-clause-given
returns-in-Some-clause-given c =
    let o = lent c.args.self.now.by_uuid (c.get_mut.follows.lender c.give.new.self) c.args.uuid.now c.args.block c.in-Some.node.now c.give.new.self ((c.get_mut.follows.holds c.give.new.self).3 (search rules)) c.in-Some.ensures.value c.give.ensures.rest in
    on_ok_weaker c.give.result
    (λ given. subst (λ (o : Option Datanode). IsGiven c.args.bytes (replica_in o c.args.block)) (sym (o.here)) given)
    c.give.ensures.given

pub returns-in-Some-clause-others : goal.returns-in-Some-clause-others
returns-in-Some-clause-others c =
    let o = lent c.args.self.now.by_uuid (c.get_mut.follows.lender c.give.new.self) c.args.uuid.now c.args.block c.in-Some.node.now c.give.new.self ((c.get_mut.follows.holds c.give.new.self).3 (search rules)) c.in-Some.ensures.value c.give.ensures.rest in
    o.each
    (λ d b o n. is_here c.args.uuid.now c.args.block d b ≡ false → SameReplica o n)
    (λ apart. absurd (false≢true (sym apart ∙ here_true c.args.uuid.now c.args.block)))
    (λ d b elsewhere o apart. same_replica_refl o)

pub returns-in-Some-clause-err : goal.returns-in-Some-clause-err
returns-in-Some-clause-err c =
    let o = lent c.args.self.now.by_uuid (c.get_mut.follows.lender c.give.new.self) c.args.uuid.now c.args.block c.in-Some.node.now c.give.new.self ((c.get_mut.follows.holds c.give.new.self).3 (search rules)) c.in-Some.ensures.value c.give.ensures.rest in
    on_err_weaker c.give.result (λ same. o.related SameReplica same_replica_refl same)
    c.give.ensures.err

pub returns-in-Some-clause-rest : goal.returns-in-Some-clause-rest
returns-in-Some-clause-rest c =
    let o = lent c.args.self.now.by_uuid (c.get_mut.follows.lender c.give.new.self) c.args.uuid.now c.args.block c.in-Some.node.now c.give.new.self ((c.get_mut.follows.holds c.give.new.self).3 (search rules)) c.in-Some.ensures.value c.give.ensures.rest in
    record { there = o.there; count = refl }
