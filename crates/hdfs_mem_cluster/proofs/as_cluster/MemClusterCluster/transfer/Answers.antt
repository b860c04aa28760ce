-- A block is given to other datanodes, or the transfer fails.
use Rattle.std.proofs.Common.{◌≡◌, inl, true, is_some, Ok, map, refl, sym, ◌∙◌, ap, arith}
use Rattle.std.proofs.lemmas.Result.{err_from_is_err_and}
use Rattle.hdfs_cluster.specs.declared.asks.LinkFault.TheVariants as link_faults
use Rattle.hdfs_mem_faults.specs.Calls.{one_if}
use Rattle.hdfs_mem_faults.proofs.Following.{transfer_follows}
use Rattle.hdfs_mem_datanodes.specs.Nodes.{replica_at}
use Rattle.hdfs_mem_datanodes.proofs.Nodes.{same_replica_refl}
use Rattle.hdfs_mem_cluster.specs.Failures.{planned_transfer_failure}
use Rattle.hdfs_mem_cluster.specs.Lines.{line_of}
use Rattle.hdfs_mem_cluster.proofs.Counting.{falls_refl}
use Rattle.hdfs_mem_cluster.proofs.Earlier.{later_earlier}
use Rattle.hdfs_mem_cluster.proofs.Transferring.{asks_transfer, fails_so, falls_transfer, not_transferred, transferred}
use Rattle.hdfs_mem_cluster.proofs.as_cluster.MemClusterCluster.transfer.Goals as goal

pub invariant_of-self : goal.invariant_of-self
invariant_of-self c =
    let m = c.args.self.now in
    let faults' = c.transfer.new.self in
    record {
      counted = m.counted;
      unfailed = m.unfailed;
      follows = transfer_follows m.faults faults' (map line_of m.loaded.items) c.transfer.result c.transfer.ensures m.follows;
      earlier = later_earlier m.links m.faults faults' (falls_transfer m.faults faults' c.transfer.result c.transfer.ensures) m.earlier;
    }

pub invariant_of-self-2 : goal.invariant_of-self-2
invariant_of-self-2 c =
    let m = c.args.self.now in
    let faults' = c.transfer-2.new.self in
    record {
      counted = c.give.ensures.rest.count ∙ m.counted;
      unfailed = m.unfailed;
      follows = transfer_follows m.faults faults' (map line_of m.loaded.items) c.transfer-2.result c.transfer-2.ensures m.follows;
      earlier = later_earlier m.links m.faults faults' (falls_transfer m.faults faults' c.transfer-2.result c.transfer-2.ensures) m.earlier;
    }

pub returns-in-Some-clause-err : goal.returns-in-Some-clause-err
returns-in-Some-clause-err c =
    let m = c.args.self.now in
    let faults' = c.transfer.new.self in
    let planned = c.in-Some.ensures ∙ ap planned_transfer_failure (c.next_set_up.ensures ∙ sym c.transfer.ensures.as_planned) in
    let failed : true ≡ is_some c.transfer.result = ap is_some planned ∙ fails_so c.transfer.result in
    not_transferred m.space m.config.settings m.last m.calls (map line_of m.loaded.items) m.faults faults' (falls_transfer m.faults faults' c.transfer.result c.transfer.ensures) m.nodes m.nodes m.links c.args.transfer.now c.args.transfer.now.source.id.datanode_uuid c.args.transfer.now.targets
    refl refl (λ d b apart. same_replica_refl (replica_at m.nodes d b)) (λ d. inl (same_replica_refl (replica_at m.nodes d c.args.transfer.now.block.block_id))) c.in-Some.fault (λ apart. omega (arith, c.transfer.ensures.faults, ap one_if failed))

pub returns-in_err-give-clause-err : goal.returns-in_err-give-clause-err
returns-in_err-give-clause-err c =
    let m = c.args.self.now in
    let p = err_from_is_err_and c.from_residual.result c.from_residual.ensures.1 in
    rw (p.1, p.2) (not_transferred m.space m.config.settings m.last m.calls (map line_of m.loaded.items) m.faults m.faults (falls_refl m.faults) m.nodes c.give.new.self m.links c.args.transfer.now c.as_str-source.result.now c.as_slice-targets.result.now
    c.as_str-source.ensures c.as_slice-targets.ensures c.give.ensures.others c.give.ensures.some link_faults.NoMemory (λ apart. absurd (apart refl)))

pub returns-clause-ok : goal.returns-clause-ok
returns-clause-ok c =
    let m = c.args.self.now in
    transferred m.space m.config.settings m.last m.calls (map line_of m.loaded.items) m.faults c.transfer-2.new.self (falls_transfer m.faults c.transfer-2.new.self c.transfer-2.result c.transfer-2.ensures) m.nodes c.give.new.self m.links c.args.transfer.now c.as_str-source.result.now c.as_slice-targets.result.now
    c.as_str-source.ensures c.as_slice-targets.ensures c.give.ensures.others c.in_ok-give.ensures.given

pub returns-clause-asks : goal.returns-clause-asks
returns-clause-asks c =
    let planned = c.in_default.ensures ∙ ap planned_transfer_failure (c.next_set_up.ensures ∙ sym c.transfer-2.ensures.as_planned) in
    asks_transfer c.args.self.now _ c.transfer-2.result c.give.ensures.rest c.transfer-2.ensures (Ok tt) refl planned
