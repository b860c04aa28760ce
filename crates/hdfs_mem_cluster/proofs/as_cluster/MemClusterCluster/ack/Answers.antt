-- An acknowledgement comes, or there was no memory for it.
use Rattle.std.proofs.Common.{map, refl, sym, ap}
use Rattle.std.proofs.lemmas.Result.{err_from_is_err_and}
use Rattle.slab.specs.Slab.{with_value}
use Rattle.hdfs_cluster.specs.declared.asks.LinkFault.TheVariants as link_faults
use Rattle.hdfs_mem_faults.specs.declared.fault_plan.FaultPlan.{FaultPlan}
use Rattle.hdfs_mem_cluster.specs.declared.mem_links.MemLinks.{MemLinks}
use Rattle.hdfs_mem_cluster.specs.Lines.{line_of}
use Rattle.hdfs_mem_cluster.specs.Links.{write_at, write_told, UnackedOn}
use Rattle.hdfs_mem_cluster.specs.MemShown.{namenode_faults}
use Rattle.hdfs_mem_cluster.proofs.Acknowledging.{acknowledged_on, awaited}
use Rattle.hdfs_mem_cluster.proofs.Asking.{acks_fall, acks_follow_on, asks_ack_on}
use Rattle.hdfs_mem_cluster.proofs.Counting.{counts_nothing, falls_same}
use Rattle.hdfs_mem_cluster.proofs.Earlier.{later_earlier}
use Rattle.hdfs_mem_cluster.proofs.NothingLoaded.{on_err}
use Rattle.hdfs_mem_datanodes.proofs.Pipelines.{same_nodes_refl, same_held_refl}
use Rattle.hdfs_mem_cluster.proofs.Places.{written_write}
use Rattle.hdfs_mem_cluster.proofs.Stills.{links_unacked, not_acknowledged}
use Rattle.hdfs_mem_cluster.proofs.as_cluster.MemClusterCluster.ack.Goals as goal

pub ack-requires : goal.ack-requires
ack-requires c =
    let m = c.args.self.now in
    let v = c.in-Some.write.now in
    let was = sym c.in-Some.ensures.value in
    awaited v c.requires.0 (write_told (write_at m.links c.args.link)) (ap write_told was) c.requires.1 c.requires.2

pub invariant_of-self : goal.invariant_of-self
invariant_of-self c =
    let m = c.args.self.now in
    let v = c.in-Some.write.now in
    let w = c.ack.new.self in
    let P = UnackedOn v w in
    record {
      counted = m.counted;
      unfailed = m.unfailed;
      follows = acks_follow_on P c.args.link c.ack.result m.faults c.ack.new.faults (map line_of m.loaded.items) v w c.ack.ensures.ok c.ack.ensures.err m.follows;
      earlier = later_earlier m.links m.faults c.ack.new.faults (acks_fall P c.args.link c.ack.result m.faults c.ack.new.faults v w c.ack.ensures.ok c.ack.ensures.err) m.earlier;
    }

pub returns-in_err-ack-clause-err : goal.returns-in_err-ack-clause-err
returns-in_err-ack-clause-err c =
    let m = c.args.self.now in
    let v = c.in-Some.write.now in
    let w = c.ack.new.self in
    let s' : MemLinks = record m.links { writes = with_value m.links.writes c.args.link w } in
    let was = sym c.in-Some.ensures.value in
    let updates = written_write m.links c.args.link v w was in
    let e = c.in_err-ack.ensures.err in
    let p = err_from_is_err_and c.from_residual.result c.from_residual.ensures.1 in
    rw (p.1, p.2) (not_acknowledged m.space m.config.settings m.last m.calls (map line_of m.loaded.items) m.faults c.ack.new.faults (falls_same m.faults c.ack.new.faults e.1) m.nodes m.nodes m.links s' (same_held_refl m.nodes) (links_unacked m.links s' c.args.link v w was updates e.0) link_faults.NoMemory refl c.args.link)

pub returns-in_err-ack-clause-counted : goal.returns-in_err-ack-clause-counted
returns-in_err-ack-clause-counted c =
    let m = c.args.self.now in
    on_err c.from_residual.result (counts_nothing m _ (same_nodes_refl m.nodes) c.in_err-ack.ensures.err.1 (λ i. ap (λ (p : FaultPlan). namenode_faults m.config.settings m.calls p i) c.in_err-ack.ensures.err.1))

pub returns-clause-ok : goal.returns-clause-ok
returns-clause-ok c =
    let m = c.args.self.now in
    let v = c.in-Some.write.now in
    let w = c.ack.new.self in
    let s' : MemLinks = record m.links { writes = with_value m.links.writes c.args.link w } in
    let was = sym c.in-Some.ensures.value in
    let updates = written_write m.links c.args.link v w was in
    acknowledged_on m.space m.config.settings m.last m.calls (map line_of m.loaded.items) m.faults c.ack.new.faults m.nodes m.links s' c.args.link c.in_ok-ack.field-0 v w was updates c.in_ok-ack.ensures.ok
    (awaited v c.requires.0 (write_told (write_at m.links c.args.link)) (ap write_told was) c.requires.1 c.requires.2)

pub returns-clause-asks : goal.returns-clause-asks
returns-clause-asks c =
    let m = c.args.self.now in
    let v = c.in-Some.write.now in
    let w = c.ack.new.self in
    let was = sym c.in-Some.ensures.value in
    asks_ack_on m _ c.args.link c.in_ok-ack.field-0 v w was c.in_ok-ack.ensures.ok (same_nodes_refl m.nodes)
    (awaited v c.requires.0 (write_told (write_at m.links c.args.link)) (ap write_told was) c.requires.1 c.requires.2)
