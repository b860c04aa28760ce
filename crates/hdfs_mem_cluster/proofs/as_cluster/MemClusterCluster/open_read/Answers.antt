-- A read is opened in a slot that was vacant, or refused.
use Rattle.std.proofs.Common.{◌≡◌, ℕ, List, true, false, Some, map, refl, ◌∙◌, ap, subst}
use Rattle.std.proofs.lemmas.Result.{err_from_is_err_and}
use Rattle.slab.specs.Slab as slab
use Rattle.hdfs_mem_faults.specs.declared.node_plan.NodeCall.TheVariants as calls
use Rattle.hdfs_mem_faults.specs.Plans.{node_faults_of}
use Rattle.hdfs_mem_faults.specs.Series.{opens_of}
use Rattle.hdfs_mem_faults.proofs.Following.{counts_follows}
use Rattle.hdfs_cluster.specs.declared.asks.LinkFault.TheVariants as link_faults
use Rattle.hdfs_mem_cluster.specs.declared.mem_links.MemLinks.{MemLinks}
use Rattle.hdfs_mem_cluster.specs.Lines.{line_of}
use Rattle.hdfs_mem_cluster.specs.Slices.{told_for}
use Rattle.hdfs_mem_cluster.proofs.AskingReads.{counted_opening}
use Rattle.hdfs_mem_cluster.proofs.Counting.{calls_node, calls_nothing, falls_counts, falls_refl}
use Rattle.hdfs_mem_cluster.proofs.Earlier.{changed_earlier, later_earlier, opened_earlier, same_earlier}
use Rattle.hdfs_mem_cluster.proofs.Giving.{opened_read, refused_read}
use Rattle.hdfs_mem_cluster.proofs.Places.{changes_read}
use Rattle.hdfs_mem_cluster.proofs.Stills.{links_from_same, not_opened}
use Rattle.hdfs_mem_datanodes.proofs.Pipelines.{same_nodes_refl}
use Rattle.hdfs_mem_datanodes.specs.Nodes.{held_in}
use Rattle.hdfs_mem_cluster.proofs.as_cluster.MemClusterCluster.open_read.Goals as goal

pub returns-then-refuses-clause-err : goal.returns-then-refuses-clause-err
returns-then-refuses-clause-err c =
    let m = c.args.self.now in
    let d = c.args.ask.now.node.datanode_uuid in
    refused_read m.space m.config.settings m.last m.calls (map line_of m.loaded.items) m.faults c.open.new.self m.nodes m.links c.args._kept c.args.ask.now
    (counted_opening m.faults c.open.new.self c.as_str-uuid.result.now d c.refuses.result c.open.result true c.as_str-uuid.ensures c.refuses.ensures c.if-refuses.true c.open.ensures)

pub returns-then-refuses-clause-asks : goal.returns-then-refuses-clause-asks
returns-then-refuses-clause-asks c =
    let m = c.args.self.now in
    let d = c.args.ask.now.node.datanode_uuid in
    let counts = counted_opening m.faults c.open.new.self c.as_str-uuid.result.now d c.refuses.result c.open.result true c.as_str-uuid.ensures c.refuses.ensures c.if-refuses.true c.open.ensures in
    (calls_node m _ calls.Open d true true (same_nodes_refl m.nodes) counts refl, λ same. (cc))

pub invariant_of-self-in-Break-branch-3 : goal.invariant_of-self-in-Break-branch-3
invariant_of-self-in-Break-branch-3 c =
    let m = c.args.self.now in
    record { counted = c.read.ensures.rest.count ∙ m.counted; unfailed = m.unfailed; follows = m.follows; earlier = same_earlier m.links (record m.links { reads = c.insert.new.self }) m.faults (λ l. ap (λ s. slab.get s l) c.in_err-link.ensures.err) m.earlier }

pub returns-in_err-link-clause-err : goal.returns-in_err-link-clause-err
returns-in_err-link-clause-err c =
    let m = c.args.self.now in
    let p = err_from_is_err_and c.from_residual-in_err-link.result c.from_residual-in_err-link.ensures.1 in
    rw (p.1, p.2) (not_opened m.space m.config.settings m.last m.calls (map line_of m.loaded.items) m.faults m.faults (falls_refl m.faults) m.nodes c.read.new.self m.links (record m.links { reads = c.insert.new.self }) c.read.ensures.same
    (links_from_same m.links (record m.links { reads = c.insert.new.self }) (record { reads = λ l. ap (λ s. slab.get s l) c.in_err-link.ensures.err; writes = λ l. refl })) link_faults.NoMemory refl c.args._kept c.args.ask.now)

pub returns-in_err-link-clause-asks : goal.returns-in_err-link-clause-asks
returns-in_err-link-clause-asks c =
    let m = c.args.self.now in
    let p = err_from_is_err_and c.from_residual-in_err-link.result c.from_residual-in_err-link.ensures.1 in
    rw (p.1, p.2) (calls_nothing m _ calls.Open c.args.ask.now.node.datanode_uuid false false c.read.ensures.rest refl refl refl, λ same. (cc))

pub invariant_of-self-2 : goal.invariant_of-self-2
invariant_of-self-2 c =
    let m = c.args.self.now in
    let u = c.as_str-uuid.result.now in
    let faults' = c.open-3.new.self in
    let v = c.in_ok-read.read in
    let told = subst (λ (n : ℕ). v.told ≡ told_for c.args.ask.now n v.chunk) (c.node_faults-before.ensures ∙ ap (node_faults_of m.faults) c.as_str-uuid.ensures) c.in_ok-read.ensures.told in
    let s' : MemLinks = record m.links { reads = c.insert.new.self } in
    let updates = changes_read m.links c.insert.new.self c.in_ok-link.link (Some v) c.in_ok-link.ensures.updates in
    record {
      counted = c.read.ensures.rest.count ∙ m.counted;
      unfailed = m.unfailed;
      follows = counts_follows m.faults faults' (map line_of m.loaded.items) (opens_of u) c.open-3.result c.open-3.ensures m.follows;
      earlier = later_earlier s' m.faults faults' (falls_counts m.faults faults' (opens_of u) c.open-3.result c.open-3.ensures)
          (changed_earlier m.links s' m.faults c.in_ok-link.link (Some v) updates (opened_earlier m.faults c.args.ask.now v told) m.earlier);
    }

pub returns-clause-ok : goal.returns-clause-ok
returns-clause-ok c =
    let m = c.args.self.now in
    let u = c.as_str-uuid.result.now in
    let faults' = c.open-3.new.self in
    let v = c.in_ok-read.read in
    let told = subst (λ (n : ℕ). v.told ≡ told_for c.args.ask.now n v.chunk) (c.node_faults-before.ensures ∙ ap (node_faults_of m.faults) c.as_str-uuid.ensures) c.in_ok-read.ensures.told in
    let holds = c.in_ok-base.ensures.bytes ∙ ap (λ (d : List ℕ). held_in m.nodes d c.args.ask.now.block.block_id) c.as_str-uuid.ensures in
    opened_read m.space m.config.settings m.last m.calls (map line_of m.loaded.items) m.faults faults' m.nodes c.read.new.self m.links (record m.links { reads = c.insert.new.self }) c.in_ok-link.link v c.args.ask.now
    (falls_counts m.faults faults' (opens_of u) c.open-3.result c.open-3.ensures) c.read.ensures.same c.in_ok-link.ensures.was_vacant
    (changes_read m.links c.insert.new.self c.in_ok-link.link (Some v) c.in_ok-link.ensures.updates) told c.in_ok-base.base c.in_ok-read.ensures.place holds c.in_ok-read.ensures.behind

pub returns-clause-asks : goal.returns-clause-asks
returns-clause-asks c =
    let m = c.args.self.now in
    let d = c.args.ask.now.node.datanode_uuid in
    let counts = counted_opening m.faults c.open-3.new.self c.as_str-uuid.result.now d c.refuses.result c.open-3.result false c.as_str-uuid.ensures c.refuses.ensures c.if-refuses.false c.open-3.ensures in
    (calls_node m _ calls.Open d true false c.read.ensures.rest counts refl, λ same. (cc))
