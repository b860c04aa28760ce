-- Where the same datanode is asked again, it is offered the same.
use Rattle.std.proofs.Common.{◌≡◌, ◌<◌, ℕ, List, length, sym, ◌∙◌, ap, subst, rules, arith}
use Rattle.hdfs_cluster.specs.Sending.{put}
use Rattle.hdfs_mem_datanodes.specs.Nodes.{held_in, whole_in, replica_in}
use Rattle.hdfs_mem_datanodes.specs.Replicas.{whole_by}
use Rattle.hdfs_mem_datanodes.proofs.Pipelines.{named_cases, same_held_trans, same_nodes_trans}
use Rattle.hdfs_mem_datanodes.proofs.datanodes.Datanodes.offer_all.Goals as goal

pub loop-node-preserved : goal.loop-node-preserved
loop-node-preserved c =
    let was = c.loop-node.invariant in
    let old = c.args.self.now in
    let now = c.loop-node.self in
    let new = c.offer.new.self in
    let block = c.args.block in
    let node = c.node-item.result in
    let within : c.loop-node.node-index < length c.args.locs.now = omega arith in
    let bytes : c.in_ok-clone.field-0 ≡ c.args.bytes.now = search rules in
    let here : whole_in new c.as_str.result.now block ≡ put (held_in old c.as_str.result.now block) c.args.at c.args.bytes.now =
    c.in_ok-offer.ensures.offered ∙ ap (λ (bs : List ℕ). put bs c.args.at c.in_ok-clone.field-0) (was.same c.as_str.result.now block).bytes ∙ ap (λ (bs : List ℕ). put (held_in old c.as_str.result.now block) c.args.at bs) bytes in
    record {
      offered = λ d. named_cases c.args.locs.now c.loop-node.node-index node c.node-item.is within (whole_in new d block ≡ put (held_in old d block) c.args.at c.args.bytes.now) d
          (λ same. subst (λ (u : List ℕ). whole_in new u block ≡ put (held_in old u block) c.args.at c.args.bytes.now) (c.as_str.ensures ∙ sym same) here)
          (λ apart before. ap (λ o. whole_by (replica_in o block)) (c.offer.ensures.others d (λ same. apart (same ∙ c.as_str.ensures))) ∙ was.offered d before);
      same = same_held_trans old now new was.same c.offer.ensures.same;
      rest = same_nodes_trans old now new was.rest c.offer.ensures.rest;
    }
