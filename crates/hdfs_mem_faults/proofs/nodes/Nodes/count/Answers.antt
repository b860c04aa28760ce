-- At most this datanode has changed.
use Rattle.std.proofs.Common.{◌≡◌, Option, Some, sym, subst, rules}
use Rattle.std.proofs.lemmas.Map.Text.{btree_map_updates_text}
use Rattle.std.specs.BTreeMap.{get_by_text}
use Rattle.hdfs_mem_faults.specs.declared.node_plan.NodePlan.{NodePlan}
use Rattle.hdfs_mem_faults.specs.NodePlans.{CountsCall}
use Rattle.hdfs_mem_faults.proofs.Updating.{update_at, update_other}
use Rattle.hdfs_mem_faults.proofs.nodes.Nodes.count.Goals as goal

pub returns-in-Some-clause-counted : goal.returns-in-Some-clause-counted
returns-in-Some-clause-counted c =
    let w = c.count.new.self in
    let look = get_by_text c.args.self.now.by_uuid in
    let after = get_by_text (c.get_mut.follows.lender w) in
    let updates = btree_map_updates_text c.args.uuid.now c.args.self.now.by_uuid (c.get_mut.follows.lender w) (Some w) ((c.get_mut.follows.holds w).3 (search rules)) in
    let old : look c.args.uuid.now ≡ Some c.in-Some.node.now = sym c.in-Some.ensures.value in
    subst (λ (o : Option NodePlan). CountsCall o c.args.call c.count.result (after c.args.uuid.now)) (sym old)
    (subst (CountsCall (Some c.in-Some.node.now) c.args.call c.count.result) (sym (update_at look after c.args.uuid.now w updates)) c.count.ensures)

pub returns-in-Some-clause-others : goal.returns-in-Some-clause-others
returns-in-Some-clause-others c =
    let w = c.count.new.self in
    let look = get_by_text c.args.self.now.by_uuid in
    let after = get_by_text (c.get_mut.follows.lender w) in
    let updates = btree_map_updates_text c.args.uuid.now c.args.self.now.by_uuid (c.get_mut.follows.lender w) (Some w) ((c.get_mut.follows.holds w).3 (search rules)) in
    update_other look after c.args.uuid.now w updates
