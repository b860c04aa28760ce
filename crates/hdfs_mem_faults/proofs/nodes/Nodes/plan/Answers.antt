-- At most this datanode has changed.
use Rattle.std.proofs.Common.{◌≡◌, Option, Some, sym, ◌∙◌, ap, subst, rules}
use Rattle.std.proofs.lemmas.Result.{on_err_weaker, on_ok_weaker}
use Rattle.std.proofs.lemmas.Map.Text.{btree_map_updates_text}
use Rattle.std.specs.BTreeMap.{get_by_text}
use Rattle.hdfs_mem_faults.specs.declared.node_plan.NodePlan.{NodePlan}
use Rattle.hdfs_mem_faults.specs.NodePlans.{SameNode, PlansCall}
use Rattle.hdfs_mem_faults.specs.Series.{uuid_of}
use Rattle.hdfs_mem_faults.proofs.Updating.{update_at, update_other, update_related, same_node_refl}
use Rattle.hdfs_mem_faults.proofs.nodes.Nodes.plan.Goals as goal

pub returns-clause-ok : goal.returns-clause-ok
returns-clause-ok c =
    let w = c.plan.new.self in
    let look = get_by_text c.args.self.now.by_uuid in
    let after = get_by_text (c.get_mut.follows.lender w) in
    let updates = btree_map_updates_text c.as_str.result.now c.args.self.now.by_uuid (c.get_mut.follows.lender w) (Some w) ((c.get_mut.follows.holds w).3 (search rules)) in
    let key : c.as_str.result.now ≡ uuid_of c.args.number = c.as_str.ensures.value ∙ c.in_ok-uuid.ensures in
    let old : look (uuid_of c.args.number) ≡ Some c.in-Some.node.now = ap look (sym key) ∙ sym c.in-Some.ensures.value in
    let new : after (uuid_of c.args.number) ≡ Some w = ap after (sym key) ∙ update_at look after c.as_str.result.now w updates in
    on_ok_weaker c.plan.result
    (λ planned. subst (λ (o : Option NodePlan). PlansCall o c.args.fault c.args.nth (after (uuid_of c.args.number))) (sym old)
    (subst (PlansCall (Some c.in-Some.node.now) c.args.fault c.args.nth) (sym new) planned))
    c.plan.ensures.ok

pub returns-clause-others : goal.returns-clause-others
returns-clause-others c = λ d apart.
    let w = c.plan.new.self in
    let look = get_by_text c.args.self.now.by_uuid in
    let after = get_by_text (c.get_mut.follows.lender w) in
    let updates = btree_map_updates_text c.as_str.result.now c.args.self.now.by_uuid (c.get_mut.follows.lender w) (Some w) ((c.get_mut.follows.holds w).3 (search rules)) in
    let key : c.as_str.result.now ≡ uuid_of c.args.number = c.as_str.ensures.value ∙ c.in_ok-uuid.ensures in
    update_other look after c.as_str.result.now w updates d (λ same. apart (same ∙ key))

pub returns-clause-err : goal.returns-clause-err
returns-clause-err c =
    let w = c.plan.new.self in
    let look = get_by_text c.args.self.now.by_uuid in
    let after = get_by_text (c.get_mut.follows.lender w) in
    let updates = btree_map_updates_text c.as_str.result.now c.args.self.now.by_uuid (c.get_mut.follows.lender w) (Some w) ((c.get_mut.follows.holds w).3 (search rules)) in
    let old : look c.as_str.result.now ≡ Some c.in-Some.node.now = sym c.in-Some.ensures.value in
    on_err_weaker c.plan.result
    (λ same. update_related look after c.as_str.result.now w updates SameNode same_node_refl (subst (λ (o : Option NodePlan). SameNode o (Some w)) (sym old) same))
    c.plan.ensures.err
