-- A datanode that wasn't there has come, and nothing was counted or planned of it.
use Rattle.std.proofs.Common.{◌≡◌, Option, Some, None, sym, ◌∙◌, ap, subst}
use Rattle.std.proofs.lemmas.Map.Text.{btree_map_updates_text}
use Rattle.std.specs.BTreeMap.{get_by_text}
use Rattle.std.specs.String.{string_bytes}
use Rattle.hdfs_mem_faults.specs.declared.node_plan.NodePlan.{NodePlan}
use Rattle.hdfs_mem_faults.specs.NodePlans.{AddsOnly}
use Rattle.hdfs_mem_faults.proofs.Updating.{update_other, update_related, none_from, adds_only_refl}
use Rattle.hdfs_mem_faults.proofs.nodes.Nodes.make.Goals as goal

pub returns-in_ok-insert-clause-rest : goal.returns-in_ok-insert-clause-rest
returns-in_ok-insert-clause-rest c =
    let w = c.new.result in
    let look = get_by_text c.args.self.now.by_uuid in
    let after = get_by_text c.insert.new.self in
    let key = string_bytes c.in_ok-uuid.uuid in
    let updates = btree_map_updates_text key c.args.self.now.by_uuid c.insert.new.self (Some w) c.in_ok-insert.ensures.updates in
    let none : look key ≡ None = ap look (sym c.as_str.ensures.value) ∙ none_from (look c.as_str.result.now) (sym c.contains_key.ensures ∙ c.if-not-contains_key.true) in
    update_related look after key w updates AddsOnly adds_only_refl (subst (λ (o : Option NodePlan). AddsOnly o (Some w)) (sym none) c.new.ensures)

pub returns-in_ok-insert-clause-others : goal.returns-in_ok-insert-clause-others
returns-in_ok-insert-clause-others c = λ d apart.
    let w = c.new.result in
    let look = get_by_text c.args.self.now.by_uuid in
    let after = get_by_text c.insert.new.self in
    let key = string_bytes c.in_ok-uuid.uuid in
    let updates = btree_map_updates_text key c.args.self.now.by_uuid c.insert.new.self (Some w) c.in_ok-insert.ensures.updates in
    update_other look after key w updates d (λ same. apart (same ∙ c.in_ok-uuid.ensures))
