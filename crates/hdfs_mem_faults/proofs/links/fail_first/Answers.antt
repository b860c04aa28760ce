-- One failure more is put down to this datanode, and none to another.
use Rattle.std.proofs.Common.{◌≡◌, ℕ, ◌+◌, List, Some, unwrap_or, sym, ◌∙◌, ap, subst, arith}
use Rattle.std.proofs.lemmas.Map.Text.{btree_map_updates_text}
use Rattle.std.specs.BTreeMap.{get_by_text}
use Rattle.std.specs.Str.{bytes_eq}
use Rattle.std.specs.String.{string_bytes}
use Rattle.hdfs_mem_faults.specs.Calls.{one_if}
use Rattle.hdfs_mem_faults.proofs.Updating.{one_more_at}
use Rattle.hdfs_mem_faults.proofs.links.fail_first.Goals as goal

pub overflow_add-count : goal.overflow_add-count
overflow_add-count c =
    let was = c.count_of-count.ensures ∙ ap (λ (k : List ℕ). unwrap_or (get_by_text c.args.firsts.now k) 0) c.as_str.ensures in
    omega (arith, c.requires, was)

pub returns-clause-ok : goal.returns-clause-ok
returns-clause-ok c =
    let look = get_by_text c.args.firsts.now in
    let after = get_by_text c.insert.new.self in
    let w = c.count_of-count.result + 1 in
    let key = string_bytes c.in_ok-from_str.field-0 in
    let updates = btree_map_updates_text key c.args.firsts.now c.insert.new.self (Some w) c.in_ok-insert.ensures.updates in
    let same : key ≡ c.args.first.now = c.in_ok-from_str.ensures.ok ∙ c.as_str-2.ensures in
    let was = c.count_of-count.ensures ∙ ap (λ (k : List ℕ). unwrap_or (look k) 0) (c.as_str.ensures ∙ sym same) in
    subst (λ (k : List ℕ). (d : List ℕ) → unwrap_or (after d) 0 ≡ unwrap_or (look d) 0 + one_if (bytes_eq k d)) same
    (one_more_at look after key w updates (ap (λ (n : ℕ). n + 1) was))
