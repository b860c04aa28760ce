-- A datanode joins where there was none.
use Rattle.std.proofs.Common.{◌≡◌, ℕ, false, List, Option, Some, None, Result, Ok, Err, OnOk, OnErr, is_some, refl, sym, ◌∙◌, ap, subst}
use Rattle.std.proofs.lemmas.Map.Text.{btree_map_updates_text}
use Rattle.std.specs.Map.{lookup}
use Rattle.std.specs.Ordering.{nat_cmp}
use Rattle.std.specs.Cmp.Lexicographic.{slice_cmp}
use Rattle.std.specs.BTreeMap.{is_at, get_by_text}
use Rattle.std.specs.String.{string_bytes}
use Rattle.hdfs_mem_faults.specs.Series.{uuid_of}
use Rattle.hdfs_mem_datanodes.specs.Uuids.{first_node}
use Rattle.hdfs_mem_datanodes.specs.Nodes.{Joins}
use Rattle.hdfs_mem_datanodes.proofs.Nodes.{joins_new, joins_refl, update_fresh, update_some}
use Rattle.hdfs_mem_datanodes.proofs.datanodes.Datanodes.join.Goals as goal

none_known : {X : Type 0} (o : Option X) → is_some o ≡ false → o ≡ None
none_known None is = refl
none_known (Some x) is = absurd (cc)

by_result : {T E P Q G : Type 0} (r : Result T E) → OnOk r P → OnErr r Q → (P → G) → (Q → G) → G
by_result (Ok x) p q f g = f p
by_result (Err e) p q f g = g q

pub invariant_of-self : goal.invariant_of-self
invariant_of-self c =
    let old = c.args.self.now in
    let w = c.new.result in
    let key = string_bytes c.in_ok-uuid.uuid in
    let look = get_by_text old.by_uuid in
    let after = get_by_text c.insert.new.self in
    record {
      some = old.some;
      first = by_result c.insert.result c.insert.ensures.updates c.insert.ensures.err
          (λ updates. update_some look after key w (btree_map_updates_text key old.by_uuid c.insert.new.self (Some w) updates) first_node old.first)
          (λ same. ap (λ es. is_some (lookup (is_at (λ k. slice_cmp nat_cmp first_node (string_bytes k))) es)) same ∙ old.first);
      numbered = λ k below. by_result c.insert.result c.insert.ensures.updates c.insert.ensures.err
          (λ updates. update_some look after key w (btree_map_updates_text key old.by_uuid c.insert.new.self (Some w) updates) (uuid_of k) (old.numbered k below))
          (λ same. ap (λ es. is_some (lookup (is_at (λ q. slice_cmp nat_cmp (uuid_of k) (string_bytes q))) es)) same ∙ old.numbered k below);
    }

pub returns-in_ok-insert-clause-joins : goal.returns-in_ok-insert-clause-joins
returns-in_ok-insert-clause-joins c =
    let old = c.args.self.now in
    let w = c.new.result in
    let key = string_bytes c.in_ok-uuid.uuid in
    let look = get_by_text old.by_uuid in
    let updates = btree_map_updates_text key old.by_uuid c.insert.new.self (Some w) c.in_ok-insert.ensures.updates in
    let none : look key ≡ None = subst (λ (u : List ℕ). look u ≡ None) c.as_str.ensures.value (none_known (look c.as_str.result.now) (sym c.contains_key.ensures ∙ c.if-not-contains_key.true)) in
    update_fresh look (get_by_text c.insert.new.self) key w updates Joins joins_refl none
    (joins_new w c.new.ensures)
