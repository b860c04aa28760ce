-- The goals of remove_named.
use Rattle.std.proofs.Common.{length, Some, None, refl, sym, ◌∙◌, ap, rules}
use Rattle.std.proofs.lemmas.Map.Text.{btree_map_updates_text}
use Rattle.std.specs.BTreeMap.{get_by_text}
use Rattle.hdfs_leases.proofs.Changes.{leases_at, nothing_found, some_found, no_entries, all_have_files, others_stay, changed_twice}
use Rattle.hdfs_leases.proofs.Idle.{none_by_length}
use Rattle.hdfs_leases.proofs.namespaces.remove_named.Goals as goal

pub returns-then-is_empty-clause-none_is_empty : goal.returns-then-is_empty-clause-none_is_empty
returns-then-is_empty-clause-none_is_empty c =
    let name = c.args.namespace.now in
    let new = c.remove_file.new.files in
    let map = c.args.named.now in
    let written = c.get_mut.follows.lender new in
    all_have_files (get_by_text map) (get_by_text c.remove.new.self) name None
    (changed_twice (get_by_text map) (get_by_text written) (get_by_text c.remove.new.self) name (Some new) None
    (btree_map_updates_text name map written (Some new) ((c.get_mut.follows.holds new).3 (search rules)))
    (btree_map_updates_text name written c.remove.new.self None c.remove.ensures.updates))
    c.requires nothing_found

pub returns-then-is_empty-clause-others : goal.returns-then-is_empty-clause-others
returns-then-is_empty-clause-others c =
    let name = c.args.namespace.now in
    let new = c.remove_file.new.files in
    let map = c.args.named.now in
    let written = c.get_mut.follows.lender new in
    let none = none_by_length new.entries (c.if-is_empty.ensures.0 refl) in
    others_stay (get_by_text map) (get_by_text c.remove.new.self) name None
    (changed_twice (get_by_text map) (get_by_text written) (get_by_text c.remove.new.self) name (Some new) None
    (btree_map_updates_text name map written (Some new) ((c.get_mut.follows.holds new).3 (search rules)))
    (btree_map_updates_text name written c.remove.new.self None c.remove.ensures.updates))
    c.args.file_id
    (λ id apart. sym (no_entries new none id) ∙ c.remove_file.ensures.others id apart ∙ ap (λ o. leases_at o id) c.in-Some.ensures.value)

pub returns-else-is_empty-clause-none_is_empty : goal.returns-else-is_empty-clause-none_is_empty
returns-else-is_empty-clause-none_is_empty c =
    let name = c.args.namespace.now in
    let new = c.remove_file.new.files in
    let map = c.args.named.now in
    all_have_files (get_by_text map) (get_by_text (c.get_mut.follows.lender new)) name (Some new)
    (btree_map_updates_text name map (c.get_mut.follows.lender new) (Some new) ((c.get_mut.follows.holds new).3 (search rules)))
    c.requires
    (some_found new (λ none. let empty = c.is_empty.ensures.1 (ap length none) in let bad : ⊥ = search rules in bad))

pub returns-else-is_empty-clause-others : goal.returns-else-is_empty-clause-others
returns-else-is_empty-clause-others c =
    let new = c.remove_file.new.files in
    let map = c.args.named.now in
    others_stay (get_by_text map) (get_by_text (c.get_mut.follows.lender new)) c.args.namespace.now (Some new)
    (btree_map_updates_text c.args.namespace.now map (c.get_mut.follows.lender new) (Some new) ((c.get_mut.follows.holds new).3 (search rules)))
    c.args.file_id
    (λ id apart. c.remove_file.ensures.others id apart ∙ ap (λ o. leases_at o id) c.in-Some.ensures.value)
