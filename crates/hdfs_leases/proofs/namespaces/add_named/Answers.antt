-- The goals of add_named.
use Rattle.std.proofs.Common.{◌≡◌, Some, None, sym, ◌∙◌, ap, rules}
use Rattle.std.proofs.lemmas.Map.Text.{btree_map_updates_text}
use Rattle.std.proofs.lemmas.Result.{on_err_weaker}
use Rattle.std.specs.BTreeMap.{get_by_text}
use Rattle.std.specs.String.{string_bytes}
use Rattle.hdfs_leases.proofs.Changes.{leases_at, some_found, same_entries, no_entries, added, still_some, all_have_files, all_stay, others_stay, changed_at_text}
use Rattle.hdfs_leases.proofs.namespaces.add_named.Goals as goal

pub returns-in-Some-clause-none_is_empty : goal.returns-in-Some-clause-none_is_empty
returns-in-Some-clause-none_is_empty c =
    let old = c.in-Some.files.now in
    let new = c.add_file.new.files in
    let map = c.args.named.now in
    all_have_files (get_by_text map) (get_by_text (c.get_mut.follows.lender new)) c.args.namespace.now (Some new)
    (btree_map_updates_text c.args.namespace.now map (c.get_mut.follows.lender new) (Some new) ((c.get_mut.follows.holds new).3 (search rules)))
    c.requires
    (some_found new
    (still_some c.add_file.result old new c.args.file_id c.add_file.ensures.more c.add_file.ensures.err
    (c.requires c.args.namespace.now old (sym c.in-Some.ensures.value))))

pub returns-in-Some-clause-others : goal.returns-in-Some-clause-others
returns-in-Some-clause-others c =
    let new = c.add_file.new.files in
    let map = c.args.named.now in
    others_stay (get_by_text map) (get_by_text (c.get_mut.follows.lender new)) c.args.namespace.now (Some new)
    (btree_map_updates_text c.args.namespace.now map (c.get_mut.follows.lender new) (Some new) ((c.get_mut.follows.holds new).3 (search rules)))
    c.args.file_id
    (λ id apart. c.add_file.ensures.others id apart ∙ ap (λ o. leases_at o id) c.in-Some.ensures.value)

pub returns-in-Some-clause-err : goal.returns-in-Some-clause-err
returns-in-Some-clause-err c =
    let old = c.in-Some.files.now in
    let new = c.add_file.new.files in
    let map = c.args.named.now in
    on_err_weaker c.add_file.result
    (λ same. all_stay (get_by_text map) (get_by_text (c.get_mut.follows.lender new)) c.args.namespace.now (Some new)
    (btree_map_updates_text c.args.namespace.now map (c.get_mut.follows.lender new) (Some new) ((c.get_mut.follows.holds new).3 (search rules)))
    (λ id. same_entries old new same id ∙ ap (λ o. leases_at o id) c.in-Some.ensures.value))
    c.add_file.ensures.err

pub returns-clause-none_is_empty : goal.returns-clause-none_is_empty
returns-clause-none_is_empty c =
    let new = c.add_file-2.new.files in
    let map = c.get_mut.follows.lender-at-none in
    let text = string_bytes c.in_ok-from_str.field-0 in
    all_have_files (get_by_text c.args.named.now) (get_by_text c.insert.new.self) c.args.namespace.now (Some new)
    (changed_at_text map c.args.named.now c.insert.new.self text c.args.namespace.now (Some new) c.get_mut.follows.holds-at-none c.in_ok-from_str.ensures.ok
    (btree_map_updates_text text map c.insert.new.self (Some new) c.in_ok-insert.ensures.updates))
    c.requires
    (some_found new (added c.new-files.result new c.args.file_id c.in_ok-add_file.ensures.more))

pub returns-clause-others : goal.returns-clause-others
returns-clause-others c =
    let new = c.add_file-2.new.files in
    let map = c.get_mut.follows.lender-at-none in
    let text = string_bytes c.in_ok-from_str.field-0 in
    let none : get_by_text c.args.named.now c.args.namespace.now ≡ None = search rules in
    others_stay (get_by_text c.args.named.now) (get_by_text c.insert.new.self) c.args.namespace.now (Some new)
    (changed_at_text map c.args.named.now c.insert.new.self text c.args.namespace.now (Some new) c.get_mut.follows.holds-at-none c.in_ok-from_str.ensures.ok
    (btree_map_updates_text text map c.insert.new.self (Some new) c.in_ok-insert.ensures.updates))
    c.args.file_id
    (λ id apart. c.in_ok-add_file.ensures.others id apart ∙ no_entries c.new-files.result c.new-files.ensures.empty id ∙ sym (ap (λ o. leases_at o id) none))
