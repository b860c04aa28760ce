-- The goals of ConnectionCache::release.
use Rattle.std.proofs.Common.{[], Some, ◌∙◌, ap, rules}
use Rattle.std.proofs.lemmas.Map.Text.{btree_map_updates_text}
use Rattle.std.specs.BTreeMap.{get_by_text}
use Rattle.std.specs.Option.{option_map_or}
use Rattle.std.specs.String.{string_bytes}
use Rattle.hdfs_connections.proofs.Addresses.{all_stay, apart_stays, on_err}
use Rattle.hdfs_connections.proofs.connection_cache.ConnectionCache.release.Goals as goal

pub returns-in_err-push_back-clause-others : goal.returns-in_err-push_back-clause-others
returns-in_err-push_back-clause-others c = λ other apart.
    let kept = c.push_back.new.self in
    let map = c.args.self.now.kept in
    ap (λ o. option_map_or (λ kept. kept.items) o [])
    (btree_map_updates_text c.args.address.now map (c.get_mut.follows.lender kept) (Some kept) ((c.get_mut.follows.holds kept).3 (search rules)) other
    ∙ apart_stays (get_by_text map) c.args.address.now other (Some kept) apart)

pub returns-in_err-push_back-clause-err : goal.returns-in_err-push_back-clause-err
returns-in_err-push_back-clause-err c =
    let kept = c.push_back.new.self in
    let map = c.args.self.now.kept in
    on_err c.from_residual.result
    (all_stay (λ kept. kept.items) (get_by_text map) (get_by_text (c.get_mut.follows.lender kept)) c.args.address.now c.in-Some.kept.now kept (search rules)
    (btree_map_updates_text c.args.address.now map (c.get_mut.follows.lender kept) (Some kept) ((c.get_mut.follows.holds kept).3 (search rules)))
    c.in_err-push_back.ensures.items)

pub returns-in-Some-clause-others : goal.returns-in-Some-clause-others
returns-in-Some-clause-others c = λ other apart.
    let kept = c.push_back.new.self in
    let map = c.args.self.now.kept in
    ap (λ o. option_map_or (λ kept. kept.items) o [])
    (btree_map_updates_text c.args.address.now map (c.get_mut.follows.lender kept) (Some kept) ((c.get_mut.follows.holds kept).3 (search rules)) other
    ∙ apart_stays (get_by_text map) c.args.address.now other (Some kept) apart)

pub returns-clause-others : goal.returns-clause-others
returns-clause-others c = λ other apart.
    let kept = c.push_back-2.new.self in
    let map = c.get_mut.follows.lender-at-none in
    let key = string_bytes c.in_ok-from_str.field-0 in
    ap (λ o. option_map_or (λ kept. kept.items) o [])
    (btree_map_updates_text key map c.insert.new.self (Some kept) c.in_ok-insert.ensures.updates other
    ∙ apart_stays (get_by_text map) key other (Some kept) (λ is. apart (is ∙ c.in_ok-from_str.ensures.ok))
    ∙ ap (λ map. get_by_text map other) c.get_mut.follows.holds-at-none)
