-- The goals of ConnectionCache::get.
use Rattle.std.proofs.Common.{◌≡◌, None, [], List, refl, sym, subst, Some, ◌∙◌, ap, rules}
use Rattle.std.proofs.lemmas.Map.Text.{btree_map_updates_text}
use Rattle.std.specs.BTreeMap.{get_by_text}
use Rattle.std.specs.Option.{option_map_or}
use Rattle.hdfs_connections.specs.Connections.{fresh, Takes}
use Rattle.hdfs_connections.specs.declared.connection_cache.Kept.{Kept}
use Rattle.hdfs_connections.proofs.Addresses.{apart_stays}
use Rattle.hdfs_connections.proofs.connection_cache.ConnectionCache.get.Goals as goal

pub returns-in-Some-clause-others : goal.returns-in-Some-clause-others
returns-in-Some-clause-others c = λ other apart.
    let kept = c.take_fresh.new.kept in
    let map = c.args.self.now.kept in
    ap (λ o. option_map_or (λ kept. kept.items) o [])
    (btree_map_updates_text c.args.address.now map (c.get_mut.follows.lender kept) (Some kept) ((c.get_mut.follows.holds kept).3 (search rules)) other
    ∙ apart_stays (get_by_text map) c.args.address.now other (Some kept) apart)

pub returns-in-None-clause-taken : goal.returns-in-None-clause-taken
unfolding fresh
returns-in-None-clause-taken c =
    let map = c.args.self.now.kept in
    let none : get_by_text map c.args.address.now ≡ None = sym c.in-None.ensures.value in
    let before : option_map_or (λ kept. kept.items) (get_by_text map c.args.address.now) [] ≡ [] = ap (λ o. option_map_or (λ kept. kept.items) o []) none in
    let after = ap (λ map. option_map_or (λ kept. kept.items) (get_by_text map c.args.address.now) []) c.get_mut.follows.holds-at-none ∙ before in
    subst (λ (kept : List Kept). Takes (fresh c.args.moment kept) None (option_map_or (λ kept. kept.items) (get_by_text c.get_mut.follows.lender-at-none c.args.address.now) []))
    (sym before) (refl, after)
