-- The goals of take_fresh.
use Rattle.std.proofs.Common.{◌≡◌, [], List, Some, None, sym, ◌∙◌, ap, subst, refl, arith, rules}
use Rattle.hdfs_connections.specs.declared.connection_cache.Kept.{Kept}
use Rattle.hdfs_connections.specs.Connections.{fresh, Takes}
use Rattle.hdfs_connections.proofs.Freshness.{fresh_first, stale_first}
use Rattle.hdfs_connections.proofs.connection_cache.take_fresh.Goals as goal

pub returns-then-saturating_sub-le-EXPIRY_MS : goal.returns-then-saturating_sub-le-EXPIRY_MS
returns-then-saturating_sub-le-EXPIRY_MS c =
    let kept = c.in-Some.connection in
    let behind = c.pop_front.new.self.items in
    let all = sym c.stale.invariant ∙ ap (fresh c.args.moment) c.in-Some.ensures.items
    ∙ fresh_first c.args.moment kept behind (omega (arith, c.saturating_sub.ensures, c.if-saturating_sub-le-EXPIRY_MS.true)) in
    subst (λ (l : List Kept). Takes l (Some kept.link) behind) (sym all) (refl, refl)

pub stale-preserved : goal.stale-preserved
stale-preserved c =
    sym (stale_first c.args.moment c.in-Some.connection c.pop_front.new.self.items (omega (arith, c.saturating_sub.ensures, c.if-saturating_sub-le-EXPIRY_MS.false)))
    ∙ ap (fresh c.args.moment) (sym c.in-Some.ensures.items) ∙ c.stale.invariant

pub returns : goal.returns
unfolding fresh
returns c =
    let none : c.stale.kept.items ≡ [] = search rules in
    subst (λ (l : List Kept). Takes l None c.pop_front.new.self.items) (ap (fresh c.args.moment) (sym none) ∙ c.stale.invariant) (refl, search rules)
