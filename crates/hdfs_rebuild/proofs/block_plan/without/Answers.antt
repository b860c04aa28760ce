-- Each item is left out, or stands behind the ones before.
use Rattle.std.proofs.Common.{rules, tests, ◌≡◌, ◌==◌, arith, ◌∙◌, sym, length}
use Rattle.std.proofs.lemmas.Iterator.{YieldsList-from_slice}
use Rattle.std.proofs.lemmas.Iterator.Adapters.{YieldsList-from_vec}
use Rattle.std.proofs.lemmas.Iterator.Consumers.{YieldsList-end, YieldsList-from_enumerate, YieldsList-turn}
use Rattle.std.proofs.lemmas.Iterator.Search.{any_from_yields_List}
use Rattle.std.proofs.lemmas.List.FromFn.{length-enumerate_from}
use Rattle.std.specs.List.{list_any}
use Rattle.hdfs_rebuild.proofs.Choosing.{gone, looked, stays}
use Rattle.hdfs_rebuild.proofs.block_plan.without.Goals as goal

pub loop-at-preserved-then-any : goal.loop-at-preserved-then-any
loop-at-preserved-then-any g c =
    let given = c.into_iter-at-iterator.ensures.into_iter_gives in
    let items = YieldsList-from_enumerate {s = c.into_iter-at-iterator.result}
    (YieldsList-from_vec c.args.items (cc (given, c.enumerate-at-items.ensures.source, c.into_iter.ensures.rest, c.into_vec.ensures))
    (cc (given, c.enumerate-at-items.ensures.source, c.into_iter.ensures.len, c.into_vec.result.ok.0)))
    (cc (given, c.enumerate-at-items.ensures.count)) in
    let turn = YieldsList-turn items c.loop-at.yielded c.loop-at.at-iterator c.loop-at.yielded_by c.next.result c.next.new.self (c.in-Some.at, c.in-Some.item) c.in-Some.is c.next.ensures.steps in
    let any : list_any (λ place. place == c.in-Some.at) c.args.places.now ≡ c.any.result =
    sym (any_from_yields_List (λ place. place == c.in-Some.at) _ _ c.any.result c.any.ensures.ran (YieldsList-from_slice c.args.places.now (search rules)) (λ x b q k. search (rules, tests))) in
    gone c.args.places.now c.args.items c.loop-at.yielded c.in-Some.at c.in-Some.item c.loop-at.left turn c.loop-at.invariant (any ∙ c.if-any.true)

pub loop-at-preserved : goal.loop-at-preserved
loop-at-preserved g c =
    let given = c.into_iter-at-iterator.ensures.into_iter_gives in
    let items = YieldsList-from_enumerate {s = c.into_iter-at-iterator.result}
    (YieldsList-from_vec c.args.items (cc (given, c.enumerate-at-items.ensures.source, c.into_iter.ensures.rest, c.into_vec.ensures))
    (cc (given, c.enumerate-at-items.ensures.source, c.into_iter.ensures.len, c.into_vec.result.ok.0)))
    (cc (given, c.enumerate-at-items.ensures.count)) in
    let turn = YieldsList-turn items c.loop-at.yielded c.loop-at.at-iterator c.loop-at.yielded_by c.next.result c.next.new.self (c.in-Some.at, c.in-Some.item) c.in-Some.is c.next.ensures.steps in
    let any : list_any (λ place. place == c.in-Some.at) c.args.places.now ≡ c.any.result =
    sym (any_from_yields_List (λ place. place == c.in-Some.at) _ _ c.any.result c.any.ensures.ran (YieldsList-from_slice c.args.places.now (search rules)) (λ x b q k. search (rules, tests))) in
    stays c.args.places.now c.args.items c.loop-at.yielded c.in-Some.at c.in-Some.item c.loop-at.left turn c.loop-at.invariant (any ∙ c.if-any.false) c.push.new.self c.in_ok-push.ensures.ok

pub returns : goal.returns
returns g c =
    let given = c.into_iter-at-iterator.ensures.into_iter_gives in
    let items = YieldsList-from_enumerate {s = c.into_iter-at-iterator.result}
    (YieldsList-from_vec c.args.items (cc (given, c.enumerate-at-items.ensures.source, c.into_iter.ensures.rest, c.into_vec.ensures))
    (cc (given, c.enumerate-at-items.ensures.source, c.into_iter.ensures.len, c.into_vec.result.ok.0)))
    (cc (given, c.enumerate-at-items.ensures.count)) in
    let all = YieldsList-end items c.loop-at.yielded c.loop-at.at-iterator c.loop-at.yielded_by c.next.result c.next.new.self c.in-None.is c.next.ensures.steps in
    looked c.args.places.now c.args.items c.loop-at.left (length c.loop-at.yielded) (omega (arith, all.1, length-enumerate_from 0 c.args.items)) c.loop-at.invariant
