-- Each path that is open is looked at.
use Rattle.std.proofs.Common.{length, ◌∙◌, ap, sym, subst}
use Rattle.std.proofs.lemmas.List.{length_push}
use Rattle.std.proofs.lemmas.Map.Iter.{iter_turn, iter_end}
use Rattle.hdfs_cluster.specs.Names.{is_within}
use Rattle.hdfs_commands.proofs.OpenWithin.{NoneWithin, none_more, none_within, some_within}
use Rattle.hdfs_commands.proofs.session.Session.has_open_within.Goals as goal

pub returns-then-is_within-clause-within : goal.returns-then-is_within-clause-within
returns-then-is_within-clause-within c = λ yes.
    let turn = iter_turn (λ x. (x.0.now, x.1.now)) c.args.self.now.writers.entries c.paths.yielded c.into_iter-kept-iterator.result c.paths.kept-iterator c.next.new.self c.next.result
    c.into_iter-kept-iterator.ensures.into_iter_gives.0 c.paths.yielded_by (c.in-Some.kept, c.in-Some.field-0-1) c.in-Some.is c.next.ensures.steps in
    some_within c.args.self.now c.into_iter-kept-iterator.ensures.into_iter_gives.5 c.args.path.now (length c.paths.yielded) c.in-Some.kept.now c.in-Some.field-0-1.now turn.1
    (ap (is_within c.args.path.now) (sym c.as_str.ensures.value) ∙ sym c.is_within.ensures ∙ c.if-is_within.true)

pub paths-preserved : goal.paths-preserved
paths-preserved c =
    let turn = iter_turn (λ x. (x.0.now, x.1.now)) c.args.self.now.writers.entries c.paths.yielded c.into_iter-kept-iterator.result c.paths.kept-iterator c.next.new.self c.next.result
    c.into_iter-kept-iterator.ensures.into_iter_gives.0 c.paths.yielded_by (c.in-Some.kept, c.in-Some.field-0-1) c.in-Some.is c.next.ensures.steps in
    subst (NoneWithin c.args.self.now c.args.path.now) (sym (length_push c.paths.yielded (c.in-Some.kept, c.in-Some.field-0-1)))
    (none_more c.args.self.now c.args.path.now (length c.paths.yielded) c.in-Some.kept.now c.in-Some.field-0-1.now c.paths.invariant turn.1
    (ap (is_within c.args.path.now) (sym c.as_str.ensures.value) ∙ sym c.is_within.ensures ∙ c.if-is_within.false))

pub returns-clause-none : goal.returns-clause-none
returns-clause-none c = λ no.
    let all = iter_end (λ x. (x.0.now, x.1.now)) c.args.self.now.writers.entries c.paths.yielded c.into_iter-kept-iterator.result c.paths.kept-iterator c.next.new.self c.next.result
    c.into_iter-kept-iterator.ensures.into_iter_gives.0 c.paths.yielded_by c.in-None.is c.next.ensures.steps in
    none_within c.args.self.now c.into_iter-kept-iterator.ensures.into_iter_gives.5 c.args.path.now (subst (NoneWithin c.args.self.now c.args.path.now) all.1 c.paths.invariant)
