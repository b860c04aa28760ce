-- An entry more is picked where it is wanted.
use Rattle.std.proofs.Common.{List, ◌∷◌, ◌++◌, [], sym, ◌∙◌, subst}
use Rattle.std.proofs.lemmas.Bool.{false≢true}
use Rattle.hdfs_client.specs.Globbing.{IsWanted, Picks, nothing}
use Rattle.hdfs_client.specs.declared.status.FileStatus.{FileStatus}
use Rattle.hdfs_client.proofs.Picked.{one_passed, one_taken}
use Rattle.hdfs_client.proofs.globbing.picking.picked.Goals as goal

pub loop-status-init : goal.loop-status-init
loop-status-init c =
    subst (λ (xs : List FileStatus). Picks (IsWanted c.args.follow c.args.dir.now c.args.component.now) [] xs) (sym c.new-found.ensures.items) nothing

pub loop-status-preserved-in-Continue-branch-2 : goal.loop-status-preserved-in-Continue-branch-2
loop-status-preserved-in-Continue-branch-2 c =
    subst (λ (xs : List FileStatus). Picks (IsWanted c.args.follow c.args.dir.now c.args.component.now) (c.loop-status.yielded ++ c.in-Some.status ∷ []) xs)
    (sym c.in_ok-push.ensures.items)
    (one_taken (IsWanted c.args.follow c.args.dir.now c.args.component.now) c.loop-status.yielded c.loop-status.found.items c.in-Some.status
    c.loop-status.invariant (c.in_ok-is_wanted.ensures.0 c.if-branch.true))

pub loop-status-preserved : goal.loop-status-preserved
loop-status-preserved c =
    one_passed (IsWanted c.args.follow c.args.dir.now c.args.component.now) c.loop-status.yielded c.loop-status.found.items c.in-Some.status
    c.loop-status.invariant (λ wanted. false≢true (sym c.if-branch.false ∙ c.in_ok-is_wanted.ensures.1 wanted))
