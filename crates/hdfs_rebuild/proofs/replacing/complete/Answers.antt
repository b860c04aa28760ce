-- By whether a datanode is due, and whether one was added.
use Rattle.std.proofs.Common.{List, refl, subst, sym, ◌∙◌}
use Rattle.std.proofs.lemmas.Bool.{false≢true}
use Rattle.hdfs_cluster.specs.declared.messages.DatanodeInfo.{DatanodeInfo}
use Rattle.hdfs_rebuild.specs.declared.block_plan.BlockPlan.{BlockPlan}
use Rattle.hdfs_namenode.specs.Clients.{name_of}
use Rattle.hdfs_namenode.specs.Views.{see}
use Rattle.hdfs_rebuild.specs.Plans.{IsDue, StaysAnswered}
use Rattle.hdfs_rebuild.specs.Replacing.{Completes}
use Rattle.hdfs_rebuild.proofs.Added.{completes_as_is, completes_not, completes_with, completes_without}
use Rattle.hdfs_rebuild.proofs.Allowed.{stays_enlarged}
use Rattle.hdfs_rebuild.proofs.replacing.complete.Goals.{then-lacks_replacement+else-is_best_effort, else-lacks_replacement}
use Rattle.hdfs_rebuild.proofs.replacing.complete.Goals as goal

pub returns-then-not-should_replace-clause-completes : goal.returns-then-not-should_replace-clause-completes
returns-then-not-should_replace-clause-completes g c = λ view has.
    completes_as_is c.args.plan c.args.settings.now c.args.excluded.now c.requires.block (see view (g.C.Cluster.shown c.args.cluster.now))
    (λ due. false≢true (c.if-not-should_replace.ensures.1
    (subst (λ (nodes : List DatanodeInfo). IsDue c.args.plan c.args.settings.now nodes) (sym c.as_slice-left.ensures) due)))

pub returns-in-Ok-clause-completes : goal.returns-in-Ok-clause-completes
returns-in-Ok-clause-completes g c = λ view has.
    let due = subst (λ (nodes : List DatanodeInfo). IsDue c.args.plan c.args.settings.now nodes) c.as_slice-left.ensures
    (c.if-not-should_replace.ensures.0 refl) in
    subst (λ (plan : BlockPlan). Completes c.args.plan c.args.settings.now c.args.excluded.now (see view (g.C.Cluster.shown c.args.cluster.now)) plan (see view (g.C.Cluster.shown c.add_datanode.new.cluster)))
    (sym c.with_nodes.ensures)
    (completes_with c.args.plan c.args.settings.now c.args.excluded.now c.requires.block (see view (g.C.Cluster.shown c.args.cluster.now))
    c.in-Ok.located (see view (g.C.Cluster.shown c.add_datanode.new.cluster)) due (c.in-Ok.ensures.adds view has))

pub returns-in-Err-clause-completes : goal.returns-in-Err-clause-completes
returns-in-Err-clause-completes g c = λ view has.
    let due = subst (λ (nodes : List DatanodeInfo). IsDue c.args.plan c.args.settings.now nodes) c.as_slice-left.ensures
    (c.if-not-should_replace.ensures.0 refl) in
    completes_without c.args.plan c.args.settings.now c.args.excluded.now c.requires.block (see view (g.C.Cluster.shown c.args.cluster.now))
    c.in-Err.error (see view (g.C.Cluster.shown c.add_datanode.new.cluster)) due (sym c.if-is_best_effort.ensures)
    (sym c.if-lacks_replacement.ensures) (c.in-Err.ensures.err view has)

pub returns-in-Ok-clause-answered : goal.returns-in-Ok-clause-answered
returns-in-Ok-clause-answered g c =
    subst (StaysAnswered g.C.Cluster.may_answer (name_of c.args.namenode.now) c.args.plan) (sym c.with_nodes.ensures)
    (stays_enlarged c.args.plan c.in-Ok.located c.in-Ok.ensures.answered)

pub returns-in-Err-2-clause-err : goal.returns-in-Err-2-clause-err
returns-in-Err-2-clause-err g c = λ view has.
    let due = subst (λ (nodes : List DatanodeInfo). IsDue c.args.plan c.args.settings.now nodes) c.as_slice-left.ensures
    (c.if-not-should_replace.ensures.0 refl) in
    completes_not c.args.plan c.args.settings.now c.args.excluded.now c.requires.block (see view (g.C.Cluster.shown c.args.cluster.now))
    c.in-Err.error (see view (g.C.Cluster.shown c.add_datanode.new.cluster)) due
    (λ lacks. elim c.if-lacks_replacement.branch [
      | then-lacks_replacement+else-is_best_effort w ↦ sym w.if-is_best_effort.ensures
      | else-lacks_replacement w ↦ absurd (false≢true (w.if-lacks_replacement.ensures ∙ lacks))
    ]) (c.in-Err.ensures.err view has)
