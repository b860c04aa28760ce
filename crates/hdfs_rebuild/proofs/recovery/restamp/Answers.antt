-- The goals of restamp.
use Rattle.hdfs_namenode.specs.Clients.{name_of, through}
use Rattle.hdfs_rebuild.proofs.Asks.{once_links}
use Rattle.hdfs_rebuild.proofs.Restamping.{restamped, restamped_not}
use Rattle.std.proofs.Common.{true, refl, sym, subst}
use Rattle.hdfs_cluster.specs.Requests.{IsStamped}
use Rattle.hdfs_rebuild.specs.declared.block_plan.BlockPlan.{BlockPlan}
use Rattle.hdfs_rebuild.proofs.recovery.restamp.Goals as goal

pub returns-in-Ok-clause-links : goal.returns-in-Ok-clause-links
returns-in-Ok-clause-links g c =
    once_links g.C.Cluster.shown g.C.Cluster.serves g.met.C.Cluster.serves_rows true _ (through c.args.namenode.now c.args.cluster.now) _
    (through c.update_block_for_pipeline.new.self c.update_block_for_pipeline.new.cluster) c.in-Ok.ensures.asked

pub returns-in-Ok-clause-restamps : goal.returns-in-Ok-clause-restamps
returns-in-Ok-clause-restamps g c = λ view has. restamped c.args.plan c.with_stamp.ensures (c.in-Ok.ensures.came view has)

pub returns-in-Err-clause-links : goal.returns-in-Err-clause-links
returns-in-Err-clause-links g c =
    once_links g.C.Cluster.shown g.C.Cluster.serves g.met.C.Cluster.serves_rows true _ (through c.args.namenode.now c.args.cluster.now) _
    (through c.update_block_for_pipeline.new.self c.update_block_for_pipeline.new.cluster) c.in-Err.ensures.asked

pub returns-in-Err-clause-err : goal.returns-in-Err-clause-err
returns-in-Err-clause-err g c = λ view has. restamped_not c.args.plan (c.in-Err.ensures.came view has)

pub returns-in-Ok-clause-stamped : goal.returns-in-Ok-clause-stamped
returns-in-Ok-clause-stamped g c =
    subst (λ (plan : BlockPlan). IsStamped g.C.Cluster.may_answer (name_of c.args.namenode.now) plan.block.b c.args.plan.block.b.generation_stamp plan.block.b.generation_stamp
    plan.block.block_token)
    (sym c.with_stamp.ensures)
    (record {
      named = c.args.plan.block.b;
      located = c.in-Ok.located;
      answered = c.in-Ok.ensures.answered;
      same = (refl, refl);
      before_is = refl;
      stamp_is = refl;
      token_is = refl;
    })
