use Rattle.std.proofs.Common.{rules, ◌≡◌, true, refl}
use Rattle.hdfs_pipeline.specs.Inside.{shown}
use Rattle.hdfs_pipeline.specs.Pipelines.{has_room}
use Rattle.hdfs_pipeline.proofs.Rows.{pushes}
use Rattle.hdfs_pipeline.proofs.pipeline_core.PipelineCore.push.Goals as goal

pub returns-clause-follows : goal.returns-clause-follows
returns-clause-follows c =
    let room : has_room c.args.self.now ≡ true = search rules in
    rw (← c.self.view_is, c.push_back_reserved.ensures.items) (pushes (shown c.self.inside) refl c.args.packet (rw (← c.self.view_is) at room))
