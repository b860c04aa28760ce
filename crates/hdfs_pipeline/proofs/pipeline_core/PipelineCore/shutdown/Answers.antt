use Rattle.std.proofs.Common.{rules, ◌≡◌}
use Rattle.hdfs_pipeline.specs.Ends.{end_of}
use Rattle.hdfs_pipeline.specs.declared.end.PipelineEnd.TheVariants as ends
use Rattle.hdfs_pipeline.proofs.Finishing.{core_hands_back}
use Rattle.hdfs_pipeline.proofs.pipeline_core.PipelineCore.shutdown.Goals as goal

pub returns-in-Some-Done-clause-whole : goal.returns-in-Some-Done-clause-whole
returns-in-Some-Done-clause-whole c =
    let success : ends.Success ≡ end_of c.args.self = search rules in
    core_hands_back c.args.self ends.Success success
