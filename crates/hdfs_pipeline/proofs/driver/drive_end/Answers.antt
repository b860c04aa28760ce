-- The goals of drive_end.
use Rattle.hdfs_pipeline.proofs.DrivingOn.{none_left}
use Rattle.hdfs_pipeline.proofs.driver.drive_end.Goals as goal

pub returns-clause-drove : goal.returns-clause-drove
returns-clause-drove g c =
    let drove = c.in_ok-read.ensures.drove in
    record {
      last = c.read_all-read.new.core;
      before = c.read_all-read.new.cluster;
      drove = drove;
      happened = c.in_ok-read.ensures.happened;
      has_ended = c.in_ok-read.ensures.ended;
      is_core = c.in_ok-read.ensures.core;
      is = c.shutdown.ensures.is;
      none_left = λ going done. none_left c.args.core c.read_all-read.new.core drove.acknowledged drove.goes (c.requires.last going) going done;
      ended = c.end_write.ensures.ends;
    }
