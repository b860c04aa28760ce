-- The goals of make_room.
use Rattle.hdfs_pipeline.proofs.DrivingOn.{drove_refl}
use Rattle.hdfs_pipeline.proofs.driver.make_room.Goals as goal

pub returns-then-has_ended-clause-drove : goal.returns-then-has_ended-clause-drove
returns-then-has_ended-clause-drove g c = drove_refl c.args.link c.args.core.now (g.C.Cluster.shown c.args.cluster.now) c.requires.drives
