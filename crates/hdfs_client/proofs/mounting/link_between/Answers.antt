-- Without the slashes at its end there is one text.
use Rattle.hdfs_client.proofs.ByMounts.{link_if}
use Rattle.hdfs_client.proofs.mounting.link_between.Goals as goal

pub returns : goal.returns
returns c = link_if c.args.viewfs_path.now c.args.path.now c.args.service c.new.result c.new.ensures.viewfs c.new.ensures.hdfs c.new.ensures.service
