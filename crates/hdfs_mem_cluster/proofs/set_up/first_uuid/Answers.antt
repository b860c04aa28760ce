-- The first one, if there is one.
use Rattle.hdfs_mem_cluster.proofs.SettingUp.{first_blamed, none_blamed}
use Rattle.hdfs_mem_cluster.proofs.set_up.first_uuid.Goals as goal

pub returns-in-Some : goal.returns-in-Some
returns-in-Some c = first_blamed c.args.nodes.now c.in-Some.node.now c.in-Some.ensures.value

pub returns-in-None : goal.returns-in-None
returns-in-None c = none_blamed c.args.nodes.now c.in-None.ensures.value
