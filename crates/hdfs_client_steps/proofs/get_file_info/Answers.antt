-- The goals of get_file_info.
use Rattle.hdfs_client_steps.proofs.Telling.{info_does}
use Rattle.hdfs_client_steps.proofs.get_file_info.Goals as goal

pub returns-clause-does : goal.returns-clause-does
returns-clause-does g c =
    info_does g.met.C.Cluster.serves_rows g.met.C.Cluster.active_below c.args.client.now c.get_file_info.new.self c.args.path.now c.args.cluster.now c.get_file_info.new.cluster
    c.get_file_info.result c.get_file_info.ensures.asked

pub returns-clause-parts : goal.returns-clause-parts
returns-clause-parts g c = (let others = c.get_file_info.ensures.asked.asks.others in (others.mounts, others.replacement))
