-- The host is there, and the scheme is `hdfs`.
use Rattle.hdfs_names.specs.Configurations.{setting}
use Rattle.hdfs_client.proofs.ByMounts.{at_host, is_hdfs}
use Rattle.hdfs_client.proofs.mounting.service_by.Goals as goal

pub returns : goal.returns
returns g c =
    at_host (setting c.args.config.now) c.args.place.now.scheme c.args.place.now.host _ _ c.args.place.now.port (g.G.Rng.stream c.args.rng.now)
    c.service_of.result (g.G.Rng.stream c.service_of.new.rng) c.in-Some.is
    (is_hdfs c.as_str.result.now c.args.place.now.scheme c.ne.result c.ne.ensures c.if-ne.false c.as_str.ensures) c.as_str-2.ensures c.service_of.ensures
