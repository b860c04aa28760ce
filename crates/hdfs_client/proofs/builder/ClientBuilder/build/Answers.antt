-- The settings are held by their last values.
use Rattle.std.proofs.Common.{map}
use Rattle.hdfs_names.specs.Configurations.{pair_text}
use Rattle.hdfs_names.specs.Settings.{last_value}
use Rattle.hdfs_client.specs.Building.{user_or}
use Rattle.hdfs_client.proofs.Building.{by_values}
use Rattle.hdfs_client.proofs.builder.ClientBuilder.build.Goals as goal

pub returns-clause-builds : goal.returns-clause-builds
returns-clause-builds g c =
    by_values c.args.self.url c.in-Ok.config (last_value (map pair_text c.args.self.config.items)) (user_or c.args.self.user)
    (g.G.Rng.stream c.args.rng.now) c.build_with.result (g.G.Rng.stream c.build_with.new.rng) c.in-Ok.ensures.values c.in-Ok.ensures.table c.build_with.ensures.builds
    c.build_with.ensures.undrawn
