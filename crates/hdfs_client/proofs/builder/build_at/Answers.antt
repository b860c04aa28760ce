-- What is mounted is sound.
use Rattle.hdfs_names.specs.Configurations.{entries_of, setting}
use Rattle.hdfs_client.specs.Mounting.{held_by}
use Rattle.hdfs_client.proofs.Sound.{mounts_sound}
use Rattle.hdfs_client.proofs.builder.build_at.Goals as goal

pub client_of-requires-clause-sound : goal.client_of-requires-clause-sound
client_of-requires-clause-sound g c =
    mounts_sound (setting c.args.config.now) (entries_of c.args.config.now) (g.G.Rng.stream c.args.rng.now) (g.G.Rng.stream c.mounts_at.new.rng) c.args.place.now
    (held_by c.in-Ok.mounting) c.in-Ok.ensures.ok
