-- What is left to mount, behind what was mounted.
use Rattle.std.proofs.Common.{◌≡◌, drop, map, Ok}
use Rattle.hdfs_names.specs.Configurations.{mount_text, setting}
use Rattle.hdfs_client.specs.Mounting.{held_by, mount_all}
use Rattle.hdfs_client.proofs.mounting.Mounting.mount_all.Given as goal

abbrev pub invariant-mounts : goal.invariant-mounts
invariant-mounts g l =
    mount_all (setting l.config) (map mount_text l.fn.mounts) (Ok (held_by l.fn.self, g.G.Rng.stream l.fn.rng))
    ≡ mount_all (setting l.config) (drop l.viewfs_path-index (map mount_text l.fn.mounts)) (Ok (held_by l.self, g.G.Rng.stream l.rng))
