-- One mount more, or one that is refused.
use Rattle.std.proofs.Common.{Global, inl, inr, map, Ok, ◌∙◌}
use Rattle.hdfs_names.specs.Configurations.{mount_text, setting}
use Rattle.hdfs_client.specs.Mounting.{held_by, mount_all}
use Rattle.hdfs_client.proofs.ByMounts.{not_one_more, one_more, refused_if}
use Rattle.hdfs_client.proofs.mounting.Mounting.mount_all.Goals as goal

pub returns-in_err-mount_url-clause-err : goal.returns-in_err-mount_url-clause-err
returns-in_err-mount_url-clause-err g c =
    refused_if (mount_all (setting c.args.config.now) (map (mount_text {A = Global} {B = Global}) c.args.mounts.now) (Ok (held_by c.args.self.now, g.G.Rng.stream c.args.rng.now)))
    c.from_residual.result c.in_err-mount_url.field-0.0 c.from_residual.ensures.1
    (elim c.in_err-mount_url.ensures.err [
      | inl was ↦ inl (c.mounts.invariant ∙ not_one_more (setting c.args.config.now) (mount_text {A = Global} {B = Global}) c.args.mounts.now c.mounts.viewfs_path-index
          c.mounts-item.result c.mounts-test.true c.mounts-item.is (held_by c.mounts.self) c.as_str.result.now (g.G.Rng.stream c.mounts.rng) c.in_err-mount_url.field-0.0
          c.as_str.ensures.value was)
      | inr memory ↦ inr memory
    ])

pub mounts-preserved : goal.mounts-preserved
mounts-preserved g c =
    c.mounts.invariant ∙ one_more (setting c.args.config.now) (mount_text {A = Global} {B = Global}) c.args.mounts.now c.mounts.viewfs_path-index
    c.mounts-item.result c.mounts-test.true c.mounts-item.is (held_by c.mounts.self) (held_by c.mount_url.new.self) c.as_str.result.now (g.G.Rng.stream c.mounts.rng)
    (g.G.Rng.stream c.mount_url.new.rng) c.as_str.ensures.value c.in_ok-mount_url.ensures.ok
