-- The keys of the links and of the fallback are those that were made.
use Rattle.std.proofs.Common.{List, ℕ, ap, ◌∙◌}
use Rattle.std.specs.List.{filter_map}
use Rattle.hdfs_names.specs.Settings.{link_prefix}
use Rattle.hdfs_names.specs.Configurations.{mount_by, entries_of}
use Rattle.hdfs_names.proofs.settings.Configuration.get_mount_table.Goals as goal

pub returns-clause-ok : goal.returns-clause-ok
returns-clause-ok c =
    c.in_ok-mounts_by.ensures.mounts
    ∙ ap (λ (x : List ℕ). filter_map (mount_by x c.as_str-2.result.now) (entries_of c.args.self.now)) (c.as_str.ensures.value ∙ c.in_ok-link.ensures.ok)
    ∙ ap (λ (x : List ℕ). filter_map (mount_by (link_prefix c.args.cluster.now) x) (entries_of c.args.self.now)) (c.as_str-2.ensures.value ∙ c.in_ok-fallback.ensures.ok)
