-- A file above the path is the refusal.
use Rattle.std.proofs.Common.{Bool, cond, Some, None, refl, sym, ◌∙◌, ap}
use Rattle.hdfs_cluster.specs.Files.{NotDirectory}
use Rattle.hdfs_cluster.specs.Refusals.{Lacks}
use Rattle.hdfs_mem_namenode.proofs.namespace.Namespace.above.Goals as goal

pub returns-then-is_below_file : goal.returns-then-is_below_file
returns-then-is_below_file c = (Lacks NotDirectory, ap (λ (b : Bool). cond b (Some (Lacks NotDirectory)) None) (sym c.is_below_file.ensures ∙ c.if-is_below_file.true), refl)
