use Rattle.std.proofs.Common.{◌≡◌, ℕ, ◌<◌, length, get_or}
use Rattle.hdfs_field.specs.Elements.{product}
use Rattle.hdfs_field.proofs.kernel.products.Given as goal

abbrev pub invariant-loop-i : goal.invariant-loop-i
invariant-loop-i l = record {
  long : length l.table ≡ 16;
  done : (k : ℕ) → k < l.i → get_or l.table k 0 ≡ product l.c k;
}
