use Rattle.std.proofs.Common.{◌≡◌, ℕ, ◌-◌, ◌^◌, ◌<◌, List, drop}
use Rattle.hdfs_wire.specs.Varint.{groups_at, varint_at}
use Rattle.hdfs_wire.proofs.Groups.{prefixed}
use Rattle.hdfs_wire.proofs.varint.read_varint.Given as goal

-- the groups so far, below those that are still read
pub record Read (bytes : List ℕ) (n scale i : ℕ) : Type 0 where
  pub worth : scale ≡ 128 ^ i
  pub below : n < scale
  pub so_far : prefixed n scale (groups_at (9 - i) (drop i bytes)) ≡ varint_at bytes

abbrev pub invariant-loop-i : goal.invariant-loop-i
invariant-loop-i l = Read l.bytes l.n l.scale l.i
