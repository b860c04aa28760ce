use Rattle.std.proofs.Common.{◌≡◌, ◌+◌, get_or}
use Rattle.hdfs_field.specs.Elements.{gf256}
use Rattle.hdfs_field.specs.Matrices.{entry, total}
use Rattle.hdfs_ec.specs.Coding.{coefficient}
use Rattle.hdfs_ec.proofs.coder.Coder.taken_off.Given as goal

abbrev pub invariant-loop-t : goal.invariant-loop-t
invariant-loop-t l = l.sum ≡ total gf256 l.t (λ t. gf256.product (entry gf256 l.inverse l.j t) (coefficient (get_or l.held (l.first + t) 0) (get_or l.held l.i 0)))
