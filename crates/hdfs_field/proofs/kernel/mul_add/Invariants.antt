use Rattle.std.proofs.Common.{◌≤◌, ◌-◌, length}
use Rattle.hdfs_field.specs.Slices.{AddedBelow}
use Rattle.hdfs_field.proofs.kernel.mul_add.Given as goal

abbrev pub decreases-vectors : goal.decreases-vectors
decreases-vectors l = length l.initial.out - l.i

abbrev pub invariant-vectors : goal.invariant-vectors
invariant-vectors l = record { within : l.i ≤ length l.fn.out; added : AddedBelow l.c l.input l.fn.out l.out l.i }

abbrev pub invariant-bytes : goal.invariant-bytes
invariant-bytes l = AddedBelow l.c l.input l.fn.out l.out l.q
