use Rattle.std.proofs.Common.{◌-◌}
use Rattle.hdfs_ec.specs.Steps.{IsRange}
use Rattle.hdfs_ec.proofs.coder.numbers_from.Given as goal

abbrev pub invariant-loop-n : goal.invariant-loop-n
invariant-loop-n l = IsRange l.start (l.n - l.start) l.numbers.items
