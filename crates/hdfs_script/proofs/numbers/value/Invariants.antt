use Rattle.std.proofs.Common.{◌≡◌, drop}
use Rattle.hdfs_script.specs.Numbers.{value_from}
use Rattle.hdfs_script.proofs.numbers.value.Given as goal

-- the digits that are left, behind the value so far, have the value of all
abbrev pub invariant-loop-c : goal.invariant-loop-c
invariant-loop-c l = value_from l.base l.value (drop l.c-index l.digits) ≡ value_from l.base 0 l.digits
