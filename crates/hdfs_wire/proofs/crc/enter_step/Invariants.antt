use Rattle.std.proofs.Common.{take, drop}
use Rattle.hdfs_wire.specs.Words.{Spells}
use Rattle.hdfs_wire.proofs.Sliced.{Sliced}
use Rattle.hdfs_wire.proofs.crc.enter_step.Given as goal

abbrev pub invariant-loop-i : goal.invariant-loop-i
invariant-loop-i l = record {
  sliced : Sliced l.near l.far l.fn.register l.bytes l.sum l.left l.i;
  word : Spells l.word (drop l.i (take 8 l.bytes));
}

abbrev pub invariant-loop-k : goal.invariant-loop-k
invariant-loop-k l = record {
  sliced : Sliced l.near l.far l.fn.register l.bytes l.sum l.left l.k;
  word : Spells l.word (drop l.k l.bytes);
}
