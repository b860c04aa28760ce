use Rattle.std.proofs.Common.{◌≡◌, ◌≤◌, ◌++◌, ◌*◌, drop, length}
use Rattle.hdfs_wire.specs.Outgoing.{first_sums}
use Rattle.hdfs_wire.proofs.write_packet.put_checksums.Given as goal

abbrev pub invariant-pairs : goal.invariant-pairs
invariant-pairs l = record {
  out : l.out.items ≡ l.fn.out.items ++ first_sums l.done l.size l.payload;
  rest : l.rest ≡ drop (l.done * l.size) l.payload;
  within : l.done ≤ l.count;
}

abbrev pub decreases-pairs : goal.decreases-pairs
decreases-pairs l = length l.rest

abbrev pub invariant-chunks : goal.invariant-chunks
invariant-chunks l = record {
  out : l.out.items ≡ l.fn.out.items ++ first_sums l.counter l.size l.payload;
  rest : l.rest ≡ drop (l.counter * l.size) l.payload;
}
