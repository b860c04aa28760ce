use Rattle.std.specs.Prelude.{◌≡◌, length, All}
use Rattle.hdfs_relay.specs.Packets.{IsByte, AreNumbered}
use Rattle.hdfs_relay.proofs.packets.relay_packets.Given as goal

-- so far each packet has a byte, and the next seqno
abbrev pub invariant-packets : goal.invariant-packets
invariant-packets l = record {
  many : length l.packets.items ≡ l.seqno;
  each : All IsByte l.packets.items;
  numbered : AreNumbered l.packets.items;
}
