use Rattle.std.specs.Prelude.{◌≡◌, ◌≤◌, take}
use Rattle.hdfs_threads.specs.Links.{Took}
use Rattle.hdfs_threads.proofs.shared.Shared.send_all.Given as goal

-- so far each packet was sent, and counted
abbrev pub invariant-packets : goal.invariant-packets
invariant-packets g l = record {
  counted : l.sent ≡ l.packet-index;
  amount : l.mine.wrote.share.amount ≡ l.packet-index;
  none : l.mine.failed.share.amount ≡ 0;
  took : Took (g.O.PacketOut.shown l.fn.out) (take l.packet-index g.J.Job.packets) (g.O.PacketOut.shown l.out);
  later : (g.O.PacketOut.shown l.fn.out).failures ≤ (g.O.PacketOut.shown l.out).failures;
}
