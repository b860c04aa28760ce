use Rattle.std.proofs.Common.{rules, ◌≡◌, ◌<◌, length, take, subst, sym, arith}
use Rattle.std.specs.Prelude.{slice_index_or}
use Rattle.hdfs_threads.specs.Links.{Took}
use Rattle.hdfs_threads.proofs.Calling.{took_none, took_next}
use Rattle.hdfs_threads.proofs.shared.Shared.send_all.Goals as goal

-- a send that fails sends nothing
pub returns-then-not-branch-2-clause-done : goal.returns-then-not-branch-2-clause-done
returns-then-not-branch-2-clause-done g c =
    let before = g.O.PacketOut.shown c.args.out.now in
    let here = g.O.PacketOut.shown c.packets.out in
    let behind = g.O.PacketOut.shown c.send_one.new.out in
    let so_far = c.packets.invariant in
    let broke = c.in_ok-send_one.ensures.failed (search rules) in
    let sum = so_far.amount in
    let none = so_far.none in
    let counted = so_far.counted in
    let left : c.packets.packet-index < length g.J.Job.packets = search rules in
    let sent = subst (λ k. Took before (take k g.J.Job.packets) here) (sym counted) so_far.took in record {
      took = took_none before here behind (take c.packets.sent g.J.Job.packets) sent broke.0;
      counted = omega (arith, broke.1, sum, counted);
      within = omega (arith, left, counted);
      one = omega (arith, broke.2, none);
      cause = λ _. omega (arith, so_far.later, broke.3);
    }

-- one packet more was sent, and counted
pub packets-preserved : goal.packets-preserved
packets-preserved g c =
    let before = g.O.PacketOut.shown c.args.out.now in
    let here = g.O.PacketOut.shown c.packets.out in
    let behind = g.O.PacketOut.shown c.send_one.new.out in
    let so_far = c.packets.invariant in
    let one = c.in_ok-send_one.ensures.sent c.if-not-branch-2.false in
    let left : c.packets.packet-index < length g.J.Job.packets = search rules in
    let is : c.packet-item.result ≡ slice_index_or g.J.Job.packets c.packets.packet-index c.packet-item.result = search rules in
    let later = c.send_one.ensures.later in
    let sum = so_far.amount in
    let none = so_far.none in
    let counted = so_far.counted in record {
      counted = omega (arith, counted);
      amount = omega (arith, one.1, sum);
      none = omega (arith, one.2, none);
      took = took_next before here behind g.J.Job.packets c.packets.packet-index c.packet-item.result left is so_far.took one.0;
      later = omega (arith, so_far.later, later);
    }
