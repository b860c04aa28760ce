use Rattle.hdfs_threads.proofs.Ending.{counted}
use Rattle.hdfs_threads.proofs.running.run_counted.Goals as goal

-- what both threads counted is what the history has
pub returns-clause-counts : goal.returns-clause-counts
returns-clause-counts g c =
    let ended = c.in_ok-ended.ensures in
    let both = c.in_ok-asker.ensures.done in
    let sender = c.in_ok-asker.sender in
    let asker = c.in_ok-asker.asker in
    counted g.J.Job.window g.J.Job.nodes (g.O.PacketOut.shown c.args.link.now.out) (g.O.PacketOut.shown c.run_both.new.out) (g.I.AckIn.shown c.args.link.now.acks) (g.I.AckIn.shown c.run_both.new.acks) g.J.Job.packets
    c.in_ok-ended.ended sender.sent sender.shares.wrote.share.amount sender.shares.failed.share.amount asker.shares.acked.share.amount asker.shares.failed.share.amount asker.shares.over.share.amount ended.ends ended.tallies ended.sent both.1 both.0
