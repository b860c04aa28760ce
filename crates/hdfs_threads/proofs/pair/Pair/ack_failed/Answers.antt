use Rattle.std.proofs.Common.{rules, refl, arith}
use Rattle.hdfs_pipeline.specs.declared.event.Event.TheVariants as events
use Rattle.hdfs_threads.proofs.Keeping.{keeps_on}
use Rattle.hdfs_threads.proofs.pair.Pair.ack_failed.Goals as goal

pub invariant_of-self-2 : goal.invariant_of-self-2
invariant_of-self-2 g c =
    let old = c.args.self.now in
    record {
      keeps = keeps_on g.J.Job.window g.J.Job.nodes g.J.Job.packets old.core c.ack_failed.new.self old.history.items old.pushed old.wrote.total old.write_failed.total old.acked.total old.ack_failed.total old.over.total events.AckFailed c.push_reserved.new.self.items old.wrote.total old.write_failed.total old.acked.total c.add.new.self.total
          refl c.ack_failed.ensures (search rules) (omega arith) (omega arith) (omega arith) (c.add.ensures.total) old.keeps;
    }
