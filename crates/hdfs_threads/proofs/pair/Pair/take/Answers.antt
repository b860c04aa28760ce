use Rattle.std.proofs.Common.{rules, refl, arith}
use Rattle.hdfs_pipeline.specs.declared.event.Event.TheVariants as events
use Rattle.hdfs_threads.proofs.Keeping.{keeps_on}
use Rattle.hdfs_threads.proofs.pair.Pair.take.Goals as goal

pub invariant_of-self-2 : goal.invariant_of-self-2
invariant_of-self-2 g c =
    let old = c.args.self.now in
    record {
      keeps = keeps_on g.J.Job.window g.J.Job.nodes g.J.Job.packets old.core c.take.new.self old.history.items old.pushed old.wrote.total old.write_failed.total old.acked.total old.ack_failed.total old.over.total events.Take c.push_reserved.new.self.items old.wrote.total old.write_failed.total old.acked.total old.ack_failed.total
          refl c.take.ensures.follows (search rules) (omega arith) (omega arith) (omega arith) (omega arith) old.keeps;
    }
