use Rattle.std.proofs.Common.{rules, [], ◌∷◌, ◌++◌, ◌≡◌, ◌+◌, ◌<◌, length, refl}
use Rattle.std.specs.Prelude.{slice_index_or}
use Rattle.hdfs_pipeline.specs.Cores.{Follows}
use Rattle.hdfs_pipeline.specs.declared.event.Event.TheVariants as events
use Rattle.hdfs_threads.proofs.Keeping.{keeps_pushing}
use Rattle.hdfs_threads.proofs.pair.Pair.push.Goals as goal

-- the next packet was pushed, and its copy stands in the history
pub invariant_of-self-2 : goal.invariant_of-self-2
invariant_of-self-2 g c =
    let old = c.args.self.now in
    let packet = c.in_ok-packet.packet in
    let left : old.pushed < length g.J.Job.packets = search rules in
    let is : packet ≡ slice_index_or g.J.Job.packets old.pushed packet = search rules in
    let follows : Follows old.core (events.Push packet) c.push.new.self = search rules in
    let more : c.push_reserved.new.self.items ≡ old.history.items ++ events.Push packet ∷ [] = search rules in
    record {
      keeps = keeps_pushing g.J.Job.window g.J.Job.nodes g.J.Job.packets old.core c.push.new.self old.history.items old.pushed old.wrote.total old.write_failed.total old.acked.total old.ack_failed.total old.over.total packet c.push_reserved.new.self.items (old.pushed + 1)
          more refl follows c.requires.room left is old.keeps;
    }
