use Rattle.std.proofs.Common.{◌<◌, List, drop, subst, sym, ◌∙◌, ap, arith}
use Rattle.hdfs_wire.specs.Outgoing.{Outgoing}
use Rattle.hdfs_pipeline.specs.Ends.{end_of}
use Rattle.hdfs_pipeline.specs.Pipelines.{run_of}
use Rattle.hdfs_pipeline.specs.declared.event.Event.{Event}
use Rattle.hdfs_threads.specs.Ends.{EndsWith, with_rest}
use Rattle.hdfs_threads.proofs.Ending.{ends_with}
use Rattle.hdfs_threads.proofs.pair.Pair.finish.Goals as goal

-- the core stands for the history, and a thread has found it over
pub returns-clause-ends : goal.returns-clause-ends
returns-clause-ends g c =
    let old = c.args.self in
    let core = old.core in
    let history = old.history.items in
    let end = c.in_ok-close.field-0 in
    let some = c.requires.over in
    let most = c.compare.ensures.over in
    let found : 0 < old.over.total = omega (arith, some, most) in
    let closed = c.in_ok-close.ensures.end history old.keeps.stands in
    let rest = ap (λ (xs : List Outgoing). with_rest (end_of (run_of core.window core.nodes history)) (drop old.pushed xs)) c.requires.packets in
    let is = ends_with g.J.Job.window g.J.Job.nodes g.J.Job.packets core history old.pushed old.wrote.total old.write_failed.total old.acked.total old.ack_failed.total old.over.total old.keeps end c.requires.last found c.in_ok-close.ensures.core (closed ∙ rest) in
    subst (λ (events : List Event). EndsWith g.J.Job.window g.J.Job.nodes g.J.Job.packets events end) (sym c.from_vec.ensures) is
