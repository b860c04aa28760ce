use Rattle.std.specs.Prelude.{◌<◌, ◌≤◌}
use Rattle.hdfs_threads.specs.Links.{GaveSo}
use Rattle.hdfs_threads.proofs.shared.Shared.ask_all.Given as goal

-- so far what was given is counted
abbrev pub invariant-acks : goal.invariant-acks
invariant-acks g l = record {
  gave : GaveSo (g.I.AckIn.shown l.fn.acks) l.mine.acked.share.amount l.mine.failed.share.amount (g.I.AckIn.shown l.acks);
  cause : 0 < l.mine.failed.share.amount → (g.I.AckIn.shown l.fn.acks).failures < (g.I.AckIn.shown l.acks).failures;
  later : (g.I.AckIn.shown l.fn.acks).failures ≤ (g.I.AckIn.shown l.acks).failures;
}
