use Rattle.std.proofs.Common.{◌≡◌, ◌≤◌, ◌-◌, ◌<◌, length, vec_len}
use Rattle.hdfs_streams.specs.Streams.{Took}
use Rattle.hdfs_streams.proofs.read_source.fill.Given as goal

-- what was read stood first in the source
abbrev pub invariant-loop-bytes : goal.invariant-loop-bytes
invariant-loop-bytes g l = record {
  same : (g.S.Source.shown l.source).failures ≡ (g.S.Source.shown l.fn.source).failures;
  some : 0 < length l.piece;
  short : vec_len l.bytes ≤ l.most;
  took : Took (g.S.Source.shown l.fn.source) l.bytes.items (g.S.Source.shown l.source);
}

abbrev pub decreases-loop-bytes : goal.decreases-loop-bytes
decreases-loop-bytes g l = l.most - vec_len l.bytes
