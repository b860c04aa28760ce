use Rattle.std.proofs.Common.{length}
use Rattle.hdfs_bench.proofs.frames.frames_in.Given as goal

abbrev pub decreases-loop-count : goal.decreases-loop-count
decreases-loop-count l = length l.reader
