use Rattle.std.proofs.Common.{length}
use Rattle.hdfs_bench.proofs.frames.count_frames.Given as goal

abbrev pub decreases-loop-rest : goal.decreases-loop-rest
decreases-loop-rest l = length l.rest
