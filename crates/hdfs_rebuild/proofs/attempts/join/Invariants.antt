use Rattle.std.proofs.Common.{◌≡◌, ◌++◌}
use Rattle.hdfs_rebuild.proofs.attempts.join.Given as goal

-- the packets so far came behind the others
abbrev pub invariant-loop-packet : goal.invariant-loop-packet
invariant-loop-packet l = l.replay ≡ l.fn.replay ++ l.yielded
