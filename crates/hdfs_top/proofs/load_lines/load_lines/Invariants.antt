use Rattle.hdfs_top.specs.Inside.{LoadsAll}
use Rattle.hdfs_top.proofs.load_lines.load_lines.Given as goal

-- the lines so far were loaded
abbrev pub invariant-loop-numbered : goal.invariant-loop-numbered
invariant-loop-numbered g l = LoadsAll (g.C.Cluster.shown l.fn.store) l.yielded (g.C.Cluster.shown l.store)
