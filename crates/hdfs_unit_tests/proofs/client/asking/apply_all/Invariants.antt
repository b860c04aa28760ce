-- The session stands between its commands.
use Rattle.hdfs_commands.specs.Session.{Stands}
use Rattle.hdfs_mem_cluster.specs.MemShown.{shown_of}
use Rattle.hdfs_unit_tests.proofs.client.asking.apply_all.Given as goal

abbrev pub invariant-loop-line : goal.invariant-loop-line
invariant-loop-line l = Stands (shown_of l.store) l.session
