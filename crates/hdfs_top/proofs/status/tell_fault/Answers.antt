use Rattle.hdfs_top.proofs.SessionLemmas.{concludes_from-Prints}
use Rattle.hdfs_top.proofs.status.tell_fault.Goals as goal

pub returns : goal.returns
returns g c = concludes_from-Prints 2 _ _ _ _ _ c.write_fault-printed.ensures c.status_of.ensures
