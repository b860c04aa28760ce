use Rattle.hdfs_top.proofs.SessionLemmas.{concludes_from-Prints}
use Rattle.hdfs_top.proofs.status.refuse.Goals as goal

pub returns : goal.returns
returns g c = concludes_from-Prints 1 _ _ _ _ _ c.write_refusal-printed.ensures c.status_of.ensures
