use Rattle.hdfs_top.proofs.SessionLemmas.{concludes_from-Prints}
use Rattle.hdfs_top.proofs.status.tell_replies.Goals as goal

pub returns : goal.returns
returns g c = concludes_from-Prints 0 _ _ _ _ _ c.write_replies-printed.ensures c.status_of.ensures
