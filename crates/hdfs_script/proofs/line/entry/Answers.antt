use Rattle.hdfs_script.proofs.WordLemmas.{entry_of_good}
use Rattle.hdfs_script.proofs.line.entry.Goals as goal

-- what was read
pub returns-in-Ok : goal.returns-in-Ok
returns-in-Ok c = entry_of_good _ _ (rw c.in-Ok.is at c.in_ok-entry.ensures)
