-- Nothing was read yet.
use Rattle.hdfs_globs.proofs.GroupsRead.{rest-begins}
use Rattle.hdfs_globs.proofs.group.Scan.new.Goals as goal

pub returns-clause-begins : goal.returns-clause-begins
returns-clause-begins c = λ whole text e. rw (c.new.ensures.items, c.new-2.ensures.items) (rest-begins whole text e)
