use Rattle.hdfs_ec.proofs.Independence.{independent}
use Rattle.hdfs_ec.proofs.coder.any_rows_are_independent.Goals as goal

pub returns : goal.returns
returns c = λ units parity m numbers code coding grid count rising within singular. independent units parity m numbers code coding grid count rising within singular
