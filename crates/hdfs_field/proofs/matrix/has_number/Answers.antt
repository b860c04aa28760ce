use Rattle.std.proofs.Common.{◌∙◌}
use Rattle.hdfs_field.proofs.Selection.{listed_any}
use Rattle.hdfs_field.proofs.matrix.has_number.Goals as goal

pub returns : goal.returns
returns c = c.contains.ensures.value ∙ listed_any c.args.numbers.now c.args.n
