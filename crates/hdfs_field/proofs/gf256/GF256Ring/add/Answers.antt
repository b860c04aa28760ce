use Rattle.std.proofs.Common.{refl}
use Rattle.hdfs_field.proofs.FieldValues.{is_sum}
use Rattle.hdfs_field.proofs.gf256.GF256Ring.add.Goals as goal

pub returns : goal.returns
returns c = is_sum c.args.self c.args.o _ refl
