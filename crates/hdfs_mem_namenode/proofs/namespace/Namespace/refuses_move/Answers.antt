-- Why there is no closed file comes first.
use Rattle.std.proofs.Common.{inl}
use Rattle.hdfs_mem_namenode.proofs.namespace.Namespace.refuses_move.Goals as goal

pub returns-in-Err : goal.returns-in-Err
returns-in-Err c = inl c.in-Err.ensures
