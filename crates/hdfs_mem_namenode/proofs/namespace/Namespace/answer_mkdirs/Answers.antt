-- A directory is made, or an exception stands for what refuses it.
use Rattle.std.proofs.Common.{refl, ap}
use Rattle.hdfs_mem_namenode.specs.Memory.{table_of}
use Rattle.hdfs_mem_namenode.specs.Spaces.{space_with}
use Rattle.hdfs_mem_namenode.proofs.Rows.{err_made}
use Rattle.hdfs_mem_namenode.proofs.namespace.Namespace.answer_mkdirs.Goals as goal

pub returns-in-Ok-clause-answers : goal.returns-in-Ok-clause-answers
returns-in-Ok-clause-answers c = λ held.
    let h = c.in-Ok.ensures in
    (h.allowed, record { names = h.names; table = λ id. ap (λ t. table_of t.entries id) h.table; held = λ node id. refl })

pub returns-in-Err-clause-answers : goal.returns-in-Err-clause-answers
returns-in-Err-clause-answers c = λ held.
    let h = c.in-Err.ensures in
    err_made (space_with c.args.self.now held) (space_with c.mkdirs.new.self held) (record { names = h.err; table = λ id. ap (λ t. table_of t.entries id) h.table; held = λ node id. refl }) c.args.src.now c.args.masked c.args.parents c.in-Err.fault h.excused
