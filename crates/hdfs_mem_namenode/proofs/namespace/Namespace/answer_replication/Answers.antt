-- The replication is set, or not, or an exception stands for why nothing is there.
use Rattle.std.proofs.Common.{refl, ap}
use Rattle.std.specs.BTreeMap.{get_by_text}
use Rattle.hdfs_mem_namenode.specs.Memory.{table_of}
use Rattle.hdfs_mem_namenode.specs.Spaces.{space_with}
use Rattle.hdfs_mem_namenode.proofs.Rows.{err_replication}
use Rattle.hdfs_mem_namenode.proofs.namespace.Namespace.answer_replication.Goals as goal

pub returns-in-Ok-clause-answers : goal.returns-in-Ok-clause-answers
returns-in-Ok-clause-answers c = λ held.
    let h = c.in-Ok.ensures in
    (h.set, record { table = λ id. ap (λ t. table_of t.entries id) h.table; held = λ node id. refl })

pub returns-in-Err-clause-answers : goal.returns-in-Err-clause-answers
returns-in-Err-clause-answers c = λ held.
    let h = c.in-Err.ensures in
    err_replication (space_with c.args.self.now held) (space_with c.set_replication.new.self held)
    (record { names = λ path. ap (λ m. get_by_text m path) h.err; table = λ id. ap (λ t. table_of t.entries id) h.table; held = λ node id. refl }) c.args.src.now c.args.replication c.in-Err.fault h.excused
