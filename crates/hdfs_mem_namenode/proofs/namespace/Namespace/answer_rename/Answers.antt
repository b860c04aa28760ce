-- A file moves, or an exception stands for what refuses that.
use Rattle.std.proofs.Common.{refl, ap}
use Rattle.hdfs_mem_namenode.specs.Memory.{table_of}
use Rattle.hdfs_mem_namenode.specs.Spaces.{space_with}
use Rattle.hdfs_mem_namenode.proofs.Rows.{err_moved}
use Rattle.hdfs_mem_namenode.proofs.namespace.Namespace.answer_rename.Goals as goal

pub returns-in-Ok-clause-answers : goal.returns-in-Ok-clause-answers
returns-in-Ok-clause-answers c = λ held.
    let h = c.in-Ok.ensures in
    record { may = h.allowed; named = h.names; blocks = record { table = λ id. ap (λ t. table_of t.entries id) h.table; held = λ node id. refl } }

pub returns-in-Err-clause-answers : goal.returns-in-Err-clause-answers
returns-in-Err-clause-answers c = λ held.
    let h = c.in-Err.ensures in
    err_moved (space_with c.args.self.now held) (space_with c.rename.new.self held) (record { names = h.err; table = λ id. ap (λ t. table_of t.entries id) h.table; held = λ node id. refl })
    c.args.src.now c.args.dst.now c.args.overwrite_dest c.in-Err.fault h.excused
