-- What stands at a path is deleted, or nothing stands there, or an exception stands for what keeps it.
use Rattle.std.proofs.Common.{refl, ap}
use Rattle.std.specs.BTreeMap.{get_by_text}
use Rattle.hdfs_mem_namenode.specs.Memory.{table_of}
use Rattle.hdfs_mem_namenode.specs.Spaces.{space_with}
use Rattle.hdfs_mem_namenode.proofs.Rows.{err_kept}
use Rattle.hdfs_mem_namenode.proofs.namespace.Namespace.answer_delete.Goals as goal

pub returns-in-Ok-clause-answers : goal.returns-in-Ok-clause-answers
returns-in-Ok-clause-answers c = λ held. record { done = c.in-Ok.ensures.done; held = λ node id. refl }

pub returns-in-Err-clause-answers : goal.returns-in-Err-clause-answers
returns-in-Err-clause-answers c = λ held.
    let h = c.in-Err.ensures in
    err_kept (space_with c.args.self.now held) (space_with c.delete.new.self held)
    (record { names = λ path. ap (λ m. get_by_text m path) h.err.0; table = λ id. ap (λ t. table_of t.entries id) h.err.1; held = λ node id. refl }) c.args.src.now c.args.recursive c.in-Err.fault h.excused
