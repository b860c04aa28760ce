-- One block after another is taken out.
use Rattle.std.proofs.Common.{ℕ, List, cond, None, take, get_or, sym, ◌∙◌, ap}
use Rattle.std.proofs.lemmas.List.{take_more}
use Rattle.std.specs.BTreeMap.{is_at}
use Rattle.std.specs.Ordering.{nat_cmp}
use Rattle.hdfs_cluster.specs.Effects.{table_without}
use Rattle.hdfs_mem_namenode.specs.Memory.{table_of}
use Rattle.hdfs_mem_namenode.proofs.Tables.{table_without-push}
use Rattle.hdfs_mem_namenode.proofs.creating.unlist_all.Goals as goal

pub loop-id-preserved : goal.loop-id-preserved
loop-id-preserved c = λ q.
    let table = table_of c.args.table.now.entries in
    let ids = c.args.ids.now in
    let i = c.loop-id.id-index in
    let id = get_or ids i 0 in
    c.remove.ensures.updates.0 q ∙ ap (cond (is_at (nat_cmp id) q) None) (c.loop-id.invariant q)
    ∙ sym (ap (λ (l : List ℕ). table_without table l q) (take_more ids i 0 c.loop-id-test.true) ∙ table_without-push table (take i ids) id q)
