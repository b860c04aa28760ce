-- The blocks of one file after another are taken out.
use Rattle.std.proofs.Common.{ℕ, cond, List, ◌∷◌, [], ◌++◌, None, take, sym, ◌∙◌, ap}
use Rattle.std.proofs.lemmas.List.{take_more}
use Rattle.std.specs.BTreeMap.{get_by_text}
use Rattle.hdfs_cluster.specs.Effects.{blocks_at, table_without}
use Rattle.hdfs_mem_namenode.specs.Changing.{frees}
use Rattle.hdfs_mem_namenode.specs.Memory.{table_of}
use Rattle.hdfs_mem_namenode.proofs.Removing.{freed_push}
use Rattle.hdfs_mem_namenode.proofs.deleting.unlist_files.Goals as goal

pub loop-key-preserved : goal.loop-key-preserved
loop-key-preserved c = λ id.
    let names = get_by_text c.args.names.now in
    let table = table_of c.args.table.now.entries in
    let keys = c.args.keys.now in
    let i = c.loop-key.key-index in
    let key = c.key-item.result in
    c.unlist_all.ensures id ∙ ap (λ (l : List ℕ). table_without (table_of c.loop-key.table.entries) l id) (c.blocks_of.ensures ∙ ap (λ (k : List ℕ). blocks_at (names k)) c.as_str.ensures)
    ∙ freed_push names table (table_of c.loop-key.table.entries) (take i keys) key id (c.loop-key.invariant id)
    ∙ sym (ap (λ (l : List (List ℕ)). cond (frees names l id) None (table id)) (take_more keys i key c.loop-key-test.true ∙ ap (λ (k : List ℕ). take i keys ++ k ∷ []) (sym c.key-item.is)))
