-- The block keeps its length.
use Rattle.std.proofs.Common.{refl, sym, ◌∙◌}
use Rattle.std.specs.BTreeMap.{get_by_text}
use Rattle.hdfs_mem_namenode.specs.Adding.{with_pipeline}
use Rattle.hdfs_mem_namenode.specs.Memory.{table_of}
use Rattle.hdfs_mem_namenode.proofs.Directories.{some_known}
use Rattle.hdfs_mem_namenode.proofs.FileChanges.{relisted_length, relisted_none, sized_alike}
use Rattle.hdfs_mem_namenode.proofs.Sums.{counted_alike}
use Rattle.hdfs_mem_namenode.proofs.namespace.Namespace.update_pipeline.Goals as goal

pub invariant_of-self : goal.invariant_of-self
invariant_of-self c =
    let old = c.args.self.now in
    let names = get_by_text old.names in
    let totals = get_by_text old.totals in
    let table = table_of old.table.entries in
    let table' = table_of c.set_pipeline.new.table.entries in
    let id = c.args.old_block.now.block_id in
    let known = some_known (table id) (sym c.contains_key.ensures ∙ c.if-not-contains_key.false) in
    let entry' = with_pipeline known.0 c.args.new_block.now.generation_stamp c.in_ok-nodes.nodes in
    let listed = c.set_pipeline.ensures known.0 known.1 in
    let alike = relisted_length table table' id known.0 entry' refl known.1 listed in
    record {
      rooted = old.rooted;
      placed = old.placed;
      sized = λ path. sized_alike table table' alike (names path) (old.sized path);
      counted = λ path. counted_alike table table' alike (names path) (totals path) (old.counted path);
      apart = old.apart;
      bare = old.bare;
      more = old.more;
      numbered = λ b behind. relisted_none table table' id known.0 entry' refl known.1 listed b (old.numbered b behind);
    }
