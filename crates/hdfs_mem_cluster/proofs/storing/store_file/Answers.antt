-- A file at its place, whose blocks store its bytes.
use Rattle.std.proofs.Common.{◌<◌, min, arith, false, Some, refl, sym, ◌∙◌, ap, subst}
use Rattle.std.proofs.lemmas.Result.{on_ok_weaker}
use Rattle.std.specs.BTreeMap.{get_by_text}
use Rattle.std.specs.String.{string_bytes}
use Rattle.hdfs_cluster.specs.declared.picture.Entry.TheVariants as entries
use Rattle.hdfs_cluster.specs.declared.picture.FileEntry.{FileEntry}
use Rattle.hdfs_cluster.specs.Files.{Content, File}
use Rattle.hdfs_mem_namenode.specs.Adding.{KeepsBlocks, Names}
use Rattle.hdfs_mem_cluster.specs.Cutting.{IsCut}
use Rattle.hdfs_mem_namenode.specs.Memory.{table_of}
use Rattle.hdfs_mem_cluster.specs.MemShown.{picture_at}
use Rattle.hdfs_mem_datanodes.specs.Nodes.{held_in}
use Rattle.hdfs_mem_datanodes.specs.Uuids.{lowest}
use Rattle.hdfs_mem_datanodes.proofs.Lowest.{lowest_some}
use Rattle.hdfs_mem_cluster.proofs.Agreeing.{agrees_with_new, stores_in}
use Rattle.hdfs_mem_cluster.proofs.Cutting.{sized_cut, stores_cut, total_cut}
use Rattle.hdfs_mem_cluster.proofs.storing.store_file.Goals as goal

pub add_file-requires-clause-sized : goal.add_file-requires-clause-sized
add_file-requires-clause-sized c =
    sized_cut (table_of c.store_bytes.new.space.table.entries) (held_in c.store_bytes.new.nodes) (lowest (min c.args.attributes.now.replication c.args.nodes.now.count)) c.args.attributes.now.block_size c.in_ok-blocks.blocks c.args.bytes c.in_ok-blocks.ensures.cut c.requires.numbers.2

pub add_file-requires-clause-sums : goal.add_file-requires-clause-sums
add_file-requires-clause-sums c =
    total_cut (table_of c.store_bytes.new.space.table.entries) (held_in c.store_bytes.new.nodes) (lowest (min c.args.attributes.now.replication c.args.nodes.now.count)) c.args.attributes.now.block_size c.in_ok-blocks.blocks c.args.bytes c.in_ok-blocks.ensures.cut
    ∙ ap Some (sym c.len-sum.ensures.value)

pub returns-clause-files : goal.returns-clause-files
returns-clause-files c =
    let space = c.args.space.now in
    let attributes = c.args.attributes.now in
    let path = string_bytes c.args.path in
    let blocks = c.in_ok-blocks.blocks in
    let bytes = c.args.bytes in
    let file : FileEntry = record { attributes = attributes; blocks = blocks; is_open = false } in
    let content : Content = record { bytes = bytes; attributes = attributes } in
    let held = held_in c.store_bytes.new.nodes in
    let most = min attributes.replication c.args.nodes.now.count in
    let cut = subst (λ table. IsCut (table_of table.entries) held (lowest most) attributes.block_size blocks bytes) (sym c.add_file.ensures.table) c.in_ok-blocks.ensures.cut in
    let some : 0 < most = omega (arith, c.requires.numbers.1, c.args.nodes.now.some) in
    let stores = stores_cut (table_of c.add_file.new.self.table.entries) held (lowest most) attributes.block_size (lowest_some most some) blocks bytes cut in
    let kept = subst (λ table. KeepsBlocks (table_of space.table.entries) (table_of table.entries) (held_in c.args.nodes.now) held) (sym c.add_file.ensures.table) c.store_bytes.ensures.kept in
    on_ok_weaker c.add_file.result
    (λ named settings links state was.
    let p' = picture_at c.add_file.new.self c.store_bytes.new.nodes settings links in
    agrees_with_new (picture_at space c.args.nodes.now settings links) p' state path (File content) (entries.File file) was
    kept
    (subst (λ names. Names (get_by_text names) (get_by_text c.add_file.new.self.names) path (entries.File file)) c.store_bytes.ensures.names.0 named)
    (refl, refl, stores_in p' blocks bytes stores))
    c.add_file.ensures.ok

pub returns-clause-cut : goal.returns-clause-cut
returns-clause-cut c =
    let attributes = c.args.attributes.now in
    let path = string_bytes c.args.path in
    let file : FileEntry = record { attributes = attributes; blocks = c.in_ok-blocks.blocks; is_open = false } in
    let cut = subst (λ table. IsCut (table_of table.entries) (held_in c.store_bytes.new.nodes) (lowest (min attributes.replication c.args.nodes.now.count)) attributes.block_size c.in_ok-blocks.blocks c.args.bytes) (sym c.add_file.ensures.table) c.in_ok-blocks.ensures.cut in
    on_ok_weaker c.add_file.result
    (λ named. (file, subst (λ names. Names (get_by_text names) (get_by_text c.add_file.new.self.names) path (entries.File file)) c.store_bytes.ensures.names.0 named, cut))
    c.add_file.ensures.ok
