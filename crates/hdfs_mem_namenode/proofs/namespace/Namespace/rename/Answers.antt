-- Where nothing refuses it, a closed file stands at the first path, and the second is free in a directory.
use Rattle.std.specs.BTreeMap.{get_by_text}
use Rattle.hdfs_mem_namenode.proofs.Moving.{move_parent, move_source}
use Rattle.hdfs_mem_namenode.proofs.namespace.Namespace.rename.Goals as goal

pub move_file-requires-clause-file : goal.move_file-requires-clause-file
move_file-requires-clause-file c = (let old = c.args.self.now in move_source (get_by_text old.names) old.rooted c.args.src.now c.args.dst.now c.in_default.ensures)

pub move_file-requires-clause-parent : goal.move_file-requires-clause-parent
move_file-requires-clause-parent c = (let old = c.args.self.now in move_parent (get_by_text old.names) old.rooted c.args.src.now c.args.dst.now c.in_default.ensures)
