-- What stands at the path is written, and the others stay.
use Rattle.std.proofs.Common.{Some, rules}
use Rattle.std.proofs.lemmas.Map.Text.{btree_map_updates_text}
use Rattle.hdfs_mem_namenode.proofs.renaming.replace.Goals as goal

pub returns : goal.returns
returns c = btree_map_updates_text c.args.path.now c.args.names.now (c.get_mut.follows.lender c.args.entry) (Some c.args.entry) ((c.get_mut.follows.holds c.args.entry).3 (search rules))
