-- The total is written, and the others stay.
use Rattle.std.proofs.Common.{Some, rules}
use Rattle.std.proofs.lemmas.Map.Text.{btree_map_updates_text}
use Rattle.hdfs_mem_namenode.proofs.totals.set_total.Goals as goal

pub returns : goal.returns
returns c = btree_map_updates_text c.args.path.now c.args.totals.now (c.get_mut.follows.lender c.args.sum) (Some c.args.sum) ((c.get_mut.follows.holds c.args.sum).3 (search rules))
