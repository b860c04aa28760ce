-- The datanodes on which the new block is listed hold nothing of it.
use Rattle.std.proofs.Common.{◌≡◌, [], All, refl, subst}
use Rattle.hdfs_cluster.proofs.Loads.{none_from_test}
use Rattle.hdfs_mem_namenode.specs.Memory.{table_of}
use Rattle.hdfs_mem_datanodes.specs.Nodes.{held_in}
use Rattle.hdfs_mem_namenode.proofs.namespace.Namespace.add_behind.Goals as goal

pub returns-clause-added : goal.returns-clause-added
returns-clause-added c =
    let old = c.args.self.now in
    let id = c.in-Some.id in
    record {
      id = id;
      entry = record { length = 0; stamp = old.next_stamp; nodes = c.args.on };
      absent = none_from_test (table_of old.table.entries id) (old.numbered id c.in-Some.ensures.0);
      empty = refl;
      on = refl;
      bare = subst (All (λ node. held_in c.args.nodes.now node id ≡ [])) c.as_slice.ensures c.in-Some.ensures.1;
      answered = c.in_ok-block.ensures.entry;
      behind = c.in_ok-list_behind.ensures.names;
      listed = c.in_ok-list_behind.ensures.table;
    }
