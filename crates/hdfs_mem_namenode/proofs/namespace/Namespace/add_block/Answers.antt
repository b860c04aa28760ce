-- The new block is listed at an id that had none, and none is taken behind it.
use Rattle.std.proofs.Common.{◌≡◌, ◌≢◌, ℕ, None, is_none, ◌∙◌, ap, arith}
use Rattle.hdfs_cluster.proofs.Loads.{none_from_test}
use Rattle.std.specs.BTreeMap.{get_by_text}
use Rattle.hdfs_mem_namenode.specs.Memory.{table_of}
use Rattle.hdfs_mem_namenode.proofs.Numbers.{is_at_other}
use Rattle.hdfs_mem_namenode.proofs.Sizing.{sized_kept, keeps_others}
use Rattle.hdfs_mem_namenode.proofs.Sums.{counted_kept}
use Rattle.hdfs_mem_namenode.proofs.namespace.Namespace.add_block.Goals as goal

pub invariant_of-self-2 : goal.invariant_of-self-2
invariant_of-self-2 c =
    let old = c.args.self.now in
    let t = table_of old.table.entries in
    let t' = table_of c.insert.new.self.entries in
    let id = old.next_block in
    let updates = c.in_ok-insert.ensures.updates in
    let absent : t id ≡ None = none_from_test (t id) (old.numbered id (omega arith)) in
    let others : (other : ℕ) → other ≢ id → t' other ≡ t other = λ other apart. updates.2 other (is_at_other id other apart) in
    record {
      rooted = old.rooted;
      placed = old.placed;
      sized = λ path. sized_kept t t' (keeps_others t t' id absent others) (get_by_text old.names path) (old.sized path);
      counted = λ path. counted_kept t t' (keeps_others t t' id absent others) (get_by_text old.names path) (get_by_text old.totals path) (old.counted path);
      apart = old.apart;
      bare = old.bare;
      more = old.more;
      numbered = λ other behind. (let apart : other ≢ id = omega arith in ap is_none (others other apart) ∙ old.numbered other (omega arith));
    }
