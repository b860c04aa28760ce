-- Where nothing stands yet, any total may be kept.
use Rattle.std.proofs.Common.{◌≡◌, ℕ, List, sym, ◌∙◌}
use Rattle.std.specs.BTreeMap.{get_by_text}
use Rattle.std.specs.String.{string_bytes}
use Rattle.hdfs_mem_namenode.specs.Memory.{table_of}
use Rattle.hdfs_mem_namenode.proofs.Sums.{counted_absent, counted_room, set_there}
use Rattle.hdfs_mem_namenode.proofs.namespace.Namespace.add_file.Goals as goal

pub invariant_of-self : goal.invariant_of-self
invariant_of-self c =
    let old = c.args.self.now in
    record {
      rooted = old.rooted;
      placed = old.placed;
      sized = old.sized;
      counted = counted_room (get_by_text old.names) (table_of old.table.entries) (get_by_text old.totals) (get_by_text c.make_room.new.totals) old.counted c.make_room.ensures.kept;
      apart = old.apart;
      bare = old.bare;
      more = old.more;
      numbered = old.numbered;
    }

pub invariant_of-self-2 : goal.invariant_of-self-2
invariant_of-self-2 c =
    let old = c.args.self.now in
    let room = get_by_text c.make_room.new.totals in
    let totals' = get_by_text c.set_total.new.totals in
    let path = string_bytes c.args.path in
    let others = λ (q : List ℕ) (apart : path ≡ q → ⊥).
    set_there room totals' c.as_str-2.result.now c.args.sum c.set_total.ensures q (λ equal. apart (sym c.as_str-2.ensures.value ∙ equal))
    ∙ c.make_room.ensures.others q (λ equal. apart (sym c.as_str.ensures.value ∙ equal)) in
    record {
      rooted = old.rooted;
      placed = old.placed;
      sized = old.sized;
      counted = counted_absent (get_by_text old.names) (table_of old.table.entries) (get_by_text old.totals) totals' old.counted path c.requires.place.absent others;
      apart = old.apart;
      bare = old.bare;
      more = old.more;
      numbered = old.numbered;
    }
