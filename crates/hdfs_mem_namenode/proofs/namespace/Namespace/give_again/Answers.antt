-- The other files' blocks keep their length.
use Rattle.std.proofs.Common.{◌≡◌, ℕ, List, true, is_none, sym, ◌∙◌, ap}
use Rattle.std.specs.BTreeMap.{get_by_text}
use Rattle.hdfs_cluster.specs.Effects.{with_length}
use Rattle.hdfs_mem_namenode.specs.Memory.{table_of, is_kth_at, is_length}
use Rattle.hdfs_mem_namenode.specs.Totals.{is_counted}
use Rattle.hdfs_mem_namenode.proofs.Naming.{Sound}
use Rattle.hdfs_mem_namenode.proofs.NewFiles.{names_same, total_same}
use Rattle.hdfs_mem_namenode.proofs.FileChanges.{sound_changed, apart_own, apart_other, length_other, length_none, same_file}
use Rattle.hdfs_mem_namenode.proofs.Sums.{counted_changed, room_at, set_here, set_there}
use Rattle.hdfs_mem_namenode.proofs.namespace.Namespace.give_again.Goals as goal

pub set_total-requires : goal.set_total-requires
set_total-requires c =
    let old = c.args.self.now in
    room_at (get_by_text old.names) (table_of old.table.entries) (get_by_text old.totals) old.counted c.args.src.now c.requires.file c.requires.is

pub invariant_of-self : goal.invariant_of-self
invariant_of-self c =
    let old = c.args.self.now in
    let names = get_by_text old.names in
    let table = table_of old.table.entries in
    let table' = table_of c.set_length.new.table.entries in
    let totals = get_by_text old.totals in
    let totals' = get_by_text c.set_total.new.totals in
    let src = c.args.src.now in
    let previous = c.args.previous.now in
    let can = c.requires in
    let file = can.file in
    let sound : Sound names table = record { rooted = old.rooted; placed = old.placed; sized = old.sized; apart = old.apart } in
    let others = λ (q : List ℕ) (k id : ℕ) (other : src ≡ q → ⊥) (here : is_kth_at names q k id ≡ true). c.set_length.ensures id ∙ length_other names table table' src file file sound can.is previous can.has q k id other here in
    let same = total_same (with_length table previous) table' file.blocks (λ k id here. c.set_length.ensures id) in
    let kept = sound_changed names table table' src file file sound can.is others (ap is_length same ∙ can.sized)
    (apart_other names table table' src file file sound can.is) (apart_own names table table' src file file sound can.is) in
    let now = λ (q : List ℕ). sym (same_file names src file can.is q) in
    let new = names_same _ names now (λ names. Sound names table') kept in
    record {
      rooted = new.rooted;
      placed = new.placed;
      sized = new.sized;
      counted = names_same _ names now (λ names. (q : List ℕ) → is_counted table' (names q) (totals' q) ≡ true)
          (counted_changed names table table' totals totals' src file old.counted others c.args.sum (same ∙ can.sums)
          (set_here totals totals' src c.args.sum c.set_total.ensures) (set_there totals totals' src c.args.sum c.set_total.ensures));
      apart = new.apart;
      bare = old.bare;
      more = old.more;
      numbered = λ id behind. ap is_none (c.set_length.ensures id) ∙ length_none table previous id (old.numbered id behind);
    }
