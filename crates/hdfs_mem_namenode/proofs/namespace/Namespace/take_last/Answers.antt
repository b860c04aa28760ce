-- The file has its last block no more, and the blocks of the other files stay.
use Rattle.std.proofs.Common.{◌≡◌, ℕ, List, true, [], ◌∙◌, sym}
use Rattle.std.specs.BTreeMap.{get_by_text}
use Rattle.hdfs_mem_namenode.specs.Adding.{with_blocks}
use Rattle.hdfs_mem_namenode.specs.Memory.{table_of, IsBare}
use Rattle.hdfs_mem_namenode.specs.Totals.{is_counted}
use Rattle.hdfs_mem_namenode.proofs.FileChanges.{more_changed}
use Rattle.hdfs_mem_namenode.proofs.GivingUp.{counted_shorter, numbered_shorter, sound_shorter}
use Rattle.hdfs_mem_namenode.proofs.Naming.{Sound}
use Rattle.hdfs_mem_namenode.proofs.NewFiles.{names_same, more_from}
use Rattle.hdfs_mem_namenode.proofs.Tables.{table_without-push}
use Rattle.hdfs_mem_namenode.proofs.namespace.Namespace.take_last.Goals as goal

pub invariant_of-self : goal.invariant_of-self
invariant_of-self c =
    let old = c.args.self.now in
    let names = get_by_text old.names in
    let names' = get_by_text c.pop_id.new.names in
    let table = table_of old.table.entries in
    let table' = table_of c.remove.new.self.entries in
    let totals = get_by_text old.totals in
    let src = c.args.src.now in
    let id = c.args.block.now.block_id in
    let file = c.requires.0 in
    let is = c.requires.1 in
    let gone = c.requires.2 in
    let sound : Sound names table = record { rooted = old.rooted; placed = old.placed; sized = old.sized; apart = old.apart } in
    let listed = λ (b : ℕ). c.remove.ensures.updates.0 b ∙ sym (table_without-push table [] id b) in
    let now = c.pop_id.ensures file gone.front id is gone.last in
    let kept = sound_shorter names table table' src file sound is gone.front id gone.last gone.entry gone.is gone.empty listed totals old.counted in
    let new = names_same _ names' now (λ names. Sound names table') kept in
    record {
      rooted = new.rooted;
      placed = new.placed;
      sized = new.sized;
      counted = names_same _ names' now (λ names. (q : List ℕ) → is_counted table' (names q) (totals q) ≡ true)
          (counted_shorter names table table' src file sound is gone.front id gone.last gone.entry gone.is gone.empty listed totals old.counted);
      apart = new.apart;
      bare = λ none. absurd (more_from names src file is (old.bare none));
      more = λ grown. names_same _ names' now (λ names. IsBare names → ⊥) (more_changed names table table' src file (with_blocks file gone.front) sound is);
      numbered = λ b behind. numbered_shorter names table table' src file sound is gone.front id gone.last gone.entry gone.is gone.empty listed b (old.numbered b behind);
    }

pub returns : goal.returns
returns c = λ file is gone. record {
  gone = gone;
  shorter = c.pop_id.ensures file gone.front c.args.block.now.block_id is gone.last;
  listed = λ b. c.remove.ensures.updates.0 b ∙ sym (table_without-push (table_of c.args.self.now.table.entries) [] c.args.block.now.block_id b);
}
