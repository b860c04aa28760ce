-- The block keeps its length and is listed on those that hold it whole, and the other files keep theirs.
use Rattle.std.proofs.Common.{◌≡◌, ℕ, List, Some, true, refl, sym, ◌∙◌, ap, arith}
use Rattle.std.specs.BTreeMap.{get_by_text}
use Rattle.hdfs_cluster.specs.declared.picture.BlockEntry.{BlockEntry}
use Rattle.hdfs_cluster.specs.Effects.{with_block}
use Rattle.hdfs_mem_namenode.specs.Adding.{with_open, with_pipeline, with_whole}
use Rattle.hdfs_mem_namenode.specs.Memory.{table_of, is_kth, is_kth_at, is_length, is_sized, IsBare}
use Rattle.hdfs_mem_namenode.specs.Totals.{is_counted}
use Rattle.hdfs_mem_namenode.proofs.Naming.{Sound}
use Rattle.hdfs_mem_namenode.proofs.NewFiles.{names_same, more_from}
use Rattle.hdfs_mem_namenode.proofs.FileChanges.{sound_changed, more_changed, apart_own, apart_other, total_alike, relisted_length, relisted_other, relisted_none, kth_contained}
use Rattle.hdfs_mem_namenode.proofs.Sums.{counted_changed, kept_at}
use Rattle.hdfs_mem_datanodes.specs.Nodes.{held_in}
use Rattle.hdfs_mem_namenode.proofs.namespace.Namespace.reopen.Goals as goal

pub returns-clause-reopened : goal.returns-clause-reopened
returns-clause-reopened c =
    let entry = c.in-Some.entry.now in
    let found : table_of c.args.self.now.table.entries c.args.id ≡ Some entry = sym c.in-Some.ensures.value in
    let h = c.in_ok-block.ensures in
    let table = table_of c.args.self.now.table.entries in
    let held = held_in c.args.nodes.now in
    let id = c.args.id in
    let whole = c.in_ok-whole.ensures.whole in
    let same = ap (with_pipeline entry c.in-Some-stamp_above.stamp) whole ∙ ap (with_whole held id entry) (sym h.entry.stamp) in
    record {
      entry = entry;
      is = found;
      answered = record { same_id = h.entry.same_id; stamp = refl; nodes = h.entry.nodes ∙ whole };
      same_length = h.length;
      greater = omega (arith, c.in-Some-stamp_above.ensures.above, h.entry.stamp);
      opened = c.set_open.ensures;
      listed = λ b. c.set_pipeline.ensures entry found b ∙ ap (λ (e : BlockEntry). with_block table id e b) same;
    }

pub invariant_of-self : goal.invariant_of-self
invariant_of-self c =
    let old = c.args.self.now in
    let names = get_by_text old.names in
    let names' = get_by_text c.set_open.new.names in
    let table = table_of old.table.entries in
    let table' = table_of c.set_pipeline.new.table.entries in
    let src = c.args.src.now in
    let id = c.args.id in
    let entry = c.in-Some.entry.now in
    let found : table id ≡ Some entry = sym c.in-Some.ensures.value in
    let stamped = c.set_pipeline.ensures entry found in
    let entry' = with_pipeline entry c.in-Some-stamp_above.stamp c.in_ok-whole.whole in
    let file = c.requires.file in
    let is = c.requires.is in
    let at = kth_contained file.blocks id c.requires.has in
    let file' = with_open file true in
    let sound : Sound names table = record { rooted = old.rooted; placed = old.placed; sized = old.sized; apart = old.apart } in
    let now = c.set_open.ensures file is in
    let totals = get_by_text old.totals in
    let was = kept_at names table totals old.counted src file is in
    let others = λ (q : List ℕ) (k b : ℕ) (other : src ≡ q → ⊥) (here : is_kth_at names q k b ≡ true). relisted_other table table' id entry entry' refl found stamped b (λ same. apart_other names table table' src file file' sound is q at.0 k b other (ap (λ (n : ℕ). is_kth file.blocks at.0 n) (sym same) ∙ at.1) here) in
    let alike = total_alike table table' (relisted_length table table' id entry entry' refl found stamped) file.blocks in
    let kept = sound_changed names table table' src file file' sound is others (ap is_length alike ∙ sym (ap (is_sized table) is) ∙ old.sized src)
    (apart_other names table table' src file file' sound is) (apart_own names table table' src file file' sound is) in
    let new = names_same _ names' now (λ names. Sound names table') kept in
    record {
      rooted = new.rooted;
      placed = new.placed;
      sized = new.sized;
      counted = names_same _ names' now (λ names. (q : List ℕ) → is_counted table' (names q) (totals q) ≡ true)
          (counted_changed names table table' totals totals src file' old.counted others was.0 (alike ∙ was.1) was.2 (λ q other. refl));
      apart = new.apart;
      bare = λ none. absurd (more_from names src file is (old.bare none));
      more = λ grown. names_same _ names' now (λ names. IsBare names → ⊥) (more_changed names table table' src file file' sound is);
      numbered = λ b behind. relisted_none table table' id entry entry' refl found stamped b (old.numbered b behind);
    }
