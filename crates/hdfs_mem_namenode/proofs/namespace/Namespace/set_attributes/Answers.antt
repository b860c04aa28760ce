-- The blocks stay.
use Rattle.std.proofs.Common.{◌≡◌, ℕ, List, true, refl, sym, ◌∙◌, ap}
use Rattle.std.specs.BTreeMap.{get_by_text}
use Rattle.hdfs_mem_namenode.specs.Setting.{with_attributes}
use Rattle.hdfs_mem_namenode.specs.Memory.{table_of, is_sized, IsBare}
use Rattle.hdfs_mem_namenode.specs.Totals.{is_counted}
use Rattle.hdfs_mem_namenode.proofs.Naming.{Sound}
use Rattle.hdfs_mem_namenode.proofs.NewFiles.{names_same, more_from}
use Rattle.hdfs_mem_namenode.proofs.FileChanges.{sound_changed, more_changed, apart_own, apart_other}
use Rattle.hdfs_mem_namenode.proofs.Sums.{counted_changed, kept_at}
use Rattle.hdfs_mem_namenode.proofs.namespace.Namespace.set_attributes.Goals as goal

pub invariant_of-self : goal.invariant_of-self
invariant_of-self c =
    let old = c.args.self.now in
    let names = get_by_text old.names in
    let names' = get_by_text c.put_attributes.new.names in
    let table = table_of old.table.entries in
    let src = c.args.src.now in
    let file = c.requires.0 in
    let is = c.requires.1 in
    let file' = with_attributes file c.args.attributes in
    let sound : Sound names table = record { rooted = old.rooted; placed = old.placed; sized = old.sized; apart = old.apart } in
    let totals = get_by_text old.totals in
    let was = kept_at names table totals old.counted src file is in
    let now = c.put_attributes.ensures file is in
    let kept = sound_changed names table table src file file' sound is (λ q k id other here. refl) (sym (ap (is_sized table) is) ∙ old.sized src)
    (apart_other names table table src file file' sound is) (apart_own names table table src file file' sound is) in
    let new = names_same _ names' now (λ names. Sound names table) kept in
    record {
      rooted = new.rooted;
      placed = new.placed;
      sized = new.sized;
      counted = names_same _ names' now (λ names. (q : List ℕ) → is_counted table (names q) (totals q) ≡ true)
          (counted_changed names table table totals totals src file' old.counted (λ q k id other here. refl) was.0 was.1 was.2 (λ q other. refl));
      apart = new.apart;
      bare = λ none. absurd (more_from names src file is (old.bare none));
      more = λ grown. names_same _ names' now (λ names. IsBare names → ⊥) (more_changed names table table src file file' sound is);
      numbered = old.numbered;
    }
