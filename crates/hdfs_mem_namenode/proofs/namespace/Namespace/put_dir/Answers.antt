-- Directories keep the tree, and the blocks of all files.
use Rattle.std.proofs.Common.{◌≡◌, ℕ, List, true, sym}
use Rattle.std.proofs.lemmas.Bool.{false≢true}
use Rattle.std.specs.BTreeMap.{get_by_text}
use Rattle.hdfs_names.specs.Paths.{root}
use Rattle.hdfs_mem_namenode.specs.Memory.{table_of, is_dir, is_placed, is_sized, AreApart, IsBare}
use Rattle.hdfs_mem_namenode.specs.Totals.{is_counted}
use Rattle.hdfs_mem_namenode.proofs.Naming.{Sound}
use Rattle.hdfs_mem_namenode.proofs.NewDirectories.{counted_made, made, more_made, sound_made}
use Rattle.hdfs_mem_namenode.proofs.NewFiles.{names_same}
use Rattle.hdfs_mem_namenode.proofs.namespace.Namespace.put_dir.Goals as goal

pub invariant_of-self : goal.invariant_of-self
invariant_of-self c =
    let old = c.args.self.now in
    let names = get_by_text old.names in
    let names' = get_by_text c.name_dir.new.names in
    let same = c.in_err-name_dir.ensures.err in
    record {
      rooted = names_same names names' same (λ names. is_dir (names root) ≡ true) old.rooted;
      placed = names_same names names' same (λ names. (path : List ℕ) → is_placed names path ≡ true) old.placed;
      sized = names_same names names' same (λ names. (path : List ℕ) → is_sized (table_of old.table.entries) (names path) ≡ true) old.sized;
      counted = names_same names names' same (λ names. (path : List ℕ) → is_counted (table_of old.table.entries) (names path) (get_by_text old.totals path) ≡ true) old.counted;
      apart = names_same names names' same AreApart old.apart;
      bare = λ none. names_same names names' same IsBare (old.bare none);
      more = λ grown. names_same names names' same (λ names. IsBare names → ⊥) (old.more grown);
      numbered = old.numbered;
    }

pub invariant_of-self-2 : goal.invariant_of-self-2
invariant_of-self-2 c =
    let old = c.args.self.now in
    let names = get_by_text old.names in
    let names' = get_by_text c.name_dir.new.names in
    let table = table_of old.table.entries in
    let src = c.args.src.now in
    let was : Sound names table = record { rooted = old.rooted; placed = old.placed; sized = old.sized; apart = old.apart } in
    let now = c.in_ok-name_dir.ensures.ok in
    let new = names_same (made names src) names' now (λ names. Sound names table) (sound_made names src table was c.requires.free c.requires.above c.requires.named) in
    record {
      rooted = new.rooted;
      placed = new.placed;
      sized = new.sized;
      counted = names_same (made names src) names' now (λ names. (q : List ℕ) → is_counted table (names q) (get_by_text old.totals q) ≡ true)
          (counted_made names src table was c.requires.free c.requires.above c.requires.named (get_by_text old.totals) old.counted);
      apart = new.apart;
      bare = λ none. absurd (false≢true (sym none));
      more = λ grown. names_same (made names src) names' now (λ names. IsBare names → ⊥) (more_made names src table was c.requires.free c.requires.above c.requires.named);
      numbered = old.numbered;
    }
