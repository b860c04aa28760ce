-- What stands at its place keeps the tree, and its blocks are in the table.
use Rattle.std.proofs.Common.{◌≡◌, ℕ, true, Option, Some, List, String, sym, subst}
use Rattle.std.proofs.lemmas.Bool.{false≢true}
use Rattle.std.proofs.lemmas.Map.Text.{btree_map_updates_text}
use Rattle.std.specs.BTreeMap.{get_by_text}
use Rattle.std.specs.String.{string_bytes}
use Rattle.hdfs_cluster.specs.declared.picture.Entry.{Entry}
use Rattle.hdfs_names.specs.Paths.{root}
use Rattle.hdfs_mem_namenode.specs.Memory.{table_of, is_dir, is_placed, is_sized, AreApart, IsBare}
use Rattle.hdfs_mem_namenode.specs.Totals.{is_counted}
use Rattle.hdfs_mem_namenode.proofs.Naming.{sound_with, more_with, look}
use Rattle.hdfs_mem_namenode.proofs.Sums.{counted_with}
use Rattle.hdfs_mem_namenode.proofs.namespace.Namespace.add.Goals as goal

-- what holds of the names holds of these where nothing was put in
unchanged : {A : Type 0} (es es' : List (String A × Entry)) → es' ≡ es → (P : (List ℕ → Option Entry) → Type 0) → P (look es) → P (look es')
unchanged es es' is P was = subst (λ l. P (look l)) (sym is) was

pub invariant_of-self : goal.invariant_of-self
invariant_of-self c =
    let old = c.args.self.now in
    let es = old.names.entries in
    let es' = c.insert.new.self.entries in
    let is = c.in_err-insert.ensures.err in
    record {
      rooted = unchanged es es' is (λ names. is_dir (names root) ≡ true) old.rooted;
      placed = unchanged es es' is (λ names. (path : List ℕ) → is_placed names path ≡ true) old.placed;
      sized = unchanged es es' is (λ names. (path : List ℕ) → is_sized (table_of old.table.entries) (names path) ≡ true) old.sized;
      counted = unchanged es es' is (λ names. (path : List ℕ) → is_counted (table_of old.table.entries) (names path) (get_by_text old.totals path) ≡ true) old.counted;
      apart = unchanged es es' is AreApart old.apart;
      bare = λ none. unchanged es es' is IsBare (old.bare none);
      more = λ grown. unchanged es es' is (λ names. IsBare names → ⊥) (old.more grown);
      numbered = old.numbered;
    }

pub invariant_of-self-2 : goal.invariant_of-self-2
invariant_of-self-2 c =
    let old = c.args.self.now in
    let now = btree_map_updates_text (string_bytes c.args.path) old.names c.insert.new.self (Some c.args.entry) c.in_ok-insert.ensures.updates in
    let sound = sound_with (get_by_text old.names) (get_by_text c.insert.new.self) (table_of old.table.entries) (string_bytes c.args.path) c.args.entry now (record { rooted = old.rooted; placed = old.placed; sized = old.sized; apart = old.apart }) c.requires.place c.requires.sized c.requires.new in
    record {
      rooted = sound.rooted;
      placed = sound.placed;
      sized = sound.sized;
      counted = counted_with (get_by_text old.names) (get_by_text c.insert.new.self) (table_of old.table.entries) (get_by_text old.totals) (string_bytes c.args.path) c.args.entry now c.requires.counted old.counted;
      apart = sound.apart;
      bare = λ none. absurd (false≢true (sym none));
      more = λ grown. more_with (get_by_text old.names) (get_by_text c.insert.new.self) (table_of old.table.entries) (string_bytes c.args.path) c.args.entry now old.rooted c.requires.place.absent;
      numbered = old.numbered;
    }

pub returns-clause-ok : goal.returns-clause-ok
returns-clause-ok c = btree_map_updates_text (string_bytes c.args.path) c.args.self.now.names c.insert.new.self (Some c.args.entry) c.in_ok-insert.ensures.updates
