-- A file without blocks at its place keeps the tree, and the blocks of the others.
use Rattle.std.proofs.Common.{◌≡◌, ℕ, List, true, sym, ◌∙◌, ap}
use Rattle.std.proofs.lemmas.Bool.{false≢true}
use Rattle.std.specs.BTreeMap.{get_by_text}
use Rattle.hdfs_cluster.specs.Effects.{blocks_at, table_without}
use Rattle.hdfs_cluster.specs.Listing.{total}
use Rattle.hdfs_names.specs.Paths.{root}
use Rattle.hdfs_mem_namenode.specs.Memory.{table_of, is_dir, is_kth_at, is_placed, is_sized, AreApart, IsBare}
use Rattle.hdfs_mem_namenode.proofs.Naming.{Sound, tree_from_tests}
use Rattle.hdfs_mem_namenode.specs.Totals.{is_counted}
use Rattle.hdfs_mem_namenode.proofs.NewFiles.{names_same, not_listed, put_names, put_sound, put_numbered, put_more}
use Rattle.hdfs_mem_namenode.proofs.Sums.{counted_put, counted_room, differ, set_here, set_there}
use Rattle.hdfs_mem_namenode.proofs.namespace.Namespace.put.Goals as goal

pub invariant_of-self : goal.invariant_of-self
invariant_of-self c =
    let old = c.args.self.now in
    record {
      rooted = old.rooted;
      placed = old.placed;
      sized = old.sized;
      counted = counted_room (get_by_text old.names) (table_of old.table.entries) (get_by_text old.totals) (get_by_text c.make_room.new.totals) old.counted c.make_room.ensures.kept;
      apart = old.apart;
      bare = old.bare;
      more = old.more;
      numbered = old.numbered;
    }

pub invariant_of-self-in-Break-branch-2 : goal.invariant_of-self-in-Break-branch-2
invariant_of-self-in-Break-branch-2 c =
    let old = c.args.self.now in
    let names = get_by_text old.names in
    let names' = get_by_text c.name_file.new.names in
    let same = c.in_err-old.ensures.err in
    record {
      rooted = names_same names names' same (λ names. is_dir (names root) ≡ true) old.rooted;
      placed = names_same names names' same (λ names. (path : List ℕ) → is_placed names path ≡ true) old.placed;
      sized = names_same names names' same (λ names. (path : List ℕ) → is_sized (table_of old.table.entries) (names path) ≡ true) old.sized;
      counted = names_same names names' same (λ names. (path : List ℕ) → is_counted (table_of old.table.entries) (names path) (get_by_text c.make_room.new.totals path) ≡ true)
          (counted_room names (table_of old.table.entries) (get_by_text old.totals) (get_by_text c.make_room.new.totals) old.counted c.make_room.ensures.kept);
      apart = names_same names names' same AreApart old.apart;
      bare = λ none. names_same names names' same IsBare (old.bare none);
      more = λ grown. names_same names names' same (λ names. IsBare names → ⊥) (old.more grown);
      numbered = old.numbered;
    }

pub returns-clause-names : goal.returns-clause-names
returns-clause-names c =
    let old = c.args.self.now in
    put_names (get_by_text old.names) (get_by_text c.name_file.new.names) c.args.src.now c.args.file (tree_from_tests (get_by_text old.names) old.rooted old.placed) c.in_ok-old.ensures.new c.in_ok-old.ensures.over

pub invariant_of-self-2 : goal.invariant_of-self-2
invariant_of-self-2 c =
    let old = c.args.self.now in
    let names = get_by_text old.names in
    let names' = get_by_text c.name_file.new.names in
    let table = table_of old.table.entries in
    let table' = table_of c.unlist.new.table.entries in
    let src = c.args.src.now in
    let file = c.args.file in
    let sound : Sound names table = record { rooted = old.rooted; placed = old.placed; sized = old.sized; apart = old.apart } in
    let unlisted = λ (id : ℕ). c.unlist.ensures id ∙ ap (λ o. table_without table (blocks_at o) id) c.in_ok-old.ensures.old in
    let now = put_names names names' src file (tree_from_tests names old.rooted old.placed) c.in_ok-old.ensures.new c.in_ok-old.ensures.over in
    let kept = put_sound names table table' src file c.requires.empty sound c.requires.free c.requires.above c.requires.named unlisted in
    let new = names_same _ names' now (λ names. Sound names table') kept in
    let room = get_by_text c.make_room.new.totals in
    let totals' = get_by_text c.set_total.new.totals in
    let others = λ (q : List ℕ) (k id : ℕ) (other : src ≡ q → ⊥) (here : is_kth_at names q k id ≡ true).
    not_listed names table table' src file c.requires.empty sound c.requires.free c.requires.above c.requires.named unlisted q k id (differ src q other) here in
    record {
      rooted = new.rooted;
      placed = new.placed;
      sized = new.sized;
      counted = names_same _ names' now (λ names. (q : List ℕ) → is_counted table' (names q) (totals' q) ≡ true)
          (counted_put names table table' (get_by_text old.totals) totals' src file old.counted others 0 (ap (total table') c.requires.empty)
          (set_here room totals' src 0 c.set_total.ensures) (λ q other. set_there room totals' src 0 c.set_total.ensures q other ∙ c.make_room.ensures.others q other));
      apart = new.apart;
      bare = λ none. absurd (false≢true (sym none));
      more = λ grown. names_same _ names' now (λ names. IsBare names → ⊥) (put_more names table table' src file c.requires.empty sound c.requires.free c.requires.above c.requires.named unlisted);
      numbered = λ id behind. put_numbered names table table' src file c.requires.empty sound c.requires.free c.requires.above c.requires.named unlisted id (old.numbered id behind);
    }
