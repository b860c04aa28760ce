-- The file keeps its blocks and its total, and what is kept of all others stays.
use Rattle.std.proofs.Common.{◌≡◌, ℕ, List, true, None, cond, sym, ◌∙◌, ap}
use Rattle.std.proofs.lemmas.Bool.{false≢true}
use Rattle.std.proofs.lemmas.Map.Text.{btree_map_updates_text}
use Rattle.std.specs.BTreeMap.{get_by_text}
use Rattle.hdfs_names.specs.Paths.{root}
use Rattle.hdfs_mem_namenode.specs.Memory.{table_of, is_dir, is_placed, is_sized, AreApart, IsBare}
use Rattle.hdfs_mem_namenode.specs.Renaming.{moved}
use Rattle.hdfs_mem_namenode.specs.Totals.{is_counted}
use Rattle.hdfs_mem_namenode.proofs.Moving.{counted_moved, more_moved, sound_moved, src_apart}
use Rattle.hdfs_mem_namenode.proofs.Naming.{Sound}
use Rattle.hdfs_mem_namenode.proofs.NewFiles.{names_same}
use Rattle.hdfs_mem_namenode.proofs.Sums.{counted_room, differ, set_here, set_there}
use Rattle.hdfs_mem_namenode.proofs.namespace.Namespace.move_file.Goals as goal

pub invariant_of-self-in-Break-branch-2 : goal.invariant_of-self-in-Break-branch-2
invariant_of-self-in-Break-branch-2 c =
    let old = c.args.self.now in
    let names = get_by_text old.names in
    let names' = get_by_text c.move_name.new.names in
    let same = c.in_err-move_name.ensures.err in
    record {
      rooted = names_same names names' same (λ names. is_dir (names root) ≡ true) old.rooted;
      placed = names_same names names' same (λ names. (path : List ℕ) → is_placed names path ≡ true) old.placed;
      sized = names_same names names' same (λ names. (path : List ℕ) → is_sized (table_of old.table.entries) (names path) ≡ true) old.sized;
      counted = names_same names names' same (λ names. (path : List ℕ) → is_counted (table_of old.table.entries) (names path) (get_by_text c.make_room.new.totals path) ≡ true)
          (counted_room names (table_of old.table.entries) (get_by_text old.totals) (get_by_text c.make_room.new.totals) old.counted c.make_room.ensures.kept);
      apart = names_same names names' same AreApart old.apart;
      bare = λ none. names_same names names' same IsBare (old.bare none);
      more = λ grown. names_same names names' same (λ names. IsBare names → ⊥) (old.more grown);
      numbered = old.numbered;
    }

pub invariant_of-self-2 : goal.invariant_of-self-2
invariant_of-self-2 c =
    let old = c.args.self.now in
    let names = get_by_text old.names in
    let names' = get_by_text c.move_name.new.names in
    let table = table_of old.table.entries in
    let src = c.args.src.now in
    let dst = c.args.dst.now in
    let file = c.requires.file.0 in
    let is = c.requires.file.1 in
    let was : Sound names table = record { rooted = old.rooted; placed = old.placed; sized = old.sized; apart = old.apart } in
    let now = c.in_ok-move_name.ensures.ok in
    let new = names_same (moved names src dst) names' now (λ names. Sound names table) (sound_moved names table src dst was file is c.requires.free c.requires.parent c.requires.named) in
    let apart = src_apart names table src dst was file is c.requires.free c.requires.parent c.requires.named in
    let totals = get_by_text old.totals in
    let room = get_by_text c.make_room.new.totals in
    let set = get_by_text c.set_total.new.totals in
    let totals' = get_by_text c.remove.new.self in
    let removed = btree_map_updates_text src c.set_total.new.totals c.remove.new.self None c.remove.ensures.updates in
    let kept : totals' dst ≡ totals src =
    removed dst ∙ ap (λ b. cond b None (set dst)) (differ src dst apart) ∙ set_here room set dst c.in-Some.sum.now c.set_total.ensures ∙ c.in-Some.ensures.value in
    let others = λ (q : List ℕ) (a : src ≡ q → ⊥) (b : dst ≡ q → ⊥). removed q ∙ ap (λ b. cond b None (set q)) (differ src q a) ∙ set_there room set dst c.in-Some.sum.now c.set_total.ensures q b ∙ c.in_ok-make_room.ensures.others q b in
    record {
      rooted = new.rooted;
      placed = new.placed;
      sized = new.sized;
      counted = names_same (moved names src dst) names' now (λ names. (q : List ℕ) → is_counted table (names q) (totals' q) ≡ true)
          (counted_moved names table src dst was file is c.requires.free c.requires.parent c.requires.named totals totals' old.counted kept others);
      apart = new.apart;
      bare = λ none. absurd (false≢true (sym none));
      more = λ grown. names_same (moved names src dst) names' now (λ names. IsBare names → ⊥) (more_moved names table src dst was file is c.requires.free c.requires.parent c.requires.named);
      numbered = old.numbered;
    }
