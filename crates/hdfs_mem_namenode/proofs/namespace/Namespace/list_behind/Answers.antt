-- The new block is behind the others, or taken out again.
use Rattle.std.proofs.Common.{◌≡◌, ℕ, Bool, true, List, Option, Some, None, cond, is_none, sym, ◌∙◌, ap, subst, arith}
use Rattle.std.proofs.Math.Path.{fun_ext}
use Rattle.std.specs.BTreeMap.{get_by_text}
use Rattle.hdfs_cluster.proofs.Loads.{none_from_test}
use Rattle.hdfs_cluster.specs.declared.picture.BlockEntry.{BlockEntry}
use Rattle.hdfs_names.specs.Paths.{root}
use Rattle.hdfs_mem_namenode.specs.Adding.{with_more}
use Rattle.hdfs_mem_namenode.specs.Memory.{table_of, is_dir, is_placed, is_sized, AreApart, IsBare}
use Rattle.hdfs_mem_namenode.specs.Totals.{is_counted}
use Rattle.hdfs_mem_namenode.proofs.Naming.{Sound}
use Rattle.hdfs_mem_namenode.proofs.NewFiles.{names_same, more_from}
use Rattle.hdfs_mem_namenode.proofs.FileChanges.{sound_behind, sums_behind, others_behind, numbered_behind, length_after, unlisted_again, more_changed}
use Rattle.hdfs_mem_namenode.proofs.Tables.{at-eqb}
use Rattle.hdfs_mem_namenode.proofs.Sums.{counted_changed, room_at, set_here, set_there}
use Rattle.hdfs_mem_namenode.proofs.namespace.Namespace.list_behind.Goals as goal

pub set_total-requires : goal.set_total-requires
set_total-requires c =
    let old = c.args.self.now in
    room_at (get_by_text old.names) (table_of old.table.entries) (get_by_text old.totals) old.counted c.args.src.now c.requires.takes.file c.requires.takes.is

pub returns-in-Ok-clause-table : goal.returns-in-Ok-clause-table
returns-in-Ok-clause-table c =
    let old = c.args.self.now in
    let names = get_by_text old.names in
    let table = table_of old.table.entries in
    let table1 = table_of c.insert.new.self.entries in
    let id = c.args.id in
    let absent : table id ≡ None = none_from_test (table id) (old.numbered id c.requires.free) in
    let sound : Sound names table = record { rooted = old.rooted; placed = old.placed; sized = old.sized; apart = old.apart } in
    let put = λ (b : ℕ). c.in_ok-insert.ensures.updates.0 b ∙ ap (λ (x : Bool). cond x (Some c.args.entry) (table b)) (at-eqb id b) in
    λ b. c.set_length.ensures b ∙ length_after names table table1 c.args.src.now c.args.previous.now c.args.sum sound c.requires.takes id c.args.entry absent put b

pub invariant_of-self-in-Ok : goal.invariant_of-self-in-Ok
invariant_of-self-in-Ok c =
    let old = c.args.self.now in
    let names = get_by_text old.names in
    let names' = get_by_text c.push_id.new.names in
    let table = table_of old.table.entries in
    let table1 = table_of c.insert.new.self.entries in
    let table' = table_of c.set_length.new.table.entries in
    let totals = get_by_text old.totals in
    let totals' = get_by_text c.set_total.new.totals in
    let src = c.args.src.now in
    let previous = c.args.previous.now in
    let id = c.args.id in
    let entry = c.args.entry in
    let can = c.requires.takes in
    let absent : table id ≡ None = none_from_test (table id) (old.numbered id c.requires.free) in
    let sound : Sound names table = record { rooted = old.rooted; placed = old.placed; sized = old.sized; apart = old.apart } in
    let put = λ (b : ℕ). c.in_ok-insert.ensures.updates.0 b ∙ ap (λ (x : Bool). cond x (Some entry) (table b)) (at-eqb id b) in
    let listed = λ (b : ℕ). c.set_length.ensures b ∙ length_after names table table1 src previous c.args.sum sound can id entry absent put b in
    let now = c.in-Ok.ensures.ok can.file can.is in
    let new = names_same _ names' now (λ names. Sound names table') (sound_behind names table table' src previous c.args.sum sound can id entry absent c.requires.empty listed) in
    record {
      rooted = new.rooted;
      placed = new.placed;
      sized = new.sized;
      counted = names_same _ names' now (λ names. (q : List ℕ) → is_counted table' (names q) (totals' q) ≡ true)
          (counted_changed names table table' totals totals' src (with_more can.file id) old.counted
          (others_behind names table table' src previous c.args.sum sound can id entry absent c.requires.empty listed)
          c.args.sum
          (sums_behind names table table' src previous c.args.sum sound can id entry absent c.requires.empty listed)
          (set_here totals totals' src c.args.sum c.set_total.ensures) (set_there totals totals' src c.args.sum c.set_total.ensures));
      apart = new.apart;
      bare = λ none. absurd (more_from names src can.file can.is (old.bare none));
      more = λ grown. names_same _ names' now (λ names. IsBare names → ⊥) (more_changed names table table' src can.file (with_more can.file id) sound can.is);
      numbered = λ b behind. numbered_behind names table table' src previous c.args.sum sound can id entry absent c.requires.empty listed b (λ same. omega (arith, behind, same, c.in-Some.ensures)) (old.numbered b (omega (arith, behind, c.requires.free, c.in-Some.ensures)));
    }

pub invariant_of-self-in-Err : goal.invariant_of-self-in-Err
invariant_of-self-in-Err c =
    let old = c.args.self.now in
    let names = get_by_text old.names in
    let names' = get_by_text c.push_id.new.names in
    let table = table_of old.table.entries in
    let table1 = table_of c.insert.new.self.entries in
    let table2 = table_of c.remove.new.self.entries in
    let id = c.args.id in
    let absent : table id ≡ None = none_from_test (table id) (old.numbered id c.requires.free) in
    let put = λ (b : ℕ). c.in_ok-insert.ensures.updates.0 b ∙ ap (λ (x : Bool). cond x (Some c.args.entry) (table b)) (at-eqb id b) in
    let back = unlisted_again table table1 table2 id c.args.entry absent put (λ b. c.remove.ensures.updates.0 b ∙ ap (λ (x : Bool). cond x None (table1 b)) (at-eqb id b)) in
    let same = c.in-Err.ensures.err in
    record {
      rooted = names_same names names' same (λ names. is_dir (names root) ≡ true) old.rooted;
      placed = names_same names names' same (λ names. (path : List ℕ) → is_placed names path ≡ true) old.placed;
      sized = names_same names names' same (λ names. (path : List ℕ) → is_sized table2 (names path) ≡ true) (subst (λ (t : ℕ → Option BlockEntry). (path : List ℕ) → is_sized t (names path) ≡ true) (sym (fun_ext back)) old.sized);
      counted = names_same names names' same (λ names. (path : List ℕ) → is_counted table2 (names path) (get_by_text old.totals path) ≡ true) (subst (λ (t : ℕ → Option BlockEntry). (path : List ℕ) → is_counted t (names path) (get_by_text old.totals path) ≡ true) (sym (fun_ext back)) old.counted);
      apart = names_same names names' same AreApart old.apart;
      bare = λ none. names_same names names' same IsBare (old.bare none);
      more = λ grown. names_same names names' same (λ names. IsBare names → ⊥) (old.more grown);
      numbered = λ b behind. ap is_none (back b) ∙ old.numbered b behind;
    }
