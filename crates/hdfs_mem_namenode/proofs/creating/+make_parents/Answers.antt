-- Directories are made from the path upwards, and taken away again where one can't be made.
use Rattle.std.proofs.Common.{◌≡◌, ℕ, List, Some, None, cond, sym, ◌∙◌, ap}
use Rattle.std.proofs.lemmas.Map.Text.{btree_map_updates_text}
use Rattle.std.proofs.lemmas.Result.{on_ok_weaker}
use Rattle.std.specs.BTreeMap.{get_by_text}
use Rattle.std.specs.Str.{bytes_eq}
use Rattle.std.specs.String.{string_bytes}
use Rattle.hdfs_cluster.specs.declared.picture.Entry.TheVariants as entries
use Rattle.hdfs_mem_namenode.proofs.Directories.{made_there, made_missing, undone, some_known, none_known}
use Rattle.hdfs_mem_namenode.proofs.creating.+make_parents.Goals as goal

pub returns-then-contains_key-clause-ok : goal.returns-then-contains_key-clause-ok
returns-then-contains_key-clause-ok t c =
    let names = get_by_text c.args.names.now in
    let front = c.in-Some.front.now in
    let some = some_known (names front) (sym c.contains_key.ensures ∙ c.if-contains_key.true) in
    on_ok_weaker c.make_parents.result (λ made q. made q ∙ sym (made_there entries.Dir names c.args.path.now front c.in-Some.ensures some.0 some.1 q)) c.make_parents.ensures.ok

pub returns-in-Ok-clause-ok : goal.returns-in-Ok-clause-ok
returns-in-Ok-clause-ok t c =
    let names = get_by_text c.args.names.now in
    let front = c.in-Some.front.now in
    let none = none_known (names front) (sym c.contains_key.ensures ∙ c.if-contains_key.false) in
    let key = string_bytes c.in_ok-from_str.field-0 in
    let same : key ≡ front = c.in_ok-from_str.ensures.ok in
    let now = λ (q : List ℕ). btree_map_updates_text key c.args.names.now c.insert.new.self (Some entries.Dir) c.in_ok-insert.ensures.updates q ∙ ap (λ (k : List ℕ). cond (bytes_eq k q) (Some entries.Dir) (names q)) same in
    λ q. c.in-Ok.ensures.ok q ∙ made_missing entries.Dir names c.args.path.now front c.in-Some.ensures none (get_by_text c.insert.new.self) now q

pub returns-in-Err-clause-err : goal.returns-in-Err-clause-err
returns-in-Err-clause-err t c =
    let names = get_by_text c.args.names.now in
    let front = c.in-Some.front.now in
    let none = none_known (names front) (sym c.contains_key.ensures ∙ c.if-contains_key.false) in
    let key = string_bytes c.in_ok-from_str.field-0 in
    let same : key ≡ front = c.in_ok-from_str.ensures.ok in
    let now = λ (q : List ℕ). btree_map_updates_text key c.args.names.now c.insert.new.self (Some entries.Dir) c.in_ok-insert.ensures.updates q ∙ ap (λ (k : List ℕ). cond (bytes_eq k q) (Some entries.Dir) (names q)) same in
    undone entries.Dir names (get_by_text c.make_parents-2.new.names) (get_by_text c.remove.new.self) front none (λ q. c.in-Err.ensures.err q ∙ now q)
    (btree_map_updates_text front c.make_parents-2.new.names c.remove.new.self None c.remove.ensures.updates)
