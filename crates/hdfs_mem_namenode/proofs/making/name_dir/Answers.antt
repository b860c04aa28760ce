-- The directory is put first, and taken away again where one above it can't be made.
use Rattle.std.proofs.Common.{◌≡◌, ℕ, List, Some, None, cond, ◌∙◌, ap}
use Rattle.std.proofs.lemmas.Map.Text.{btree_map_updates_text}
use Rattle.std.specs.BTreeMap.{get_by_text}
use Rattle.std.specs.Str.{bytes_eq}
use Rattle.std.specs.String.{string_bytes}
use Rattle.hdfs_cluster.specs.declared.picture.Entry.TheVariants as entries
use Rattle.hdfs_mem_namenode.proofs.Directories.{made_around, undone}
use Rattle.hdfs_mem_namenode.proofs.making.name_dir.Goals as goal

pub returns-in-Ok-clause-ok : goal.returns-in-Ok-clause-ok
returns-in-Ok-clause-ok c = λ q.
    let names = get_by_text c.args.names.now in
    let key = string_bytes c.in_ok-from_str.field-0 in
    let same : key ≡ c.args.src.now = c.in_ok-from_str.ensures.ok in
    let now = λ (q : List ℕ). btree_map_updates_text key c.args.names.now c.insert.new.self (Some entries.Dir) c.in_ok-insert.ensures.updates q ∙ ap (λ (k : List ℕ). cond (bytes_eq k q) (Some entries.Dir) (names q)) same in
    c.in-Ok.ensures.ok q ∙ made_around entries.Dir entries.Dir names (get_by_text c.insert.new.self) c.args.src.now now q

pub returns-in-Err-clause-err : goal.returns-in-Err-clause-err
returns-in-Err-clause-err c =
    let names = get_by_text c.args.names.now in
    let key = string_bytes c.in_ok-from_str.field-0 in
    let same : key ≡ c.args.src.now = c.in_ok-from_str.ensures.ok in
    let now = λ (q : List ℕ). btree_map_updates_text key c.args.names.now c.insert.new.self (Some entries.Dir) c.in_ok-insert.ensures.updates q ∙ ap (λ (k : List ℕ). cond (bytes_eq k q) (Some entries.Dir) (names q)) same in
    undone entries.Dir names (get_by_text c.make_parents.new.names) (get_by_text c.remove.new.self) c.args.src.now c.requires (λ q. c.in-Err.ensures.err q ∙ now q)
    (btree_map_updates_text c.args.src.now c.make_parents.new.names c.remove.new.self None c.remove.ensures.updates)
