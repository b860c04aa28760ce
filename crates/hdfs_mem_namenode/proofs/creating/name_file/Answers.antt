-- The file is put first, and taken away again where a directory above it can't be made.
use Rattle.std.proofs.Common.{◌≡◌, ℕ, List, Some, None, cond, sym, ◌∙◌, ap}
use Rattle.std.proofs.lemmas.Map.Text.{btree_map_updates_text}
use Rattle.std.specs.BTreeMap.{get_by_text}
use Rattle.std.specs.Str.{bytes_eq}
use Rattle.std.specs.String.{string_bytes}
use Rattle.hdfs_cluster.specs.declared.picture.Entry.TheVariants as entries
use Rattle.hdfs_mem_namenode.proofs.Directories.{made_around, undone, none_known}
use Rattle.hdfs_mem_namenode.proofs.creating.name_file.Goals as goal

pub returns-then-is_some-clause-over : goal.returns-then-is_some-clause-over
returns-then-is_some-clause-over c = λ some q.
    let names = get_by_text c.args.names.now in
    let file = entries.File c.args.file in
    let key = string_bytes c.in_ok-name.name in
    let same : key ≡ c.args.src.now = c.in_ok-name.ensures.ok in
    btree_map_updates_text key c.args.names.now c.insert.new.self (Some file) c.in_ok-old.ensures.updates q ∙ ap (λ (k : List ℕ). cond (bytes_eq k q) (Some file) (names q)) same

pub returns-in-Ok-clause-new : goal.returns-in-Ok-clause-new
returns-in-Ok-clause-new c = λ none q.
    let names = get_by_text c.args.names.now in
    let file = entries.File c.args.file in
    let key = string_bytes c.in_ok-name.name in
    let same : key ≡ c.args.src.now = c.in_ok-name.ensures.ok in
    let now = λ (q : List ℕ). btree_map_updates_text key c.args.names.now c.insert.new.self (Some file) c.in_ok-old.ensures.updates q ∙ ap (λ (k : List ℕ). cond (bytes_eq k q) (Some file) (names q)) same in
    c.in-Ok.ensures.ok q ∙ made_around entries.Dir file names (get_by_text c.insert.new.self) c.args.src.now now q

pub returns-in-Err-clause-err : goal.returns-in-Err-clause-err
returns-in-Err-clause-err c =
    let names = get_by_text c.args.names.now in
    let file = entries.File c.args.file in
    let key = string_bytes c.in_ok-name.name in
    let same : key ≡ c.args.src.now = c.in_ok-name.ensures.ok in
    let old : names c.args.src.now ≡ None = sym (ap names same) ∙ sym c.in_ok-old.ensures.old ∙ none_known c.in_ok-old.old (sym c.is_some.ensures ∙ c.if-is_some.false) in
    let now = λ (q : List ℕ). btree_map_updates_text key c.args.names.now c.insert.new.self (Some file) c.in_ok-old.ensures.updates q ∙ ap (λ (k : List ℕ). cond (bytes_eq k q) (Some file) (names q)) same in
    undone file names (get_by_text c.make_parents.new.names) (get_by_text c.remove.new.self) c.args.src.now old (λ q. c.in-Err.ensures.err q ∙ now q)
    (btree_map_updates_text c.args.src.now c.make_parents.new.names c.remove.new.self None c.remove.ensures.updates)
