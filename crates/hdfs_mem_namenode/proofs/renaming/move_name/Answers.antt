-- The new place is taken, the old one is left, and what stood there is put back.
use Rattle.std.proofs.Common.{◌≡◌, ℕ, List, Some, None, cond, is_some, refl, sym, ◌∙◌, ap}
use Rattle.std.proofs.lemmas.Bool.{false≢true}
use Rattle.std.proofs.lemmas.Map.Text.{btree_map_updates_text}
use Rattle.std.specs.BTreeMap.{get_by_text}
use Rattle.std.specs.Str.{bytes_eq}
use Rattle.std.specs.String.{string_bytes}
use Rattle.hdfs_cluster.specs.declared.picture.Entry.TheVariants as entries
use Rattle.hdfs_mem_namenode.proofs.Moving.{left_place, moved_back, put_source}
use Rattle.hdfs_mem_namenode.proofs.renaming.move_name.Goals as goal

pub unreachable-requires : goal.unreachable-requires
unreachable-requires c =
    let names = get_by_text c.args.names.now in
    let key = string_bytes c.in_ok-from_str.field-0 in
    let same : key ≡ c.args.dst.now = c.in_ok-from_str.ensures.ok in
    let puts = λ (q : List ℕ). btree_map_updates_text key c.args.names.now c.insert.new.self (Some entries.Dir) c.in_ok-insert.ensures.updates q ∙ ap (λ (k : List ℕ). cond (bytes_eq k q) (Some entries.Dir) (names q)) same in
    let put = get_by_text c.insert.new.self in
    let source = put_source names put (λ q. cond (bytes_eq c.args.src.now q) None (put q)) put c.args.src.now c.args.dst.now entries.Dir c.requires.there c.requires.free puts (λ q. refl) in
    let none : put c.args.src.now ≡ None = sym c.remove.ensures.value ∙ c.in_default.is in
    false≢true (ap is_some (sym none ∙ source) ∙ c.requires.there)

pub replace-requires : goal.replace-requires
replace-requires c =
    let names = get_by_text c.args.names.now in
    let key = string_bytes c.in_ok-from_str.field-0 in
    let same : key ≡ c.args.dst.now = c.in_ok-from_str.ensures.ok in
    let puts = λ (q : List ℕ). btree_map_updates_text key c.args.names.now c.insert.new.self (Some entries.Dir) c.in_ok-insert.ensures.updates q ∙ ap (λ (k : List ℕ). cond (bytes_eq k q) (Some entries.Dir) (names q)) same in
    let leaves = btree_map_updates_text c.args.src.now c.insert.new.self c.remove.new.self None c.remove.ensures.updates in
    left_place names (get_by_text c.insert.new.self) (get_by_text c.remove.new.self) (get_by_text c.remove.new.self) c.args.src.now c.args.dst.now entries.Dir c.requires.there c.requires.free puts leaves

pub returns-clause-ok : goal.returns-clause-ok
returns-clause-ok c =
    let names = get_by_text c.args.names.now in
    let key = string_bytes c.in_ok-from_str.field-0 in
    let same : key ≡ c.args.dst.now = c.in_ok-from_str.ensures.ok in
    let puts = λ (q : List ℕ). btree_map_updates_text key c.args.names.now c.insert.new.self (Some entries.Dir) c.in_ok-insert.ensures.updates q ∙ ap (λ (k : List ℕ). cond (bytes_eq k q) (Some entries.Dir) (names q)) same in
    let leaves = btree_map_updates_text c.args.src.now c.insert.new.self c.remove.new.self None c.remove.ensures.updates in
    moved_back names (get_by_text c.insert.new.self) (get_by_text c.remove.new.self) (get_by_text c.replace.new.names) c.args.src.now c.args.dst.now entries.Dir c.requires.there c.requires.free puts leaves
    c.in-Some.entry (sym c.in-Some.is ∙ c.remove.ensures.value) c.replace.ensures
