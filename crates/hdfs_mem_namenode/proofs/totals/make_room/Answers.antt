-- A new total leaves those of the other paths.
use Rattle.std.proofs.Common.{◌≡◌, ℕ, false, List, Some, is_some, cond, sym, ◌∙◌, ap}
use Rattle.std.proofs.lemmas.Bool.{false≢true}
use Rattle.std.proofs.lemmas.Map.Text.{btree_map_updates_text}
use Rattle.std.specs.BTreeMap.{get_by_text}
use Rattle.std.specs.Str.{bytes_eq}
use Rattle.std.specs.String.{string_bytes}
use Rattle.hdfs_mem_namenode.proofs.Sums.{set_there}
use Rattle.hdfs_mem_namenode.proofs.totals.make_room.Goals as goal

pub returns-in_ok-insert-clause-others : goal.returns-in_ok-insert-clause-others
returns-in_ok-insert-clause-others c =
    let totals = get_by_text c.args.totals.now in
    let key = string_bytes c.in_ok-from_str.field-0 in
    let same : key ≡ c.args.path.now = c.in_ok-from_str.ensures.ok in
    let now = λ (q : List ℕ). btree_map_updates_text key c.args.totals.now c.insert.new.self (Some 0) c.in_ok-insert.ensures.updates q ∙ ap (λ (k : List ℕ). cond (bytes_eq k q) (Some 0) (totals q)) same in
    set_there totals (get_by_text c.insert.new.self) c.args.path.now 0 now

pub returns-in_ok-insert-clause-kept : goal.returns-in_ok-insert-clause-kept
returns-in_ok-insert-clause-kept c =
    let totals = get_by_text c.args.totals.now in
    let none : is_some (totals c.args.path.now) ≡ false = sym c.contains_key.ensures ∙ c.if-not-contains_key.true in
    let key = string_bytes c.in_ok-from_str.field-0 in
    let same : key ≡ c.args.path.now = c.in_ok-from_str.ensures.ok in
    let now = λ (q : List ℕ). btree_map_updates_text key c.args.totals.now c.insert.new.self (Some 0) c.in_ok-insert.ensures.updates q ∙ ap (λ (k : List ℕ). cond (bytes_eq k q) (Some 0) (totals q)) same in
    λ q there. set_there totals (get_by_text c.insert.new.self) c.args.path.now 0 now q (λ equal. false≢true (sym none ∙ ap (λ (p : List ℕ). is_some (totals p)) equal ∙ there))
