-- One path after another is forgotten.
use Rattle.std.proofs.Common.{ℕ, cond, List, ◌∷◌, [], ◌++◌, None, take, sym, ◌∙◌, ap}
use Rattle.std.proofs.lemmas.List.{take_more}
use Rattle.std.proofs.lemmas.Map.Text.{btree_map_updates_text}
use Rattle.std.specs.BTreeMap.{get_by_text}
use Rattle.std.specs.List.{list_any}
use Rattle.std.specs.Str.{bytes_eq}
use Rattle.hdfs_mem_namenode.proofs.Removing.{forgot_push}
use Rattle.hdfs_mem_namenode.proofs.deleting.forget.Goals as goal

pub loop-key-preserved : goal.loop-key-preserved
loop-key-preserved g c = λ q.
    let map = get_by_text c.args.map.now in
    let keys = c.args.keys.now in
    let i = c.loop-key.key-index in
    let key = c.key-item.result in
    let text = c.as_str.result.now in
    btree_map_updates_text text c.loop-key.map c.remove.new.self None c.remove.ensures.updates q ∙ ap (cond (bytes_eq text q) None) (c.loop-key.invariant q)
    ∙ ap (λ (k : List ℕ). cond (bytes_eq k q) None (cond (list_any (bytes_eq q) (take i keys)) None (map q))) c.as_str.ensures
    ∙ sym (ap (λ (l : List (List ℕ)). cond (list_any (bytes_eq q) l) None (map q)) (take_more keys i key c.loop-key-test.true ∙ ap (λ (k : List ℕ). take i keys ++ k ∷ []) (sym c.key-item.is)) ∙ forgot_push map (take i keys) key q)
