-- One path after another is let go of.
use Rattle.std.proofs.Common.{◌≡◌, ℕ, cond, List, ◌∷◌, [], ◌++◌, None, take, sym, ◌∙◌, ap}
use Rattle.std.proofs.lemmas.List.{take_more}
use Rattle.std.proofs.lemmas.Map.Text.{btree_map_updates_text}
use Rattle.std.specs.BTreeMap.{get_by_text}
use Rattle.std.specs.List.{list_any}
use Rattle.std.specs.Str.{bytes_eq}
use Rattle.hdfs_plain.proofs.Keyed.{gone_push}
use Rattle.hdfs_plain.proofs.naming.forget.Goals as goal

pub loop-path-preserved : goal.loop-path-preserved
loop-path-preserved g c = λ q.
    let map = get_by_text c.args.map.now in
    let paths = c.args.paths.now in
    let i = c.loop-path.path-index in
    let path = c.path-item.result in
    let text = c.as_str.result.now in
    btree_map_updates_text text c.loop-path.map c.remove.new.self None c.remove.ensures.updates q ∙ ap (cond (bytes_eq text q) None) (c.loop-path.invariant q)
    ∙ ap (λ (k : List ℕ). cond (bytes_eq k q) None (cond (list_any (bytes_eq q) (take i paths)) None (map q))) c.as_str.ensures
    ∙ sym (ap (λ (l : List (List ℕ)). cond (list_any (bytes_eq q) l) None (map q)) (take_more paths i path c.loop-path-test.true ∙ ap (λ (k : List ℕ). take i paths ++ k ∷ []) (sym c.path-item.is)) ∙ gone_push map (take i paths) path q)
