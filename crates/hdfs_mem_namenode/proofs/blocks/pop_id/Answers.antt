-- The file is written back, and everything else stays.
use Rattle.std.proofs.Common.{◌≡◌, Some, cond, rules, ◌∙◌, ap}
use Rattle.std.proofs.lemmas.Map.Text.{btree_map_updates_text}
use Rattle.std.specs.BTreeMap.{get_by_text}
use Rattle.std.specs.Str.{bytes_eq}
use Rattle.hdfs_cluster.specs.declared.picture.Entry.TheVariants as entries
use Rattle.hdfs_mem_namenode.proofs.blocks.pop_id.Goals as goal

pub returns-in-Some : goal.returns-in-Some
returns-in-Some c = λ file front id is last q.
    let w = c.pop_id_at.new.entry in
    let names = get_by_text c.args.names.now in
    let updates = btree_map_updates_text c.args.src.now c.args.names.now (c.get_mut.follows.lender w) (Some w) ((c.get_mut.follows.holds w).3 (search rules)) in
    let found : Some c.in-Some.entry.now ≡ Some (entries.File file) = c.in-Some.ensures.value ∙ is in
    let was : c.in-Some.entry.now ≡ entries.File file = cc (found) in
    updates q ∙ ap (λ e. cond (bytes_eq c.args.src.now q) (Some e) (names q)) (c.pop_id_at.ensures file front id was last)
