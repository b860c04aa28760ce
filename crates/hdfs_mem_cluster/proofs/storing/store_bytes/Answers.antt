-- Each block takes a piece of what is left.
use Rattle.std.proofs.Common.{◌≡◌, ◌<◌, ℕ, true, min, List, [], ◌∷◌, ◌++◌, length, take, drop, All, is_some, refl, sym, ◌∙◌, ap, subst}
use Rattle.std.proofs.lemmas.List.{take_min, drop_min}
use Rattle.std.specs.BTreeMap.{get_by_text}
use Rattle.hdfs_mem_namenode.specs.Adding.{AddsBlock, AreNew}
use Rattle.hdfs_mem_cluster.specs.Cutting.{IsCut}
use Rattle.hdfs_mem_namenode.specs.Memory.{table_of, is_sized}
use Rattle.hdfs_mem_datanodes.specs.Nodes.{held_in}
use Rattle.hdfs_mem_namenode.proofs.Apart.{no_kth, no_new_block}
use Rattle.hdfs_mem_datanodes.specs.Uuids.{lowest}
use Rattle.hdfs_mem_cluster.proofs.Cutting.{AreListed, cuts_all, cuts_more, keeps_refl, keeps_trans, listed_more, new_more, none_left, piece_added, some_left}
use Rattle.hdfs_mem_datanodes.proofs.Pipelines.{same_nodes_refl, same_nodes_trans}
use Rattle.hdfs_mem_cluster.proofs.storing.store_bytes.Goals as goal

pub loop-alloc-init : goal.loop-alloc-init
loop-alloc-init c =
    let names = get_by_text c.args.space.now.names in
    let t = table_of c.args.space.now.table.entries in
    let held = held_in c.args.nodes.now in
    let nodes = lowest (min c.args.attributes.now.replication c.args.nodes.now.count) in
    let none : [] ≡ c.new-ids.result = sym c.new-ids.ensures in
    record {
      cut = λ t' held' tail kept cuts. subst (λ (l : List ℕ). IsCut t' held' nodes c.args.attributes.now.block_size (l ++ tail) c.args.bytes) none cuts;
      kept = keeps_refl t held;
      new = subst (AreNew names) none (no_new_block names);
      listed = subst (AreListed t) none (λ k id is. absurd (no_kth k id is));
      names = (refl, refl);
      rest = same_nodes_refl c.args.nodes.now;
      links = λ d block link. refl;
    }

pub loop-alloc-preserved : goal.loop-alloc-preserved
loop-alloc-preserved c =
    let was = c.loop-alloc.invariant in
    let names = get_by_text c.args.space.now.names in
    let t0 = table_of c.args.space.now.table.entries in
    let held0 = held_in c.args.nodes.now in
    let t = table_of c.loop-alloc.space.table.entries in
    let held = held_in c.loop-alloc.nodes in
    let t' = table_of c.store_block.new.space.table.entries in
    let held' = held_in c.store_block.new.nodes in
    let replication = c.args.attributes.now.replication in
    let nodes = lowest (min replication c.args.nodes.now.count) in
    let same : lowest (min replication c.loop-alloc.nodes.count) ≡ nodes = ap (λ (n : ℕ). lowest (min replication n)) was.rest.count in
    let size = c.args.attributes.now.block_size in
    let left = c.loop-alloc.left in
    let ids = c.loop-alloc.ids in
    let id = c.in_ok-store_block.field-0 in
    let front = c.in_ok-front.front in
    let some : 0 < length left = some_left left (sym c.is_empty.ensures ∙ c.loop-alloc-test.true) in
    let count : c.min-count.result ≡ min size (length left) = c.min-count.ensures ∙ ap (min size) c.len.ensures.value in
    let is : front ≡ take size left = c.in_ok-front.ensures.front ∙ ap (λ (n : ℕ). take n left) count ∙ take_min size left in
    let left' : c.split_to.new.self ≡ drop size left = c.in_ok-front.ensures.rest ∙ ap (λ (n : ℕ). drop n left) count ∙ drop_min size left in
    let adds = subst (AddsBlock t t' id (length front)) same c.in_ok-store_block.ensures.added in
    let holds = subst (All (λ node. held' node id ≡ front)) same c.in_ok-store_block.ensures.held in
    let kept = c.store_block.ensures.kept in
    let piece = piece_added t t' held' nodes size id left front some is adds holds in
    let more : c.push.new.self ≡ ids ++ id ∷ [] = c.in_ok-push.ensures.ok in
    let sized = subst (λ ns. (path : List ℕ) → is_sized t (get_by_text ns path) ≡ true) was.names.0 c.loop-alloc.space.sized in
    record {
      cut = λ t'' held'' tail after cuts. subst (λ (l : List ℕ). IsCut t'' held'' nodes size (l ++ tail) c.args.bytes) (sym more)
          (cuts_more t t' held held' kept nodes size id ids left c.args.bytes piece was.cut t'' held'' tail after (subst (IsCut t'' held'' nodes size tail) left' cuts));
      kept = keeps_trans t0 t t' held0 held held' was.kept kept;
      new = subst (AreNew names) (sym more) (new_more names t t' held held' ids id was.listed adds.absent was.new sized);
      listed = subst (AreListed t') (sym more) (listed_more names t t' held held' ids id was.listed adds.absent kept (ap is_some adds.listed));
      names = (c.store_block.ensures.names.0 ∙ was.names.0, c.store_block.ensures.names.1 ∙ was.names.1);
      rest = same_nodes_trans c.args.nodes.now c.loop-alloc.nodes c.store_block.new.nodes was.rest c.store_block.ensures.rest;
      links = λ d block link. c.store_block.ensures.links d block link ∙ was.links d block link;
    }

pub returns-clause-cut : goal.returns-clause-cut
returns-clause-cut c =
    let none : c.loop-alloc.left ≡ [] = none_left c.loop-alloc.left (sym c.is_empty.ensures ∙ c.loop-alloc-test.false) in
    cuts_all (table_of c.loop-alloc.space.table.entries) (held_in c.loop-alloc.nodes) (lowest (min c.args.attributes.now.replication c.args.nodes.now.count)) c.args.attributes.now.block_size c.loop-alloc.ids c.loop-alloc.left c.args.bytes c.loop-alloc.invariant.cut none
