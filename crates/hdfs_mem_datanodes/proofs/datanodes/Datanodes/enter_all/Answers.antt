-- Each datanode answers what it held before.
use Rattle.std.proofs.Common.{◌≡◌, ◌<◌, ◌+◌, ℕ, true, List, [], ◌∷◌, ◌++◌, map, length, take, sym, ◌∙◌, ap, subst, arith}
use Rattle.std.proofs.lemmas.List.{map-append, take_more}
use Rattle.hdfs_cluster.specs.declared.messages.DatanodeInfo.{DatanodeInfo}
use Rattle.hdfs_mem_datanodes.specs.Nodes.{held_in, undisturbed_in}
use Rattle.hdfs_mem_datanodes.proofs.Pipelines.{named_cases, same_nodes_trans}
use Rattle.hdfs_mem_datanodes.proofs.datanodes.Datanodes.enter_all.Goals as goal

pub loop-node-preserved : goal.loop-node-preserved
loop-node-preserved c =
    let was = c.loop-node.invariant in
    let old = c.args.self.now in
    let now = c.loop-node.self in
    let new = c.enter.new.self in
    let block = c.args.block in
    let link = c.args.link in
    let locs = c.args.locs.now in
    let i = c.loop-node.node-index in
    let node = c.node-item.result in
    let within : i < length locs = omega arith in
    let holds = λ (n : DatanodeInfo). held_in old n.id.datanode_uuid block in
    let value : c.in_ok-enter.field-0 ≡ holds node = c.in_ok-enter.ensures.value ∙ was.bytes c.as_str.result.now block ∙ ap (λ (u : List ℕ). held_in old u block) c.as_str.ensures in
    let more : take (i + 1) locs ≡ take i locs ++ node ∷ [] = take_more locs i node within ∙ ap (λ (n : DatanodeInfo). take i locs ++ n ∷ []) (sym c.node-item.is) in
    record {
      base = c.in_ok-push.ensures.items
          ∙ ap (λ (bs : List (List ℕ)). bs ++ c.in_ok-enter.field-0 ∷ []) was.base
          ∙ ap (λ (bs : List ℕ). map holds (take i locs) ++ bs ∷ []) value
          ∙ sym (map-append holds (take i locs) (node ∷ []))
          ∙ ap (map holds) (sym more);
      entered = λ d. named_cases locs i node c.node-item.is within (undisturbed_in new d block link ≡ true) d
          (λ same. subst (λ (u : List ℕ). undisturbed_in new u block link ≡ true) (c.as_str.ensures ∙ sym same) c.in_ok-enter.ensures.own)
          (λ apart before. c.enter.ensures.kept d block (was.entered d before));
      others = λ d b other apart. c.enter.ensures.others d b other apart ∙ was.others d b other apart;
      bytes = λ d b. c.enter.ensures.bytes d b ∙ was.bytes d b;
      rest = same_nodes_trans old now new was.rest c.enter.ensures.rest;
    }
