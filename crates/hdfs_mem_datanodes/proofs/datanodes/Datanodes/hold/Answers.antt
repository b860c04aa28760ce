-- One datanode takes the block after another.
use Rattle.std.proofs.Common.{◌≡◌, ℕ, min, List, All, refl, ◌∙◌, subst, rules, arith}
use Rattle.std.proofs.lemmas.List.Elements.{All-nil, All-weaker}
use Rattle.hdfs_mem_faults.specs.Series.{uuid_of}
use Rattle.hdfs_mem_datanodes.specs.Nodes.{held_in}
use Rattle.hdfs_mem_datanodes.specs.Uuids.{lowest}
use Rattle.hdfs_mem_datanodes.proofs.Lowest.{lowest_all, still_held}
use Rattle.hdfs_mem_datanodes.proofs.Pipelines.{same_nodes_refl, same_nodes_trans}
use Rattle.hdfs_mem_datanodes.proofs.datanodes.Datanodes.hold.Goals as goal

pub loop-number-init : goal.loop-number-init
loop-number-init c = record {
  held = All-nil (λ node. held_in c.args.self.now node c.args.block ≡ c.args.bytes.now);
  others = λ d other apart. refl;
  links = λ d other link. refl;
  rest = same_nodes_refl c.args.self.now;
}

pub loop-number-preserved : goal.loop-number-preserved
loop-number-preserved c =
    let was = c.loop-number.invariant in
    let now = c.loop-number.self in
    let new = c.hold_on.new.self in
    let block = c.args.block in
    let bytes = c.args.bytes.now in
    let number = c.loop-number.number in
    let shared : c.in_ok-clone.field-0 ≡ bytes = search rules in
    let uuid : c.as_str.result.now ≡ uuid_of number = c.as_str.ensures.value ∙ c.in_ok-uuid.ensures in
    let here : held_in new c.as_str.result.now block ≡ bytes = c.in_ok-hold_on.ensures.held ∙ shared in
    let P = λ (node : List ℕ). held_in new node block ≡ bytes in
    let still = still_held now new c.as_str.result.now block bytes here c.hold_on.ensures.nodes in
    record {
      held = lowest_all P number (All-weaker (λ node. held_in now node block ≡ bytes) P still (lowest number) was.held) (subst P uuid here);
      others = λ d other apart. c.hold_on.ensures.others d other apart ∙ was.others d other apart;
      links = λ d other link. c.hold_on.ensures.links d other link ∙ was.links d other link;
      rest = same_nodes_trans c.args.self.now now new was.rest c.hold_on.ensures.rest;
    }

pub returns-clause-held : goal.returns-clause-held
returns-clause-held c =
    let all : c.loop-number.number ≡ min c.args.most c.args.self.now.count = omega arith in
    subst (λ (n : ℕ). All (λ node. held_in c.loop-number.self node c.args.block ≡ c.args.bytes.now) (lowest n)) all c.loop-number.invariant.held
