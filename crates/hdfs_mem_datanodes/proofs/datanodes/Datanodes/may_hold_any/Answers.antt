-- Each of the datanodes so far holds nothing.
use Rattle.std.proofs.Common.{◌≡◌, ◌<◌, [], take, ℕ, List, All, length, ◌∙◌, subst, arith}
use Rattle.std.proofs.lemmas.List.{take_all}
use Rattle.std.proofs.lemmas.List.Elements.{All-more}
use Rattle.hdfs_mem_datanodes.specs.Nodes.{held_in}
use Rattle.hdfs_mem_datanodes.proofs.datanodes.Datanodes.may_hold_any.Goals as goal

pub loop-uuid-preserved : goal.loop-uuid-preserved
loop-uuid-preserved c =
    let uuids = c.args.uuids.now in
    let at = c.loop-uuid.uuid-index in
    let holds_none = λ (node : List ℕ). held_in c.args.self.now node c.args.block ≡ [] in
    let uuid = c.uuid-item.result in
    let within : at < length uuids = c.loop-uuid-test.true in
    All-more holds_none uuids at uuid within c.loop-uuid.invariant (subst holds_none (c.as_str.ensures ∙ c.uuid-item.is) (c.may_hold.ensures c.if-may_hold.false))

pub returns : goal.returns
returns c =
    let uuids = c.args.uuids.now in
    let at = c.loop-uuid.uuid-index in
    let holds_none = λ (node : List ℕ). held_in c.args.self.now node c.args.block ≡ [] in
    let whole : take at uuids ≡ uuids = take_all at uuids (omega (arith, c.loop-uuid-test.false)) in
    λ no. subst (All holds_none) whole c.loop-uuid.invariant
