-- The goals of place_of.
use Rattle.std.proofs.Common.{◌≤◌, length, drop, arith}
use Rattle.hdfs_rebuild.proofs.Choosing.{ends_short}
use Rattle.hdfs_rebuild.proofs.replacing.place_of.Goals as goal

pub returns-else-place-nodes : goal.returns-else-place-nodes
returns-else-place-nodes c =
    let past : length c.args.nodes.now ≤ c.same.place = omega (arith, c.if-place-nodes.false) in
    let none = ends_short (drop c.same.place c.args.others.now) c.args.nodes.now c.same.place past in
    omega (arith, none, c.same.invariant.parts)
