-- The datanode that was added, and the one beside it.
use Rattle.std.proofs.Common.{rules, ◌≡◌, ◌<◌, length, ap, arith}
use Rattle.hdfs_rebuild.specs.Replacing.{place_of}
use Rattle.hdfs_rebuild.proofs.Adding.{place_within, beside_within, gives_to_added, one_more_long}
use Rattle.hdfs_rebuild.proofs.replacing.transfer_to_added.Goals as goal

pub bounds-nodes-place : goal.bounds-nodes-place
bounds-nodes-place c =
    let is : c.place_of-place.result ≡ place_of c.args.plan.now.block.locs c.args.located.now.locs = search rules in
    let lt = place_within c.args.plan.now.block.locs c.args.located.now.locs
    (one_more_long c.args.plan.now.block.locs c.args.located.now.locs c.requires.one) in
    omega (arith, lt, is, ap length c.as_slice-nodes.ensures)

pub offset_bounds-nodes-place : goal.offset_bounds-nodes-place
offset_bounds-nodes-place c =
    let lt : c.place_of-place.result < length c.as_slice-nodes.result.now = bounds-nodes-place c in
    omega (arith, lt, c.as_slice-nodes.type_inv.1)

pub bounds-nodes-beside : goal.bounds-nodes-beside
bounds-nodes-beside c =
    let long = one_more_long c.args.plan.now.block.locs c.args.located.now.locs c.requires.one in
    let is : c.place_of-place.result ≡ place_of c.args.plan.now.block.locs c.args.located.now.locs = search rules in
    let lt = place_within c.args.plan.now.block.locs c.args.located.now.locs long in
    let near = beside_within c.place_of-place.result (length c.args.located.now.locs) (length c.args.plan.now.block.locs)
    (omega (arith, lt, is)) long c.requires.some in
    omega (arith, near, c.place_beside-beside.ensures, ap length c.as_slice-nodes.ensures)

pub offset_bounds-nodes-beside : goal.offset_bounds-nodes-beside
offset_bounds-nodes-beside c =
    let lt : c.place_beside-beside.result < length c.as_slice-nodes.result.now = bounds-nodes-beside c in
    omega (arith, lt, c.as_slice-nodes.type_inv.1)

pub returns : goal.returns
returns c =
    gives_to_added c.args.plan.now c.args.located.now c.args.client.now _ _ c.in_ok-targets.ensures c.requires.some c.requires.types
    c.requires.one c.place_of-place.result c.place_beside-beside.result (search rules) c.place_beside-beside.ensures
    (search rules) (search rules) (search rules) (search rules) (search rules) (search rules)
