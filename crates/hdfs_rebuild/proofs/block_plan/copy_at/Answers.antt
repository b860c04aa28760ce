-- Each place's datanode stands behind those of the places before.
use Rattle.std.proofs.Common.{rules}
use Rattle.hdfs_rebuild.proofs.Choosing.{picked_one}
use Rattle.hdfs_rebuild.proofs.block_plan.copy_at.Goals as goal

pub loop-place-preserved : goal.loop-place-preserved
loop-place-preserved c =
    picked_one c.args.nodes.now c.args.places.now c.loop-place.place-index c.in_ok-copy.field-0 c.push.new.self c.loop-place.copied
    c.loop-place-test.true c.requires.within (search rules) c.loop-place.invariant c.in_ok-push.ensures.ok
