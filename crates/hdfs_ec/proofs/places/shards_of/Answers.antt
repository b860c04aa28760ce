use Rattle.std.proofs.Common.{None, Some, sym, ap, ◌∙◌, arith}
use Rattle.std.proofs.lemmas.List.{get_or_read}
use Rattle.hdfs_ec.proofs.Occupancy.{shards_none, shard_taken, shard_skipped}
use Rattle.hdfs_ec.proofs.places.shards_of.Goals as goal
use Rattle.hdfs_ec.proofs.places.shards_of.Goals.{in-Some+in_ok-clone-in-Some+in_ok-push-in-Some, in-None}

pub loop-i-init : goal.loop-i-init
loop-i-init c = c.in_ok-shards.ensures.items ∙ sym shards_none

pub loop-i-preserved : goal.loop-i-preserved
loop-i-preserved c =
    let x = get_or_read c.args.places.now c.loop-i.i c.index-places-i.result (omega arith) c.index-places-i.is None in
    elim c.match-places-i.branch [
      | in-Some+in_ok-clone-in-Some+in_ok-push-in-Some w ↦
          shard_taken c.args.places.now c.loop-i.i (omega arith) c.loop-i.shards.items c.match-places-i.shards.items w.in_ok-clone-in-Some.field-0
          (sym x ∙ w.in-Some.is ∙ ap (λ s. Some s) (sym w.in_ok-clone-in-Some.ensures.cases)) c.loop-i.invariant (ap (λ v. v.items) w.shards-is ∙ w.in_ok-push-in-Some.ensures.items)
      | in-None w ↦
          shard_skipped c.args.places.now c.loop-i.i (omega arith) c.loop-i.shards.items c.match-places-i.shards.items
          (sym x ∙ w.in-None.is) c.loop-i.invariant (ap (λ v. v.items) w.shards-is)
    ]
