use Rattle.std.proofs.Common.{None, sym, ap, ◌∙◌, arith}
use Rattle.std.specs.Prelude.{is_some}
use Rattle.std.proofs.lemmas.List.{get_or_read}
use Rattle.hdfs_ec.proofs.Occupancy.{held_none, held_taken, held_skipped}
use Rattle.hdfs_ec.proofs.places.held_numbers.Goals as goal
use Rattle.hdfs_ec.proofs.places.held_numbers.Goals.{then-is_some+in_ok-push, else-is_some}

pub loop-i-init : goal.loop-i-init
loop-i-init c = c.in_ok-numbers.ensures.items ∙ sym held_none

pub loop-i-preserved : goal.loop-i-preserved
loop-i-preserved c =
    let x = get_or_read c.args.places.now c.loop-i.i c.index-places-i.result (omega arith) c.index-places-i.is None in
    elim c.if-is_some.branch [
      | then-is_some+in_ok-push w ↦
          held_taken c.args.places.now c.loop-i.i (omega arith) c.loop-i.numbers.items c.if-is_some.numbers.items
          (ap is_some (sym x) ∙ sym c.is_some.ensures ∙ w.if-is_some.true) c.loop-i.invariant (ap (λ v. v.items) w.numbers-is ∙ w.in_ok-push.ensures.items)
      | else-is_some w ↦
          held_skipped c.args.places.now c.loop-i.i (omega arith) c.loop-i.numbers.items c.if-is_some.numbers.items
          (ap is_some (sym x) ∙ sym c.is_some.ensures ∙ w.if-is_some.false) c.loop-i.invariant (ap (λ v. v.items) w.numbers-is)
    ]
