use Rattle.std.proofs.Common.{None, sym, ap, ◌∙◌, arith}
use Rattle.std.specs.Prelude.{is_some}
use Rattle.std.proofs.lemmas.List.{get_or_read}
use Rattle.hdfs_ec.proofs.Occupancy.{empty_none, empty_taken, empty_skipped}
use Rattle.hdfs_ec.proofs.places.list_empty.Goals as goal
use Rattle.hdfs_ec.proofs.places.list_empty.Goals.{then-is_none+in_ok-push, else-is_none}

pub loop-i-init : goal.loop-i-init
loop-i-init c = c.in_ok-numbers.ensures.items ∙ sym empty_none

pub loop-i-preserved : goal.loop-i-preserved
loop-i-preserved c =
    let x = get_or_read c.args.places.now c.loop-i.i c.index-places-i.result (omega arith) c.index-places-i.is None in
    elim c.if-is_none.branch [
      | then-is_none+in_ok-push w ↦
          empty_taken c.args.places.now c.loop-i.i (omega arith) c.loop-i.numbers.items c.if-is_none.numbers.items
          (ap is_some (sym x) ∙ w.if-is_none.ensures) c.loop-i.invariant (ap (λ v. v.items) w.numbers-is ∙ w.in_ok-push.ensures.items)
      | else-is_none w ↦
          empty_skipped c.args.places.now c.loop-i.i (omega arith) c.loop-i.numbers.items c.if-is_none.numbers.items
          (ap is_some (sym x) ∙ w.if-is_none.ensures) c.loop-i.invariant (ap (λ v. v.items) w.numbers-is)
    ]
