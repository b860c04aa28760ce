use Rattle.std.proofs.Common.{None, length, take, refl, sym, ap, ◌∙◌, arith}
use Rattle.std.specs.Prelude.{is_some}
use Rattle.std.proofs.lemmas.List.{get_or_read}
use Rattle.hdfs_ec.specs.Coding.{empty_places}
use Rattle.hdfs_ec.proofs.Occupancy.{empty_none, empty_skipped}
use Rattle.hdfs_ec.proofs.Gathering.{none_from, some_empty}
use Rattle.hdfs_ec.proofs.stripes.are_held.Goals as goal

pub loop-i-init : goal.loop-i-init
loop-i-init c = ap length empty_none

pub returns-then-is_none-clause-not : goal.returns-then-is_none-clause-not
returns-then-is_none-clause-not c = λ e.
    let x = get_or_read c.args.places.now c.loop-i.i c.index-places-i.result (omega arith) c.index-places-i.is None in
    some_empty c.args.places.now c.loop-i.i (omega arith) (sym x ∙ none_from c.index-places-i.result c.if-is_none.ensures)

pub loop-i-preserved : goal.loop-i-preserved
loop-i-preserved c =
    let x = get_or_read c.args.places.now c.loop-i.i c.index-places-i.result (omega arith) c.index-places-i.is None in
    let before = empty_places (take c.loop-i.i c.args.places.now) in
    sym (ap length (empty_skipped c.args.places.now c.loop-i.i (omega arith) before before (ap is_some (sym x) ∙ c.if-is_none.ensures) refl refl)) ∙ c.loop-i.invariant
