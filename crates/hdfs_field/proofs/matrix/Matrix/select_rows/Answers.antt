use Rattle.std.proofs.Common.{sym, ◌∙◌, arith}
use Rattle.hdfs_field.proofs.Selection.{keeps_none, keeps_taken, keeps_skipped, keeps_all, keeps_some}
use Rattle.hdfs_field.proofs.matrix.Matrix.select_rows.Goals as goal
use Rattle.hdfs_field.proofs.matrix.Matrix.select_rows.Goals.{then-has_number, else-has_number}

pub loop-r-init : goal.loop-r-init
loop-r-init g c = keeps_none c.args.rows.now c.args.self.now

pub loop-r-preserved : goal.loop-r-preserved
loop-r-preserved g c = elim c.if-has_number.branch [
  | then-has_number w ↦
      keeps_taken c.args.rows.now c.args.self.now c.loop-r.r c.loop-r.kept c.if-has_number.kept c.loop-r.self c.if-has_number.self c.loop-r.invariant (omega arith)
      (sym c.has_number.ensures ∙ w.if-has_number.true) w.kept-is (w.self-is ∙ w.swap_rows.ensures.swapped)
  | else-has_number w ↦
      keeps_skipped c.args.rows.now c.args.self.now c.loop-r.r c.loop-r.kept c.if-has_number.kept c.loop-r.self c.if-has_number.self c.loop-r.invariant (omega arith)
      (sym c.has_number.ensures ∙ w.if-has_number.false) w.kept-is w.self-is
]

pub truncate_rows-requires-clause-some : goal.truncate_rows-requires-clause-some
truncate_rows-requires-clause-some g c =
    keeps_some c.args.rows.now c.args.self.now c.loop-r.r c.loop-r.kept c.requires.0 c.loop-r.self c.loop-r.invariant (omega arith) c.requires.1 c.requires.2

pub returns : goal.returns
returns g c =
    c.truncate_rows.ensures ∙ keeps_all c.args.rows.now c.args.self.now c.loop-r.r c.loop-r.kept c.loop-r.self c.loop-r.invariant (omega arith)
