-- One line that is a fault settles it.
use Rattle.std.proofs.Common.{◌<◌, length, map, sym, ◌∙◌, ap, arith}
use Rattle.std.proofs.lemmas.List.{get_or-map, length-map}
use Rattle.std.proofs.lemmas.List.Folds.{list_any_at}
use Rattle.hdfs_mem_faults.specs.Series.{is_fault}
use Rattle.hdfs_mem_cluster.specs.Lines.{line_of}
use Rattle.hdfs_mem_cluster.proofs.responding.has_fault.Goals as goal

pub returns-then-is_fault_line : goal.returns-then-is_fault_line
returns-then-is_fault_line c =
    let lines = c.args.lines.now in
    let k = c.loop-line.line-index in
    let item = c.line-item.result in
    let within : k < length lines = c.loop-line-test.true in
    let named = get_or-map line_of lines k item (line_of item) within ∙ ap line_of (sym c.line-item.is) in
    let holds = ap is_fault named ∙ sym c.is_fault_line.ensures ∙ c.if-is_fault_line.true in
    sym (list_any_at is_fault (map line_of lines) k (line_of item) (omega (arith, length-map lines line_of, within)) holds)
