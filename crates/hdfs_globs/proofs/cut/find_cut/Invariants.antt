-- The cut of the text is that of what is left, behind what was passed.
use Rattle.std.proofs.Common.{◌≡◌, ◌≤◌, take, drop, false}
use Rattle.hdfs_globs.specs.Escapes.{ends_escaping_from}
use Rattle.hdfs_globs.specs.Expansions.{cut_from}
use Rattle.hdfs_globs.proofs.CutsRead.{led_cut}
use Rattle.hdfs_globs.proofs.cut.find_cut.Given as goal

abbrev pub invariant-loop-at : goal.invariant-loop-at
invariant-loop-at l = record {
  left : cut_from false 0 l.text ≡ led_cut (take l.at l.text) (cut_from l.escaped l.depth (drop l.at l.text));
  ending : ends_escaping_from false l.text ≡ ends_escaping_from l.escaped (drop l.at l.text);
  shallow : l.depth ≤ l.at;
}
