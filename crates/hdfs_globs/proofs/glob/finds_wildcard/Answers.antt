-- An escaped character, a wildcard, any other, and the end.
use Rattle.std.proofs.Common.{sym}
use Rattle.hdfs_globs.proofs.Wildcards.{search-escaped, search-found, search-on, search-end}
use Rattle.hdfs_globs.proofs.glob.finds_wildcard.Goals as goal
use Rattle.hdfs_globs.proofs.glob.finds_wildcard.Goals.{then-escaped, else-escaped+else-is_wildcard}

pub returns-then-is_wildcard : goal.returns-then-is_wildcard
returns-then-is_wildcard c = sym (search-found _ c.args.text.now c.loop-c.escaped c.loop-c.c-index c.c-item.result c.loop-c-test.true c.c-item.is c.loop-c.invariant c.if-escaped.false (sym c.if-is_wildcard.ensures))

pub loop-c-preserved : goal.loop-c-preserved
loop-c-preserved c = elim c.if-escaped.branch [
  | then-escaped w ↦ search-escaped _ c.args.text.now c.loop-c.escaped c.loop-c.c-index c.c-item.result c.loop-c-test.true c.c-item.is c.loop-c.invariant _ w.if-escaped.true w.escaped-is
  | else-escaped+else-is_wildcard w ↦ search-on _ c.args.text.now c.loop-c.escaped c.loop-c.c-index c.c-item.result c.loop-c-test.true c.c-item.is c.loop-c.invariant _ w.if-escaped.false (sym w.if-is_wildcard.ensures) w.escaped-is
]

pub returns : goal.returns
returns c = sym (search-end _ c.args.text.now c.loop-c.escaped c.loop-c.c-index c.loop-c-test.false c.loop-c.invariant)
