-- A wildcard stands in the text where one stands in what is left of it.
use Rattle.std.proofs.Common.{◌≡◌, drop}
use Rattle.hdfs_globs.specs.Globs.{has_wildcard, has_wildcard_from}
use Rattle.hdfs_globs.proofs.glob.finds_wildcard.Given as goal

abbrev pub invariant-loop-c : goal.invariant-loop-c
invariant-loop-c l = has_wildcard l.text ≡ has_wildcard_from l.escaped (drop l.c-index l.text)
