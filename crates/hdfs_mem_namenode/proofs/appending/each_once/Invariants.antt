use Rattle.std.proofs.Common.{◌≡◌, take}
use Rattle.hdfs_mem_namenode.specs.Adding.{each_once}
use Rattle.hdfs_mem_namenode.proofs.appending.each_once.Given as goal

abbrev pub invariant-loop-text : goal.invariant-loop-text
invariant-loop-text l = l.once ≡ each_once (take l.text-index l.texts)
