use Rattle.std.proofs.Common.{◌≡◌, ◌++◌, map, take, drop}
use Rattle.hdfs_ec.proofs.stripes.push_row.Given as goal

abbrev pub invariant-loop-share : goal.invariant-loop-share
invariant-loop-share l = l.cells.items ≡ l.fn.cells.items ++ map (λ s. take l.cell (drop l.start s)) (take l.share-index l.shares)
