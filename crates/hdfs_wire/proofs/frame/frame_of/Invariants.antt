use Rattle.std.proofs.Common.{◌≡◌, ◌++◌, take, map}
use Rattle.std.specs.Int.{w32, to_be_bytes}
use Rattle.hdfs_wire.specs.Frames.{joined}
use Rattle.hdfs_wire.proofs.frame.frame_of.Given as goal

abbrev pub invariant-loop-part : goal.invariant-loop-part
invariant-loop-part l = l.out.items ≡ to_be_bytes w32 l.len ++ joined (map (λ p. p.now) (take l.part-index l.parts))
