use Rattle.std.proofs.Common.{◌≡◌, ◌-◌, ◌^◌, length, take, map, min}
use Rattle.hdfs_wire.specs.Frames.{joined}
use Rattle.hdfs_wire.proofs.frame.joined_len.Given as goal

abbrev pub invariant-loop-part : goal.invariant-loop-part
invariant-loop-part l = l.len ≡ min (length (joined (map (λ p. p.now) (take l.part-index l.parts)))) (2 ^ 64 - 1)
