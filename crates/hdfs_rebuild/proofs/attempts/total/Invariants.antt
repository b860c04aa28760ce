use Rattle.std.proofs.Common.{◌≡◌, ◌+◌, drop}
use Rattle.hdfs_block_reader.specs.Carrying.{total}
use Rattle.hdfs_rebuild.proofs.attempts.total.Given as goal

abbrev pub invariant-loop-packet : goal.invariant-loop-packet
invariant-loop-packet l = l.sum + total (drop l.packet-index l.packets) ≡ total l.packets
