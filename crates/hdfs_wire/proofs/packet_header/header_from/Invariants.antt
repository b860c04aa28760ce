use Rattle.std.proofs.Common.{◌≡◌, drop}
use Rattle.hdfs_wire.specs.Headers.{header_from, no_header}
use Rattle.hdfs_wire.proofs.packet_header.header_from.Given as goal

abbrev pub invariant-loop-field : goal.invariant-loop-field
invariant-loop-field l = header_from l.header (drop l.field-index l.fields) ≡ header_from no_header l.fields
