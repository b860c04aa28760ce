-- Those so far.
use Rattle.std.proofs.Common.{◌≡◌, map, string_bytes}
use Rattle.hdfs_client.proofs.globbing.picking.as_texts.Given as goal

abbrev pub invariant-loop-string : goal.invariant-loop-string
invariant-loop-string l = l.texts.items ≡ map (string_bytes) l.yielded
