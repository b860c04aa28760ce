-- The slashes so far.
use Rattle.std.proofs.Common.{◌≡◌, ◌≤◌, length, take}
use Rattle.std.specs.Prelude.{filter}
use Rattle.hdfs_names.specs.Paths.{is_slash}
use Rattle.hdfs_client.proofs.mounting.slashes_in.Given as goal

abbrev pub invariant-bytes : goal.invariant-bytes
invariant-bytes l = (l.slashes ≡ length (filter is_slash (take l.byte-index l.fn.text))) × (l.slashes ≤ l.byte-index)
