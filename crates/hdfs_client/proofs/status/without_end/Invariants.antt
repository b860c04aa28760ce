-- What is cut off are slashes.
use Rattle.std.proofs.Common.{length}
use denote.Shadow.{shadow}
use denote.Text.{Utf8}
use Rattle.hdfs_names.proofs.Mounted.{EndsInSlashes}
use Rattle.hdfs_client.proofs.status.without_end.Given as goal

abbrev pub invariant-slashes : goal.invariant-slashes
invariant-slashes l = record { ends : EndsInSlashes l.fn.text l.cut; text : shadow (Utf8 l.cut) }

abbrev pub decreases-slashes : goal.decreases-slashes
decreases-slashes l = length l.cut
