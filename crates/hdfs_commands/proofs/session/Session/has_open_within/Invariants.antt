-- None of the paths so far is within the one that is asked for.
use Rattle.std.proofs.Common.{length}
use Rattle.hdfs_commands.proofs.OpenWithin.{NoneWithin}
use Rattle.hdfs_commands.proofs.session.Session.has_open_within.Given as goal

abbrev pub invariant-paths : goal.invariant-paths
invariant-paths l = NoneWithin l.self l.path (length l.yielded)
