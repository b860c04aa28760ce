use Rattle.std.proofs.Common.{◌≡◌, false}
use Rattle.std.specs.List.{list_any}
use Rattle.std.specs.String.{string_bytes}
use Rattle.hdfs_cluster.specs.Names.{is_within}
use Rattle.hdfs_plain.proofs.files.PlainFiles.has_open_within.Given as goal

-- none so far is the path, or lies below it
abbrev pub invariant-loop-open : goal.invariant-loop-open
invariant-loop-open l = list_any (λ key. is_within l.path (string_bytes key.now)) l.yielded ≡ false
