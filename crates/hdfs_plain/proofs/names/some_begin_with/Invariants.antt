use Rattle.std.proofs.Common.{◌≡◌, false, length, take}
use Rattle.std.specs.List.{list_any}
use Rattle.std.specs.Str.{bytes_eq}
use Rattle.hdfs_plain.proofs.names.some_begin_with.Given as goal

-- none so far begins so
abbrev pub invariant-loop-path : goal.invariant-loop-path
invariant-loop-path l = list_any (λ path. bytes_eq l.front (take (length l.front) path)) (take l.path-index l.paths) ≡ false
