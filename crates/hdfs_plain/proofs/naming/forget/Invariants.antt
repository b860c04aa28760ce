use Rattle.std.proofs.Common.{◌≡◌, ℕ, List, cond, None, take}
use Rattle.std.specs.BTreeMap.{get_by_text}
use Rattle.std.specs.List.{list_any}
use Rattle.std.specs.Str.{bytes_eq}
use Rattle.hdfs_plain.proofs.naming.forget.Given as goal

abbrev pub invariant-loop-path : goal.invariant-loop-path
invariant-loop-path g l = (q : List ℕ) → get_by_text l.map q ≡ cond (list_any (bytes_eq q) (take l.path-index l.paths)) None (get_by_text l.fn.map q)
