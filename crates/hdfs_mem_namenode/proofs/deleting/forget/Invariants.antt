use Rattle.std.proofs.Common.{◌≡◌, ℕ, List, cond, None, take}
use Rattle.std.specs.BTreeMap.{get_by_text}
use Rattle.std.specs.List.{list_any}
use Rattle.std.specs.Str.{bytes_eq}
use Rattle.hdfs_mem_namenode.proofs.deleting.forget.Given as goal

abbrev pub invariant-loop-key : goal.invariant-loop-key
invariant-loop-key g l = (q : List ℕ) → get_by_text l.map q ≡ cond (list_any (bytes_eq q) (take l.key-index l.keys)) None (get_by_text l.fn.map q)
