-- What lies on the stack and what is still to be put there is the whole.
use Rattle.std.proofs.Common.{◌≡◌, ◌++◌, map, reverse, vec_len}
use Rattle.hdfs_globs.specs.GroupScans.{shown_texts}
use Rattle.hdfs_globs.specs.Openings.{child, shown_work}
use Rattle.hdfs_globs.proofs.expand.put_alternatives.Given as goal

abbrev pub invariant-alternatives : goal.invariant-alternatives
invariant-alternatives l =
    map shown_work l.stack.items ++ reverse (map (child l.front l.back) (shown_texts l.alternatives)) ≡ map shown_work l.fn.stack.items ++ reverse (map (child l.front l.back) (shown_texts l.fn.alternatives))

abbrev pub decreases-alternatives : goal.decreases-alternatives
decreases-alternatives l = vec_len l.alternatives
