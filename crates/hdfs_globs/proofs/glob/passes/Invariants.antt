-- What was reached stands for a state from which the parts that are left end as all do from the start.
use Rattle.std.proofs.Common.{◌≡◌, map, drop, length}
use Rattle.hdfs_globs.specs.Patterns.{sign_of}
use Rattle.hdfs_globs.specs.Places.{State, StandsAs, run, start}
use Rattle.hdfs_globs.proofs.glob.passes.Given as goal

abbrev pub invariant-loop-part : goal.invariant-loop-part
invariant-loop-part l =
    (s : State) × StandsAs (length l.text) l.reached s × (run l.text (map sign_of (drop l.part-index l.parts)) s ≡ run l.text (map sign_of l.parts) start)
