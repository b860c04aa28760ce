-- A backslash and a set are read at any depth.
use Rattle.hdfs_globs.proofs.glob.next_part.Goals as goal

pub returns-then-c-eq92-clause-part : goal.returns-then-c-eq92-clause-part
returns-then-c-eq92-clause-part c = c.escaped_part.ensures.part c.args.depth

pub returns-then-c-eq91-clause-part : goal.returns-then-c-eq91-clause-part
returns-then-c-eq91-clause-part c = c.in_ok-set_part.ensures.part c.args.depth
