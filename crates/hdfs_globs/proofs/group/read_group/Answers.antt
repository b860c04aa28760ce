-- A character that ends the group, one that doesn't, and the end of the text.
use Rattle.std.proofs.Common.{arith, map}
use Rattle.hdfs_globs.proofs.GroupsRead.{rest-none}
use Rattle.hdfs_globs.proofs.group.read_group.Goals as goal

pub returns-then-branch-clause-group : goal.returns-then-branch-clause-group
returns-then-branch-clause-group c =
    let scanned = rw c.character_at-c.ensures at c.loop-at.invariant.left in
    rw (c.into_group.ensures.alternatives, c.into_group.ensures.slash, c.into_group.ensures.after) (rw c.if-branch.true at (c.in_ok-pass.ensures.passed _ _ scanned))

pub loop-at-preserved : goal.loop-at-preserved
loop-at-preserved c =
    let scanned = rw c.character_at-c.ensures at c.loop-at.invariant.left in
    record {
      left = rw c.if-branch.false at (c.in_ok-pass.ensures.passed _ _ scanned);
      shallow = omega (arith, c.in_ok-pass.ensures.depth, c.loop-at.invariant.shallow);
    }

pub returns-clause-group : goal.returns-clause-group
returns-clause-group c =
    let s = c.loop-at.scan in
    rest-none _ (map (λ a. a.items) s.alternatives.items) s.current.items s.slash s.escaped s.depth c.args.text.now c.loop-at.at c.loop-at-test.false c.loop-at.invariant.left
