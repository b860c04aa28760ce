-- A part more, no sign, and the end of the text within a group or not.
use Rattle.std.proofs.Common.{ap, ◌∙◌, arith, map}
use Rattle.std.proofs.lemmas.List.{map_push}
use Rattle.hdfs_globs.specs.Patterns.{sign_of}
use Rattle.hdfs_globs.proofs.SignsRead.{turn-some, turn-none, all-open, all-closed}
use Rattle.hdfs_globs.proofs.glob.read_parts.Goals as goal

pub parts-preserved : goal.parts-preserved
parts-preserved c =
    let some = rw c.in-Some.is at c.in_ok-next.ensures.part in
    let within = rw c.in-Some.is at c.in_ok-next.ensures.within in
    record {
      within = within.1;
      shallow = omega (arith, c.depth_behind-depth.ensures.bound, within.0);
      left = rw c.depth_behind-depth.ensures.depth (turn-some _ (map sign_of c.parts.parts.items) _ c.args.text.now c.parts.at c.parts.depth c.in-Some.next.taken (sign_of c.in-Some.next.part) c.parts-test.true within.0 some (ap (map sign_of) c.in_ok-push-in-Some.ensures.items ∙ map_push sign_of c.parts.parts.items c.in-Some.next.part) c.parts.invariant.left);
    }

pub returns-in-None : goal.returns-in-None
returns-in-None c = turn-none _ (map sign_of c.parts.parts.items) c.args.text.now c.parts.at c.parts.depth c.parts-test.true (rw c.in-None.is at c.in_ok-next.ensures.part) c.parts.invariant.left

pub returns-then-depth-gt0 : goal.returns-then-depth-gt0
returns-then-depth-gt0 c = all-open _ (map sign_of c.parts.parts.items) c.args.text.now c.parts.at c.parts.depth c.parts-test.false (c.if-depth-gt0.true) c.parts.invariant.left

pub returns : goal.returns
returns c = all-closed _ (map sign_of c.parts.parts.items) c.args.text.now c.parts.at c.parts.depth c.parts-test.false (omega arith) c.parts.invariant.left
