-- A member, a backslash, a closing bracket, an opening one, and the end of the text.
use Rattle.std.proofs.Common.{sym, refl, map}
use Rattle.std.proofs.lemmas.List.{map_push}
use Rattle.hdfs_globs.specs.Patterns.{member_of}
use Rattle.hdfs_globs.proofs.SetTexts.{rest-character, rest-backslash, rest-ends, rest-begins, rest-none}
use Rattle.hdfs_globs.proofs.glob_set.set_members.Goals as goal
use Rattle.hdfs_globs.proofs.glob_set.set_members.Goals.{in-Character+in_ok-push-in-Character, in-Backslash}

pub returns-in-Ends-clause-body : goal.returns-in-Ends-clause-body
returns-in-Ends-clause-body c = rest-ends _ (map member_of c.loop-at.members.items) c.loop-at.escaped c.args.text.now c.loop-at.at c.index-text-at.result c.loop-at-test.true c.index-text-at.is c.loop-at.invariant (sym c.in-Ends.ensures)

pub returns-in-Begins-clause-body : goal.returns-in-Begins-clause-body
returns-in-Begins-clause-body c = rest-begins _ (map member_of c.loop-at.members.items) c.loop-at.escaped c.args.text.now c.loop-at.at c.index-text-at.result c.loop-at-test.true c.index-text-at.is c.loop-at.invariant (sym c.in-Begins.ensures)

pub loop-at-preserved : goal.loop-at-preserved
loop-at-preserved c = elim c.match-set_sign.branch [
  | in-Character+in_ok-push-in-Character w ↦
      rw (w.members-is, w.in_ok-push-in-Character.ensures.items, w.escaped-is, map_push) (rest-character _ (map member_of c.loop-at.members.items) c.loop-at.escaped c.args.text.now c.loop-at.at c.index-text-at.result c.loop-at-test.true c.index-text-at.is _ c.loop-at.invariant (sym w.in-Character.ensures) refl)
  | in-Backslash w ↦
      rw (w.members-is, w.escaped-is) (rest-backslash _ (map member_of c.loop-at.members.items) c.loop-at.escaped c.args.text.now c.loop-at.at c.index-text-at.result c.loop-at-test.true c.index-text-at.is c.loop-at.invariant (sym w.in-Backslash.ensures))
]

pub returns-clause-body : goal.returns-clause-body
returns-clause-body c = rest-none _ (map member_of c.loop-at.members.items) c.loop-at.escaped c.args.text.now c.loop-at.at c.loop-at-test.false c.loop-at.invariant
