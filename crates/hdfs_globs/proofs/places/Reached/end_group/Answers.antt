-- The last alternative joins those before it, and these are the places.
use Rattle.std.proofs.Common.{arith, refl, length, ◌≡◌}
use Rattle.hdfs_globs.proofs.Standing.{marks-at, marks-with, group-ends}
use Rattle.hdfs_globs.proofs.places.Reached.end_group.Goals as goal

pub returns-in-Some : goal.returns-in-Some
returns-in-Some c = λ n s stands.
    let v = c.in-Some.group.ended in
    let e : length c.join.new.ended ≡ v.len = omega (arith, c.join.auto.ended, c.deref_mut.ensures.len, v.ok.0) in
    group-ends n c.args.self.now _ c.in-Some.group c.pop.new.self.items c.in-Some.ensures.items refl
    (λ p q before more. marks-with n v c.join.new.ended _ e (c.join.ensures n p q (marks-at n _ _ p c.deref_mut.ensures.value before) (marks-at n _ _ q c.deref.ensures.value more)))
    s stands
