-- The ended alternative joins those before it, and the places are those at which the group begins.
use Rattle.std.proofs.Common.{arith, refl, length, ◌≡◌, ◌∙◌}
use Rattle.hdfs_globs.proofs.Standing.{marks-at, marks-with, alternative-begins}
use Rattle.hdfs_globs.proofs.places.Reached.begin_alternative.Goals as goal

pub returns-in_ok-push-in-Some : goal.returns-in_ok-push-in-Some
returns-in_ok-push-in-Some c = λ n s stands.
    let v = c.in-Some.group.ended in
    let e : length c.join.new.ended ≡ v.len = omega (arith, c.join.auto.ended, c.deref_mut.ensures.len, v.ok.0) in
    alternative-begins n c.args.self.now _ c.in-Some.group c.pop.new.self.items c.in-Some.ensures.items _ c.in_ok-push-in-Some.ensures.items refl
    (λ p q before more. marks-with n v c.join.new.ended _ e (c.join.ensures n p q (marks-at n _ _ p c.deref_mut.ensures.value before) (marks-at n _ _ q c.deref.ensures.value more)))
    (c.in_ok-self-in-Some.ensures ∙ c.deref-in-Some.ensures.value)
    s stands
