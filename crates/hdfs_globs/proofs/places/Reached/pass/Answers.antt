-- A character and a star move the marks; groups stay open.
use Rattle.std.proofs.Common.{arith, length, ◌≡◌}
use Rattle.hdfs_globs.proofs.Standing.{marks-at, marks-with}
use Rattle.hdfs_globs.proofs.places.Reached.pass.Goals as goal

pub returns-in-One : goal.returns-in-One
returns-in-One c = λ n s stands.
    let v = c.args.self.now.places in
    let e : length c.shift.new.places ≡ v.len = omega (arith, c.shift.auto.places, c.deref_mut.ensures.len, v.ok.0) in
    rw c.in-One.is (record {
      places = marks-with n v c.shift.new.places _ e (c.shift.ensures n s.places (marks-at n _ _ s.places c.deref_mut.ensures.value stands.places));
      groups = stands.groups;
    })

pub returns-in-Many : goal.returns-in-Many
returns-in-Many c = λ n s stands.
    let v = c.args.self.now.places in
    let e : length c.fill.new.places ≡ v.len = omega (arith, c.fill.auto.places, c.deref_mut-in-Many.ensures.len, v.ok.0) in
    rw c.in-Many.is (record {
      places = marks-with n v c.fill.new.places _ e (c.fill.ensures n s.places (marks-at n _ _ s.places c.deref_mut-in-Many.ensures.value stands.places));
      groups = stands.groups;
    })
