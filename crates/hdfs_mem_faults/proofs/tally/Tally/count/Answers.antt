-- One call more is counted, and one failure more where it is planned.
use Rattle.std.proofs.Common.{◌≡◌, ℕ, ◌+◌, Bool, true, false, sym, ◌∙◌, ap, arith}
use Rattle.hdfs_mem_faults.specs.Calls.{fails_in, one_if}
use Rattle.hdfs_mem_faults.proofs.Failing.{fails-le, fails-next, is_kind}
use Rattle.hdfs_mem_faults.proofs.tally.Tally.count.Goals as goal

-- the count after one call more
counted_next : (f : ℕ → Bool) (calls reached failed : ℕ) (b : Bool) → failed ≡ fails_in f calls → reached ≡ calls + 1 → f reached ≡ b → fails_in f reached ≡ failed + one_if b
counted_next f calls reached failed b was next is =
    let here : f (calls + 1) ≡ b = ap f (sym next) ∙ is in
    ap (fails_in f) next ∙ fails-next f calls b here ∙ ap (λ (n : ℕ). n + one_if b) (sym was)

pub invariant_of-self : goal.invariant_of-self
invariant_of-self g c =
    let old = c.args.self.now in
    let next = counted_next (is_kind old.planned) old.calls c.in-Some.reached old.failed false old.counted c.in-Some.ensures.1 (sym c.contains_key.ensures ∙ c.if-not-contains_key.true) in
    record { counted = omega (arith, next); few = old.few }

pub overflow_add-self : goal.overflow_add-self
overflow_add-self g c =
    let old = c.args.self.now in
    let le = fails-le (is_kind old.planned) old.calls in
    let room = c.in-Some.ensures.0 in
    omega (arith, le, room, old.counted)

pub invariant_of-self-2 : goal.invariant_of-self-2
invariant_of-self-2 g c =
    let old = c.args.self.now in
    record {
      counted = sym (counted_next (is_kind old.planned) old.calls c.in-Some.reached old.failed true old.counted c.in-Some.ensures.1 (sym c.contains_key.ensures ∙ c.if-not-contains_key.false));
      few = old.few;
    }
