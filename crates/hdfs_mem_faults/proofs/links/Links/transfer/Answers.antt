-- The links have failed no more often than set-ups were planned to, with this transfer.
use Rattle.std.proofs.Common.{◌≡◌, ◌+◌, [], is_some, sym, ◌∙◌, ap, arith}
use Rattle.std.specs.Ordering.{nat_cmp}
use Rattle.std.specs.BTreeMap.{get}
use Rattle.std.specs.BTreeSet.{btree_set_len}
use Rattle.hdfs_mem_faults.specs.Calls.{one_if}
use Rattle.hdfs_mem_faults.proofs.Failing.{fails-le, is_kind}
use Rattle.hdfs_mem_faults.specs.Linking.{firsts_in}
use Rattle.hdfs_mem_faults.proofs.Linking.{bound_next}
use Rattle.hdfs_mem_faults.proofs.links.Links.transfer.Goals as goal

pub overflow_add-self : goal.overflow_add-self
overflow_add-self c =
    let old = c.args.self.now in
    omega (arith, old.counted [], fails-le (is_kind old.kinds) old.set_ups, c.in_ok-reached.ensures.0)

pub invariant_of-self : goal.invariant_of-self
invariant_of-self c =
    let old = c.args.self.now in
    let planned : c.copied-kind.result ≡ get nat_cmp old.kinds c.in_ok-reached.reached = c.copied-kind.ensures ∙ c.get.ensures.value in
    let some : one_if (is_some c.copied-kind.result) ≡ 1 = ap one_if (sym c.is_some.ensures ∙ c.if-is_some.true) in
    record {
      fits = omega (arith, c.in_ok-reached.ensures.0, c.in_ok-reached.ensures.1);
      few = old.few;
      counted = λ d. bound_next old.kinds old.set_ups c.in_ok-reached.reached (old.failed + btree_set_len old.bad + firsts_in old d) (old.failed + 1 + btree_set_len old.bad + firsts_in old d) c.copied-kind.result (old.counted d) c.in_ok-reached.ensures.1 planned (omega (arith, some));
    }

pub invariant_of-self-else-is_some : goal.invariant_of-self-else-is_some
invariant_of-self-else-is_some c =
    let old = c.args.self.now in
    let planned : c.copied-kind.result ≡ get nat_cmp old.kinds c.in_ok-reached.reached = c.copied-kind.ensures ∙ c.get.ensures.value in
    let none : one_if (is_some c.copied-kind.result) ≡ 0 = ap one_if (sym c.is_some.ensures ∙ c.if-is_some.false) in
    record {
      fits = omega (arith, c.in_ok-reached.ensures.0, c.in_ok-reached.ensures.1);
      few = old.few;
      counted = λ d. bound_next old.kinds old.set_ups c.in_ok-reached.reached (old.failed + btree_set_len old.bad + firsts_in old d) (old.failed + btree_set_len old.bad + firsts_in old d) c.copied-kind.result (old.counted d) c.in_ok-reached.ensures.1 planned (omega (arith, none));
    }
