-- A bad acknowledgement was planned, and has not counted yet.
use Rattle.std.proofs.Common.{◌≡◌, ◌+◌, [], ap, arith}
use Rattle.std.specs.BTreeSet.{btree_set_len}
use Rattle.hdfs_mem_faults.specs.Calls.{one_if}
use Rattle.hdfs_mem_faults.proofs.Failing.{fails-le, is_kind}
use Rattle.hdfs_mem_faults.proofs.links.Links.bad_ack.Goals as goal

pub overflow_add-self : goal.overflow_add-self
overflow_add-self c =
    let old = c.args.self.now in
    let one : one_if c.remove.result ≡ 1 = ap one_if c.if-not-remove.false in
    let len : btree_set_len c.remove.new.self + one_if c.remove.result ≡ btree_set_len old.bad = c.remove.ensures.len in
    omega (arith, old.counted [], one, len, fails-le (is_kind old.kinds) old.set_ups, old.fits)
