use Rattle.std.proofs.Common.{arith, refl, get_or}
use Rattle.hdfs_wire.specs.Varint.{varint_at}
use Rattle.hdfs_wire.proofs.Groups.{starts, goes_on, ends, is_cut, is_long, is_tenth, pow_more, below_more}
use Rattle.hdfs_wire.proofs.varint.read_varint.Goals as goal

pub loop-i-init : goal.loop-i-init
loop-i-init c = record { worth = refl; below = omega arith; so_far = starts c.args.bytes.now }

pub returns-then-i-bytes-clause-exact : goal.returns-then-i-bytes-clause-exact
returns-then-i-bytes-clause-exact c = is_cut c.args.bytes.now c.loop-i.n c.loop-i.scale c.loop-i.i (varint_at c.args.bytes.now) (omega arith) (omega arith) c.loop-i.invariant.so_far

pub returns-then-byte-lt128-clause-exact : goal.returns-then-byte-lt128-clause-exact
returns-then-byte-lt128-clause-exact c = rw c.from.ensures (ends c.args.bytes.now c.loop-i.n c.loop-i.scale c.loop-i.i (get_or c.args.bytes.now c.loop-i.i 0) (varint_at c.args.bytes.now) (omega arith) (omega arith) refl (omega arith) c.loop-i.invariant.so_far)

pub loop-i-preserved : goal.loop-i-preserved
loop-i-preserved c = rw c.from.ensures (record {
  worth = pow_more c.loop-i.scale c.loop-i.i c.loop-i.invariant.worth;
  below = below_more c.loop-i.n (get_or c.args.bytes.now c.loop-i.i 0) c.loop-i.scale c.loop-i.invariant.below;
  so_far = goes_on c.args.bytes.now c.loop-i.n c.loop-i.scale c.loop-i.i (get_or c.args.bytes.now c.loop-i.i 0) (varint_at c.args.bytes.now) (omega arith) (omega arith) refl (omega arith) (omega (arith, c.type_inv.bytes c.loop-i.i)) c.loop-i.invariant.so_far;
})

pub returns-then-bytes-lt10-clause-exact : goal.returns-then-bytes-lt10-clause-exact
returns-then-bytes-lt10-clause-exact c = is_cut c.args.bytes.now c.loop-i.n c.loop-i.scale c.loop-i.i (varint_at c.args.bytes.now) (omega arith) (omega arith) c.loop-i.invariant.so_far

pub returns-then-bytes-gt1-clause-exact : goal.returns-then-bytes-gt1-clause-exact
returns-then-bytes-gt1-clause-exact c = is_long c.args.bytes.now c.loop-i.n c.loop-i.scale c.loop-i.i (get_or c.args.bytes.now 9 0) (varint_at c.args.bytes.now) (omega arith) (omega arith) refl (omega arith) c.loop-i.invariant.so_far

pub returns-clause-exact : goal.returns-clause-exact
returns-clause-exact c = rw c.from-2.ensures (is_tenth c.args.bytes.now c.loop-i.n c.loop-i.scale c.loop-i.i (get_or c.args.bytes.now 9 0) (varint_at c.args.bytes.now) (omega arith) (omega arith) refl (omega arith) c.loop-i.invariant.so_far)
