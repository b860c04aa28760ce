use Rattle.std.proofs.Common.{arith}
use Rattle.hdfs_field.specs.Elements.{product}
use Rattle.hdfs_field.proofs.Combining.{added_none, added_more, added_all, added_value}
use Rattle.hdfs_field.proofs.kernel.mul_add.Goals as goal

pub vectors-init : goal.vectors-init
vectors-init c = record { within = omega arith; added = added_none c.args.c c.args.input.now c.args.out.now }

pub vectors-preserved : goal.vectors-preserved
vectors-preserved c = record {
  within = omega arith;
  added = c.add_vector.ensures c.args.c c.args.out.now (c.twice-low.ensures c.args.c.value c.tables.ensures.low) (c.twice-high.ensures (product c.args.c.value 16) c.tables.ensures.high) c.vectors.invariant.added;
}

pub bytes-preserved : goal.bytes-preserved
bytes-preserved c =
    let value = added_value c.args.c c.from.result c.from-in-bytes.result c.mul.result c.add.result _ _ c.from-in-bytes-2.result
    c.from-in-bytes-2.ensures c.add.ensures c.from.ensures c.mul.ensures.is c.from-in-bytes.ensures in
    added_more c.args.c c.args.input.now c.args.out.now c.bytes.q c.from-in-bytes-2.result c.bytes.out c.bytes.invariant (omega arith) value

pub returns : goal.returns
returns c = added_all c.args.c c.args.input.now c.args.out.now c.bytes.out c.bytes.q c.bytes.invariant (omega arith)
