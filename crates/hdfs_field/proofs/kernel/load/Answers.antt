use Rattle.std.proofs.lemmas.Simd.{length-chunk, get_or-chunk}
use Rattle.hdfs_field.proofs.kernel.load.Goals as goal

pub returns-clause-lanes : goal.returns-clause-lanes
returns-clause-lanes c = record {
  long = length-chunk c.args.i 32 c.args.bytes.now c.requires;
  each = λ k l. get_or-chunk c.args.i 32 c.args.bytes.now k 0 l;
}
