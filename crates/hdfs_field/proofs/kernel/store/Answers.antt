use Rattle.std.proofs.lemmas.Simd.{length-put_chunk}
use Rattle.hdfs_field.proofs.LaneLemmas.{first_vector}
use Rattle.hdfs_field.proofs.kernel.store.Goals as goal

pub returns : goal.returns
returns c = record {
  long = length-put_chunk c.args.i c.args.out.now c.args.vector;
  first = λ m shards r n h lanes. first_vector m shards r n c.args.i c.args.out.now c.args.vector c.requires h lanes;
}
