use Rattle.hdfs_ec.proofs.Codes.{HasCodingRows}
use Rattle.hdfs_ec.proofs.coder.Coder.gen_rs_matrix.Given as goal

abbrev pub invariant-loop-r : goal.invariant-loop-r
invariant-loop-r l = HasCodingRows l.data_units l.parity_units l.r l.m
