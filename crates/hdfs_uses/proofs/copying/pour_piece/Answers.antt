-- A piece is written, whoever else writes.
use Rattle.std.proofs.Common.{ℕ, List, subst}
use Rattle.hdfs_file_writer.specs.Writers.{Wrote}
use Rattle.hdfs_client.specs.Writing.{GoesOn}
use Rattle.hdfs_client.proofs.Leave.{lets_write}
use Rattle.hdfs_uses.proofs.Keeping.{others_refl}
use Rattle.hdfs_uses.proofs.Whole.{wrote_whole}
use Rattle.hdfs_uses.proofs.copying.pour_piece.Goals as goal

pub write-requires-clause-allowed : goal.write-requires-clause-allowed
write-requires-clause-allowed g c = λ file is.
    let at = c.requires.writer.0.0 file is in
    (at.0, at.1, lets_write g.C.Cluster.may_answer _ _ _ c.requires.all)

pub returns-in_err-bytes-clause-others : goal.returns-in_err-bytes-clause-others
returns-in_err-bytes-clause-others g c = others_refl c.args.client.now (g.C.Cluster.shown c.args.cluster.now) c.args.writer.now

pub returns-in_err-write-clause-writer : goal.returns-in_err-write-clause-writer
returns-in_err-write-clause-writer g c = ((c.in_err-write.ensures.writer.0, c.in_err-write.ensures.whole c.requires.writer.0.1), c.in_err-write.ensures.writer.1)

pub returns-clause-wrote : goal.returns-clause-wrote
returns-clause-wrote g c = (
  c.in_ok-bytes.bytes,
  c.in_ok-bytes.was,
  subst (λ (bytes : List ℕ). GoesOn (λ file file'. Wrote (g.C.Cluster.shown c.args.cluster.now) file bytes (g.C.Cluster.shown c.write.new.cluster) file') c.args.writer.now c.write.new.self)
      c.as_slice.ensures
      (wrote_whole g.C.Cluster.shown c.args.client.now c.args.cluster.now c.write.new.cluster c.args.writer.now c.requires.writer.0.1 c.as_slice.result.now c.write.new.self
      c.in_ok-write.ensures.wrote.1),
)

pub returns-clause-writer : goal.returns-clause-writer
returns-clause-writer g c = ((c.in_ok-write.ensures.writer.0, c.in_ok-write.ensures.whole c.requires.writer.0.1), c.in_ok-write.ensures.writer.1)

pub returns-clause-mounts : goal.returns-clause-mounts
returns-clause-mounts g c = c.in_ok-write.ensures.writer.2.others.mounts
