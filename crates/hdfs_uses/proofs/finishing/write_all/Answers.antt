-- The bytes are written, and then the file is closed.
use Rattle.std.proofs.Common.{inl, inr}
use Rattle.hdfs_client.proofs.Leave.{lets_close, lets_write}
use Rattle.hdfs_uses.proofs.Cases.{err_is}
use Rattle.hdfs_uses.proofs.Finished.{finishes}
use Rattle.hdfs_uses.proofs.Keeping.{others_trans}
use Rattle.hdfs_uses.proofs.Whole.{close_fails, closed_whole, write_fails, wrote_whole}
use Rattle.hdfs_uses.proofs.finishing.write_all.Goals as goal

pub write-requires-clause-allowed : goal.write-requires-clause-allowed
write-requires-clause-allowed g c = λ file is.
    let at = c.requires.writer.0.0 file is in
    (at.0, at.1, lets_write g.C.Cluster.may_answer _ _ _ c.requires.all)

pub close-requires-clause-allowed : goal.close-requires-clause-allowed
close-requires-clause-allowed g c = λ file is.
    let at = c.in_ok-write.ensures.writer.0 file is in
    (at.0, at.1, lets_close g.C.Cluster.may_answer _ _ _ c.requires.all)

pub returns-in_err-write-clause-err : goal.returns-in_err-write-clause-err
returns-in_err-write-clause-err g c =
    err_is _ c.in_err-write.field-0.0 c.from_residual.result (inl (write_fails g.C.Cluster.shown c.args.client.now c.args.cluster.now c.write.new.cluster c.args.writer.now c.requires.writer.0.1 c.in_err-write.field-0.0 c.in_err-write.ensures.err)) c.from_residual.ensures.1

pub returns-in_err-write-clause-stands : goal.returns-in_err-write-clause-stands
returns-in_err-write-clause-stands g c = λ file is. (c.in_err-write.ensures.writer.0 file is).2

pub returns-in_err-close-clause-err : goal.returns-in_err-close-clause-err
returns-in_err-close-clause-err g c =
    err_is _ c.in_err-close.field-0.0 c.from_residual-in_err-close.result
    (inr (
      g.C.Cluster.shown c.write.new.cluster,
      c.write.new.self,
      wrote_whole g.C.Cluster.shown c.args.client.now c.args.cluster.now c.write.new.cluster c.args.writer.now c.requires.writer.0.1 c.args.bytes.now c.write.new.self c.in_ok-write.ensures.wrote.1,
      close_fails g.C.Cluster.shown c.write.new.client c.write.new.cluster c.close.new.cluster c.write.new.self (c.in_ok-write.ensures.whole c.requires.writer.0.1) c.in_err-close.field-0.0
          c.in_err-close.ensures.err,
    )) c.from_residual-in_err-close.ensures.1

pub returns-in_err-close-clause-others : goal.returns-in_err-close-clause-others
returns-in_err-close-clause-others g c = others_trans c.in_ok-write.ensures.others c.in_err-close.ensures.others

pub returns-clause-stored : goal.returns-clause-stored
returns-clause-stored g c = (
  c.in_ok-close.ensures.shut.0,
  finishes (g.C.Cluster.shown c.args.cluster.now) (g.C.Cluster.shown c.write.new.cluster) (g.C.Cluster.shown c.close.new.cluster) c.args.writer.now c.write.new.self c.args.bytes.now
      (wrote_whole g.C.Cluster.shown c.args.client.now c.args.cluster.now c.write.new.cluster c.args.writer.now c.requires.writer.0.1 c.args.bytes.now c.write.new.self c.in_ok-write.ensures.wrote.1)
      (closed_whole g.C.Cluster.shown c.write.new.client c.write.new.cluster c.close.new.cluster c.write.new.self (c.in_ok-write.ensures.whole c.requires.writer.0.1) c.in_ok-close.ensures.closed),
)

pub returns-clause-others : goal.returns-clause-others
returns-clause-others g c = others_trans c.in_ok-write.ensures.others c.in_ok-close.ensures.others
