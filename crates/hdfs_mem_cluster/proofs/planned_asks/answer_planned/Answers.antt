-- For want of memory nothing was done yet.
use Rattle.hdfs_mem_namenode.proofs.Answering.{same_picture}
use Rattle.hdfs_mem_cluster.specs.MemShown.{picture_at}
use Rattle.hdfs_mem_cluster.proofs.NothingLoaded.{on_err}
use Rattle.hdfs_mem_cluster.proofs.planned_asks.answer_planned.Goals as goal

pub returns-in_err-given-clause-err : goal.returns-in_err-given-clause-err
returns-in_err-given-clause-err c = on_err c.from_residual.result (λ links. same_picture (picture_at c.args.space.now c.args.nodes.now c.args.known.now.config.now.settings links))

pub returns-in_err-answered-clause-err : goal.returns-in_err-answered-clause-err
returns-in_err-answered-clause-err c = on_err c.from_residual-in_err-answered.result (λ links. same_picture (picture_at c.args.space.now c.args.nodes.now c.args.known.now.config.now.settings links))
