-- What a namenode responds is what it answers.
use Rattle.std.proofs.Common.{Result, IfOk, map, sym, subst}
use Rattle.hdfs_cluster.specs.declared.asks.Answer.{Answer}
use Rattle.hdfs_cluster.specs.declared.asks.AskFault.{AskFault}
use Rattle.hdfs_cluster.specs.Namenode.{IsShaped}
use Rattle.hdfs_mem_cluster.specs.Lines.{line_of}
use Rattle.hdfs_mem_cluster.specs.MemShown.{picture_at}
use Rattle.hdfs_mem_cluster.specs.Responding.{Responds}
use Rattle.hdfs_mem_cluster.proofs.NothingLoaded.{on_err}
use Rattle.hdfs_mem_cluster.proofs.Serving.{still_without_answer}
use Rattle.hdfs_mem_cluster.proofs.planned_asks.answer_unplanned.Goals as goal

pub returns-clause-responds : goal.returns-clause-responds
returns-clause-responds c = λ links.
    let settings = c.args.known.now.config.now.settings in
    let r = c.respond-given in
    let p = picture_at c.args.space.now c.args.nodes.now settings links in
    let q = picture_at r.new.space r.new.nodes settings links in
    subst (λ (g : Result Answer AskFault). Responds (map line_of c.args.known.now.loaded.now) c.args.nodes.now.count p c.args.i c.args.ask.now g q) (sym c.in_ok-answered.ensures.same) (r.ensures.responds links)

pub returns-clause-shape : goal.returns-clause-shape
returns-clause-shape c = subst (λ (g : Result Answer AskFault). IfOk g (IsShaped c.args.ask.now)) (sym c.in_ok-answered.ensures.same) c.respond-given.ensures.shape

pub returns-in_err-answered-clause-err : goal.returns-in_err-answered-clause-err
returns-in_err-answered-clause-err c = on_err c.from_residual.result (λ links.
    (let settings = c.args.known.now.config.now.settings in
    let r = c.respond-given in
    let p = picture_at c.args.space.now c.args.nodes.now settings links in
    let q = picture_at r.new.space r.new.nodes settings links in
    still_without_answer (map line_of c.args.known.now.loaded.now) c.args.nodes.now.count p q c.args.i c.args.ask.now r.result c.in_err-answered.ensures.err (r.ensures.responds links)))
