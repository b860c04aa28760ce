-- An ask is answered as it is planned to fail, or by the picture.
use Rattle.std.proofs.Common.{◌≡◌, inr, Option, Some, option_copied, Result, IfOk, map, sym, ap, subst}
use Rattle.std.proofs.lemmas.Result.{IfOk-weaker}
use Rattle.hdfs_cluster.specs.declared.asks.Answer.{Answer}
use Rattle.hdfs_cluster.specs.declared.asks.AskFault.{AskFault}
use Rattle.hdfs_cluster.specs.declared.store.AskKind.{AskKind}
use Rattle.hdfs_cluster.specs.Namenode.{IsShaped}
use Rattle.hdfs_mem_cluster.specs.declared.planned_asks.Answered.{Answered}
use Rattle.hdfs_mem_cluster.specs.declared.mem_links.MemLinks.{MemLinks}
use Rattle.hdfs_mem_cluster.specs.Lines.{line_of}
use Rattle.hdfs_mem_cluster.specs.MemShown.{picture_at}
use Rattle.hdfs_mem_cluster.specs.Responding.{AskComesTo, own_failure, planned_answer}
use Rattle.hdfs_mem_cluster.proofs.Serving.{both_ok, planned_shaped}
use Rattle.hdfs_mem_cluster.proofs.planned_asks.answer.Goals as goal

pub returns-in-None-clause-comes : goal.returns-in-None-clause-comes
returns-in-None-clause-comes c =
    let r = c.answer_unplanned in
    let settings = c.args.known.now.config.now.settings in
    subst (λ (k : Option AskKind). IfOk r.result (λ answered. (links : MemLinks) → AskComesTo (map line_of c.args.known.now.loaded.now) c.args.nodes.now.count k
    (picture_at c.args.space.now c.args.nodes.now settings links) c.args.i c.args.ask.now answered.result (picture_at r.new.space r.new.nodes settings links))) (sym (ap option_copied c.in-None.is)) r.ensures.responds

pub returns-in-None-clause-failed : goal.returns-in-None-clause-failed
returns-in-None-clause-failed c =
    subst (λ (k : Option AskKind). IfOk c.answer_unplanned.result (λ answered. answered.failed ≡ own_failure k answered.result)) (sym (ap option_copied c.in-None.is)) c.answer_unplanned.ensures.failed

pub returns-in-Some-clause-comes : goal.returns-in-Some-clause-comes
returns-in-Some-clause-comes c =
    let r = c.answer_planned in
    let settings = c.args.known.now.config.now.settings in
    let kind = c.in-Some.kind.now in
    let Comes : Option AskKind → Answered → Type 0 = λ k answered. (links : MemLinks) → AskComesTo (map line_of c.args.known.now.loaded.now) c.args.nodes.now.count k
    (picture_at c.args.space.now c.args.nodes.now settings links) c.args.i c.args.ask.now answered.result (picture_at r.new.space r.new.nodes settings links) in
    subst (λ (k : Option AskKind). IfOk r.result (Comes k)) (sym (ap option_copied c.in-Some.is))
    (both_ok r.result (λ answered. answered.result ≡ planned_answer kind c.args.ask.now) (Comes (Some kind)) (λ answered is does links. inr (is, does links)) r.ensures.is r.ensures.does)

pub returns-in-Some-clause-failed : goal.returns-in-Some-clause-failed
returns-in-Some-clause-failed c =
    subst (λ (k : Option AskKind). IfOk c.answer_planned.result (λ answered. answered.failed ≡ own_failure k answered.result)) (sym (ap option_copied c.in-Some.is)) c.answer_planned.ensures.failed

pub returns-in-Some-clause-shape : goal.returns-in-Some-clause-shape
returns-in-Some-clause-shape c =
    IfOk-weaker c.answer_planned.result (λ answered. answered.result ≡ planned_answer c.in-Some.kind.now c.args.ask.now) (λ answered. IfOk answered.result (IsShaped c.args.ask.now))
    (λ answered is. subst (λ (g : Result Answer AskFault). IfOk g (IsShaped c.args.ask.now)) (sym is) (planned_shaped c.in-Some.kind.now c.args.ask.now)) c.answer_planned.ensures.is
