-- What isn't kept is set where something stands.
use Rattle.std.proofs.Common.{Err, refl, sym, subst}
use Rattle.hdfs_cluster.specs.declared.asks.Answer.{Answer}
use Rattle.hdfs_cluster.specs.declared.asks.AskFault.{AskFault}
use Rattle.hdfs_mem_namenode.specs.Rows.{AnswersNames, NamesRow}
use Rattle.hdfs_mem_namenode.specs.Spaces.{space_with}
use Rattle.hdfs_mem_namenode.proofs.Rows.{same_space, still_refused, still_row}
use Rattle.hdfs_mem_namenode.proofs.namespace.Namespace.answer_still.Goals as goal

pub returns-in-Ok-clause-answers : goal.returns-in-Ok-clause-answers
returns-in-Ok-clause-answers c = λ held.
    let space = space_with c.args.self.now held in
    subst (λ (a : Answer). NamesRow space c.args.ask.now a space) (sym c.still_answer.ensures) (still_row space c.in-Some.src.now c.args.ask.now c.in-Some.ensures c.in-Ok.field-0.now c.in-Ok.ensures)

pub returns-in_ok-exception-in-Err-clause-answers : goal.returns-in_ok-exception-in-Err-clause-answers
returns-in_ok-exception-in-Err-clause-answers c = λ held.
    let space = space_with c.args.self.now held in
    subst (λ (f : AskFault). AnswersNames space c.args.ask.now (Err f) space) (sym c.in_ok-exception-in-Err.ensures)
    (refl, same_space space, still_refused space c.in-Some.src.now c.args.ask.now c.in-Err.class.now c.in-Some.ensures c.in-Err.ensures)
