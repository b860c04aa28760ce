-- Leave for everything is leave for this.
use Rattle.std.proofs.Common.{refl, inl, inr}
use Rattle.hdfs_client.proofs.Beside.{files_refl}
use Rattle.hdfs_client.proofs.Leave.{lets_append}
use Rattle.hdfs_opening.specs.Opening.{BeginsAgain}
use Rattle.hdfs_uses.proofs.Cases.{err_is, err_so, ok_so}
use Rattle.hdfs_uses.proofs.Whole.{opens_whole}
use Rattle.hdfs_uses.proofs.opening.append.Goals as goal

pub append-requires-clause-allowed : goal.append-requires-clause-allowed
append-requires-clause-allowed g c = λ to namenode leads at. lets_append g.C.Cluster.may_answer _ _ c.requires.all

pub returns-in_err-check_whole-clause-err : goal.returns-in_err-check_whole-clause-err
returns-in_err-check_whole-clause-err g c = err_is _ c.in_err-check_whole.field-0.0 c.from_residual.result (inl (c.in_err-check_whole.ensures.err, refl, refl)) c.from_residual.ensures.1

pub returns-in_err-check_whole-clause-files : goal.returns-in_err-check_whole-clause-files
returns-in_err-check_whole-clause-files g c = files_refl c.args.client.now (g.C.Cluster.shown c.args.cluster.now)

pub returns-clause-begins : goal.returns-clause-begins
returns-clause-begins g c =
    ok_so _ _ c.append.result
    (λ writer so. opens_whole g.C.Cluster.shown c.args.client.now c.args.cluster.now c.append.new.cluster (λ at file old new. BeginsAgain old at file new) c.append.new.self c.args.path.now writer
    c.in_ok-check_whole.ensures.ok so) c.append.ensures.begins

pub returns-clause-stands : goal.returns-clause-stands
returns-clause-stands g c = ok_so _ _ c.append.result (λ writer so. ((so.0, so.2 c.in_ok-check_whole.ensures.ok), so.1)) c.append.ensures.stands

pub returns-clause-err : goal.returns-clause-err
returns-clause-err g c = err_so _ _ c.append.result (λ error why. inr why) c.append.ensures.err
