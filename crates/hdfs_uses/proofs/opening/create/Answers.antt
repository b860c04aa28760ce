-- Leave for everything is leave for this.
use Rattle.std.proofs.Common.{◌≡◌, true, refl, subst, inl, inr}
use Rattle.std.specs.Prelude.{IfErr, IfOk}
use Rattle.hdfs_client.proofs.Beside.{files_refl}
use Rattle.hdfs_client.proofs.Leave.{lets_create}
use Rattle.hdfs_opening.specs.Opening.{BeginsNew}
use Rattle.hdfs_client.specs.Opening.{CreatesBy, FailsToCreate}
use Rattle.hdfs_client.specs.Writing.{OpensAt, OpensNone, rebuilding_of}
use Rattle.hdfs_model.specs.Limits.{are_options}
use Rattle.hdfs_model.specs.declared.commands.WriteOptions.{WriteOptions}
use Rattle.hdfs_namenode.specs.Clients.{through}
use Rattle.hdfs_namenode.specs.Views.{Seen}
use Rattle.hdfs_uses.specs.Writing.{plain_options}
use Rattle.hdfs_uses.proofs.Cases.{err_is, err_so, ok_so}
use Rattle.hdfs_uses.proofs.Whole.{opens_whole}
use Rattle.hdfs_uses.proofs.opening.create.Goals as goal

pub create-requires-clause-allowed : goal.create-requires-clause-allowed
create-requires-clause-allowed g c = λ to namenode leads at. lets_create g.C.Cluster.may_answer _ _ _ _ c.requires.all

pub returns-in_err-check_whole-clause-err : goal.returns-in_err-check_whole-clause-err
returns-in_err-check_whole-clause-err g c = err_is _ c.in_err-check_whole.field-0.0 c.from_residual.result (inl (c.in_err-check_whole.ensures.err, refl, refl)) c.from_residual.ensures.1

pub returns-in_err-check_whole-clause-files : goal.returns-in_err-check_whole-clause-files
returns-in_err-check_whole-clause-files g c = files_refl c.args.client.now (g.C.Cluster.shown c.args.cluster.now)

pub returns-clause-created : goal.returns-clause-created
returns-clause-created g c =
    subst (λ (o : WriteOptions). IfOk c.create.result (λ writer. OpensAt (λ at before file lease after. CreatesBy g.C.Cluster.may_answer g.C.Cluster.serves at o (rebuilding_of c.args.client.now) before
    c.args.cluster.now file lease after c.create.new.cluster) c.args.client.now c.args.path.now writer c.create.new.self)) c.default.ensures c.create.ensures.created

pub returns-clause-begins : goal.returns-clause-begins
returns-clause-begins g c =
    ok_so _ _ c.create.result
    (λ writer so. opens_whole g.C.Cluster.shown c.args.client.now c.args.cluster.now c.create.new.cluster (λ at file old new. BeginsNew old at plain_options file new) c.create.new.self
    c.args.path.now writer c.in_ok-check_whole.ensures.ok so)
    (subst (λ (o : WriteOptions). IfOk c.create.result (λ writer. OpensAt (λ at before file lease after. Seen g.C.Cluster.shown (through before c.args.cluster.now) c.create.new.cluster
    (λ old new. BeginsNew old at o file new)) c.args.client.now c.args.path.now writer c.create.new.self)) c.default.ensures c.create.ensures.begins)

pub returns-clause-stands : goal.returns-clause-stands
returns-clause-stands g c = ok_so _ _ c.create.result (λ writer so. ((so.0, so.2 c.in_ok-check_whole.ensures.ok), so.1)) c.create.ensures.stands

pub returns-clause-err : goal.returns-clause-err
returns-clause-err g c =
    err_so _ _ c.create.result (λ error why. inr why)
    (subst (λ (o : WriteOptions). are_options o ≡ true → IfErr c.create.result (λ error. OpensNone (λ error at before after. FailsToCreate g.C.Cluster.may_answer g.C.Cluster.serves at o before c.args.cluster.now error
    after c.create.new.cluster) c.args.client.now c.args.path.now c.args.cluster.now error c.create.new.self c.create.new.cluster)) c.default.ensures c.create.ensures.err refl)
