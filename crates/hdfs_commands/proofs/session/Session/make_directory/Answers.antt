-- The goals of Session::make_directory.
use Rattle.std.proofs.Common.{Ok, Err, sym, ◌∙◌}
use Rattle.std.proofs.lemmas.Result.{err_from_is_err_and}
use Rattle.hdfs_namenode.specs.Clients.{proxy_of}
use Rattle.hdfs_namenode.proofs.Services.{reaches_service}
use Rattle.hdfs_namenode.specs.Views.{Whole}
use Rattle.hdfs_commands.proofs.WholeNaming.{bits_executes, mkdirs_executes}
use Rattle.hdfs_commands.proofs.session.Session.make_directory.Goals as goal

pub mkdirs-requires-clause-service : goal.mkdirs-requires-clause-service
mkdirs-requires-clause-service g c = reaches_service (proxy_of c.args.self.now.namenode) (g.C.Cluster.shown c.args.cluster.now) c.requires.stands.reaches

pub mkdirs-requires-clause-allowed : goal.mkdirs-requires-clause-allowed
mkdirs-requires-clause-allowed g c = c.requires.allowed (sym c.is_permission.ensures ∙ c.if-not-is_permission.false)

pub returns-then-not-is_permission : goal.returns-then-not-is_permission
returns-then-not-is_permission g c = λ name called.
    let r = c.requires in
    bits_executes r.stands r.answered called r.path r.placed (sym c.is_permission.ensures ∙ c.if-not-is_permission.true)

pub returns : goal.returns
returns g c = λ name called.
    let r = c.requires in
    mkdirs_executes r.stands r.fine r.answered c.mkdirs.ensures.keeps r.path called r.placed (sym c.is_permission.ensures ∙ c.if-not-is_permission.false)
    (Ok _) (c.in_ok-mkdirs.ensures.came Whole r.stands.reaches)

pub returns-in_err-mkdirs : goal.returns-in_err-mkdirs
returns-in_err-mkdirs g c =
    let p = err_from_is_err_and c.from_residual.result c.from_residual.ensures.1 in
    let r = c.requires in
    rw (p.1, p.2) (λ name called.
    mkdirs_executes r.stands r.fine r.answered c.mkdirs.ensures.keeps r.path called r.placed (sym c.is_permission.ensures ∙ c.if-not-is_permission.false)
    (Err _) (c.in_err-mkdirs.ensures.came Whole r.stands.reaches))
