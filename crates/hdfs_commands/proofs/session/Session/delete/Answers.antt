-- The goals of Session::delete.
use Rattle.std.proofs.Common.{Ok, Err}
use Rattle.std.proofs.lemmas.Result.{err_from_is_err_and}
use Rattle.hdfs_namenode.specs.Clients.{proxy_of}
use Rattle.hdfs_namenode.proofs.Services.{reaches_service}
use Rattle.hdfs_namenode.specs.Views.{Whole}
use Rattle.hdfs_commands.proofs.WholeNaming.{delete_executes}
use Rattle.hdfs_commands.proofs.session.Session.delete.Goals as goal

pub delete-requires-clause-service : goal.delete-requires-clause-service
delete-requires-clause-service g c = reaches_service (proxy_of c.args.self.now.namenode) (g.C.Cluster.shown c.args.cluster.now) c.requires.stands.reaches

pub returns : goal.returns
returns g c = λ name called.
    let r = c.requires in
    delete_executes r.stands r.fine r.answered c.delete.ensures.keeps r.path called (g.met.C.Cluster.sound c.args.cluster.now) r.placed (Ok _) (c.in_ok-delete.ensures.came Whole r.stands.reaches)

pub returns-in_err-delete : goal.returns-in_err-delete
returns-in_err-delete g c =
    let p = err_from_is_err_and c.from_residual.result c.from_residual.ensures.1 in
    let r = c.requires in
    rw (p.1, p.2) (λ name called.
    delete_executes r.stands r.fine r.answered c.delete.ensures.keeps r.path called (g.met.C.Cluster.sound c.args.cluster.now) r.placed (Err _) (c.in_err-delete.ensures.came Whole r.stands.reaches))
