-- The goals of Session::list.
use Rattle.std.proofs.Common.{rules}
use Rattle.std.proofs.lemmas.Result.{err_from_is_err_and}
use Rattle.hdfs_commands.proofs.ListActs.{listed_executes, unlisted_executes}
use Rattle.hdfs_commands.proofs.session.Session.list.Goals as goal

pub returns : goal.returns
returns g c = λ called.
    let r = c.requires in
    let e = c.list_path.ensures in
    rw c.from_vec.ensures (listed_executes r.stands r.fine r.answered e.client r.path called e.leaves (g.met.C.Cluster.sound c.args.cluster.now) e.told c.in_ok-entries.was (search rules))

pub returns-in_err-entries : goal.returns-in_err-entries
returns-in_err-entries g c =
    let p = err_from_is_err_and c.from_residual.result c.from_residual.ensures.1 in
    let r = c.requires in
    let e = c.list_path.ensures in
    rw (p.1, p.2) (λ called. unlisted_executes r.stands r.fine r.answered e.client r.path called e.leaves (g.met.C.Cluster.sound c.args.cluster.now) e.told c.in_err-entries.was c.in_err-entries.ensures.err)
