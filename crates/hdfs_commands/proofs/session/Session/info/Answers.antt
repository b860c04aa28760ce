-- The goals of Session::info.
use Rattle.std.proofs.Common.{sym, ◌∙◌}
use Rattle.std.proofs.lemmas.Result.{err_from_is_err_and}
use Rattle.hdfs_namenode.specs.Clients.{proxy_of}
use Rattle.hdfs_namenode.proofs.Services.{reaches_service}
use Rattle.hdfs_namenode.specs.Views.{Whole}
use Rattle.hdfs_commands.proofs.InfoActs.{missed_executes, told_executes, unsaid_executes, untold_executes}
use Rattle.hdfs_commands.proofs.session.Session.info.Goals as goal

pub get_file_info-requires-clause-service : goal.get_file_info-requires-clause-service
get_file_info-requires-clause-service g c = reaches_service (proxy_of c.args.self.now.namenode) (g.C.Cluster.shown c.args.cluster.now) c.requires.stands.reaches

pub returns-in_err-status : goal.returns-in_err-status
returns-in_err-status g c =
    let p = err_from_is_err_and c.from_residual.result c.from_residual.ensures.1 in
    let r = c.requires in
    rw (p.1, p.2) (λ called. untold_executes r.stands r.fine r.answered c.get_file_info.ensures.keeps r.path called r.placed (c.in_err-status.ensures.came Whole r.stands.reaches))

pub returns-in-Some : goal.returns-in-Some
returns-in-Some g c = λ called.
    let r = c.requires in
    told_executes r.stands r.fine r.answered c.get_file_info.ensures.keeps r.path called r.placed c.in_ok-status.status (sym c.reply_of.ensures ∙ c.in-Some.is) (c.in_ok-status.ensures.came Whole r.stands.reaches)

pub returns-in_ok-copy-in-None : goal.returns-in_ok-copy-in-None
returns-in_ok-copy-in-None g c = λ called.
    let r = c.requires in
    missed_executes r.stands r.fine r.answered c.get_file_info.ensures.keeps r.path called r.placed c.in_ok-status.status (sym c.reply_of.ensures ∙ c.in-None.is) (c.in_ok-status.ensures.came Whole r.stands.reaches)
    c.in_ok-status.ensures.answered c.in_ok-copy-in-None.ensures

pub returns-in_err-copy-in-None : goal.returns-in_err-copy-in-None
returns-in_err-copy-in-None g c =
    let p = err_from_is_err_and c.from_residual-in_err-copy-in-None.result c.from_residual-in_err-copy-in-None.ensures.1 in
    let r = c.requires in
    rw (p.1, p.2) (λ called. unsaid_executes r.stands r.fine r.answered c.get_file_info.ensures.keeps r.path called r.placed c.in_ok-status.status (sym c.reply_of.ensures ∙ c.in-None.is) (c.in_ok-status.ensures.came Whole r.stands.reaches))
