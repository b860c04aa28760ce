-- A close of a session.
use Rattle.std.proofs.Common.{None, sym}
use Rattle.std.proofs.lemmas.Map.Text.{btree_map_updates_text}
use Rattle.std.proofs.lemmas.Result.{err_from_is_err_and}
use Rattle.hdfs_cluster.specs.Requests.{LetsClose, IsAnsweredId}
use Rattle.hdfs_namenode.specs.Clients.{name_of, proxy_of}
use Rattle.hdfs_file_writer.specs.Writers.{file_id_of, path_of}
use Rattle.hdfs_commands.proofs.Sending.{lets_writer, close_executes, close_stops}
use Rattle.hdfs_namenode.proofs.Services.{reaches_service}
use Rattle.hdfs_namenode.specs.Views.{Whole}
use Rattle.hdfs_commands.proofs.session.Session.close.Goals as goal

pub close-requires-clause-service : goal.close-requires-clause-service
close-requires-clause-service g c = reaches_service (proxy_of c.args.self.now.namenode) (g.C.Cluster.shown c.args.cluster.now) c.requires.stands.reaches

pub close-requires-clause-stands : goal.close-requires-clause-stands
close-requires-clause-stands g c = (c.requires.stands.each c.args.path.now c.in-Some.writer (sym c.in-Some.ensures.value)).0

pub close-requires-clause-allowed : goal.close-requires-clause-allowed
close-requires-clause-allowed g c =
    let here = sym c.in-Some.ensures.value in
    let client = name_of c.args.self.now.namenode in
    lets_writer (IsAnsweredId g.C.Cluster.may_answer client) (LetsClose g.C.Cluster.allows g.C.Cluster.may_answer client) (path_of c.in-Some.writer) c.args.path.now (file_id_of c.in-Some.writer)
    (c.requires.stands.each c.args.path.now c.in-Some.writer here).1 (c.requires.answered.files c.args.path.now c.in-Some.writer here).id c.requires.allowed

pub close-requires-clause-answered : goal.close-requires-clause-answered
close-requires-clause-answered g c = c.requires.answered.files c.args.path.now c.in-Some.writer (sym c.in-Some.ensures.value)

pub returns : goal.returns
returns g c = λ name is.
    let path = c.args.path.now in
    close_executes g.C.Cluster.may_answer g.C.Cluster.shown c.args.cluster.now c.close.new.cluster c.args.self.now c.remove.new.self c.close.new.namenode name path c.in-Some.writer (sym c.in-Some.ensures.value)
    c.requires.path is c.requires.fine c.requires.stands c.requires.answered (g.met.C.Cluster.sound c.args.cluster.now)
    (btree_map_updates_text path c.args.self.now.writers c.remove.new.self None c.remove.ensures.updates) c.close.ensures.client (c.in_ok-close.ensures.closed Whole c.requires.stands.reaches)

pub returns-in_err-close : goal.returns-in_err-close
returns-in_err-close g c =
    let p = err_from_is_err_and c.from_residual.result c.from_residual.ensures.1 in
    let path = c.args.path.now in
    rw (p.1, p.2) (λ name is. close_stops g.C.Cluster.may_answer g.C.Cluster.shown c.args.cluster.now c.close.new.cluster c.args.self.now c.remove.new.self c.close.new.namenode name path c.in-Some.writer (sym c.in-Some.ensures.value)
    c.requires.path is c.requires.fine c.requires.stands c.requires.answered (g.met.C.Cluster.sound c.args.cluster.now)
    (btree_map_updates_text path c.args.self.now.writers c.remove.new.self None c.remove.ensures.updates) c.close.ensures.client
    c.in_err-close.field-0.0 (c.in_err-close.ensures.err Whole c.requires.stands.reaches))
