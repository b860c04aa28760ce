-- A write of a session.
use Rattle.std.proofs.Common.{Some, sym, rules}
use Rattle.std.proofs.lemmas.Map.Text.{btree_map_updates_text}
use Rattle.std.proofs.lemmas.Result.{err_from_is_err_and}
use Rattle.hdfs_cluster.specs.Requests.{LetsWrite, IsAnsweredId}
use Rattle.hdfs_namenode.specs.Clients.{name_of, proxy_of}
use Rattle.hdfs_file_writer.specs.Writers.{file_id_of, path_of}
use Rattle.hdfs_commands.proofs.Sending.{lets_writer, write_executes, write_stops}
use Rattle.hdfs_namenode.proofs.Services.{reaches_service}
use Rattle.hdfs_namenode.specs.Views.{Whole}
use Rattle.hdfs_commands.proofs.session.Session.write.Goals as goal

pub write-requires-clause-service : goal.write-requires-clause-service
write-requires-clause-service g c = reaches_service (proxy_of c.args.self.now.namenode) (g.C.Cluster.shown c.args.cluster.now) c.requires.stands.reaches

pub write-requires-clause-stands : goal.write-requires-clause-stands
write-requires-clause-stands g c = (c.requires.stands.each c.args.path.now c.in-Some.writer.now (sym c.in-Some.ensures.value)).0

pub write-requires-clause-allowed : goal.write-requires-clause-allowed
write-requires-clause-allowed g c =
    let here = sym c.in-Some.ensures.value in
    let client = name_of c.args.self.now.namenode in
    lets_writer (IsAnsweredId g.C.Cluster.may_answer client) (LetsWrite g.C.Cluster.allows g.C.Cluster.may_answer client) (path_of c.in-Some.writer.now) c.args.path.now (file_id_of c.in-Some.writer.now)
    (c.requires.stands.each c.args.path.now c.in-Some.writer.now here).1 (c.requires.answered.files c.args.path.now c.in-Some.writer.now here).id c.requires.allowed

pub write-requires-clause-answered : goal.write-requires-clause-answered
write-requires-clause-answered g c = c.requires.answered.files c.args.path.now c.in-Some.writer.now (sym c.in-Some.ensures.value)

pub returns : goal.returns
returns g c = λ name is.
    let path = c.args.path.now in
    let w = c.write.new.self in
    let map = c.get_mut.follows.lender w in
    let h = c.in_ok-count.ensures in
    write_executes g.C.Cluster.may_answer g.C.Cluster.shown c.args.cluster.now c.write.new.cluster c.args.self.now map c.write.new.namenode name path c.in-Some.writer.now (sym c.in-Some.ensures.value)
    c.requires.path is c.requires.fine c.requires.stands c.requires.answered (g.met.C.Cluster.sound c.args.cluster.now)
    c.args.bytes.now w (btree_map_updates_text path c.args.self.now.writers map (Some w) ((c.get_mut.follows.holds w).3 (search rules))) h.stands h.answered
    c.write.result c.write.ensures.idle c.in_ok-count.count h.fails.0 (h.wrote Whole c.requires.stands.reaches) h.count

pub returns-in_err-count : goal.returns-in_err-count
returns-in_err-count g c =
    let p = err_from_is_err_and c.from_residual.result c.from_residual.ensures.1 in
    let path = c.args.path.now in
    let w = c.write.new.self in
    let map = c.get_mut.follows.lender w in
    let h = c.in_err-count.ensures in
    rw (p.1, p.2) (λ name is. write_stops g.C.Cluster.may_answer g.C.Cluster.shown c.args.cluster.now c.write.new.cluster c.args.self.now map c.write.new.namenode name path c.in-Some.writer.now (sym c.in-Some.ensures.value)
    c.requires.path is c.requires.fine c.requires.stands c.requires.answered (g.met.C.Cluster.sound c.args.cluster.now)
    c.args.bytes.now w (btree_map_updates_text path c.args.self.now.writers map (Some w) ((c.get_mut.follows.holds w).3 (search rules))) h.stands h.answered
    c.in_err-count.field-0.0 h.idle h.fails.1 (h.err Whole c.requires.stands.reaches))
