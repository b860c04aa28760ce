-- The goals of BlockWriter::flush_and_end.
use Rattle.std.proofs.Common.{rules, [], IsSome, refl}
use Rattle.std.proofs.lemmas.Result.{err_from_is_err_and}
use Rattle.hdfs_cluster.specs.Shown.{Shown}
use Rattle.hdfs_namenode.specs.Clients.{name_of, proxy_of, through}
use Rattle.hdfs_namenode.specs.Views.{InEachView, Seen, see, view_of}
use Rattle.hdfs_namenode.proofs.Seeing.{view_same}
use Rattle.hdfs_namenode.proofs.Services.{same_client_trans, service_same}
use Rattle.hdfs_block_writer.specs.Written.{Closes, ClosesAnswered, GaveUp, WaitsForLast}
use Rattle.hdfs_block_writer.proofs.Allowed.{closes_then, may_go_on}
use Rattle.hdfs_block_writer.proofs.Closed.{closes_after}
use Rattle.hdfs_block_writer.proofs.Received.{last_after, on_ok_by}
use Rattle.hdfs_rebuild.proofs.Tried.{err_by, ok_by}
use Rattle.hdfs_block_writer.proofs.Wrote.{gave_up_after, some_after}
use Rattle.hdfs_block_writer.proofs.block_writer.BlockWriter.flush_and_end.Goals as goal

pub flush-requires : goal.flush-requires
flush-requires g c = record {
  service = c.requires.service;
  allowed = c.requires.allowed;
  holds = λ pipe is. (let h = c.requires.stands pipe is in (h.0, h.1));
  is_open = search rules;
}

pub returns-in_err-flush-clause-err : goal.returns-in_err-flush-clause-err
returns-in_err-flush-clause-err g c =
    let p = err_from_is_err_and c.from_residual.result c.from_residual.ensures.1 in
    rw (p.1, p.2) (λ view has. (c.in_err-flush.ensures.err view has).gave_up)

pub end-requires-clause-may : goal.end-requires-clause-may
end-requires-clause-may g c =
    let a = g.C.Cluster.shown c.args.cluster.now in
    let b = g.C.Cluster.shown c.flush.new.cluster in
    let some : IsSome c.args.self.now.pipe = search rules in
    let view = view_of (proxy_of c.args.namenode.now) in
    let wrote = c.in_ok-flush.ensures.wrote view (refl, refl) in
    record {
      service =
          service_same (proxy_of c.args.namenode.now) (proxy_of c.flush.new.namenode) a b c.flush.ensures.client.service wrote.own.later.namenodes
          c.requires.service;
      allowed = may_go_on c.args.self.now c.flush.new.self c.flush.ensures.client.name some wrote.stays c.in_ok-flush.ensures.answered c.requires.allowed;
      holds = c.in_ok-flush.ensures.holds.0;
      is_open = some_after (see view a) (see view b) c.args.self.now c.flush.new.self [] wrote some;
    }

pub returns-clause-closed : goal.returns-clause-closed
returns-clause-closed g c =
    let a = g.C.Cluster.shown c.args.cluster.now in
    let b = g.C.Cluster.shown c.flush.new.cluster in
    let z = g.C.Cluster.shown c.end.new.cluster in
    ok_by
    (λ block. Seen g.C.Cluster.shown (through c.flush.new.namenode c.flush.new.cluster) c.end.new.cluster
    (λ (s t : Shown). Closes s c.flush.new.self block t))
    (λ block. Seen g.C.Cluster.shown (through c.args.namenode.now c.args.cluster.now) c.end.new.cluster
    (λ (s t : Shown). Closes s c.args.self.now block t)) c.end.result
    (λ block closed view has.
    let sent = c.in_ok-flush.ensures.wrote view has in
    let then = view_same view (proxy_of c.args.namenode.now) (proxy_of c.flush.new.namenode) a b c.flush.ensures.client.service
    sent.own.later.namenodes has in
    closes_after (see view a) (see view b) (see view z) c.args.self.now c.flush.new.self block sent (closed view then))
    c.end.ensures.closed

pub returns-clause-last : goal.returns-clause-last
returns-clause-last g c =
    let a = g.C.Cluster.shown c.args.cluster.now in
    let b = g.C.Cluster.shown c.flush.new.cluster in
    on_ok_by
    (InEachView g.C.Cluster.shown (through c.flush.new.namenode c.flush.new.cluster)
    (λ sees. WaitsForLast (λ cluster. sees (g.C.Cluster.shown cluster)) g.C.Cluster.ends c.flush.new.cluster c.flush.new.self c.end.new.cluster))
    (InEachView g.C.Cluster.shown (through c.args.namenode.now c.args.cluster.now)
    (λ sees. WaitsForLast (λ cluster. sees (g.C.Cluster.shown cluster)) g.C.Cluster.ends c.args.cluster.now c.args.self.now c.end.new.cluster)) c.end.result
    (λ last view has.
    let sent = c.in_ok-flush.ensures.wrote view has in
    let then = view_same view (proxy_of c.args.namenode.now) (proxy_of c.flush.new.namenode) a b c.flush.ensures.client.service
    sent.own.later.namenodes has in
    last_after (λ cluster. see view (g.C.Cluster.shown cluster)) g.C.Cluster.ends c.args.cluster.now c.flush.new.cluster c.end.new.cluster
    c.args.self.now c.flush.new.self sent (last view then))
    c.end.ensures.last

pub returns-clause-err : goal.returns-clause-err
returns-clause-err g c =
    let a = g.C.Cluster.shown c.args.cluster.now in
    let b = g.C.Cluster.shown c.flush.new.cluster in
    let z = g.C.Cluster.shown c.end.new.cluster in
    err_by
    (λ error. Seen g.C.Cluster.shown (through c.flush.new.namenode c.flush.new.cluster) c.end.new.cluster
    (λ (s t : Shown). GaveUp s c.flush.new.self error t))
    (λ error. Seen g.C.Cluster.shown (through c.args.namenode.now c.args.cluster.now) c.end.new.cluster
    (λ (s t : Shown). GaveUp s c.args.self.now error t)) c.end.result
    (λ error gave view has.
    let sent = c.in_ok-flush.ensures.wrote view has in
    let then = view_same view (proxy_of c.args.namenode.now) (proxy_of c.flush.new.namenode) a b c.flush.ensures.client.service
    sent.own.later.namenodes has in
    gave_up_after (see view a) (see view b) c.args.self.now c.flush.new.self [] sent (see view z) error (gave view then))
    c.end.ensures.err

pub returns-clause-client : goal.returns-clause-client
returns-clause-client g c =
    same_client_trans c.args.namenode.now c.flush.new.namenode
    c.end.new.namenode c.flush.ensures.client c.end.ensures.client

pub returns-clause-answered : goal.returns-clause-answered
returns-clause-answered g c =
    let some : IsSome c.args.self.now.pipe = search rules in
    let view = view_of (proxy_of c.args.namenode.now) in
    let still = some_after (see view (g.C.Cluster.shown c.args.cluster.now)) (see view (g.C.Cluster.shown c.flush.new.cluster)) c.args.self.now
    c.flush.new.self [] (c.in_ok-flush.ensures.wrote view (refl, refl)) some in
    ok_by (ClosesAnswered g.C.Cluster.may_answer (name_of c.flush.new.namenode) c.flush.new.self)
    (ClosesAnswered g.C.Cluster.may_answer (name_of c.args.namenode.now) c.args.self.now) c.end.result
    (λ block closes. closes_then c.args.self.now c.flush.new.self block c.flush.ensures.client.name still c.in_ok-flush.ensures.answered closes)
    c.end.ensures.answered
