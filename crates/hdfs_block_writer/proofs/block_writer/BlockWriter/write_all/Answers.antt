-- The goals of BlockWriter::write_all.
use Rattle.std.proofs.Common.{ℕ, List, [], ◌++◌, length, take, refl, sym, ◌∙◌, ap, arith}
use Rattle.std.proofs.lemmas.Result.{err_from_is_err_and}
use Rattle.std.proofs.lemmas.List.{length-drop, take_rest, length-take-le}
use Rattle.hdfs_namenode.specs.Clients.{proxy_of}
use Rattle.hdfs_namenode.specs.Views.{see, view_of}
use Rattle.hdfs_namenode.proofs.Seeing.{view_same}
use Rattle.hdfs_namenode.proofs.Services.{same_client_refl, same_client_trans, service_same}
use Rattle.hdfs_block_writer.proofs.Allowed.{goes_same, goes_then, may_go_on}
use Rattle.hdfs_block_writer.proofs.Wrote.{wrote_refl, wrote_trans, fails_after, some_after, pieces_join}
use Rattle.hdfs_block_writer.proofs.block_writer.BlockWriter.write_all.Goals as goal

pub pieces-init : goal.pieces-init
pieces-init g c = record {
  service = c.requires.may.service;
  client = same_client_refl c.args.namenode.now;
  stands = c.requires.may.stands;
  some = c.requires.open;
  answered = goes_same c.args.self.now c.args.self.now refl;
  allowed = c.requires.may.allowed;
  room = c.requires.room;
  told = ([], refl, λ view has. wrote_refl (see view (g.C.Cluster.shown c.args.cluster.now)) c.args.self.now);
}

pub pieces-preserved : goal.pieces-preserved
pieces-preserved g c =
    let s = g.C.Cluster.shown c.args.cluster.now in
    let t = g.C.Cluster.shown c.pieces.cluster in
    let u = g.C.Cluster.shown c.write_piece.new.cluster in
    let before = c.pieces.invariant in
    let now = c.in_ok-taken.ensures in
    let taken = now.count.1 in
    let here = view_of (proxy_of c.pieces.namenode) in
    let wrote = now.wrote here (refl, refl) in
    let n = c.in_ok-taken.taken in
    let rest = c.pieces.rest.now in
    let told = before.told in
    record {
      service =
          service_same (proxy_of c.pieces.namenode) (proxy_of c.write_piece.new.namenode) t u c.write_piece.ensures.client.service
          wrote.own.later.namenodes before.service;
      client =
          same_client_trans c.args.namenode.now c.pieces.namenode c.write_piece.new.namenode before.client c.write_piece.ensures.client;
      stands = now.stands;
      some = some_after (see here t) (see here u) c.pieces.self c.write_piece.new.self (take n rest) wrote before.some;
      answered = goes_then c.args.self.now c.pieces.self c.write_piece.new.self before.client.name before.some before.answered now.answered;
      allowed =
          may_go_on c.pieces.self c.write_piece.new.self c.write_piece.ensures.client.name before.some wrote.stays now.answered before.allowed;
      room = omega (arith, before.room, taken, wrote.length, wrote.keeps.block_size, length-take-le n rest taken, length-drop n rest, ap length (take_rest rest n));
      told = (
        told.0 ++ take n rest,
        pieces_join c.args.bytes.now rest told.0 n told.1 ∙ ap (λ (l : List ℕ). told.0 ++ take n rest ++ l) (sym (take_rest rest n)),
        λ view has.
            let sent = told.2 view has in
            let then = view_same view (proxy_of c.args.namenode.now) (proxy_of c.pieces.namenode) s t before.client.service
            sent.own.later.namenodes has in
            wrote_trans (see view s) (see view t) c.args.self.now c.pieces.self told.0 sent (see view u) c.write_piece.new.self (take n rest)
            (now.wrote view then),
      );
    }

pub returns-in_err-taken-clause-err : goal.returns-in_err-taken-clause-err
returns-in_err-taken-clause-err g c =
    let p = err_from_is_err_and c.from_residual.result c.from_residual.ensures.1 in
    let s = g.C.Cluster.shown c.args.cluster.now in
    let t = g.C.Cluster.shown c.pieces.cluster in
    let told = c.pieces.invariant.told in
    rw (p.1, p.2)
    (λ view has.
    let sent = told.2 view has in
    let then = view_same view (proxy_of c.args.namenode.now) (proxy_of c.pieces.namenode) s t c.pieces.invariant.client.service
    sent.own.later.namenodes has in
    fails_after (see view s) (see view t) c.args.self.now c.pieces.self told.0 sent (see view (g.C.Cluster.shown c.write_piece.new.cluster))
    c.write_piece.new.self c.in_err-taken.field-0.0 (c.in_err-taken.ensures.err view then))
