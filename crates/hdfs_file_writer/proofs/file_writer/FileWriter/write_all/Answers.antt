-- The goals of FileWriter::write_all.
use Rattle.std.proofs.Common.{◌≡◌, false, [], List, ℕ, ◌++◌, take, sym, ◌∙◌, ap, refl, subst}
use Rattle.std.proofs.lemmas.Result.{err_from_is_err_and}
use Rattle.std.proofs.lemmas.List.{take_rest}
use Rattle.hdfs_namenode.specs.Clients.{proxy_of}
use Rattle.hdfs_namenode.specs.Views.{see, view_of}
use Rattle.hdfs_namenode.proofs.Services.{same_client_refl, same_client_trans}
use Rattle.hdfs_block_writer.proofs.Wrote.{pieces_join}
use Rattle.hdfs_file_writer.proofs.Joining.{wrote_nothing}
use Rattle.hdfs_file_writer.specs.declared.sizes.WriteSizes.{WriteSizes}
use Rattle.hdfs_file_writer.specs.Writers.{AreLimited, CanGoOn, IsAnswered}
use Rattle.hdfs_file_writer.proofs.Seeing.{allowed_behind, fails_behind, keeps_behind, service_behind, wrote_behind}
use Rattle.hdfs_file_writer.proofs.file_writer.FileWriter.write_all.Goals as goal

pub blocks-2-init : goal.blocks-2-init
blocks-2-init g c = record {
  goes = record { stands = c.requires.may.stands; fine = c.requires.works.fine; answered = c.requires.may.answered };
  told = ([], refl, λ view has. wrote_nothing (see view (g.C.Cluster.shown c.args.cluster.now)) c.args.self.now);
  client = same_client_refl c.args.namenode.now;
}

pub blocks-2-preserved : goal.blocks-2-preserved
blocks-2-preserved g c =
    let before = c.blocks-2.invariant in
    let now = c.in_ok-taken.ensures in
    let n = c.in_ok-taken.taken in
    let rest = c.blocks-2.rest.now in
    let told = before.told in
    record {
      goes =
          subst (λ (client : List ℕ). CanGoOn g.C.Cluster.may_answer client (g.C.Cluster.shown c.write_piece.new.cluster) c.write_piece.new.self)
          before.client.name now.goes;
      told = (
        told.0 ++ take n rest,
        pieces_join c.args.bytes.now rest told.0 n told.1 ∙ ap (λ (l : List ℕ). told.0 ++ take n rest ++ l) (sym (take_rest rest n)),
        wrote_behind g.C.Cluster.shown c.args.cluster.now c.blocks-2.cluster before.client refl before.told.2 c.write_piece.new.cluster (take n rest) c.write_piece.new.self
            now.wrote,
      );
      client = same_client_trans c.args.namenode.now c.blocks-2.namenode c.write_piece.new.namenode before.client now.keeps.1;
    }

pub write_piece-requires-clause-may : goal.write_piece-requires-clause-may
write_piece-requires-clause-may g c =
    let before = c.blocks-2.invariant in
    record {
      service = service_behind g.C.Cluster.shown c.args.cluster.now c.blocks-2.cluster before.client refl before.told.2 c.requires.may.service;
      allowed =
          allowed_behind g.C.Cluster.shown c.args.cluster.now c.blocks-2.cluster before.client refl before.told.2 g.C.Cluster.allows g.C.Cluster.may_answer
          c.requires.may.allowed;
      answered = subst (λ (client : List ℕ). IsAnswered g.C.Cluster.may_answer client c.blocks-2.self) (sym before.client.name) before.goes.answered;
      stands = before.goes.stands;
    }

pub returns-in_err-taken-clause-err : goal.returns-in_err-taken-clause-err
returns-in_err-taken-clause-err g c =
    let before = c.blocks-2.invariant in
    let p = err_from_is_err_and c.from_residual.result c.from_residual.ensures.1 in
    rw (p.1, p.2)
    (fails_behind g.C.Cluster.shown c.args.cluster.now c.blocks-2.cluster before.client refl before.told.2 c.write_piece.new.cluster
    c.in_err-taken.field-0.0 c.in_err-taken.ensures.err)

pub returns-in_err-taken-clause-keeps : goal.returns-in_err-taken-clause-keeps
returns-in_err-taken-clause-keeps g c =
    let before = c.blocks-2.invariant in
    keeps_behind g.C.Cluster.shown c.args.cluster.now c.blocks-2.cluster before.client refl before.told.2 c.write_piece.new.self c.write_piece.new.namenode
    c.write_piece.ensures.keeps

pub write_piece-requires-clause-works : goal.write_piece-requires-clause-works
write_piece-requires-clause-works g c =
    let before = c.blocks-2.invariant in
    let wrote = before.told.2 (view_of (proxy_of c.args.namenode.now)) (refl, refl) in
    let same = sym wrote.keeps.sizes in
    record {
      limited = subst AreLimited same c.requires.works.limited;
      fine = before.goes.fine;
      plain = subst (λ (s : WriteSizes). s.encrypted ≡ false) same c.requires.works.plain;
    }

pub returns-clause-keeps : goal.returns-clause-keeps
returns-clause-keeps g c =
    let before = c.blocks-2.invariant in
    let wrote = before.told.2 (view_of (proxy_of c.args.namenode.now)) (refl, refl) in
    (wrote.keeps, before.client)
