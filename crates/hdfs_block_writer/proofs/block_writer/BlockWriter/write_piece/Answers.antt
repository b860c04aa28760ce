-- The goals of BlockWriter::write_piece.
use Rattle.std.proofs.Common.{[], IsSome, take, refl, sym, ◌∙◌, subst}
use Rattle.std.proofs.lemmas.List.{append-nil}
use Rattle.std.proofs.lemmas.Result.{err_from_is_err_and}
use Rattle.std.specs.Prelude.{ℕ, List}
use Rattle.hdfs_namenode.specs.Views.{see}
use Rattle.hdfs_rebuild.proofs.Seeing.{ended_seen}
use Rattle.hdfs_block_writer.specs.Written.{Wrote}
use Rattle.hdfs_block_writer.proofs.Allowed.{goes_same, goes_then}
use Rattle.hdfs_block_writer.proofs.Sent.{pipe_of, holds_filled, is_open}
use Rattle.hdfs_block_writer.proofs.Wrote.{ended_fails, fill_wrote, wrote_trans, fails_after}
use Rattle.hdfs_block_writer.proofs.block_writer.BlockWriter.write_piece.Goals as goal

pub fill-requires-clause-kept : goal.fill-requires-clause-kept
fill-requires-clause-kept g c = let pipe = pipe_of c.args.self.now c.requires.open in (c.requires.may.stands pipe.0 pipe.1).0

pub fill-requires-clause-space : goal.fill-requires-clause-space
fill-requires-clause-space g c = let pipe = pipe_of c.args.self.now c.requires.open in (c.requires.may.stands pipe.0 pipe.1).2

pub fail-requires : goal.fail-requires
fail-requires g c = λ pipe is.
    is_open c.args.self.now.settings (g.C.Cluster.shown c.args.cluster.now) pipe []
    (c.requires.may.stands pipe (sym c.fill.ensures.same.0 ∙ is)).1.standing

pub returns-in_default-clause-err : goal.returns-in_default-clause-err
returns-in_default-clause-err g c view has =
    ended_fails c.args.self.now c.fill.new.self c.fail.new.self (see view (g.C.Cluster.shown c.args.cluster.now))
    (see view (g.C.Cluster.shown c.fail.new.cluster)) c.fill.ensures.same.0 c.fill.ensures.same.1 c.fail.ensures.failed
    (λ pipe is. ended_seen view (c.fail.ensures.ended pipe is))

pub flush_full-requires-clause-may : goal.flush_full-requires-clause-may
flush_full-requires-clause-may g c = record {
  service = c.requires.may.service;
  allowed = λ pipe is. c.requires.may.allowed pipe (sym c.in-Ok.ensures.fills.pipe ∙ is);
  holds =
      holds_filled (g.C.Cluster.shown c.args.cluster.now) c.args.self.now c.fill.new.self (take c.in-Ok.count c.args.bytes.now)
      c.requires.may.stands c.in-Ok.ensures.kept c.in-Ok.ensures.fills;
  is_open = subst IsSome (sym c.in-Ok.ensures.fills.pipe) c.requires.open;
}

pub flush_full-requires-clause-full : goal.flush_full-requires-clause-full
flush_full-requires-clause-full g c = λ pipe is. (c.requires.may.stands pipe (sym c.in-Ok.ensures.fills.pipe ∙ is)).3

pub returns-clause-wrote : goal.returns-clause-wrote
returns-clause-wrote g c view has =
    let a = see view (g.C.Cluster.shown c.args.cluster.now) in
    let b = see view (g.C.Cluster.shown c.flush_full.new.cluster) in
    let w = c.args.self.now in
    let more = take c.in-Ok.count c.args.bytes.now in
    let pipe = pipe_of w c.requires.open in
    let filled = fill_wrote a w c.fill.new.self more (c.requires.may.stands pipe.0 pipe.1).0.filled c.in-Ok.ensures.fills in
    subst (λ (bytes : List ℕ). Wrote a w bytes b c.flush_full.new.self) (append-nil more)
    (wrote_trans a a w c.fill.new.self more filled b c.flush_full.new.self [] (c.in_ok-flush_full.ensures.wrote view has))

pub returns-in_err-flush_full-clause-err : goal.returns-in_err-flush_full-clause-err
returns-in_err-flush_full-clause-err g c =
    let p = err_from_is_err_and c.from_residual.result c.from_residual.ensures.1 in
    let w = c.args.self.now in
    let more = take c.in-Ok.count c.args.bytes.now in
    let pipe = pipe_of w c.requires.open in
    rw (p.1, p.2)
    (λ view has.
    let a = see view (g.C.Cluster.shown c.args.cluster.now) in
    let filled = fill_wrote a w c.fill.new.self more (c.requires.may.stands pipe.0 pipe.1).0.filled c.in-Ok.ensures.fills in
    fails_after a a w c.fill.new.self more filled (see view (g.C.Cluster.shown c.flush_full.new.cluster)) c.flush_full.new.self
    c.in_err-flush_full.field-0.0 (c.in_err-flush_full.ensures.err view has))

pub returns-clause-answered : goal.returns-clause-answered
returns-clause-answered g c =
    goes_then c.args.self.now c.fill.new.self c.flush_full.new.self refl (subst IsSome (sym c.in-Ok.ensures.fills.pipe) c.requires.open)
    (goes_same c.args.self.now c.fill.new.self c.in-Ok.ensures.fills.pipe) c.in_ok-flush_full.ensures.answered
