-- The goals of FileWriter::make_room.
use Rattle.std.proofs.Common.{[], ap, sym, ◌∙◌, subst, ◌≡◌, false}
use Rattle.std.proofs.lemmas.Result.{IfErr-weaker, err_from_is_err_and, on_ok_weaker}
use Rattle.std.proofs.lemmas.Bool.{false≢true}
use Rattle.hdfs_namenode.specs.Clients.{name_of}
use Rattle.hdfs_namenode.specs.Views.{see}
use Rattle.hdfs_file_writer.specs.declared.file_writer.FileWriter.{FileWriter}
use Rattle.hdfs_file_writer.specs.Tails.{HasRoom, going_of}
use Rattle.hdfs_file_writer.specs.declared.tails.Tail.{Tail}
use Rattle.hdfs_file_writer.specs.declared.tails.Tail.TheVariants.{Reopened}
use Rattle.hdfs_file_writer.specs.Writers.{IsToOpen, MayFinish, Wrote}
use Rattle.hdfs_file_writer.proofs.Joining.{wrote_nothing}
use Rattle.hdfs_file_writer.proofs.Standing.{full_without_room}
use Rattle.hdfs_file_writer.proofs.Allowed.{may_finish, answered_reopened}
use Rattle.hdfs_file_writer.proofs.Tried.{reopened_fails}
use Rattle.hdfs_file_writer.proofs.Seeing.{not_set_up_seen, wrote_seen, adds_behind, fails_behind, keeps_behind, wrote_behind}
use Rattle.hdfs_file_writer.proofs.file_writer.FileWriter.make_room.Goals as goal

pub begin_block-requires-clause-adds : goal.begin_block-requires-clause-adds
begin_block-requires-clause-adds g c =
    let w = c.args.self.now in
    let none : HasRoom w.tail → ⊥ = λ room. false≢true (sym c.if-has_room.false ∙ c.has_room.ensures.1 room) in
    adds_behind g.C.Cluster.shown c.args.cluster.now c.finish_block.new.cluster c.finish_block.ensures.keeps.2
    (c.take_reopened.ensures.none c.in-None.is) c.in_ok-finish_block.ensures.wrote g.C.Cluster.allows g.C.Cluster.may_answer
    c.requires.may.service c.requires.may.allowed c.in_ok-finish_block.ensures.answered c.in_ok-finish_block.ensures.between.1
    (full_without_room (g.C.Cluster.shown c.args.cluster.now) w c.requires.may.stands c.requires.works.fine none (c.take_reopened.ensures.full c.in-None.is))

pub returns-clause-wrote : goal.returns-clause-wrote
returns-clause-wrote g c =
    on_ok_weaker c.begin_block.result
    (wrote_behind g.C.Cluster.shown c.args.cluster.now c.finish_block.new.cluster c.finish_block.ensures.keeps.2
    (c.take_reopened.ensures.none c.in-None.is) c.in_ok-finish_block.ensures.wrote c.begin_block.new.cluster [] c.begin_block.new.self)
    c.begin_block.ensures.wrote

pub returns-clause-err : goal.returns-clause-err
returns-clause-err g c =
    IfErr-weaker c.begin_block.result _ _
    (fails_behind g.C.Cluster.shown c.args.cluster.now c.finish_block.new.cluster c.finish_block.ensures.keeps.2
    (c.take_reopened.ensures.none c.in-None.is) c.in_ok-finish_block.ensures.wrote c.begin_block.new.cluster)
    c.begin_block.ensures.err

pub open_block-requires-clause-located : goal.open_block-requires-clause-located
open_block-requires-clause-located g c =
    let w = c.args.self.now in
    let some = c.in-Some.ensures.some in
    subst (λ (x : FileWriter). IsToOpen g.C.Cluster.may_answer (name_of c.args.namenode.now) x false c.in-Some.located) (sym some.2)
    (record {
      answered = answered_reopened w some.0 c.requires.may.answered;
      block = c.requires.may.stands.reopened c.in-Some.located some.0;
      room = some.1;
    })

pub finish_block-requires-clause-may : goal.finish_block-requires-clause-may
finish_block-requires-clause-may g c =
    subst (MayFinish g.C.Cluster.allows g.C.Cluster.may_answer c.args.namenode.now (g.C.Cluster.shown c.args.cluster.now))
    (sym (c.take_reopened.ensures.none c.in-None.is)) (may_finish c.requires.may)

pub open_block-requires-clause-allowed : goal.open_block-requires-clause-allowed
open_block-requires-clause-allowed g c =
    let w = c.args.self.now in
    let some = c.in-Some.ensures.some in
    c.requires.may.allowed.opens c.in-Some.located false (answered_reopened w some.0 c.requires.may.answered)

pub returns-clause-keeps : goal.returns-clause-keeps
returns-clause-keeps g c =
    keeps_behind g.C.Cluster.shown c.args.cluster.now c.finish_block.new.cluster c.finish_block.ensures.keeps.2
    (c.take_reopened.ensures.none c.in-None.is) c.in_ok-finish_block.ensures.wrote c.begin_block.new.self c.begin_block.new.namenode c.begin_block.ensures.keeps

pub returns-in-Some-clause-wrote : goal.returns-in-Some-clause-wrote
returns-in-Some-clause-wrote g c = λ view has.
    let s = g.C.Cluster.shown c.args.cluster.now in
    let t = g.C.Cluster.shown c.open_block.new.cluster in
    let w = c.args.self.now in
    let located = c.in-Some.located in
    let some = c.in-Some.ensures.some in
    let same : record c.take_reopened.new.self { tail = Reopened located } ≡ w =
    ap (λ (x : FileWriter). record x { tail = Reopened located }) some.2
    ∙ ap (λ (t : Tail). record w { tail = t }) (sym some.0) in
    wrote_seen view (ap going_of some.0) (subst (λ (x : FileWriter). Wrote s x [] t c.open_block.new.self) same c.in_ok-open_block-in-Some.ensures.wrote)

pub returns-in_err-open_block-in-Some-clause-err : goal.returns-in_err-open_block-in-Some-clause-err
returns-in_err-open_block-in-Some-clause-err g c =
    let p = err_from_is_err_and c.from_residual.result c.from_residual.ensures.1 in
    rw (p.1, p.2) (λ view has.
    let s = see view (g.C.Cluster.shown c.args.cluster.now) in
    let t = see view (g.C.Cluster.shown c.open_block.new.cluster) in
    let w = c.args.self.now in
    let some = c.in-Some.ensures.some in
    reopened_fails s t w c.in-Some.located some.0 (name_of c.args.namenode.now) c.in_err-open_block-in-Some.field-0.0 (not_set_up_seen view c.in_err-open_block-in-Some.ensures.err.1))

pub returns-then-has_room-clause-wrote : goal.returns-then-has_room-clause-wrote
returns-then-has_room-clause-wrote g c = λ view has. wrote_nothing (see view (g.C.Cluster.shown c.args.cluster.now)) c.args.self.now
