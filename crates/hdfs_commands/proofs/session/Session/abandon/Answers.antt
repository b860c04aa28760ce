-- One writer after another is given up.
use Rattle.std.proofs.Common.{length, String, sym, ap, subst, arith}
use Rattle.std.proofs.lemmas.List.{length_push}
use Rattle.std.proofs.lemmas.Map.Iter.{iter_turn, iter_end}
use Rattle.std.specs.declared.alloc.Global.{Global}
use Rattle.hdfs_file_writer.specs.declared.file_writer.FileWriter.{FileWriter}
use Rattle.hdfs_commands.proofs.AbandonFiles.{LeftFiles, files_start, files_next}
use Rattle.hdfs_commands.proofs.Abandoning.{Left, left_start, left_next, left_end}
use Rattle.hdfs_commands.proofs.session.Session.abandon.Goals as goal

pub abandon-requires : goal.abandon-requires
abandon-requires g c =
    let turn = iter_turn (λ (x : String Global × FileWriter). x) c.args.self.writers.entries c.loop-writer.yielded c.into_iter-writer-iterator.result c.loop-writer.writer-iterator c.next.new.self c.next.result
    c.into_iter-writer-iterator.ensures.into_iter_gives.0 c.loop-writer.yielded_by (c.in-Some.field-0-0, c.in-Some.writer) c.in-Some.is c.next.ensures.steps in
    record { stands = c.loop-writer.invariant.left.stands (length c.loop-writer.yielded) c.in-Some.field-0-0 c.in-Some.writer (omega arith) turn.1 }

pub loop-writer-init : goal.loop-writer-init
loop-writer-init g c = record {
  left = left_start c.args.self c.into_iter-writer-iterator.ensures.into_iter_gives.5 (g.C.Cluster.shown c.args.cluster.now) c.requires.stands;
  files = files_start c.args.self c.into_iter-writer-iterator.ensures.into_iter_gives.5 (g.C.Cluster.shown c.args.cluster.now) c.requires.stands;
}

pub loop-writer-preserved : goal.loop-writer-preserved
loop-writer-preserved g c =
    let s = g.C.Cluster.shown c.args.cluster.now in
    let u = g.C.Cluster.shown c.abandon.new.cluster in
    let turn = iter_turn (λ (x : String Global × FileWriter). x) c.args.self.writers.entries c.loop-writer.yielded c.into_iter-writer-iterator.result c.loop-writer.writer-iterator c.next.new.self c.next.result
    c.into_iter-writer-iterator.ensures.into_iter_gives.0 c.loop-writer.yielded_by (c.in-Some.field-0-0, c.in-Some.writer) c.in-Some.is c.next.ensures.steps in
    record {
      left = subst (Left s u c.args.self) (sym (length_push c.loop-writer.yielded (c.in-Some.field-0-0, c.in-Some.writer)))
          (left_next c.args.self c.into_iter-writer-iterator.ensures.into_iter_gives.5 s c.requires.stands (g.C.Cluster.shown c.loop-writer.cluster) u
          (length c.loop-writer.yielded) c.in-Some.field-0-0 c.in-Some.writer c.loop-writer.invariant.left turn.1 c.abandon.ensures.own);
      files = subst (LeftFiles s u c.args.self) (sym (length_push c.loop-writer.yielded (c.in-Some.field-0-0, c.in-Some.writer)))
          (files_next c.args.self c.into_iter-writer-iterator.ensures.into_iter_gives.5 s c.requires.stands (g.C.Cluster.shown c.loop-writer.cluster) u (g.met.C.Cluster.sound c.loop-writer.cluster)
          (length c.loop-writer.yielded) c.in-Some.field-0-0 c.in-Some.writer c.loop-writer.invariant.files turn.1 c.abandon.ensures.own (λ none. ap g.C.Cluster.shown (c.abandon.ensures.idle none)) c.abandon.ensures.last c.abandon.ensures.touches);
    }

pub returns-clause-others : goal.returns-clause-others
returns-clause-others g c = λ link is lacks. c.loop-writer.invariant.left.others link lacks

pub returns-clause-none : goal.returns-clause-none
returns-clause-none g c =
    let all = iter_end (λ (x : String Global × FileWriter). x) c.args.self.writers.entries c.loop-writer.yielded c.into_iter-writer-iterator.result c.loop-writer.writer-iterator c.next.new.self c.next.result
    c.into_iter-writer-iterator.ensures.into_iter_gives.0 c.loop-writer.yielded_by c.in-None.is c.next.ensures.steps in
    left_end c.args.self c.into_iter-writer-iterator.ensures.into_iter_gives.5 (g.C.Cluster.shown c.args.cluster.now) c.requires.stands (g.C.Cluster.shown c.loop-writer.cluster)
    (length c.loop-writer.yielded) (omega (arith, all.1)) c.loop-writer.invariant.left

pub returns-clause-keeps : goal.returns-clause-keeps
returns-clause-keeps g c = (c.loop-writer.invariant.files.later, c.loop-writer.invariant.files.reads, c.loop-writer.invariant.files.last)

pub returns-clause-files : goal.returns-clause-files
returns-clause-files g c = λ state opened. c.loop-writer.invariant.files.leaves state opened
