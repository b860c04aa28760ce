-- The file is created by the call of hdfs_opening, and its lease taken.
use Rattle.std.proofs.Common.{inr, refl, sym, subst}
use Rattle.std.proofs.lemmas.Result.{err_from_is_err_and}
use Rattle.hdfs_file_writer.specs.declared.file_writer.FileWriter.{FileWriter}
use Rattle.hdfs_namenode.specs.Views.{see}
use Rattle.hdfs_opening.specs.Opening as opening
use Rattle.hdfs_opening.specs.Opening.{BeginsNew}
use Rattle.hdfs_opening.specs.declared.opened_file.WriteTerms.{WriteTerms}
use Rattle.hdfs_client.specs.Opening.{CreatesBy}
use Rattle.hdfs_client.proofs.Held.{keeps_behind}
use Rattle.hdfs_client.proofs.opening.create_held.Goals as goal

pub returns-in_err-hold-clause-err : goal.returns-in_err-hold-clause-err
returns-in_err-hold-clause-err g c =
    let p = err_from_is_err_and c.from_residual-in_err-hold.result c.from_residual-in_err-hold.ensures.1 in
    rw (p.1, p.2) (
      inr (record {
        terms = c.terms_of-terms.result;
        writer = c.in_ok-opened.opened.file;
        told = c.in_ok-opened.opened.told;
        opened = c.create_by.new.namenode;
        opens = c.in_ok-opened.ensures.created;
        alone = c.hold.ensures.keeps;
        is = refl;
      }),
      keeps_behind c.in_ok-opened.ensures.keeps.0.1 c.in_err-hold.ensures.err,
    )

pub returns-clause-created : goal.returns-clause-created
returns-clause-created g c =
    let opened = c.in_ok-opened.opened in
    subst (λ (w : FileWriter). CreatesBy g.C.Cluster.may_answer g.C.Cluster.serves c.args.path c.args.options.now c.args.rebuilding c.args.namenode.now c.args.cluster.now w
    c.in_ok-hold.field-0.lease c.hold.new.namenode c.create_by.new.cluster) (sym c.in_ok-hold.ensures.file.0) (record {
      told = opened.told;
      opened = c.create_by.new.namenode;
      creates =
          subst (λ (t : WriteTerms). opening.CreatesBy g.C.Cluster.may_answer g.C.Cluster.serves c.args.path c.args.options.now t c.args.namenode.now c.args.cluster.now opened.file opened.told
          c.create_by.new.namenode c.create_by.new.cluster) c.terms_of-terms.ensures c.in_ok-opened.ensures.created;
      holds = record {
        same = c.in_ok-opened.ensures.keeps.0;
        is = c.in_ok-hold.ensures.file.1;
        taken = c.in_ok-hold.ensures.taken;
        alone = c.hold.ensures.keeps;
      };
    })

pub returns-clause-begins : goal.returns-clause-begins
returns-clause-begins g c = λ view has.
    subst (λ (w : FileWriter). BeginsNew (see view (g.C.Cluster.shown c.args.cluster.now)) c.args.path c.args.options.now w
    (see view (g.C.Cluster.shown c.create_by.new.cluster))) (sym c.in_ok-hold.ensures.file.0) (c.in_ok-opened.ensures.begins view has)
