-- The goals of FileWriter::write.
use Rattle.std.proofs.Common.{◌≡◌, ℕ, List, [], length, sym, ◌∙◌, subst, true, refl}
use Rattle.std.proofs.lemmas.Bool.{eqb-true}
use Rattle.std.proofs.lemmas.List.{nil_from_length}
use Rattle.hdfs_file_writer.specs.declared.tails.Tail.TheVariants.{Bare}
use Rattle.hdfs_file_writer.specs.Writers.{Wrote, IsAnswered}
use Rattle.hdfs_file_writer.proofs.Joining.{wrote_nothing}
use Rattle.hdfs_file_writer.proofs.Allowed.{answered_bare}
use Rattle.hdfs_namenode.specs.Clients.{name_of}
use Rattle.hdfs_namenode.specs.Views.{see}
use Rattle.hdfs_file_writer.proofs.file_writer.FileWriter.write.Goals as goal

pub returns-then-is_empty-clause-wrote : goal.returns-then-is_empty-clause-wrote
returns-then-is_empty-clause-wrote g c = λ view has.
    let s = see view (g.C.Cluster.shown c.args.cluster.now) in
    let w = c.args.self.now in
    let none : c.args.bytes.now ≡ [] =
    nil_from_length c.args.bytes.now (eqb-true (length c.args.bytes.now) 0 (sym c.is_empty.ensures ∙ c.if-is_empty.true)) in
    subst (λ (more : List ℕ). Wrote s w more s w) (sym none) (wrote_nothing s w)

pub returns-in-Err-clause-answered : goal.returns-in-Err-clause-answered
returns-in-Err-clause-answered g c =
    let w = c.write_all.new.self in
    let kept = c.write_all.ensures.keeps.0 in
    subst (IsAnswered g.C.Cluster.may_answer (name_of c.args.namenode.now)) (sym c.let_go-in-Err.ensures)
    (answered_bare c.args.self.now (record w { failed = true; tail = Bare })
    (record { path = kept.path; file_id = kept.file_id; sizes = kept.sizes }) refl
    c.requires.answered)
