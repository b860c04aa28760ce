-- The goals of FileWriter::leave.
use Rattle.std.proofs.Common.{◌≡◌, ap}
use Rattle.hdfs_file_writer.specs.declared.tails.Tail.TheVariants.{Going}
use Rattle.hdfs_file_writer.proofs.Steps.{idle_leaves, let_go_last, let_go_leaves}
use Rattle.hdfs_file_writer.proofs.file_writer.FileWriter.leave.Goals as goal

pub abandon-requires : goal.abandon-requires
abandon-requires g c =
    let going : c.args.self.now.tail ≡ Going c.in-Some.block = c.in-Some.ensures.some.0 in
    (c.requires.stands.going c.in-Some.block going).stands

pub returns-in-Some-clause-touches : goal.returns-in-Some-clause-touches
returns-in-Some-clause-touches g c =
    let going : c.args.self.now.tail ≡ Going c.in-Some.block = c.in-Some.ensures.some.0 in
    let_go_leaves (g.C.Cluster.shown c.args.cluster.now) (g.C.Cluster.shown c.abandon.new.cluster) (g.met.C.Cluster.sound c.args.cluster.now) (g.met.C.Cluster.sound c.abandon.new.cluster) c.args.self.now c.in-Some.block going c.abandon.ensures.gone

pub returns-in_default-clause-touches : goal.returns-in_default-clause-touches
returns-in_default-clause-touches g c = idle_leaves (g.C.Cluster.shown c.args.cluster.now) c.args.self.now

pub returns-in-Some-clause-last : goal.returns-in-Some-clause-last
returns-in-Some-clause-last g c =
    let_go_last (g.C.Cluster.shown c.args.cluster.now) (g.C.Cluster.shown c.abandon.new.cluster) c.in-Some.block c.abandon.ensures.gone
    (λ failed. ap g.C.Cluster.shown (c.abandon.ensures.failed failed))
