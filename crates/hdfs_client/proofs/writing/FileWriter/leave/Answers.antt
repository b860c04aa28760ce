-- The link is ended of a writer that is open.
use Rattle.std.proofs.Common.{◌≡◌, None, subst, sym}
use Rattle.hdfs_file_writer.specs.Writers.{LeavesFile, OnlyOwnLink, link_of}
use Rattle.hdfs_file_writer.specs.declared.file_writer.FileWriter.{FileWriter}
use Rattle.hdfs_client.proofs.writing.FileWriter.leave.Goals as goal

pub abandon-requires : goal.abandon-requires
abandon-requires g c = record { stands = c.requires c.in-Some.file (sym c.in-Some.ensures.value) }

pub returns-in-Some-clause-left : goal.returns-in-Some-clause-left
returns-in-Some-clause-left g c = λ file is.
    let same : c.in-Some.file ≡ file = cc (c.in-Some.ensures.value, is) in
    subst (λ (f : FileWriter). OnlyOwnLink (g.C.Cluster.shown c.args.cluster.now) (link_of f) (g.C.Cluster.shown c.abandon.new.cluster) None
    × LeavesFile (g.C.Cluster.shown c.args.cluster.now) f (g.C.Cluster.shown c.abandon.new.cluster)) same
    (c.abandon.ensures.own, c.abandon.ensures.touches)
