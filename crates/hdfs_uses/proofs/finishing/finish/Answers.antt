-- A writer that is given up behind a close leaves the file as it was closed.
use Rattle.hdfs_uses.specs.Writing.{Finishes}
use Rattle.hdfs_uses.proofs.Cases.{after_end}
use Rattle.hdfs_uses.proofs.Finished.{last_of}
use Rattle.hdfs_uses.proofs.Keeping.{files_alone, others_trans}
use Rattle.hdfs_uses.proofs.finishing.finish.Goals as goal

pub returns-clause-stored : goal.returns-clause-stored
returns-clause-stored g c =
    after_end (λ (now : _). Finishes (g.C.Cluster.shown c.args.cluster.now) c.args.writer c.args.bytes.now (g.C.Cluster.shown now)) _ _ c.write_all-done.result _ c.abandon.ensures.shut c.write_all-done.ensures.stored

pub returns-clause-err : goal.returns-clause-err
returns-clause-err g c = last_of (g.C.Cluster.shown c.args.cluster.now) c.args.writer c.args.bytes.now _ c.write_all-done.result c.write_all-done.ensures.err

pub returns-clause-files : goal.returns-clause-files
returns-clause-files g c = λ none. files_alone none (others_trans c.write_all-done.ensures.others c.abandon.ensures.others)
