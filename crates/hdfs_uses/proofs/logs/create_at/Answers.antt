-- The record is written by the writer of the file, whose link is its own.
use Rattle.std.proofs.Common.{inl}
use Rattle.hdfs_client.proofs.Beside.{files_trans}
use Rattle.hdfs_uses.proofs.Finished.{created_by, created_idle}
use Rattle.hdfs_uses.proofs.logs.create_at.Goals as goal

pub returns-in-Ok-clause-creates : goal.returns-in-Ok-clause-creates
returns-in-Ok-clause-creates g c =
    created_by g.C.Cluster.shown g.C.Cluster.may_answer g.C.Cluster.serves c.args.client.now _ _ c.args.path.now c.args.bytes.now c.args.cluster.now _ _ c.in-Ok.writer c.finish.result c.finish.ensures.stored c.finish.ensures.err
    c.in-Ok.ensures.created c.in-Ok.ensures.begins

pub returns-in-Ok-clause-files : goal.returns-in-Ok-clause-files
returns-in-Ok-clause-files g c =
    files_trans c.create.ensures.files
    (c.finish.ensures.files (created_idle g.C.Cluster.shown g.C.Cluster.may_answer g.C.Cluster.serves c.args.client.now _ c.args.path.now c.args.bytes.now c.args.cluster.now _ (g.C.Cluster.shown c.args.cluster.now) c.in-Ok.writer c.in-Ok.ensures.created))

pub returns-in-Err-clause-creates : goal.returns-in-Err-clause-creates
returns-in-Err-clause-creates g c = record { ok = tt; err = inl c.in-Err.ensures.err }
