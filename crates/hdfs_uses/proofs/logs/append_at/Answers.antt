-- The record is written by the writer of the file, whose link is its own.
use Rattle.std.proofs.Common.{inl}
use Rattle.hdfs_client.proofs.Beside.{files_trans}
use Rattle.hdfs_uses.proofs.Finished.{appended_by, appended_idle}
use Rattle.hdfs_uses.proofs.logs.append_at.Goals as goal

pub returns-in-Ok-clause-appends : goal.returns-in-Ok-clause-appends
returns-in-Ok-clause-appends g c =
    appended_by g.C.Cluster.shown g.C.Cluster.may_answer g.C.Cluster.serves c.args.client.now _ _ c.args.path.now c.args.bytes.now c.args.cluster.now _ _ c.in-Ok.writer c.finish.result c.finish.ensures.stored c.finish.ensures.err
    c.in-Ok.ensures.opened c.in-Ok.ensures.begins

pub returns-in-Ok-clause-files : goal.returns-in-Ok-clause-files
returns-in-Ok-clause-files g c =
    files_trans c.append.ensures.files
    (c.finish.ensures.files (appended_idle g.C.Cluster.shown g.C.Cluster.may_answer g.C.Cluster.serves c.args.client.now _ c.args.path.now c.args.bytes.now c.args.cluster.now _ (g.C.Cluster.shown c.args.cluster.now) c.in-Ok.writer c.in-Ok.ensures.opened))

pub returns-in-Err-clause-appends : goal.returns-in-Err-clause-appends
returns-in-Err-clause-appends g c = record { ok = tt; err = inl c.in-Err.ensures.err }
