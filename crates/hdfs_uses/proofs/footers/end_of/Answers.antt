-- A reader's last bytes are its file's.
use Rattle.std.proofs.Common.{inl}
use Rattle.hdfs_client.proofs.Beside.{files_trans}
use Rattle.hdfs_uses.proofs.Cases.{done_all}
use Rattle.hdfs_uses.proofs.Ends.{ended_by, mounts_by, unended_by}
use Rattle.hdfs_uses.proofs.footers.end_of.Goals as goal

pub read-requires-clause-allowed : goal.read-requires-clause-allowed
read-requires-clause-allowed g c = λ to leads. (c.requires.reads.1 c.args.path.now to leads).locates

pub last_of-requires-clause-blocks : goal.last_of-requires-clause-blocks
last_of-requires-clause-blocks g c = λ k default low end.
    let asks = c.in-Ok.ensures.asked.asks in
    (c.requires.reads.1 c.args.path.now asks.to asks.leads).reads _ (c.in-Ok.ensures.answered asks.to asks.leads k default low) end

pub returns-in-Ok-clause-end : goal.returns-in-Ok-clause-end
returns-in-Ok-clause-end g c =
    ended_by g.C.Cluster.shown g.C.Cluster.serves c.args.client.now _ _ c.args.path.now c.args.cluster.now _ _ c.in-Ok.reader c.last_of.result c.in-Ok.ensures.asked c.last_of.ensures.reads
    c.in-Ok.ensures.shows c.in-Ok.ensures.made c.read.ensures.files

pub returns-in-Ok-clause-err : goal.returns-in-Ok-clause-err
returns-in-Ok-clause-err g c =
    unended_by g.C.Cluster.shown g.C.Cluster.serves c.args.client.now _ _ c.args.path.now c.args.cluster.now _ _ c.in-Ok.reader c.last_of.result c.in-Ok.ensures.asked c.last_of.ensures.reads

pub returns-in-Ok-clause-files : goal.returns-in-Ok-clause-files
returns-in-Ok-clause-files g c = files_trans c.read.ensures.files c.last_of.ensures.files

pub returns-in-Err-clause-err : goal.returns-in-Err-clause-err
returns-in-Err-clause-err g c = inl (_, _, c.in-Err.ensures.asked)

pub returns-in-Ok-clause-mounts : goal.returns-in-Ok-clause-mounts
returns-in-Ok-clause-mounts g c =
    done_all _ c.last_of.result
    (mounts_by g.C.Cluster.shown g.C.Cluster.serves c.args.client.now _ _ c.args.path.now c.args.cluster.now _ _ c.in-Ok.reader c.last_of.result c.in-Ok.ensures.asked c.last_of.ensures.reads)
