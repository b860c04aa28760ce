-- A reader is made, and its file copied.
use Rattle.std.proofs.Common.{◌∙◌}
use Rattle.hdfs_client.proofs.Beside.{files_trans}
use Rattle.hdfs_uses.proofs.Cases.{done_so}
use Rattle.hdfs_uses.proofs.Copied.{copied_by}
use Rattle.hdfs_uses.proofs.copying.copy_file.Goals as goal

pub read-requires-clause-allowed : goal.read-requires-clause-allowed
read-requires-clause-allowed g c = λ to leads. c.requires.all _

pub returns-in-Ok-clause-copies : goal.returns-in-Ok-clause-copies
returns-in-Ok-clause-copies g c =
    copied_by g.C.Cluster.shown g.C.Cluster.may_answer g.C.Cluster.serves c.args.client.now _ c.args.from.now c.args.to.now c.args.cluster.now _ _ c.in-Ok.reader c.copy_by.result c.in-Ok.ensures.asked c.in-Ok.ensures.shows
    c.copy_by.ensures.copies

pub returns-in-Ok-clause-mounts : goal.returns-in-Ok-clause-mounts
returns-in-Ok-clause-mounts g c = done_so _ _ c.copy_by.result (λ same. same ∙ c.in-Ok.ensures.asked.asks.others.mounts) c.copy_by.ensures.mounts

pub returns-in-Ok-clause-files : goal.returns-in-Ok-clause-files
returns-in-Ok-clause-files g c = files_trans c.read.ensures.files c.copy_by.ensures.files
