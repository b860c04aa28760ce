-- The new file is created, and then filled.
use Rattle.std.proofs.Common.{◌∙◌}
use Rattle.hdfs_client.proofs.Beside.{files_trans}
use Rattle.hdfs_uses.proofs.Finished.{created_idle}
use Rattle.hdfs_uses.proofs.copying.copy_by.Goals as goal

pub fill-requires-clause-reader : goal.fill-requires-clause-reader
fill-requires-clause-reader g c = (c.requires.reader.0, c.in_ok-writer.ensures.files.readers c.args.reader.now c.requires.reader.1)

pub fill-requires-clause-writer : goal.fill-requires-clause-writer
fill-requires-clause-writer g c = c.in_ok-writer.ensures.stands

pub returns-in_err-fill-clause-files : goal.returns-in_err-fill-clause-files
returns-in_err-fill-clause-files g c =
    files_trans c.create.ensures.files
    (c.in_err-fill.ensures.files (created_idle g.C.Cluster.shown g.C.Cluster.may_answer g.C.Cluster.serves c.args.client.now _ c.args.to.now c.args.to.now c.args.cluster.now _ (g.C.Cluster.shown c.args.cluster.now) c.in_ok-writer.writer c.in_ok-writer.ensures.created))

pub returns-clause-copies : goal.returns-clause-copies
returns-clause-copies g c = (
  c.file_length.ensures,
  record {
    writer = c.in_ok-writer.writer;
    between = c.create.new.client;
    mid = c.create.new.cluster;
    created = c.in_ok-writer.ensures.created;
    begun = c.in_ok-writer.ensures.begins;
    bytes = c.in_ok-fill.ensures.fills.0;
    fills = c.in_ok-fill.ensures.fills.1;
  },
)

pub returns-clause-mounts : goal.returns-clause-mounts
returns-clause-mounts g c = c.in_ok-fill.ensures.mounts ∙ c.in_ok-writer.ensures.created.others.mounts

pub returns-clause-files : goal.returns-clause-files
returns-clause-files g c =
    files_trans c.create.ensures.files
    (c.in_ok-fill.ensures.files (created_idle g.C.Cluster.shown g.C.Cluster.may_answer g.C.Cluster.serves c.args.client.now _ c.args.to.now c.args.to.now c.args.cluster.now _ (g.C.Cluster.shown c.args.cluster.now) c.in_ok-writer.writer c.in_ok-writer.ensures.created))
