-- A writer that is given up behind a close leaves the file as it was closed.
use Rattle.std.proofs.Common.{List, ℕ}
use Rattle.hdfs_uses.specs.Copying.{Fills}
use Rattle.hdfs_uses.proofs.Cases.{after_end}
use Rattle.hdfs_uses.proofs.Keeping.{files_alone, others_trans}
use Rattle.hdfs_uses.proofs.copying.fill.Goals as goal

pub returns-clause-fills : goal.returns-clause-fills
returns-clause-fills g c =
    after_end (λ (now : _). (bytes : List ℕ) × Fills c.args.reader.now c.args.client.now (g.C.Cluster.shown c.args.cluster.now) c.args.writer bytes (g.C.Cluster.shown now)) _ _ c.pour-done.result _
    c.abandon.ensures.shut c.pour-done.ensures.fills

pub returns-clause-files : goal.returns-clause-files
returns-clause-files g c = λ none. files_alone none (others_trans c.pour-done.ensures.others c.abandon.ensures.others)
