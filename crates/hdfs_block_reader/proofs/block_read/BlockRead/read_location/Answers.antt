-- A link that is open is read on, else one is opened first.
use Rattle.std.proofs.Common.{◌≤◌, ℕ, subst, rules}
use Rattle.std.proofs.lemmas.Result.{IfOk-weaker}
use Rattle.hdfs_block_reader.specs.Reader.{IsPieceOf}
use Rattle.hdfs_block_reader.specs.Going.{tries_left}
use Rattle.hdfs_block_reader.proofs.Going.{gives_from}
use Rattle.hdfs_block_reader.proofs.Joining.{goes_trans}
use Rattle.hdfs_block_reader.proofs.block_read.BlockRead.read_location.Goals as goal

pub returns-in-Some-2-clause-reads : goal.returns-in-Some-2-clause-reads
returns-in-Some-2-clause-reads g c =
    let shown = g.C.Cluster.shown in
    let opened = c.open.ensures in
    let read = c.read_on-in-Some-2.ensures in
    let tried : tries_left c.open.new.self ≤ tries_left c.args.self.now = search rules in
    record {
      goes = goes_trans (shown c.args.cluster.now) (shown c.open.new.cluster) (shown c.read_on-in-Some-2.new.cluster) c.args.self.now c.open.new.self c.read_on-in-Some-2.new.self opened.goes read.goes;
      failed = search rules;
      piece = IfOk-weaker c.read_on-in-Some-2.result _ _ (λ piece. gives_from c.args.self.now c.open.new.self c.read_on-in-Some-2.new.self piece opened.same.0 tried) read.piece;
      bytes = IfOk-weaker c.read_on-in-Some-2.result _ _ (λ piece here block shows. subst (λ (w : ℕ). IsPieceOf block w piece) opened.same.0 (here block (opened.goes.shows block shows))) read.bytes;
    }
