use Rattle.std.proofs.Common.{◌≡◌, ℕ, length, subst, rules}
use Rattle.hdfs_cluster.specs.Reading.{range_of}
use Rattle.hdfs_block_reader.specs.Reader.{IsPieceOf}
use Rattle.hdfs_block_reader.proofs.Connected.{keeps_connections_trans}
use Rattle.hdfs_block_reader.proofs.Joining.{goes_trans}
use Rattle.hdfs_block_reader.proofs.block_read.BlockRead.piece.Goals as goal

pub returns-in_err-bytes-clause-goes : goal.returns-in_err-bytes-clause-goes
returns-in_err-bytes-clause-goes g c =
    goes_trans (g.C.Cluster.shown c.args.cluster.now) (g.C.Cluster.shown c.locations.cluster) (g.C.Cluster.shown c.read_location.new.cluster) c.args.self.now c.locations.self c.read_location.new.self c.locations.invariant.goes c.read_location.ensures.reads.goes

pub returns-in-Some-clause-goes : goal.returns-in-Some-clause-goes
returns-in-Some-clause-goes g c =
    goes_trans (g.C.Cluster.shown c.args.cluster.now) (g.C.Cluster.shown c.locations.cluster) (g.C.Cluster.shown c.read_location.new.cluster) c.args.self.now c.locations.self c.read_location.new.self c.locations.invariant.goes c.read_location.ensures.reads.goes

pub returns-in-Some-clause-bytes : goal.returns-in-Some-clause-bytes
returns-in-Some-clause-bytes g c = λ block shows.
    let so_far = c.locations.invariant in
    let part = c.in_ok-bytes.ensures.reads.bytes block (so_far.goes.shows block shows) in
    subst (λ (w : ℕ). c.in-Some.bytes ≡ range_of block w (length c.in-Some.bytes)) so_far.wanted (subst (IsPieceOf block c.locations.self.wanted) c.in-Some.is part)

pub locations-preserved : goal.locations-preserved
locations-preserved g c = record {
  goes = goes_trans (g.C.Cluster.shown c.args.cluster.now) (g.C.Cluster.shown c.locations.cluster) (g.C.Cluster.shown c.read_location.new.cluster) c.args.self.now c.locations.self c.read_location.new.self c.locations.invariant.goes c.read_location.ensures.reads.goes;
  failed = search rules;
  wanted = search rules;
  cached = keeps_connections_trans (g.C.Cluster.shown c.args.cluster.now) (g.C.Cluster.shown c.locations.cluster) (g.C.Cluster.shown c.read_location.new.cluster) c.args.self.now c.locations.self c.read_location.new.self c.locations.invariant.goes c.read_location.ensures.reads.goes
      c.args.cache.now c.locations.cache c.read_location.new.cache c.locations.invariant.cached c.read_location.ensures.cached;
}

pub returns-in_err-bytes-clause-cached : goal.returns-in_err-bytes-clause-cached
returns-in_err-bytes-clause-cached g c =
    keeps_connections_trans (g.C.Cluster.shown c.args.cluster.now) (g.C.Cluster.shown c.locations.cluster) (g.C.Cluster.shown c.read_location.new.cluster) c.args.self.now c.locations.self c.read_location.new.self c.locations.invariant.goes c.read_location.ensures.reads.goes
    c.args.cache.now c.locations.cache c.read_location.new.cache c.locations.invariant.cached c.read_location.ensures.cached

pub returns-in-Some-clause-cached : goal.returns-in-Some-clause-cached
returns-in-Some-clause-cached g c =
    keeps_connections_trans (g.C.Cluster.shown c.args.cluster.now) (g.C.Cluster.shown c.locations.cluster) (g.C.Cluster.shown c.read_location.new.cluster) c.args.self.now c.locations.self c.read_location.new.self c.locations.invariant.goes c.read_location.ensures.reads.goes
    c.args.cache.now c.locations.cache c.read_location.new.cache c.locations.invariant.cached c.read_location.ensures.cached
