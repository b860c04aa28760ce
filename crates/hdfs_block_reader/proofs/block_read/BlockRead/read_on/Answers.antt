-- Each packet goes on from the last one; a piece of the range ends the loop, and so does a location that is given up.
use Rattle.std.proofs.Common.{◌≡◌, ℕ, length, subst, rules}
use Rattle.hdfs_cluster.specs.Reading.{range_of}
use Rattle.hdfs_block_reader.specs.Going.{IsPartOf}
use Rattle.hdfs_block_reader.proofs.Joining.{goes_trans}
use Rattle.hdfs_block_reader.proofs.block_read.BlockRead.read_on.Goals as goal

pub returns-in_err-bytes : goal.returns-in_err-bytes
returns-in_err-bytes g c =
    let shown = g.C.Cluster.shown in
    record {
      goes = goes_trans (shown c.args.cluster.now) (shown c.packets.cluster) (shown c.take_packet.new.cluster) c.args.self.now c.packets.self c.take_packet.new.self c.packets.invariant.goes c.take_packet.ensures.goes;
      failed = search rules;
      piece = search rules;
      bytes = search rules;
    }

pub returns-in-Piece : goal.returns-in-Piece
returns-in-Piece g c =
    let shown = g.C.Cluster.shown in
    let so_far = c.packets.invariant in
    record {
      goes = goes_trans (shown c.args.cluster.now) (shown c.packets.cluster) (shown c.take_packet.new.cluster) c.args.self.now c.packets.self c.take_packet.new.self so_far.goes c.take_packet.ensures.goes;
      failed = search rules;
      piece = search rules;
      bytes = λ block shows. subst (λ (w : ℕ). c.in-Piece.bytes ≡ range_of block w (length c.in-Piece.bytes)) so_far.wanted
          (subst (IsPartOf block c.packets.self.wanted) c.in-Piece.is (c.in_ok-bytes.ensures.bytes block (so_far.goes.shows block shows)));
    }

pub packets-preserved : goal.packets-preserved
packets-preserved g c =
    let shown = g.C.Cluster.shown in
    record {
      goes = goes_trans (shown c.args.cluster.now) (shown c.packets.cluster) (shown c.take_packet.new.cluster) c.args.self.now c.packets.self c.take_packet.new.self c.packets.invariant.goes c.take_packet.ensures.goes;
      link = search rules;
      wanted = search rules;
      failed = search rules;
      tries = search rules;
    }

pub returns-in-Failed : goal.returns-in-Failed
returns-in-Failed g c =
    let shown = g.C.Cluster.shown in
    record {
      goes = goes_trans (shown c.args.cluster.now) (shown c.packets.cluster) (shown c.take_packet.new.cluster) c.args.self.now c.packets.self c.take_packet.new.self c.packets.invariant.goes c.take_packet.ensures.goes;
      failed = search rules;
      piece = search rules;
      bytes = search rules;
    }
