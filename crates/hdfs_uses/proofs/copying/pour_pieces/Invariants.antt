-- The pieces so far were written, and the stream and the writer may go on.
use Rattle.std.proofs.Common.{◌≡◌, ◌-◌, false}
use Rattle.hdfs_client.specs.Clients.{IsClientOf, mounts_of}
use Rattle.hdfs_client.specs.Readers.{ReadsBy}
use Rattle.hdfs_client.specs.Streams.{Streams, end_of, is_ended, place_of, reader_of}
use Rattle.hdfs_client.specs.Writing.{IsAnsweredTo, KeepsOthers}
use Rattle.hdfs_uses.specs.Writing.{IsWholeWriter}
use Rattle.hdfs_uses.proofs.Pouring.{PouredSoFar}
use Rattle.hdfs_uses.proofs.copying.pour_pieces.Given as goal

abbrev pub invariant-turns : goal.invariant-turns
invariant-turns g l = record {
  client : IsClientOf l.client (g.C.Cluster.shown l.cluster);
  streams : Streams l.pieces;
  reads : ReadsBy l.client (reader_of l.pieces);
  ended : is_ended l.pieces ≡ false;
  writer : IsWholeWriter l.client (g.C.Cluster.shown l.cluster) l.writer;
  answered : IsAnsweredTo g.C.Cluster.may_answer l.client l.writer;
  mounts : mounts_of l.client ≡ mounts_of l.fn.client;
  others : KeepsOthers g.C.Cluster.allows g.C.Cluster.may_answer l.fn.client (g.C.Cluster.shown l.fn.cluster) l.fn.writer l.client
      (g.C.Cluster.shown l.cluster) l.writer;
  poured : PouredSoFar l.fn.client (g.C.Cluster.shown l.fn.cluster) l.fn.pieces l.fn.writer l.client (g.C.Cluster.shown l.cluster) l.pieces l.writer;
}

abbrev pub decreases-turns : goal.decreases-turns
decreases-turns g l = end_of l.pieces - place_of l.pieces
