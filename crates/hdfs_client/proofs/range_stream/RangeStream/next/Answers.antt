-- The next piece is read, and the stream goes on behind it.
use Rattle.std.proofs.Common.{ℕ, subst}
use Rattle.hdfs_client.specs.Readers.{ReadsRange}
use Rattle.hdfs_client.specs.Streams.{place_of, reader_of}
use Rattle.hdfs_client.proofs.ByStreams.{gives_piece, goes_on}
use Rattle.hdfs_client.proofs.range_stream.RangeStream.next.Goals as goal

pub returns-clause-gives : goal.returns-clause-gives
returns-clause-gives g c = λ over.
    let old = g.C.Cluster.shown c.args.cluster.now in
    let new = g.C.Cluster.shown c.read_range-piece.new.cluster in
    let client = c.args.client.now in
    let client' = c.read_range-piece.new.client in
    let stream = c.args.self.now in
    let piece = c.read_range-piece.result in
    let reads = c.read_range-piece.ensures.reads in
    gives_piece old new client client' stream c.go_on.new.self c.requires.stands.0 over piece
    (subst (λ (n : ℕ). ReadsRange old client (reader_of stream) (place_of stream) n piece new client') c.min-len.ensures reads)
    (goes_on stream c.go_on.new.self piece c.min-len.result c.is_ok.result c.is_ok.ensures.value reads.count c.go_on.ensures.on c.go_on.ensures.ends)
