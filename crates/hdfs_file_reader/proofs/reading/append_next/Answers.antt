use Rattle.std.proofs.Common.{◌≡◌, ◌+◌, ◌++◌, length, Some, subst, ◌∙◌, ap, rules}
use Rattle.hdfs_cluster.specs.Reading.{range_of}
use Rattle.hdfs_block_reader.specs.Reader.{wanted_of, IsPieceOf}
use Rattle.hdfs_file_reader.proofs.Pieces.{first_piece}
use Rattle.hdfs_file_reader.proofs.Readers.{reads_trans}
use Rattle.hdfs_file_reader.proofs.reading.append_next.Goals as goal

pub returns-in-Ok-clause-bytes : goal.returns-in-Ok-clause-bytes
returns-in-Ok-clause-bytes g c = λ block shows.
    let is = c.in-Ok-Some.field-0-is ∙ ap Some c.in-Ok-Some.bytes-is in
    let piece : c.in-Ok-Some.bytes ≡ range_of block (wanted_of c.args.reader.now) (length c.in-Ok-Some.bytes) =
    subst (IsPieceOf block (wanted_of c.args.reader.now)) is (c.in-Ok-Some.ensures.bytes block shows) in
    let joined : c.extend_from_slice.new.self.items ≡ c.args.out.now.items ++ c.in-Ok-Some.bytes = search rules in
    let moved : wanted_of c.next.new.self ≡ wanted_of c.args.reader.now + length c.in-Ok-Some.bytes = search rules in
    first_piece c.args.out.now.items c.extend_from_slice.new.self.items c.in-Ok-Some.bytes block (wanted_of c.args.reader.now) (wanted_of c.next.new.self) piece joined moved

pub returns-in-Ok-Some-clause-reads : goal.returns-in-Ok-Some-clause-reads
returns-in-Ok-Some-clause-reads g c =
    reads_trans (g.C.Cluster.shown c.args.cluster.now) (g.C.Cluster.shown c.next.new.cluster) (g.C.Cluster.shown c.close.new.cluster) c.args.reader.now c.next.new.self c.close.new.self c.next.ensures.keeps c.close.ensures.keeps c.next.ensures.reads c.close.ensures.reads
