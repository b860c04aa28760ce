use Rattle.std.proofs.Common.{◌≡◌, ℕ, ◌+◌, ◌-◌, ◌≤◌, ◌++◌, List, length, false}
use Rattle.hdfs_cluster.specs.Reading.{range_of}
use Rattle.hdfs_block_reader.specs.Reader.{wanted_of, end_of, has_failed, Keeps, Reads, ShowsBlock}
use Rattle.hdfs_file_reader.proofs.reading.read_all.Given as goal

abbrev pub invariant-pieces : goal.invariant-pieces
invariant-pieces g l = record {
  keeps : Keeps (g.C.Cluster.shown l.fn.cluster) (g.C.Cluster.shown l.cluster) l.fn.reader l.reader;
  reads : Reads (g.C.Cluster.shown l.fn.cluster) (g.C.Cluster.shown l.cluster) l.fn.reader l.reader;
  on : wanted_of l.fn.reader ≤ wanted_of l.reader;
  fine : has_failed l.reader ≡ false;
  count : length l.out.items ≡ length l.fn.out.items + (wanted_of l.reader - wanted_of l.fn.reader);
  so_far : (block : List ℕ) → ShowsBlock (g.C.Cluster.shown l.fn.cluster) l.fn.reader block → l.out.items ≡ l.fn.out.items ++ range_of block (wanted_of l.fn.reader) (wanted_of l.reader - wanted_of l.fn.reader);
}

abbrev pub decreases-pieces : goal.decreases-pieces
decreases-pieces g l = end_of l.reader - wanted_of l.reader
