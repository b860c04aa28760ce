use Rattle.std.proofs.Common.{◌≡◌, ℕ, ◌<◌, ◌^◌, List, length, drop}
use Rattle.hdfs_cluster.specs.Namenode.{Follow}
use Rattle.hdfs_cluster.specs.Shown.{OnlyReads, SameLinks}
use Rattle.hdfs_file_reader.specs.Ranges.{Stored}
use Rattle.hdfs_file_reader.proofs.Counting.{Counted}
use Rattle.hdfs_file_reader.proofs.Parts.{Left}
use Rattle.hdfs_file_reader.proofs.reading.read_blocks.Given as goal

abbrev pub invariant-parts : goal.invariant-parts
invariant-parts g l = record {
  only : OnlyReads (g.C.Cluster.shown l.fn.cluster) (g.C.Cluster.shown l.cluster);
  links : SameLinks (g.C.Cluster.shown l.fn.cluster) (g.C.Cluster.shown l.cluster);
  none : l.range.start ≡ l.range.end → l.cluster ≡ l.fn.cluster;
  counted : (total : ℕ) → total < 2 ^ 64 → Follow 0 total l.blocks
      → Counted total (drop l.i l.blocks) l.range.start l.range.end (length l.fn.out.items) (length l.out.items);
  left : (content : List ℕ) (st : Stored (g.C.Cluster.shown l.fn.cluster) l.blocks content)
      → Left st.picture st.ids st.total content (drop l.i l.blocks) l.range.start l.range.end l.fn.out.items l.out.items;
}
