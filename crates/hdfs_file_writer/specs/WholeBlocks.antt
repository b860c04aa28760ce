-- What a writer of a file has to do with the blocks that are done: that they are whole, and of one size.
use Rattle.std.specs.Prelude.{ℕ, ◌≤◌, List}
use Rattle.hdfs_cluster.specs.Picture.{Picture}
use Rattle.hdfs_cluster.specs.WholeBlocks.{IsWhole, IsOfSize, IsUpTo, AllBehind, AllBetween, LastOne}
use Rattle.hdfs_file_writer.specs.Tails.{tail_length}
use Rattle.hdfs_file_writer.specs.declared.tails.Tail.{Tail}

-- What stays of the blocks of a file that is being written: those but the first so many and the last are whole if they were so before.
-- They are of one size too, where the last block wasn't longer than that.
pub record StaysWhole (size : ℕ) (p : Picture) (blocks : List ℕ) (tail : Tail) (q : Picture) (blocks' : List ℕ) : Type 0 where
  pub whole : (from : ℕ) → AllBetween (IsWhole p) from blocks → AllBetween (IsWhole q) from blocks'
  pub full : tail_length tail ≤ size → (from : ℕ) → AllBetween (IsOfSize p size) from blocks → AllBetween (IsOfSize q size) from blocks'

-- What a close makes of them: the last one is whole too, and at most of the size.
pub record ClosesWhole (size : ℕ) (p : Picture) (blocks : List ℕ) (tail : Tail) (q : Picture) (blocks' : List ℕ) : Type 0 where
  pub whole : (from : ℕ) → AllBetween (IsWhole p) from blocks → AllBehind (IsWhole q) from blocks'
  pub full : tail_length tail ≤ size → (from : ℕ) → AllBetween (IsOfSize p size) from blocks → AllBetween (IsOfSize q size) from blocks'
  pub last : tail_length tail ≤ size → LastOne (IsUpTo q size) blocks'
