-- What an ask leaves as it was, and which asks may be made again behind an answer that was lost.
use Rattle.std.specs.Prelude.{◌≡◌, ◌⊎◌, ℕ}
use Rattle.hdfs_cluster.specs.declared.asks.Answer.{Answer}
use Rattle.hdfs_cluster.specs.declared.asks.Ask.{Ask}
use Rattle.hdfs_cluster.specs.Effects.{KeepsBytes}
use Rattle.hdfs_cluster.specs.Namenode.{FoundNothing, IsOwn, IsShaped, Row}
use Rattle.hdfs_cluster.specs.Picture.{Picture, SameButActive, Told}
use Rattle.hdfs_cluster.specs.Shown.{Later, SameNodes, Shown}

-- what an ask leaves as it was
pub record Leaves (old new : Shown) : Type 0 where
  pub later : Later old new
  pub reads : (link : ℕ) → new.reads link ≡ old.reads link
  pub writes : (link : ℕ) → new.writes link ≡ old.writes link
  pub links : new.counts.links ≡ old.counts.links
  pub nodes : SameNodes old new
  pub bytes : Told KeepsBytes old.picture new.picture

-- the ask had its effect once
abbrev pub Done : Ask → Picture → Picture → Type 0
Done ask p q = (answer : Answer) × IsShaped ask answer × Row p ask answer q

-- the ask had its effect once, or none
abbrev pub DoneOrNot : Ask → Picture → Picture → Type 0
DoneOrNot ask p q = SameButActive p q ⊎ Done ask p q

-- The rows of an ask from a picture may stand behind one another, where a deletion that is done once more finds nothing; and from none of the
-- pictures between is an answer the implementation's own.
pub record Repeats (ask : Ask) (p : Picture) : Type 0 where
  pub left : (q r : Picture) (b : Answer) → SameButActive p q → Row q ask b r → Row p ask b r
  pub twice : (q r : Picture) (a b : Answer) → Row p ask a q → Row q ask b r → Row p ask b r ⊎ (FoundNothing b × Row p ask a r)
  pub right : (q r : Picture) (a : Answer) → Row p ask a q → SameButActive q r → Row p ask a r
  pub not_own : (q : Picture) → DoneOrNot ask p q → IsOwn q ask → ⊥
