-- What the cluster that gives what it is told to give shows.
use Rattle.std.specs.Prelude.{◌≡◌, ◌<◌, [], Bool, true, false, Some, None}
use Rattle.std.proofs.lemmas.Option.{none-some}
use Rattle.hdfs_cluster.specs.Picture.{Picture}
use Rattle.hdfs_cluster.specs.declared.picture.LastAnswer.{LastAnswer}
use Rattle.hdfs_cluster.specs.declared.picture.LastAnswer.TheVariants as last_answers
use Rattle.slab.specs.Slab as slab
use Rattle.hdfs_cluster.specs.Pipes.{ShowsWrites}
use Rattle.hdfs_cluster.specs.Shown.{Shown}
use Rattle.hdfs_cluster.specs.Sound.{IsSound}
use Rattle.hdfs_fakes.specs.declared.fake_cluster.FakeCluster.{FakeCluster}

-- how the last ask ended
abbrev last_told : Bool → LastAnswer
last_told true = last_answers.NoMemory
last_told false = last_answers.Fine

-- no picture, one namenode with a count of its asks, and one count for all datanodes
abbrev pub shown_of : FakeCluster → Shown
shown_of fake = record {
  picture = None;
  counts = record { asks = λ i. fake.asks; calls = λ i. 0; links = 0; nodes = λ d. fake.failures };
  last = last_told fake.lacks_memory;
  namenodes = 1;
  reads = λ link. slab.get fake.reads link;
  writes = λ link. slab.get fake.writes link;
  loaded = record { settings = None; lines = [] };
}

-- no picture is told
pub no_picture : (fake : FakeCluster) (p : Picture) → (shown_of fake).picture ≡ Some p → p.active < (shown_of fake).namenodes
no_picture fake p told = absurd (none-some p told)

-- so no place of a write link either
pub no_writes : (fake : FakeCluster) (p : Picture) → (shown_of fake).picture ≡ Some p → ShowsWrites (shown_of fake) p
no_writes fake p told = absurd (none-some p told)

-- nor a file
pub nothing_shown : (fake : FakeCluster) (p : Picture) → (shown_of fake).picture ≡ Some p → IsSound p
nothing_shown fake p told = absurd (none-some p told)
