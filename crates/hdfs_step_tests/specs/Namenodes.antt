-- What the namenodes that give what they are told to give show.
use Rattle.std.specs.Prelude.{◌≡◌, ◌<◌, ◌≤◌, [], Some, None, Result, IfOk}
use Rattle.std.proofs.lemmas.Option.{none-some}
use Rattle.slab.specs.Slab as slab
use Rattle.hdfs_cluster.specs.Counts.{Rose}
use Rattle.hdfs_cluster.specs.Namenode.{IsFailure, last_of}
use Rattle.hdfs_cluster.specs.Picture.{Picture}
use Rattle.hdfs_cluster.specs.declared.asks.Answer.{Answer}
use Rattle.hdfs_cluster.specs.declared.asks.AskFault.{AskFault}
use Rattle.hdfs_cluster.specs.Pipes.{ShowsWrites}
use Rattle.hdfs_cluster.specs.Shown.{Shown}
use Rattle.hdfs_cluster.specs.Sound.{IsSound}
use Rattle.hdfs_step_tests.specs.declared.namenodes.fake_namenodes.FakeNamenodes.{FakeNamenodes}

-- no picture, three namenodes, and one count of asks and one of failures for all of them
abbrev pub shown_of : FakeNamenodes → Shown
shown_of fake = record {
  picture = None;
  counts = record { asks = λ i. fake.asks; calls = λ i. fake.failed; links = 0; nodes = λ d. 0 };
  last = fake.last;
  namenodes = 3;
  reads = λ link. slab.get fake.reads link;
  writes = λ link. slab.get fake.writes link;
  loaded = record { settings = None; lines = [] };
}

-- no picture is told
pub no_picture : (fake : FakeNamenodes) (p : Picture) → (shown_of fake).picture ≡ Some p → p.active < (shown_of fake).namenodes
no_picture fake p told = absurd (none-some p told)

-- so no place of a write link either
pub no_writes : (fake : FakeNamenodes) (p : Picture) → (shown_of fake).picture ≡ Some p → ShowsWrites (shown_of fake) p
no_writes fake p told = absurd (none-some p told)

-- nor a file
pub nothing_shown : (fake : FakeNamenodes) (p : Picture) → (shown_of fake).picture ≡ Some p → IsSound p
nothing_shown fake p told = absurd (none-some p told)

-- There was no answer: only what is told of the last one changed, and the count, which rose where namenodes have failed.
pub record GivesNone (old : FakeNamenodes) (result : Result Answer AskFault) (new : FakeNamenodes) : Type 0 where
  pub none : IfOk result (λ answer. ⊥)
  pub rest : new ≡ record old { last = last_of result; failed = new.failed }
  pub rose : IsFailure result → Rose old.failed new.failed
  pub later : old.failed ≤ new.failed
