-- An ask that was answered.
use Rattle.std.proofs.Common.{ℕ, ◌≤◌, Ok, refl, arith}
use Rattle.hdfs_cluster.specs.declared.asks.Answer.{Answer}
use Rattle.hdfs_cluster.specs.declared.asks.Ask.{Ask}
use Rattle.hdfs_cluster.specs.declared.picture.LastAnswer.TheVariants as last_answers
use Rattle.hdfs_cluster.specs.Counts.{Rose}
use Rattle.hdfs_cluster.specs.Namenode.{IsFalse}
use Rattle.hdfs_cluster.specs.Shown.{Served}
use Rattle.hdfs_step_tests.specs.Namenodes.{shown_of}
use Rattle.hdfs_step_tests.specs.declared.namenodes.fake_namenodes.FakeNamenodes.{FakeNamenodes}

-- only what is told of the last ask changed, and how many were made
pub answered : (old : FakeNamenodes) (asks i : ℕ) (ask : Ask) (answer : Answer) → (IsFalse answer → ⊥) → Rose old.asks asks
    → old.asks ≤ asks → Served (shown_of old) i ask (Ok answer) (shown_of (record old { last = last_answers.Fine; asks = asks }))
answered old asks i ask answer true rose grown = record {
  later = record {
    counts = record { asks = λ k. grown; calls = λ k. omega arith; links = omega arith; nodes = λ node. omega arith };
    namenodes = refl;
    loaded = refl;
  };
  last = refl;
  asked = λ apart. rose;
  cause = λ failed. absurd (true failed);
  reads = λ link. refl;
  writes = λ link. refl;
  links = refl;
  nodes = λ node. refl;
  picture = tt;
}
