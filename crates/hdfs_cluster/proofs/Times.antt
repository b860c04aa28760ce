-- Datanodes have failed so many times, one time behind another.
use Rattle.std.proofs.Common.{◌≡◌, ℕ, zero, suc, ◌+◌, ◌-◌, ◌≤◌, subst, arith}
use Rattle.hdfs_cluster.specs.Failures.{SomeNodeRose, NodesFailTimes, ADatanode}
use Rattle.hdfs_cluster.specs.Shown.{Shown, Later}
use Rattle.hdfs_cluster.proofs.Failures.{failed_on, failed_since}
use Rattle.hdfs_cluster.proofs.Frames.{later_trans}

-- a datanode has failed since before
pub some_rose_since : (a b c : Shown) → Later a b → SomeNodeRose b.counts c → SomeNodeRose a.counts c
some_rose_since a b c later some = failed_since a b c ADatanode later.counts some

-- or before, and since then too
some_rose_until : (a b c : Shown) → Later b c → SomeNodeRose a.counts b → SomeNodeRose a.counts c
some_rose_until a b c later some = failed_on a b c ADatanode later some

-- so they have since before
pub fails_since : (times : ℕ) (a b c : Shown) → Later a b → NodesFailTimes times b c → NodesFailTimes times a c
fails_since zero a b c later still = later_trans a b c later still
fails_since (suc times) a b c later (between, fails, then, some) = (between, fails_since times a b between later fails, then, some)

-- and still
pub fails_until : (times : ℕ) (a b c : Shown) → NodesFailTimes times a b → Later b c → NodesFailTimes times a c
fails_until zero a b c still later = later_trans a b c still later
fails_until (suc times) a b c (between, fails, then, some) later =
    (between, fails, later_trans between b c then later, some_rose_until between b c later some)

pub fails_later : (times : ℕ) (a b : Shown) → NodesFailTimes times a b → Later a b
fails_later zero a b still = still
fails_later (suc times) a b (between, fails, then, some) = later_trans a between b (fails_later times a between fails) then

-- some datanode has, where it was once or more often
pub some_fails : (times : ℕ) (a b : Shown) → NodesFailTimes (suc times) a b → SomeNodeRose a.counts b
some_fails times a b (between, fails, then, some) = some_rose_since a between b (fails_later times a between fails) some

-- so many times, and then so many more
pub fails_join : (m n : ℕ) (a b c : Shown) → NodesFailTimes m a b → NodesFailTimes n b c → NodesFailTimes (n + m) a c
fails_join m zero a b c first later = subst (λ (k : ℕ). NodesFailTimes k a c) (omega arith) (fails_until m a b c first later)
fails_join m (suc n) a b c first (between, fails, then, some) =
    let all : NodesFailTimes (suc (n + m)) a c = (between, fails_join m n a b between first fails, then, some) in
    let same : suc (n + m) ≡ suc n + m = omega arith in
    subst (λ (k : ℕ). NodesFailTimes k a c) same all

-- where it was so often, it was less often too
fails_fewer : (more times : ℕ) (a b : Shown) → NodesFailTimes (more + times) a b → NodesFailTimes times a b
fails_fewer zero times a b fails = subst (λ (k : ℕ). NodesFailTimes k a b) (omega arith) fails
fails_fewer (suc more) times a b fails =
    let same : suc more + times ≡ suc (more + times) = omega arith in
    let all : NodesFailTimes (suc (more + times)) a b = subst (λ (k : ℕ). NodesFailTimes k a b) same fails in
    fails_until times a all.0 b (fails_fewer more times a all.0 all.1) all.2

-- together it was so often at least
pub fails_enough : (times m n : ℕ) (a b c : Shown) → NodesFailTimes m a b → NodesFailTimes n b c → times ≤ n + m → NodesFailTimes times a c
fails_enough times m n a b c first fails enough =
    fails_fewer (n + m - times) times a c
    (subst (λ (k : ℕ). NodesFailTimes k a c) (omega (arith, enough)) (fails_join m n a b c first fails))
