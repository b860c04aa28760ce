-- What has failed between two moments has failed from each earlier moment on, and until each later one: no count falls. So an error means
-- as much from an earlier moment on, and until a later one behind which the last ask is the same.
use Rattle.std.proofs.Common.{◌≡◌, inl, inr, ℕ, zero, suc, List, sym, subst, arith}
use Rattle.std.specs.Prelude.{slice_index_or}
use Rattle.hdfs_cluster.specs.declared.errors.HdfsError.{HdfsError}
use Rattle.hdfs_cluster.specs.declared.picture.LastAnswer.{LastAnswer}
use Rattle.hdfs_cluster.specs.Counts.{CallsRoseTimes, FaultCounts, NeverFall, NodesRoseTimes, NoneRose}
use Rattle.hdfs_cluster.specs.Failures.{Failure, Nothing, ANamenode, NoAnswer, Twice, Times, TheLinks, ASetup, ADatanode, EachAsked, EachRose, HasFailed, Means, OneRose, SaysLast, SetupsFailed, failure_of}
use Rattle.hdfs_cluster.specs.Shown.{Shown, Later}
use Rattle.hdfs_cluster.proofs.Frames.{never_fall_trans, rose_since}

-- namenodes have failed so many times
pub times_since : (namenodes times : ℕ) (a b c : FaultCounts) → NeverFall a b → CallsRoseTimes namenodes times b c → CallsRoseTimes namenodes times a c
times_since namenodes zero a b c fall h = never_fall_trans a b c fall h
times_since namenodes (suc times) a b c fall h = (h.0, times_since namenodes times a b h.0 fall h.1, h.2, h.3)

pub times_until : (namenodes times : ℕ) (a b c : FaultCounts) → CallsRoseTimes namenodes times a b → NeverFall b c → CallsRoseTimes namenodes times a c
times_until namenodes zero a b c h fall = never_fall_trans a b c h fall
times_until namenodes (suc times) a b c h fall = (
  h.0,
  h.1,
  never_fall_trans h.0 b c h.2 fall,
  (h.3.0, h.3.1, rose_since (h.0.calls h.3.0) (h.0.calls h.3.0) (b.calls h.3.0) (c.calls h.3.0) (omega arith) h.3.2 (fall.calls h.3.0)),
)

pub times_fall : (namenodes times : ℕ) (a b : FaultCounts) → CallsRoseTimes namenodes times a b → NeverFall a b
times_fall namenodes zero a b h = h
times_fall namenodes (suc times) a b h = never_fall_trans a h.0 b (times_fall namenodes times a h.0 h.1) h.2

-- and so of datanodes
pub nodes_since : (times : ℕ) (a b c : FaultCounts) → NeverFall a b → NodesRoseTimes times b c → NodesRoseTimes times a c
nodes_since zero a b c fall h = never_fall_trans a b c fall h
nodes_since (suc times) a b c fall h = (h.0, nodes_since times a b h.0 fall h.1, h.2, h.3)

pub nodes_until : (times : ℕ) (a b c : FaultCounts) → NodesRoseTimes times a b → NeverFall b c → NodesRoseTimes times a c
nodes_until zero a b c h fall = never_fall_trans a b c h fall
nodes_until (suc times) a b c h fall = (
  h.0,
  h.1,
  never_fall_trans h.0 b c h.2 fall,
  (h.3.0, rose_since (h.0.nodes h.3.0) (h.0.nodes h.3.0) (b.nodes h.3.0) (c.nodes h.3.0) (omega arith) h.3.1 (fall.nodes h.3.0)),
)

nodes_fall : (times : ℕ) (a b : FaultCounts) → NodesRoseTimes times a b → NeverFall a b
nodes_fall zero a b h = h
nodes_fall (suc times) a b h = never_fall_trans a h.0 b (nodes_fall times a h.0 h.1) h.2

-- pipelines couldn't be set up since before, and until later
pub setups_since : (limit : ℕ) (a b c : FaultCounts) → NeverFall a b → SetupsFailed limit b c → SetupsFailed limit a c
setups_since limit a b c fall (inl links) = inl (omega (arith, links, fall.links))
setups_since limit a b c fall (inr nodes) = inr (nodes_since (suc limit) a b c fall nodes)

pub setups_until : (limit : ℕ) (a b c : FaultCounts) → SetupsFailed limit a b → NeverFall b c → SetupsFailed limit a c
setups_until limit a b c (inl links) fall = inl (omega (arith, links, fall.links))
setups_until limit a b c (inr nodes) fall = inr (nodes_until (suc limit) a b c nodes fall)

-- so the links have failed, or a datanode
pub setup_fails : (limit : ℕ) (old new : Shown) → SetupsFailed limit old.counts new.counts → HasFailed ASetup old new
setup_fails limit old new (inl links) = inl links
setup_fails limit old new (inr (between, nodes, fall, (node, rose))) =
    inr (node, omega (arith, (nodes_fall limit old.counts between nodes).nodes node, rose))

-- where one of some datanodes has failed, one has from an earlier moment on until a later one
pub one_rose : (a b c d : FaultCounts) (nodes : List (List ℕ)) → NeverFall a b → NeverFall c d → OneRose b c nodes → OneRose a d nodes
one_rose a b c d nodes before after (k, node, lt, at, rose) = (k, node, lt, at, omega (arith, before.nodes node, rose, after.nodes node))

-- and so where each has
pub each_rose : (a b c d : FaultCounts) (nodes : List (List ℕ)) → NeverFall a b → NeverFall c d → EachRose b c nodes → EachRose a d nodes
each_rose a b c d nodes before after each k other lt =
    let node = slice_index_or nodes k other in
    omega (arith, before.nodes node, each k other lt, after.nodes node)

module _ (old middle new : Shown) where
  -- a failure since a later moment is one since an earlier one
  pub failed_since : (failure : Failure) → NeverFall old.counts middle.counts → HasFailed failure middle new → HasFailed failure old new
  failed_since Nothing before h = h
  failed_since ANamenode before h = (h.0, h.1, omega (arith, before.calls h.0, h.2))
  failed_since NoAnswer before h = (λ i low. omega (arith, before.asks i, h.0 i low), (h.1.0, h.1.1, omega (arith, before.calls h.1.0, h.1.2)))
  failed_since (Twice i) before h = (λ k low. omega (arith, before.asks k, h.0 k low), h.1, omega (arith, before.calls i, h.2))
  failed_since (Times n) before h = times_since new.namenodes n old.counts middle.counts new.counts before h
  failed_since TheLinks before h = omega (arith, before.links, h)
  failed_since ASetup before (inl links) = inl (omega (arith, before.links, links))
  failed_since ASetup before (inr node) = inr (node.0, omega (arith, before.nodes node.0, node.1))
  failed_since ADatanode before h = (h.0, omega (arith, before.nodes h.0, h.1))

  asked_on : EachAsked old.counts middle → Later middle new → EachAsked old.counts new
  asked_on each later i low = omega (arith, each i (omega (arith, low, later.namenodes)), later.counts.asks i)

  -- and one until a later one
  pub failed_on : (failure : Failure) → Later middle new → HasFailed failure old middle → HasFailed failure old new
  failed_on Nothing later h = h
  failed_on ANamenode later h = (h.0, omega (arith, h.1, later.namenodes), omega (arith, h.2, later.counts.calls h.0))
  failed_on NoAnswer later h = (
    asked_on h.0 later,
    (h.1.0, omega (arith, h.1.1, later.namenodes), omega (arith, h.1.2, later.counts.calls h.1.0)),
  )
  failed_on (Twice i) later h = (asked_on h.0 later, omega (arith, h.1, later.namenodes), omega (arith, h.2, later.counts.calls i))
  failed_on (Times n) later h =
      subst (λ (k : ℕ). CallsRoseTimes k n old.counts new.counts) (sym later.namenodes)
      (times_until middle.namenodes n old.counts middle.counts new.counts h later.counts)
  failed_on TheLinks later h = omega (arith, h, later.counts.links)
  failed_on ASetup later (inl links) = inl (omega (arith, links, later.counts.links))
  failed_on ASetup later (inr node) = inr (node.0, omega (arith, node.1, later.counts.nodes node.0))
  failed_on ADatanode later h = (h.0, omega (arith, h.1, later.counts.nodes h.0))

  -- so does an error mean as much
  pub means_since : (error : HdfsError) → NeverFall old.counts middle.counts → Means middle new error → Means old new error
  means_since error before h = (h.0, failed_since (failure_of error) before h.1)

  pub means_on : (error : HdfsError) → Later middle new → new.last ≡ middle.last → Means old middle error → Means old new error
  means_on error later same h = (subst (λ (last : LastAnswer). SaysLast last error) (sym same) h.0, failed_on (failure_of error) later h.1)

-- the failure is none, or that namenodes have failed no times
abbrev pub IsQuiet : Failure → Type 0
IsQuiet Nothing = Unit {0}
IsQuiet (Times zero) = Unit {0}
IsQuiet failure = ⊥

-- where no count rose, nothing has failed
pub none_failed : (old new : Shown) → new.namenodes ≡ old.namenodes → NoneRose old.namenodes old.counts new.counts → (failure : Failure)
    → HasFailed failure old new → IsQuiet failure
none_failed old new size none Nothing h = tt
none_failed old new size none ANamenode h = none.calls h.0 (omega (arith, h.1, size)) h.2
none_failed old new size none NoAnswer h = none.calls h.1.0 (omega (arith, h.1.1, size)) h.1.2
none_failed old new size none (Twice i) h = none.calls i (omega (arith, h.1, size)) (omega (arith, h.2))
none_failed old new size none (Times zero) h = tt
none_failed old new size none (Times (suc n)) h =
    let fall = times_fall new.namenodes n old.counts h.0 h.1 in
    none.calls h.3.0 (omega (arith, h.3.1, size)) (omega (arith, fall.calls h.3.0, h.3.2))
none_failed old new size none TheLinks h = none.links h
none_failed old new size none ASetup (inl links) = none.links links
none_failed old new size none ASetup (inr node) = none.nodes node.0 node.1
none_failed old new size none ADatanode h = none.nodes h.0 h.1
