-- What the datanodes of a pipeline do where an acknowledgement tells of them.
use Rattle.std.specs.Prelude.{◌≡◌, ◌≢◌, ℕ, ◌+◌, ◌^◌, ◌<◌, Bool, true, List, [], ◌∷◌, length, take, slice_index_or, count_by, if◌then◌else◌}
use Rattle.std.specs.Str.{bytes_eq}
use Rattle.hdfs_cluster.specs.declared.store.Line.{Line}
use Rattle.hdfs_mem_faults.specs.declared.fault_plan.FaultPlan.{FaultPlan}
use Rattle.hdfs_mem_faults.specs.Calls.{one_if}
use Rattle.hdfs_mem_faults.specs.Following.{Follows}
use Rattle.hdfs_mem_faults.specs.Plans.{ask_faults_of, calls_of, has_node, node_faults_of}
use Rattle.hdfs_mem_faults.specs.Series.{Series, acks_of}

-- how many of these are this datanode
abbrev pub times : List ℕ → List (List ℕ) → ℕ
times node uuids = count_by (bytes_eq node) uuids

-- how many of these statuses are failures of this datanode
abbrev pub failures : List ℕ → List (List ℕ) → List ℕ → ℕ
failures node [] statuses = 0
failures node (uuid ∷ uuids) [] = 0
failures node (uuid ∷ uuids) (status ∷ statuses) = (if bytes_eq uuid node then status else 0) + failures node uuids statuses

-- An acknowledgement told of these datanodes one after another. Each of them has failed exactly where the number of that call of
-- it is planned, and then its status is 1 and its count rises by one.
pub record TellsAll (planned : Series → ℕ → Bool) (old : FaultPlan) (uuids : List (List ℕ)) (statuses : List ℕ) (new : FaultPlan) : Type 0 where
  pub len : length statuses ≡ length uuids
  pub calls : (d : List ℕ) → has_node old d ≡ true → calls_of old (acks_of d) + times d uuids < 2 ^ 64
      → calls_of new (acks_of d) ≡ calls_of old (acks_of d) + times d uuids
  pub exact : (i : ℕ) (d : List ℕ) → i < length uuids → slice_index_or uuids i [] ≡ d → has_node old d ≡ true
      → calls_of old (acks_of d) + times d uuids < 2 ^ 64
      → slice_index_or statuses i 0 ≡ one_if (planned (acks_of d) (calls_of old (acks_of d) + times d (take (i + 1) uuids)))
  pub others : (s : Series) → ((d : List ℕ) → s ≢ acks_of d) → calls_of new s ≡ calls_of old s
  pub nodes : (d : List ℕ) → node_faults_of new d ≡ node_faults_of old d + failures d uuids statuses
  pub asks : (i : ℕ) → ask_faults_of new i ≡ ask_faults_of old i
  pub there : (d : List ℕ) → has_node new d ≡ has_node old d

-- a plan goes on following the lines that it follows
abbrev pub GoesOn : FaultPlan → FaultPlan → Type 0
GoesOn old new = (loaded : List Line) → Follows old loaded → Follows new loaded
