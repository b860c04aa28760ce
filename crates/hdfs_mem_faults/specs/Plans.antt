-- What a `FaultPlan` has counted and plans, and what its calls do.
use Rattle.std.specs.Prelude.{◌≡◌, ◌≢◌, ℕ, ◌+◌, ◌≤◌, nat_lt, Bool, true, false, not, ◌&&◌, ◌||◌, ◌==◌, List, Option, None, is_none, is_some, if◌then◌else◌}
use Rattle.std.specs.Option.{option_or}
use Rattle.std.specs.Ordering.{nat_cmp}
use Rattle.std.specs.BTreeMap.{get}
use Rattle.std.specs.BTreeSet.{contains}
use Rattle.hdfs_cluster.specs.declared.store.AskKind.{AskKind}
use Rattle.hdfs_cluster.specs.declared.store.FaultLine.{FaultLine}
use Rattle.hdfs_cluster.specs.declared.store.LinkKind.{LinkKind}
use Rattle.hdfs_cluster.specs.declared.store.ReadKind.{ReadKind}
use Rattle.hdfs_mem_faults.specs.declared.fault_plan.FaultPlan.{FaultPlan}
use Rattle.hdfs_mem_faults.specs.Asks.{ask_kind_at, asks_at, asks_in, failed_asks}
use Rattle.hdfs_mem_faults.specs.Calls.{after_one, is_at_once, is_bad_ack, is_first, next_fails, next_kind, one_if}
use Rattle.hdfs_mem_faults.specs.Linking.{firsts_in}
use Rattle.hdfs_mem_faults.specs.NodePlans.{calls_in, failed_in, node_at, packet_kind_at, planned_in}
use Rattle.hdfs_mem_faults.specs.Series.{Series, SetUps, AsksOf, CallsOf, ask_kind_in, is_fault_at, is_of, kind_in, nth_of, packet_kind_in, series_of}

-- the datanode with this uuid is there
abbrev pub has_node : FaultPlan → List ℕ → Bool
has_node plan uuid = is_some (node_at plan.nodes uuid)

-- the object whose calls they are is there; a namenode always is
abbrev pub has_series : FaultPlan → Series → Bool
has_series plan SetUps = true
has_series plan (AsksOf i) = true
has_series plan (CallsOf call uuid) = has_node plan uuid

-- how many calls of a series were counted
abbrev pub calls_of : FaultPlan → Series → ℕ
calls_of plan SetUps = plan.links.set_ups
calls_of plan (AsksOf i) = asks_in (asks_at plan.asks i)
calls_of plan (CallsOf call uuid) = calls_in (node_at plan.nodes uuid) call

-- how a set-up of a pipeline, or a transfer, is planned to fail
abbrev pub kind_at : FaultPlan → ℕ → Option LinkKind
kind_at plan nth = get nat_cmp plan.links.kinds nth

-- how an ask of a namenode is planned to fail
abbrev pub ask_kind : FaultPlan → ℕ → ℕ → Option AskKind
ask_kind plan i nth = ask_kind_at (asks_at plan.asks i) nth

-- the asks of a namenode can be counted without memory
abbrev pub has_namenode : FaultPlan → ℕ → Bool
has_namenode plan i = is_some (asks_at plan.asks i)

-- how a packet of a datanode is planned to fail
abbrev pub packet_kind : FaultPlan → List ℕ → ℕ → Option ReadKind
packet_kind plan uuid nth = packet_kind_at (node_at plan.nodes uuid) nth

-- whether a call of a series is planned to fail
abbrev pub fails_at : FaultPlan → Series → ℕ → Bool
fails_at plan SetUps nth = is_some (kind_at plan nth)
fails_at plan (AsksOf i) nth = is_some (ask_kind plan i nth)
fails_at plan (CallsOf call uuid) nth = planned_in (node_at plan.nodes uuid) call nth

-- whether the next acknowledgement of a link is bad
abbrev pub is_bad : FaultPlan → ℕ → Bool
is_bad plan link = contains nat_cmp plan.links.bad link

-- how often a datanode has failed: in its own calls, and in set-ups whose failure was put down to it
abbrev pub node_faults_of : FaultPlan → List ℕ → ℕ
node_faults_of plan uuid = failed_in (node_at plan.nodes uuid) + firsts_in plan.links uuid

-- how often a namenode has failed as it was planned to
abbrev pub ask_faults_of : FaultPlan → ℕ → ℕ
ask_faults_of plan i = failed_asks (asks_at plan.asks i)

-- how often links have failed
abbrev pub link_faults_of : FaultPlan → ℕ
link_faults_of plan = plan.links.failed

-- the same datanodes are there, and the same calls are planned to fail, in the same way
pub record SamePlans (old new : FaultPlan) : Type 0 where
  pub there : (d : List ℕ) → has_node new d ≡ has_node old d
  pub fails : (s : Series) (nth : ℕ) → fails_at new s nth ≡ fails_at old s nth
  pub kinds : (nth : ℕ) → kind_at new nth ≡ kind_at old nth
  pub packets : (d : List ℕ) (nth : ℕ) → packet_kind new d nth ≡ packet_kind old d nth
  pub asks : (i nth : ℕ) → ask_kind new i nth ≡ ask_kind old i nth

-- no call was counted
abbrev pub SameCalls : FaultPlan → FaultPlan → Type 0
SameCalls old new = (s : Series) → calls_of new s ≡ calls_of old s

-- no datanode has failed
abbrev pub SameNodeFaults : FaultPlan → FaultPlan → Type 0
SameNodeFaults old new = (d : List ℕ) → node_faults_of new d ≡ node_faults_of old d

-- no namenode has failed as it was planned to
abbrev pub SameAskFaults : FaultPlan → FaultPlan → Type 0
SameAskFaults old new = (i : ℕ) → ask_faults_of new i ≡ ask_faults_of old i

-- no link has failed, and the same acknowledgements are bad
pub record SameLinks (old new : FaultPlan) : Type 0 where
  pub faults : link_faults_of new ≡ link_faults_of old
  pub bad : (link : ℕ) → is_bad new link ≡ is_bad old link

-- nothing changed
pub record SamePlan (old new : FaultPlan) : Type 0 where
  pub plans : SamePlans old new
  pub calls : SameCalls old new
  pub nodes : SameNodeFaults old new
  pub asks : SameAskFaults old new
  pub links : SameLinks old new

-- nothing was counted, and nothing is planned
pub record IsNew (plan : FaultPlan) : Type 0 where
  pub calls : (s : Series) → calls_of plan s ≡ 0
  pub fails : (s : Series) (nth : ℕ) → fails_at plan s nth ≡ false
  pub kinds : (nth : ℕ) → kind_at plan nth ≡ None
  pub packets : (d : List ℕ) (nth : ℕ) → packet_kind plan d nth ≡ None
  pub ask_kinds : (i nth : ℕ) → ask_kind plan i nth ≡ None
  pub bad : (link : ℕ) → is_bad plan link ≡ false
  pub nodes : (d : List ℕ) → node_faults_of plan d ≡ 0
  pub asks : (i : ℕ) → ask_faults_of plan i ≡ 0
  pub links : link_faults_of plan ≡ 0

-- datanodes may have come, and nothing else changed
pub record AddsNodes (old new : FaultPlan) : Type 0 where
  pub there : (d : List ℕ) → has_node old d ≡ true → has_node new d ≡ true
  pub fails : (s : Series) (nth : ℕ) → fails_at new s nth ≡ fails_at old s nth
  pub kinds : (nth : ℕ) → kind_at new nth ≡ kind_at old nth
  pub packets : (d : List ℕ) (nth : ℕ) → packet_kind new d nth ≡ packet_kind old d nth
  pub ask_kinds : (i nth : ℕ) → ask_kind new i nth ≡ ask_kind old i nth
  pub calls : SameCalls old new
  pub nodes : SameNodeFaults old new
  pub asks : SameAskFaults old new
  pub links : SameLinks old new

-- the fault may still come: its object is there, and has not reached the call
abbrev pub may_come : FaultPlan → FaultLine → Bool
may_come plan fault = has_series plan (series_of fault) && nat_lt (calls_of plan (series_of fault)) (nth_of fault)

-- A fault was planned that may still come, or nothing was. Of two faults of one set-up, of one packet or of one ask the first one
-- stays.
pub record PlansFault (old : FaultPlan) (fault : FaultLine) (new : FaultPlan) : Type 0 where
  pub fails : (s : Series) (nth : ℕ) → fails_at new s nth ≡ (fails_at old s nth || (may_come old fault && is_fault_at s nth fault))
  pub kinds : (nth : ℕ) → kind_at new nth ≡ option_or (kind_at old nth) (if may_come old fault then kind_in nth fault else None)
  pub packets : (d : List ℕ) (nth : ℕ) → packet_kind new d nth
      ≡ option_or (packet_kind old d nth) (if may_come old fault then packet_kind_in d nth fault else None)
  pub ask_kinds : (i nth : ℕ) → ask_kind new i nth
      ≡ option_or (ask_kind old i nth) (if may_come old fault then ask_kind_in i nth fault else None)
  pub there : (d : List ℕ) → has_node new d ≡ has_node old d
  pub calls : SameCalls old new
  pub nodes : SameNodeFaults old new
  pub asks : SameAskFaults old new
  pub links : SameLinks old new

-- one call of this series was counted where its object is there, no other call was, and no plan changed
pub record CountsOne (old : FaultPlan) (series : Series) (new : FaultPlan) : Type 0 where
  pub own : has_series old series ≡ true → calls_of new series ≡ after_one (calls_of old series)
  pub grows : calls_of old series ≤ calls_of new series
  pub others : (s : Series) → s ≢ series → calls_of new s ≡ calls_of old s
  pub plans : SamePlans old new

-- One call of a datanode was counted. It fails exactly where its number is planned, and then that datanode has failed once
-- more.
pub record Counts (old : FaultPlan) (series : Series) (fails : Bool) (new : FaultPlan) : Type 0 where
  pub call : CountsOne old series new
  pub as_planned : fails ≡ next_fails (fails_at old series) (calls_of old series)
  pub nodes : (d : List ℕ) → node_faults_of new d ≡ node_faults_of old d + one_if (fails && is_of d series)
  pub asks : SameAskFaults old new
  pub links : SameLinks old new

-- One ask of a namenode was counted. It fails exactly where its number is planned, and then that namenode has failed once more.
pub record CountsAsk (old : FaultPlan) (i : ℕ) (fails : Bool) (new : FaultPlan) : Type 0 where
  pub call : CountsOne old (AsksOf i) new
  pub as_planned : fails ≡ next_fails (fails_at old (AsksOf i)) (calls_of old (AsksOf i))
  pub own : ask_faults_of new i ≡ ask_faults_of old i + one_if fails
  pub others : (j : ℕ) → j ≢ i → ask_faults_of new j ≡ ask_faults_of old j
  pub nodes : SameNodeFaults old new
  pub links : SameLinks old new

-- One set-up of a pipeline was counted. It fails as its number is planned to: the datanode to which its failure is put down has then failed
-- once more, or where none is named the links have; or the next acknowledgement of this link is bad.
pub record SetsUp (old : FaultPlan) (link : ℕ) (first : Option (List ℕ)) (kind : Option LinkKind) (new : FaultPlan) : Type 0 where
  pub call : CountsOne old SetUps new
  pub as_planned : kind ≡ next_kind (kind_at old) (calls_of old SetUps)
  pub faults : link_faults_of new ≡ link_faults_of old + one_if (is_at_once kind && is_none first)
  pub bad : (l : ℕ) → is_bad new l ≡ (is_bad old l || (is_bad_ack kind && (link == l)))
  pub nodes : (d : List ℕ) → node_faults_of new d ≡ node_faults_of old d + one_if (is_at_once kind && is_first first d)
  pub asks : SameAskFaults old new

-- One transfer was counted, as a set-up. It fails as its number is planned to: the links have then failed once more, however it
-- fails, and the same acknowledgements are bad.
pub record CountsTransfer (old : FaultPlan) (kind : Option LinkKind) (new : FaultPlan) : Type 0 where
  pub call : CountsOne old SetUps new
  pub as_planned : kind ≡ next_kind (kind_at old) (calls_of old SetUps)
  pub faults : link_faults_of new ≡ link_faults_of old + one_if (is_some kind)
  pub bad : (link : ℕ) → is_bad new link ≡ is_bad old link
  pub nodes : SameNodeFaults old new
  pub asks : SameAskFaults old new

-- An acknowledgement of a link came: where it is bad, the links have failed once more, and the next one is good.
pub record TakesAck (old : FaultPlan) (link : ℕ) (bad : Bool) (new : FaultPlan) : Type 0 where
  pub was : bad ≡ is_bad old link
  pub faults : link_faults_of new ≡ link_faults_of old + one_if bad
  pub left : (l : ℕ) → is_bad new l ≡ (is_bad old l && not (link == l))
  pub plans : SamePlans old new
  pub calls : SameCalls old new
  pub nodes : SameNodeFaults old new
  pub asks : SameAskFaults old new

-- no acknowledgement of the link is bad any more, and nothing else changed
pub record Forgets (old : FaultPlan) (link : ℕ) (new : FaultPlan) : Type 0 where
  pub faults : link_faults_of new ≡ link_faults_of old
  pub left : (l : ℕ) → is_bad new l ≡ (is_bad old l && not (link == l))
  pub plans : SamePlans old new
  pub calls : SameCalls old new
  pub nodes : SameNodeFaults old new
  pub asks : SameAskFaults old new
