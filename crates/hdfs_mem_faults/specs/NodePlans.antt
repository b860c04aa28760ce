-- What is counted and planned of a datanode, which may not be there.
use Rattle.std.specs.Prelude.{◌≡◌, ◌≢◌, ℕ, ◌+◌, ◌≤◌, nat_lt, Bool, true, false, ◌&&◌, ◌||◌, ◌==◌, List, Option, Some, None, is_some, if◌then◌else◌}
use Rattle.std.specs.Option.{option_or}
use Rattle.std.specs.BTreeMap.{get_by_text}
use Rattle.hdfs_cluster.specs.declared.store.ReadKind.{ReadKind}
use Rattle.hdfs_cluster.specs.declared.store.ReadKind.TheVariants as read_kinds
use Rattle.hdfs_mem_faults.specs.declared.node_plan.NodeCall.{NodeCall}
use Rattle.hdfs_mem_faults.specs.declared.node_plan.NodeCall.TheVariants as calls
use Rattle.hdfs_mem_faults.specs.declared.node_plan.NodeFault.{NodeFault}
use Rattle.hdfs_mem_faults.specs.declared.node_plan.NodeFault.TheVariants as node_faults
use Rattle.hdfs_mem_faults.specs.declared.node_plan.NodePlan.{NodePlan}
use Rattle.hdfs_mem_faults.specs.declared.nodes.Nodes.{Nodes}
use Rattle.hdfs_mem_faults.specs.Calls.{after_one, next_fails, next_kind, one_if}
use Rattle.hdfs_mem_faults.specs.Series.{same_call}
use Rattle.hdfs_mem_faults.specs.Tallies.{is_planned, kind_planned}

-- how many calls of a kind were counted
abbrev pub calls_in : Option NodePlan → NodeCall → ℕ
calls_in None call = 0
calls_in (Some node) calls.Ack = node.acks.calls
calls_in (Some node) calls.Send = node.sends.calls
calls_in (Some node) calls.Read = node.reads.calls
calls_in (Some node) calls.Open = node.opens.calls

-- whether a call of a kind is planned to fail
abbrev pub planned_in : Option NodePlan → NodeCall → ℕ → Bool
planned_in None call nth = false
planned_in (Some node) calls.Ack nth = is_planned node.acks nth
planned_in (Some node) calls.Send nth = is_planned node.sends nth
planned_in (Some node) calls.Read nth = is_planned node.reads nth
planned_in (Some node) calls.Open nth = is_planned node.opens nth

-- how a packet that it gives is planned to fail
abbrev pub packet_kind_at : Option NodePlan → ℕ → Option ReadKind
packet_kind_at None nth = None
packet_kind_at (Some node) nth = kind_planned node.reads nth

-- how often it has failed
abbrev pub failed_in : Option NodePlan → ℕ
failed_in None = 0
failed_in (Some node) = node.acks.failed + node.sends.failed + node.reads.failed + node.opens.failed

-- the datanode with this uuid
abbrev pub node_at : Nodes → List ℕ → Option NodePlan
node_at nodes uuid = get_by_text nodes.by_uuid uuid

-- whether the next read that is opened on it is refused
abbrev pub refuses_next : Option NodePlan → Bool
refuses_next node = next_fails (planned_in node calls.Open) (calls_in node calls.Open)

-- how the next packet that it gives fails
abbrev pub next_packet_in : Option NodePlan → Option ReadKind
next_packet_in node = next_kind (packet_kind_at node) (calls_in node calls.Read)

-- the kind of the calls that a fault is of
abbrev pub call_of : NodeFault → NodeCall
call_of node_faults.Ack = calls.Ack
call_of node_faults.Send = calls.Send
call_of (node_faults.Read kind) = calls.Read
call_of node_faults.Open = calls.Open

-- how a fault makes a packet fail, if it is of one
abbrev pub packet_fault : NodeFault → Option ReadKind
packet_fault node_faults.Ack = None
packet_fault node_faults.Send = None
packet_fault (node_faults.Read kind) = Some kind
packet_fault node_faults.Open = None

-- the fault of reads that fail so
abbrev pub read_fault : ReadKind → NodeFault
read_fault read_kinds.Broken = node_faults.Read read_kinds.Broken
read_fault read_kinds.Damaged = node_faults.Read read_kinds.Damaged
read_fault read_kinds.Gap = node_faults.Read read_kinds.Gap
read_fault read_kinds.Refused = node_faults.Open

-- it may have come, and nothing of it was counted or planned
pub record AddsOnly (old new : Option NodePlan) : Type 0 where
  pub there : is_some old ≡ true → is_some new ≡ true
  pub calls : (call : NodeCall) → calls_in new call ≡ calls_in old call
  pub planned : (call : NodeCall) (nth : ℕ) → planned_in new call nth ≡ planned_in old call nth
  pub packets : (nth : ℕ) → packet_kind_at new nth ≡ packet_kind_at old nth
  pub failed : failed_in new ≡ failed_in old

-- nothing of it was counted or planned
pub record SameNode (old new : Option NodePlan) : Type 0 where
  pub there : is_some new ≡ is_some old
  pub calls : (call : NodeCall) → calls_in new call ≡ calls_in old call
  pub planned : (call : NodeCall) (nth : ℕ) → planned_in new call nth ≡ planned_in old call nth
  pub packets : (nth : ℕ) → packet_kind_at new nth ≡ packet_kind_at old nth
  pub failed : failed_in new ≡ failed_in old

-- one call of this kind was counted, where it is there
pub record CountsCall (old : Option NodePlan) (call : NodeCall) (fails : Bool) (new : Option NodePlan) : Type 0 where
  pub there : is_some new ≡ is_some old
  pub own : is_some old ≡ true → calls_in new call ≡ after_one (calls_in old call)
  pub grows : calls_in old call ≤ calls_in new call
  pub others : (other : NodeCall) → other ≢ call → calls_in new other ≡ calls_in old other
  pub as_planned : fails ≡ next_fails (planned_in old call) (calls_in old call)
  pub failed : failed_in new ≡ failed_in old + one_if fails
  pub planned : (other : NodeCall) (nth : ℕ) → planned_in new other nth ≡ planned_in old other nth
  pub packets : (nth : ℕ) → packet_kind_at new nth ≡ packet_kind_at old nth

-- the call with this number may still come: the datanode is there, and has not reached it
abbrev pub may_come_in : Option NodePlan → NodeCall → ℕ → Bool
may_come_in old call nth = is_some old && nat_lt (calls_in old call) nth

-- One call was planned, where it may still come. Of two faults of one packet the first one stays.
pub record PlansCall (old : Option NodePlan) (fault : NodeFault) (nth : ℕ) (new : Option NodePlan) : Type 0 where
  pub there : is_some new ≡ is_some old
  pub calls : (other : NodeCall) → calls_in new other ≡ calls_in old other
  pub planned : (other : NodeCall) (k : ℕ) → planned_in new other k
      ≡ (planned_in old other k || (may_come_in old (call_of fault) nth && (same_call (call_of fault) other && (nth == k))))
  pub packets : (k : ℕ) → packet_kind_at new k
      ≡ option_or (packet_kind_at old k) (if may_come_in old (call_of fault) nth && (nth == k) then packet_fault fault else None)
  pub failed : failed_in new ≡ failed_in old
