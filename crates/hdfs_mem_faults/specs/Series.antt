-- The series of calls, and what the lines of a script plan of them.
use Rattle.std.specs.Prelude.{ℕ, Bool, true, false, ◌&&◌, ◌==◌, List, [], ◌∷◌, ◌++◌, Option, Some, None, count_by, codes, if◌then◌else◌}
use Rattle.std.specs.List.{list_any}
use Rattle.std.specs.Option.{option_or}
use Rattle.std.specs.Str.{bytes_eq}
use Rattle.std.specs.Fmt.{decimal}
use Rattle.hdfs_cluster.specs.declared.store.Line.{Line}
use Rattle.hdfs_cluster.specs.declared.store.Line.TheVariants as lines
use Rattle.hdfs_cluster.specs.declared.store.AskKind.{AskKind}
use Rattle.hdfs_cluster.specs.declared.store.FaultLine.{FaultLine}
use Rattle.hdfs_cluster.specs.declared.store.FaultLine.TheVariants as faults
use Rattle.hdfs_cluster.specs.declared.store.LinkKind.{LinkKind}
use Rattle.hdfs_cluster.specs.declared.store.ReadKind.{ReadKind}
use Rattle.hdfs_cluster.specs.declared.store.ReadKind.TheVariants as read_kinds
use Rattle.hdfs_mem_faults.specs.declared.node_plan.NodeCall.{NodeCall}
use Rattle.hdfs_mem_faults.specs.declared.node_plan.NodeCall.TheVariants as calls

-- a series of calls that are counted together: the set-ups of pipelines with the transfers, the asks of one namenode, or the calls of
-- a kind of one datanode
pub data Series : Type 0 where
  SetUps : Series
  AsksOf : ℕ → Series
  CallsOf : NodeCall → List ℕ → Series

-- the acknowledgements that tell of a datanode
abbrev pub acks_of : List ℕ → Series
acks_of uuid = CallsOf calls.Ack uuid

-- the packets that are sent down pipelines whose first datanode it is
abbrev pub sends_to : List ℕ → Series
sends_to uuid = CallsOf calls.Send uuid

-- the packets that it gives
abbrev pub reads_of : List ℕ → Series
reads_of uuid = CallsOf calls.Read uuid

-- the reads that are opened on it
abbrev pub opens_of : List ℕ → Series
opens_of uuid = CallsOf calls.Open uuid

-- the two kinds of calls are the same
abbrev pub same_call : NodeCall → NodeCall → Bool
same_call calls.Ack calls.Ack = true
same_call calls.Send calls.Send = true
same_call calls.Read calls.Read = true
same_call calls.Open calls.Open = true
same_call call other = false

-- the two series are the same
abbrev pub same_series : Series → Series → Bool
same_series SetUps SetUps = true
same_series (AsksOf i) (AsksOf j) = i == j
same_series (CallsOf call uuid) (CallsOf other d) = same_call call other && bytes_eq uuid d
same_series series other = false

-- the series is one of this datanode
abbrev pub is_of : List ℕ → Series → Bool
is_of uuid SetUps = false
is_of uuid (AsksOf i) = false
is_of uuid (CallsOf call d) = bytes_eq d uuid

-- the uuid of a datanode by its number
abbrev pub uuid_of : ℕ → List ℕ
uuid_of number = codes "dn" ++ decimal number

-- the series of the reads of a datanode that fail so: of those that are opened, or of their packets
abbrev pub reads_failing : ReadKind → List ℕ → Series
reads_failing read_kinds.Broken uuid = reads_of uuid
reads_failing read_kinds.Damaged uuid = reads_of uuid
reads_failing read_kinds.Gap uuid = reads_of uuid
reads_failing read_kinds.Refused uuid = opens_of uuid

-- the series of the call that a fault is of
abbrev pub series_of : FaultLine → Series
series_of (faults.Ask namenode nth kind) = AsksOf namenode
series_of (faults.Link nth kind) = SetUps
series_of (faults.AckOf node nth) = acks_of (uuid_of node)
series_of (faults.SendTo node nth) = sends_to (uuid_of node)
series_of (faults.ReadOf node nth kind) = reads_failing kind (uuid_of node)

-- the number of that call
abbrev pub nth_of : FaultLine → ℕ
nth_of (faults.Ask namenode nth kind) = nth
nth_of (faults.Link nth kind) = nth
nth_of (faults.AckOf node nth) = nth
nth_of (faults.SendTo node nth) = nth
nth_of (faults.ReadOf node nth kind) = nth

-- the fault is of this call
abbrev pub is_fault_at : Series → ℕ → FaultLine → Bool
is_fault_at series nth fault = same_series (series_of fault) series && (nth_of fault == nth)

-- how the fault makes this set-up of a pipeline fail, if it does
abbrev pub kind_in : ℕ → FaultLine → Option LinkKind
kind_in nth (faults.Ask namenode n kind) = None
kind_in nth (faults.Link n kind) = if n == nth then Some kind else None
kind_in nth (faults.AckOf node n) = None
kind_in nth (faults.SendTo node n) = None
kind_in nth (faults.ReadOf node n kind) = None

-- how a fault of a read says that it fails
abbrev pub said_kind : FaultLine → Option ReadKind
said_kind (faults.Ask namenode nth kind) = None
said_kind (faults.Link nth kind) = None
said_kind (faults.AckOf node nth) = None
said_kind (faults.SendTo node nth) = None
said_kind (faults.ReadOf node nth kind) = Some kind

-- how the fault makes this packet of a datanode fail, if it does
abbrev pub packet_kind_in : List ℕ → ℕ → FaultLine → Option ReadKind
packet_kind_in uuid nth fault = if is_fault_at (reads_of uuid) nth fault then said_kind fault else None

-- how a fault of an ask says that it fails
abbrev pub said_ask : FaultLine → Option AskKind
said_ask (faults.Ask namenode nth kind) = Some kind
said_ask (faults.Link nth kind) = None
said_ask (faults.AckOf node nth) = None
said_ask (faults.SendTo node nth) = None
said_ask (faults.ReadOf node nth kind) = None

-- how the fault makes this ask of a namenode fail, if it does
abbrev pub ask_kind_in : ℕ → ℕ → FaultLine → Option AskKind
ask_kind_in i nth fault = if is_fault_at (AsksOf i) nth fault then said_ask fault else None

-- what holds of the fault of a line, and of no other line
abbrev pub of_fault : (FaultLine → Bool) → Line → Bool
of_fault holds (lines.Dir path) = false
of_fault holds (lines.File path attributes bytes) = false
of_fault holds (lines.Short path block node len) = false
of_fault holds (lines.Fault fault) = holds fault

-- the line is one with a fault
abbrev pub is_fault : Line → Bool
is_fault line = of_fault (λ fault. true) line

-- how the fault of a line makes this set-up of a pipeline fail, if it does
abbrev pub kind_of_line : ℕ → Line → Option LinkKind
kind_of_line nth (lines.Dir path) = None
kind_of_line nth (lines.File path attributes bytes) = None
kind_of_line nth (lines.Short path block node len) = None
kind_of_line nth (lines.Fault fault) = kind_in nth fault

-- how the fault of a line makes this packet of a datanode fail, if it does
abbrev pub packet_kind_of_line : List ℕ → ℕ → Line → Option ReadKind
packet_kind_of_line uuid nth (lines.Dir path) = None
packet_kind_of_line uuid nth (lines.File path attributes bytes) = None
packet_kind_of_line uuid nth (lines.Short path block node len) = None
packet_kind_of_line uuid nth (lines.Fault fault) = packet_kind_in uuid nth fault

-- how the fault of a line makes this ask of a namenode fail, if it does
abbrev pub ask_kind_of_line : ℕ → ℕ → Line → Option AskKind
ask_kind_of_line i nth (lines.Dir path) = None
ask_kind_of_line i nth (lines.File path attributes bytes) = None
ask_kind_of_line i nth (lines.Short path block node len) = None
ask_kind_of_line i nth (lines.Fault fault) = ask_kind_in i nth fault

-- one of the lines plans that this call fails
abbrev pub plans : List Line → Series → ℕ → Bool
plans loaded series nth = list_any (of_fault (is_fault_at series nth)) loaded

-- how the lines make this set-up of a pipeline fail: as the first line of it says
abbrev pub kind_of : List Line → ℕ → Option LinkKind
kind_of [] nth = None
kind_of (line ∷ loaded) nth = option_or (kind_of_line nth line) (kind_of loaded nth)

-- how the lines make this packet of a datanode fail: as the first line of it says
abbrev pub packet_kind_of : List Line → List ℕ → ℕ → Option ReadKind
packet_kind_of [] uuid nth = None
packet_kind_of (line ∷ loaded) uuid nth = option_or (packet_kind_of_line uuid nth line) (packet_kind_of loaded uuid nth)

-- how the lines make this ask of a namenode fail: as the first line of it says
abbrev pub ask_kind_of : List Line → ℕ → ℕ → Option AskKind
ask_kind_of [] i nth = None
ask_kind_of (line ∷ loaded) i nth = option_or (ask_kind_of_line i nth line) (ask_kind_of loaded i nth)

-- how many of the lines are faults of calls of this series
abbrev pub series_fault_count : List Line → Series → ℕ
series_fault_count loaded series = count_by (of_fault (λ fault. same_series (series_of fault) series)) loaded

-- how many of the lines are faults of this datanode
abbrev pub node_fault_count : List Line → List ℕ → ℕ
node_fault_count loaded uuid = count_by (of_fault (λ fault. is_of uuid (series_of fault))) loaded

-- how many of the lines are faults of the asks of this namenode
abbrev pub ask_fault_count : List Line → ℕ → ℕ
ask_fault_count loaded i = series_fault_count loaded (AsksOf i)

-- how many of the lines are faults of the set-up of a pipeline
abbrev pub link_fault_count : List Line → ℕ
link_fault_count loaded = series_fault_count loaded SetUps
