-- What the links of a cluster in memory show.
use Rattle.std.specs.Prelude.{◌≡◌, ◌≢◌, ℕ, ℤ, pos, ◌+◌, ◌≤◌, Bool, true, false, List, [], ◌∷◌, ◌++◌, length, slice_index_or, Option, Some, None, Result, Ok, Err}
use Rattle.slab.specs.Slab as slab
use Rattle.hdfs_wire.specs.declared.ack.Ack.{Ack}
use Rattle.hdfs_wire.specs.declared.read_packet.ReadPacket.{ReadPacket}
use Rattle.hdfs_wire.specs.Outgoing.{Outgoing}
use Rattle.hdfs_cluster.specs.declared.asks.LinkFault.{LinkFault}
use Rattle.hdfs_cluster.specs.declared.asks.LinkFault.TheVariants as link_faults
use Rattle.hdfs_cluster.specs.declared.picture.OpenRead.{OpenRead}
use Rattle.hdfs_cluster.specs.declared.picture.OpenWrite.{OpenWrite}
use Rattle.hdfs_cluster.specs.declared.picture.ReadPlace.{ReadPlace}
use Rattle.hdfs_cluster.specs.declared.store.ReadKind.{ReadKind}
use Rattle.hdfs_cluster.specs.declared.store.ReadKind.TheVariants as read_kinds
use Rattle.hdfs_cluster.specs.Reading.{placed_at}
use Rattle.hdfs_cluster.specs.Sending.{WritePlace, seqno_of, uuids}
use Rattle.hdfs_mem_faults.specs.declared.fault_plan.FaultPlan.{FaultPlan}
use Rattle.hdfs_mem_faults.specs.Calls.{next_kind}
use Rattle.hdfs_mem_faults.specs.Plans.{calls_of, fails_at, node_faults_of, packet_kind, Counts, SameLinks, TakesAck}
use Rattle.hdfs_mem_faults.specs.Series.{reads_of, sends_to}
use Rattle.hdfs_mem_datanodes.specs.declared.datanodes.Datanodes.{Datanodes}
use Rattle.hdfs_mem_cluster.specs.declared.mem_links.MemLinks.{MemLinks}
use Rattle.hdfs_mem_cluster.specs.declared.read_link.MemRead.{MemRead}
use Rattle.hdfs_mem_cluster.specs.declared.write_link.MemWrite.{MemWrite}
use Rattle.hdfs_mem_datanodes.specs.Nodes.{SameHeld}
use Rattle.hdfs_mem_cluster.specs.Slices.{Comes}
use Rattle.hdfs_mem_cluster.specs.Telling.{GoesOn, TellsAll}
use Rattle.hdfs_mem_cluster.specs.Writes.{told_of, place_of, SameWrite, PutsPacket}

-- the read with this number
abbrev pub read_at : MemLinks → ℕ → Option MemRead
read_at links link = slab.get links.reads link

-- the write with this number: numbers of reads and of writes are two things
abbrev pub write_at : MemLinks → ℕ → Option MemWrite
write_at links link = slab.get links.writes link

-- what is told of a read
abbrev pub read_told : Option MemRead → Option OpenRead
read_told None = None
read_told (Some read) = Some read.told

-- what the picture shows of it
abbrev pub read_place : Option MemRead → Option ReadPlace
read_place None = None
read_place (Some read) = Some read.place

-- what is told of a write
abbrev pub write_told : Option MemWrite → Option OpenWrite
write_told None = None
write_told (Some write) = Some (told_of write)

-- what the picture shows of it
abbrev pub write_place : Datanodes → ℕ → Option MemWrite → Option WritePlace
write_place nodes link None = None
write_place nodes link (Some write) = Some (place_of nodes link write)

-- one number has this read now, and all other links stay
pub record ChangesRead (old new : MemLinks) (link : ℕ) (read : Option MemRead) : Type 0 where
  pub changed : read_at new link ≡ read
  pub others : (l : ℕ) → l ≢ link → read_at new l ≡ read_at old l
  pub writes : (l : ℕ) → write_at new l ≡ write_at old l

-- the same of a write
pub record ChangesWrite (old new : MemLinks) (link : ℕ) (write : Option MemWrite) : Type 0 where
  pub changed : write_at new link ≡ write
  pub others : (l : ℕ) → l ≢ link → write_at new l ≡ write_at old l
  pub reads : (l : ℕ) → read_at new l ≡ read_at old l

-- no link changes
pub record ChangesNoLink (old new : MemLinks) : Type 0 where
  pub reads : (l : ℕ) → read_at new l ≡ read_at old l
  pub writes : (l : ℕ) → write_at new l ≡ write_at old l

-- when the read was opened its datanode had failed no more often than now
abbrev pub IsEarlier : FaultPlan → OpenRead → Type 0
IsEarlier faults read = read.before ≤ node_faults_of faults read.ask.node.datanode_uuid

-- that holds of each read that is open
abbrev pub AreEarlier : MemLinks → FaultPlan → Type 0
AreEarlier links faults = (link : ℕ) (read : OpenRead) → read_told (read_at links link) ≡ Some read → IsEarlier faults read

-- no packet is planned to be refused
abbrev pub NeverRefuses : FaultPlan → Type 0
NeverRefuses faults = (d : List ℕ) (nth : ℕ) → packet_kind faults d nth ≢ Some read_kinds.Refused

-- how the next packet of a datanode is planned to fail
abbrev pub next_of : FaultPlan → List ℕ → Option ReadKind
next_of faults node = next_kind (packet_kind faults node) (calls_of faults (reads_of node))

-- the datanode of a read
abbrev pub node_of : MemRead → List ℕ
node_of read = read.told.ask.node.datanode_uuid

-- nothing changed of a read
pub record SameRead (old new : MemRead) : Type 0 where
  pub told : new.told ≡ old.told
  pub place : new.place ≡ old.place

-- a packet came, and the place moved to its end
pub record GaveOn (kind : Option ReadKind) (packet : ReadPacket) (old new : MemRead) : Type 0 where
  pub comes : Comes old.chunk kind old.place packet
  pub told : new.told ≡ old.told
  pub place : (offset : ℕ) → packet.header.offset_in_block ≡ pos offset → new.place ≡ placed_at old.place (offset + length packet.payload)

-- a packet of a datanode was counted
abbrev pub CountsPacket : FaultPlan → List ℕ → FaultPlan → Type 0
CountsPacket old node new = (fails : Bool) × Counts old (reads_of node) fails new

-- A packet was asked for. It came as it is planned to fail, or the connection broke where that is planned, and it was counted; or
-- there was no memory.
abbrev pub GivesOn : FaultPlan → FaultPlan → MemRead → MemRead → Result ReadPacket LinkFault → Type 0
GivesOn faults faults' old new (Ok packet) = GaveOn (next_of faults (node_of old)) packet old new × CountsPacket faults (node_of old) faults'
GivesOn faults faults' old new (Err link_faults.NoMemory) = SameRead old new × (faults' ≡ faults)
GivesOn faults faults' old new (Err link_faults.Broken) =
    SameRead old new × (next_of faults (node_of old) ≡ Some read_kinds.Broken) × CountsPacket faults (node_of old) faults'
GivesOn faults faults' old new (Err link_faults.Refused) = ⊥

-- a packet was sent
pub record SentOn (link : ℕ) (packet : Outgoing) (nodes nodes' : Datanodes) (old new : MemWrite) : Type 0 where
  pub same : SameWrite old new
  pub sent : new.sent.items ≡ old.sent.items ++ packet ∷ []
  pub puts : PutsPacket old.setup link packet nodes nodes'

-- none was
pub record UnsentOn (nodes nodes' : Datanodes) (old new : MemWrite) : Type 0 where
  pub same : SameWrite old new
  pub sent : new.sent.items ≡ old.sent.items
  pub held : SameHeld nodes nodes'

-- the first datanode of a link
abbrev pub first_uuid : MemWrite → List ℕ
first_uuid write = slice_index_or (uuids write.setup.locs) 0 []

-- a write link, and what it is sent on with: the datanodes and the plan of faults
pub record Sending : Type 0 where
  pub nodes : Datanodes
  pub faults : FaultPlan
  pub write : MemWrite

-- a write link among these
abbrev pub among : Datanodes → FaultPlan → MemWrite → Sending
among nodes faults write = record { nodes = nodes; faults = faults; write = write }

-- a packet was sent and counted; or the connection broke, and nothing is seen to change of what is held
abbrev pub SendsOn : ℕ → Outgoing → Bool → Sending → Sending → Type 0
SendsOn link packet false old new =
    SentOn link packet old.nodes new.nodes old.write new.write × Counts old.faults (sends_to (first_uuid old.write)) false new.faults
SendsOn link packet true old new =
    UnsentOn old.nodes new.nodes old.write new.write × Counts old.faults (sends_to (first_uuid old.write)) true new.faults

-- the seqno of the packet that is due
abbrev pub due_of : MemWrite → Outgoing → ℤ
due_of write d = seqno_of (slice_index_or write.sent.items write.acknowledged d)

-- An acknowledgement with this seqno is that of the packet that is due, which is acknowledged; or a bad one, and nothing is.
pub record TakesSeqno (bad : Bool) (seqno : ℤ) (old new : MemWrite) : Type 0 where
  pub setup : new.setup ≡ old.setup
  pub base : new.base ≡ old.base
  pub sent : new.sent ≡ old.sent
  pub taken : bad ≡ false → ((d : Outgoing) → seqno ≡ due_of old d) × (new.acknowledged ≡ old.acknowledged + 1)
  pub left : bad ≡ true → ((d : Outgoing) → seqno ≢ due_of old d) × (new.acknowledged ≡ old.acknowledged)

-- an acknowledgement came: all datanodes were told of it, and it may be bad
pub record AckedOn (link : ℕ) (ack : Ack) (faults faults' : FaultPlan) (old new : MemWrite) : Type 0 where
  pub told : FaultPlan
  pub tells : TellsAll (fails_at faults) faults (uuids old.setup.locs) ack.replies told
  pub goes_on : GoesOn faults told
  pub links : SameLinks faults told
  pub bad : Bool
  pub takes : TakesAck told link bad faults'
  pub seqno : TakesSeqno bad ack.seqno old new
  pub responses : new.responses.items ≡ old.responses.items ++ ack ∷ []

-- none did
pub record UnackedOn (old new : MemWrite) : Type 0 where
  pub setup : new.setup ≡ old.setup
  pub base : new.base ≡ old.base
  pub sent : new.sent ≡ old.sent
  pub responses : new.responses.items ≡ old.responses.items
  pub acknowledged : new.acknowledged ≡ old.acknowledged
