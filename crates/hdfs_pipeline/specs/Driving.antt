-- What driving a pipeline over a write link does.
use Rattle.std.specs.Prelude.{◌≡◌, ◌≢◌, ℕ, ℤ, ◌+◌, ◌<◌, ◌≤◌, true, false, List, [], ◌∷◌, ◌++◌, length, take, drop, map, slice_index_or, All, Option, Some, None, IsSome}
use Rattle.hdfs_wire.specs.Outgoing.{Outgoing}
use Rattle.hdfs_cluster.specs.declared.picture.OpenWrite.{OpenWrite}
use Rattle.hdfs_cluster.specs.Counts.{Rose}
use Rattle.hdfs_cluster.specs.Picture.{Picture}
use Rattle.hdfs_cluster.specs.Pipes.{OnlyWrites, FollowsOn, nodes_of}
use Rattle.hdfs_cluster.specs.Sending.{Response, Came, Broke, WritePlace, seqno_of, end_of as packet_end}
use Rattle.hdfs_cluster.specs.Shown.{Shown}
use Rattle.hdfs_cluster.specs.Writing.{GoesFurther}
use Rattle.hdfs_pipeline.specs.Cores.{IsCore, Stands}
use Rattle.hdfs_pipeline.specs.Ends.{end_of}
use Rattle.hdfs_pipeline.specs.Pipelines.{Pipeline, Done, Failed, Bad}
use Rattle.hdfs_pipeline.specs.declared.end.PipelineEnd.{PipelineEnd}
use Rattle.hdfs_pipeline.specs.declared.event.Event.{Event}
use Rattle.hdfs_pipeline.specs.declared.event.Event.TheVariants.{Acked, AckFailed}

-- The link has as many datanodes as the pipeline, and the packets that wait on it are those of the pipeline, all of which were
-- sent. No heartbeat is open.
pub record IsInStep (write : OpenWrite) (core : Pipeline) : Type 0 where
  pub nodes : length write.setup.locs ≡ core.nodes
  pub sent : core.sent ≡ length core.pushed
  pub taken : core.taken ≡ length core.pushed
  pub waiting : write.waiting ≡ map seqno_of core.pushed
  pub heartbeats : core.heartbeats ≡ 0

-- the link is open, and in step with the pipeline unless that has ended
abbrev pub Drives : Shown → ℕ → Pipeline → Type 0
Drives shown link core = (write : OpenWrite) × (shown.writes link ≡ Some write) × (core.end ≡ None → IsInStep write core)

-- a pipeline that goes on over its link
pub record IsGoing (shown : Shown) (link : ℕ) (core : Pipeline) : Type 0 where
  pub drives : Drives shown link core
  pub is_core : IsCore core
  pub going : core.end ≡ None

-- calls on one write link were made, which is still open as it was set up; what was asked of namenodes, the read links and the
-- other write links stay
pub record OnLink (link : ℕ) (old new : Shown) : Type 0 where
  pub only : OnlyWrites old new
  pub others : (other : ℕ) → other ≢ link → new.writes other ≡ old.writes other
  pub still_open : (write : OpenWrite) → old.writes link ≡ Some write → (write' : OpenWrite) × (new.writes link ≡ Some write') × (write'.setup ≡ write.setup)

-- So many packets are acknowledged and forgotten, and these came behind the others. Behind an end none is acknowledged.
pub record GoesOn (core : Pipeline) (acknowledged : ℕ) (more : List Outgoing) (core' : Pipeline) : Type 0 where
  pub window : core'.window ≡ core.window
  pub nodes : core'.nodes ≡ core.nodes
  pub few : acknowledged ≤ length core.pushed
  pub pushed : core'.pushed ≡ drop acknowledged core.pushed ++ more
  pub ended : IsSome core.end → (core'.end ≡ core.end) × (acknowledged ≡ 0)
  pub done : core.end ≡ None → core'.end ≡ Some Done → (front : List Outgoing) × (packet : Outgoing)
      × (take acknowledged core.pushed ≡ front ++ packet ∷ []) × (packet.header.last_packet_in_block ≡ true)
  pub going : core'.end ≡ None → All (λ packet. packet.header.last_packet_in_block ≡ false) (take acknowledged core.pushed)

-- why a pipeline failed: each datanode at a failed place has failed; a bad acknowledgement comes only where the links have
pub record HasCause (link : ℕ) (core : Pipeline) (old : Shown) (core' : Pipeline) (new : Shown) : Type 0 where
  pub failed : (write : OpenWrite) (places : List ℕ) → old.writes link ≡ Some write → core.end ≡ None → core'.end ≡ Some (Failed places)
      → All (λ place. Rose (old.counts.nodes (slice_index_or (nodes_of write) place [])) (new.counts.nodes (slice_index_or (nodes_of write) place []))) places
  pub bad : (seqno : ℤ) → core.end ≡ None → core'.end ≡ Some (Bad seqno) → Rose old.counts.links new.counts.links

-- Of what was sent on a link so much is settled: each datanode has received it. The packets of the pipeline are those behind;
-- while it goes on all of them were sent, and what is settled is what is acknowledged.
pub record Settles (place : WritePlace) (core : Pipeline) (settled : ℕ) : Type 0 where
  pub nodes : length place.nodes ≡ core.nodes
  pub few : settled ≤ length place.sent
  pub unsent : List Outgoing
  pub behind : core.pushed ≡ drop settled place.sent ++ unsent
  pub received : (i : ℕ) → i < length place.nodes → (settled ≤ place.received i) × (place.received i ≤ length place.sent)
  pub going : core.end ≡ None → (unsent ≡ []) × (place.acknowledged ≡ settled)

-- these packets were sent behind the others, all of them unless the pipeline has failed
pub record SentMore (place : WritePlace) (more : List Outgoing) (core' : Pipeline) (place' : WritePlace) : Type 0 where
  pub sent : List Outgoing
  pub rest : List Outgoing
  pub cut : more ≡ sent ++ rest
  pub behind : place'.sent ≡ place.sent ++ sent
  pub all : ((places : List ℕ) → core'.end ≡ Some (Failed places) → ⊥) → rest ≡ []

-- A pipeline was driven from one state to another: these packets came in, and others were acknowledged. In the picture the link goes
-- further by these packets, and what became acknowledged is settled.
pub record Drove (link : ℕ) (more : List Outgoing) (core : Pipeline) (old : Shown) (core' : Pipeline) (new : Shown) : Type 0 where
  pub on : OnLink link old new
  pub drives : Drives new link core'
  pub acknowledged : ℕ
  pub goes : GoesOn core acknowledged more core'
  pub cause : HasCause link core old core' new
  pub told : (p : Picture) (place : WritePlace) (settled : ℕ) → old.picture ≡ Some p → p.writes link ≡ Some place → Settles place core settled
      → (q : Picture) × (place' : WritePlace) × (new.picture ≡ Some q) × (q.writes link ≡ Some place') × GoesFurther p place q place'
      × SentMore place more core' place' × Settles place' core' (settled + acknowledged)

-- what came back on a link, by the events of a core
abbrev pub responses_of : List Event → List Response
responses_of [] = []
responses_of (Acked ack ∷ events) = Came ack ∷ responses_of events
responses_of (AckFailed ∷ events) = Broke ∷ responses_of events
responses_of (event ∷ events) = responses_of events

-- These events happened to a core, and what came back on its link are the responses among them, in order.
pub record Happened (link : ℕ) (core : Pipeline) (old : Shown) (core' : Pipeline) (new : Shown) : Type 0 where
  pub events : List Event
  pub stands : (before : List Event) → Stands core before → Stands core' (before ++ events)
  pub came : (p : Picture) (place : WritePlace) → old.picture ≡ Some p → p.writes link ≡ Some place
      → (q : Picture) × (place' : WritePlace) × (new.picture ≡ Some q) × (q.writes link ≡ Some place') × (place'.responses ≡ place.responses ++ responses_of events)

-- the first of these packets were sent behind the others
pub record SentFirst (place : WritePlace) (more : List Outgoing) (place' : WritePlace) : Type 0 where
  pub sent : List Outgoing
  pub rest : List Outgoing
  pub cut : more ≡ sent ++ rest
  pub behind : place'.sent ≡ place.sent ++ sent

-- Where memory is wanting the link is still open, and the picture shows what its calls left: none of other packets was sent.
pub record StopsShort (link : ℕ) (more : List Outgoing) (core : Pipeline) (old new : Shown) : Type 0 where
  pub on : OnLink link old new
  pub told : (p : Picture) (place : WritePlace) (settled : ℕ) → old.picture ≡ Some p → p.writes link ≡ Some place → Settles place core settled
      → (q : Picture) × (place' : WritePlace) × (new.picture ≡ Some q) × (q.writes link ≡ Some place') × GoesFurther p place q place' × SentFirst place more place'

-- the packet isn't the last of its block
abbrev pub IsNotLast : Outgoing → Type 0
IsNotLast packet = packet.header.last_packet_in_block ≡ false

-- While the pipeline goes on: the packet begins where the last one on the link ended, or anywhere from 0 on where it is the
-- first; and the last packet of the block wasn't pushed yet.
abbrev pub IsNext : Shown → ℕ → Pipeline → Outgoing → Type 0
IsNext shown link core packet = core.end ≡ None → FollowsOn shown link packet × All IsNotLast core.pushed

-- the packet is the last that was sent on the link
abbrev pub EndsWith : Shown → ℕ → Outgoing → Type 0
EndsWith shown link packet = (write : OpenWrite) × (shown.writes link ≡ Some write) × (write.end ≡ Some (packet_end packet))

-- the packet that came in, unless it was given back
abbrev pub taken_in : Outgoing → Option Outgoing → List Outgoing
taken_in packet None = packet ∷ []
taken_in packet (Some back) = []

-- It comes in only while the pipeline goes on. It is given back only where that has ended.
abbrev pub IsGivenBack : Outgoing → Option Outgoing → Pipeline → Pipeline → Type 0
IsGivenBack packet None core core' = core.end ≡ None
IsGivenBack packet (Some back) core core' = (back ≡ packet) × IsSome core'.end

-- the last packet of the block is behind the others, none of which is the last
abbrev pub EndsInLast : List Outgoing → Type 0
EndsInLast packets = (front : List Outgoing) × (packet : Outgoing) × (packets ≡ front ++ packet ∷ []) × (packet.header.last_packet_in_block ≡ true) × All IsNotLast front

-- A pipeline was driven to its end, and then its link was ended, as is said of what was before. With success no packet is left.
pub record DroveToEnd {C : Type 0} (shown : C → Shown) (Ended : C → Type 0) (link : ℕ) (core : Pipeline) (old : C) (end : PipelineEnd) : Type 0 where
  pub last : Pipeline
  pub before : C
  pub drove : Drove link [] core (shown old) last (shown before)
  pub happened : Happened link core (shown old) last (shown before)
  pub has_ended : IsSome last.end
  pub is_core : IsCore last
  pub is : end ≡ end_of last
  pub none_left : core.end ≡ None → last.end ≡ Some Done → last.pushed ≡ []
  pub ended : Ended before

-- memory was wanting, and the link was ended
pub record StoppedShort {C : Type 0} (shown : C → Shown) (ends : C → ℕ → C → Type 0) (link : ℕ) (core : Pipeline) (old new : C) : Type 0 where
  pub before : C
  pub stopped : StopsShort link [] core (shown old) (shown before)
  pub ended : ends before link new
