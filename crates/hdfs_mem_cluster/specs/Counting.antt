-- Which calls of a cluster in memory are counted, and which of them fail.
use Rattle.std.specs.Prelude.{◌≡◌, ◌≢◌, ℕ, ℤ, ◌+◌, ◌-◌, ◌%◌, ◌^◌, ◌<◌, ◌==◌, ◌&&◌, min, not, Bool, true, false, List, [], ◌∷◌, length, slice_index_or, Option, Some, IsSome, IsSomeAnd, is_none, is_some, Result, Err, IfOk}
use Rattle.hdfs_wire.specs.declared.ack.Ack.{Ack}
use Rattle.hdfs_wire.specs.declared.read_packet.ReadPacket.{ReadPacket}
use Rattle.hdfs_cluster.specs.declared.asks.Ask.{Ask}
use Rattle.hdfs_cluster.specs.declared.asks.Answer.{Answer}
use Rattle.hdfs_cluster.specs.declared.asks.AskFault.{AskFault}
use Rattle.hdfs_cluster.specs.declared.asks.LinkFault.{LinkFault}
use Rattle.hdfs_cluster.specs.declared.asks.LinkFault.TheVariants as link_faults
use Rattle.hdfs_cluster.specs.declared.messages.Setup.{Setup}
use Rattle.hdfs_cluster.specs.declared.picture.OpenRead.{OpenRead}
use Rattle.hdfs_cluster.specs.declared.picture.OpenWrite.{OpenWrite}
use Rattle.hdfs_cluster.specs.declared.picture.ReadPlace.{ReadPlace}
use Rattle.hdfs_cluster.specs.declared.store.AskKind.{AskKind}
use Rattle.hdfs_cluster.specs.declared.store.LinkKind.{LinkKind}
use Rattle.hdfs_cluster.specs.declared.store.ReadKind.{ReadKind}
use Rattle.hdfs_cluster.specs.Counts.{SameCounts}
use Rattle.hdfs_cluster.specs.Pipes.{IsWellFormed, nodes_of as write_nodes}
use Rattle.hdfs_cluster.specs.Shown.{Served}
use Rattle.hdfs_mem_faults.specs.Calls.{is_bad_ack, is_first, one_if}
use Rattle.hdfs_mem_faults.specs.Plans.{calls_of, has_series, is_bad}
use Rattle.hdfs_mem_faults.specs.Series.{Series, SetUps, AsksOf, ask_kind_of, kind_of, opens_of, packet_kind_of, plans, reads_of, sends_to, uuid_of}
use Rattle.hdfs_mem_cluster.specs.declared.mem_cluster.MemCluster.{MemCluster}
use Rattle.hdfs_mem_cluster.specs.Failures.{failure_of, is_broken, is_counted, is_refused, planned_failure, planned_transfer_failure}
use Rattle.hdfs_mem_cluster.specs.Coming.{ComesTo}
use Rattle.hdfs_mem_cluster.specs.Responding.{AskComesTo, failed_after, has_failed, is_answered}
use Rattle.hdfs_mem_cluster.specs.SettingUp.{blamed}
use Rattle.hdfs_mem_cluster.specs.Telling.{TellsAll}
use Rattle.hdfs_mem_cluster.specs.MemShown.{HasNode, HasNodesOf, nodes_of, picture_of, shown_of}

-- how many calls of a series were counted
abbrev pub calls_at : MemCluster → Series → ℕ
calls_at m series = calls_of m.faults series

-- the object whose calls they are is there, and its next call can be counted
pub record CanCount (m : MemCluster) (series : Series) : Type 0 where
  pub there : has_series m.faults series ≡ true
  pub room : calls_at m series + 1 < 2 ^ 64

-- one of the loaded lines plans that the next call of a series fails
abbrev pub next_planned : MemCluster → Series → Bool
next_planned m series = plans (shown_of m).loaded.lines series (calls_at m series + 1)

-- whether the next acknowledgement of a link is bad
abbrev pub is_bad_at : MemCluster → ℕ → Bool
is_bad_at m link = is_bad m.faults link

-- its datanodes are there by their numbers, and no call was counted
pub record AskedNothing (m : MemCluster) : Type 0 where
  pub there : (k : ℕ) → k < nodes_of m → HasNode m (uuid_of k)
  pub calls : (s : Series) → calls_at m s ≡ 0

-- No count rose, no call was counted, and its datanodes are still there. What is open afterwards has the same bad acknowledgements
-- to come.
pub record CountsNothing (old new : MemCluster) : Type 0 where
  pub counts : SameCounts (shown_of old).counts (shown_of new).counts
  pub calls : (s : Series) → calls_at new s ≡ calls_at old s
  pub bad : (link : ℕ) → IsSome ((shown_of new).writes link) → is_bad_at new link ≡ is_bad_at old link
  pub there : HasNodesOf old new

-- One call of a series was counted, where there was memory for it. No other call was, and the datanodes are still there.
pub record CountsCall (old : MemCluster) (series : Series) (counted : Bool) (new : MemCluster) : Type 0 where
  pub own : CanCount old series → calls_at new series ≡ calls_at old series + one_if counted
  pub others : (s : Series) → s ≢ series → calls_at new s ≡ calls_at old s
  pub there : HasNodesOf old new

-- An ask of a namenode was made. It has the next number, where there was memory for it, and the count of that namenode rises by one
-- where it has failed. No other count does. What is open afterwards has the same bad acknowledgements to come.
pub record CountsAsk (old : MemCluster) (i : ℕ) (counted failed : Bool) (new : MemCluster) : Type 0 where
  pub call : CountsCall old (AsksOf i) counted new
  pub own : (shown_of new).counts.calls i ≡ failed_after failed ((shown_of old).counts.calls i)
  pub others : (j : ℕ) → j ≢ i → (shown_of new).counts.calls j ≡ (shown_of old).counts.calls j
  pub links : (shown_of new).counts.links ≡ (shown_of old).counts.links
  pub nodes : (d : List ℕ) → (shown_of new).counts.nodes d ≡ (shown_of old).counts.nodes d
  pub bad : (link : ℕ) → IsSome ((shown_of new).writes link) → is_bad_at new link ≡ is_bad_at old link

-- how the loaded lines make the next ask of a namenode fail
abbrev pub next_ask_kind : MemCluster → ℕ → Option AskKind
next_ask_kind m i = ask_kind_of (shown_of m).loaded.lines i (calls_at m (AsksOf i) + 1)

-- What an ask does, exactly. It is served, and fails exactly as a line plans its number to, however many namenodes there are and
-- whichever is active; then the count of its namenode rises. Without a line it is answered as by the picture, or the active namenode has
-- failed, and then its count rises too.
pub record MemServes (old : MemCluster) (i : ℕ) (ask : Ask) (result : Result Answer AskFault) (new : MemCluster) : Type 0 where
  pub served : Served (shown_of old) i ask result (shown_of new)
  pub kind : Option AskKind
  pub planned : CanCount old (AsksOf i) → kind ≡ next_ask_kind old i
  pub counted : CountsAsk old i (is_answered result) (has_failed kind result) new
  pub comes : AskComesTo (shown_of old).loaded.lines (nodes_of old) kind (picture_of old) i ask result (picture_of new)

-- A call of a datanode was made. It has the next number of its series, and fails exactly where a line plans that number; then
-- the datanode's count rises by one. No other count rises.
pub record CallsNode (old : MemCluster) (node : List ℕ) (series : Series) (counted fails : Bool) (new : MemCluster) : Type 0 where
  pub call : CountsCall old series counted new
  pub exact : CanCount old series → counted ≡ true → fails ≡ next_planned old series
  pub own : (shown_of new).counts.nodes node ≡ (shown_of old).counts.nodes node + one_if fails
  pub others : (d : List ℕ) → d ≢ node → (shown_of new).counts.nodes d ≡ (shown_of old).counts.nodes d
  pub links : (shown_of new).counts.links ≡ (shown_of old).counts.links
  pub bad : (link : ℕ) → is_bad_at new link ≡ is_bad_at old link

-- a read was opened on a datanode: it is refused exactly where a line plans that
abbrev pub AsksOpening : MemCluster → List ℕ → Result ℕ LinkFault → MemCluster → Type 0
AsksOpening old node result new =
    CallsNode old node (opens_of node) (is_counted result) (is_refused result) new × (result ≢ Err link_faults.Broken)

-- A read begins where a chunk of so many bytes does: the one in which its first wanted byte stands, or where the datanode's bytes end if
-- they end before that.
abbrev pub BeginsAtChunk : ℕ → ReadPlace → Type 0
BeginsAtChunk chunk read = read.place ≡ min (read.offset - read.offset % chunk) (length read.base)

-- an open read has checksums, and begins with a whole chunk of theirs
abbrev pub BeginsWithChunk : MemCluster → ℕ → Type 0
BeginsWithChunk m link =
    IsSomeAnd ((shown_of m).reads link) (λ told. IsSomeAnd told.checksums (λ sums.
    IsSomeAnd ((picture_of m).reads link) (BeginsAtChunk sums.bytes_per_checksum)))

-- how the loaded lines make the next packet of a datanode fail
abbrev pub next_packet_kind : MemCluster → List ℕ → Option ReadKind
next_packet_kind m node = packet_kind_of (shown_of m).loaded.lines node (calls_at m (reads_of node) + 1)

-- the datanode of an open read
abbrev pub uuid_at : OpenRead → List ℕ
uuid_at told = told.ask.node.datanode_uuid

-- A packet of a read was asked of its datanode. It has the next number, and fails exactly as a line plans that number to.
pub record AsksPacket (old : MemCluster) (link : ℕ) (told : OpenRead) (result : Result ReadPacket LinkFault) (new : MemCluster) : Type 0 where
  pub kind : Option ReadKind
  pub planned : CanCount old (reads_of (uuid_at told)) → is_counted result ≡ true → kind ≡ next_packet_kind old (uuid_at told)
  pub call : CallsNode old (uuid_at told) (reads_of (uuid_at told)) (is_counted result) (is_some kind) new
  pub comes : (read : ReadPlace) → (picture_of old).reads link ≡ Some read → ComesTo told.checksums kind read result

-- the first datanode of a link
abbrev pub first_of : OpenWrite → List ℕ
first_of write = slice_index_or (write_nodes write) 0 []

-- a packet was sent down a pipeline
abbrev pub AsksSend : MemCluster → OpenWrite → Result (Unit {0}) LinkFault → MemCluster → Type 0
AsksSend old write result new = CallsNode old (first_of write) (sends_to (first_of write)) (is_counted result) (is_broken result) new

-- how the loaded lines make the next set-up fail
abbrev pub next_kind_of : MemCluster → Option LinkKind
next_kind_of m = kind_of (shown_of m).loaded.lines (calls_at m SetUps + 1)

-- there was memory for a set-up, and it failed
abbrev pub has_failed_set_up : Result ℕ LinkFault → Bool
has_failed_set_up result = is_counted result && is_some (failure_of result)

-- The set-up of a pipeline was asked for. It has the next number, and fails exactly as a line plans that number to: the count of the first
-- datanode of a new pipeline rises by one, or that of the links where one is gone on with; or the first acknowledgement of the link is bad.
pub record AsksSetUp (old : MemCluster) (setup : Setup) (result : Result ℕ LinkFault) (new : MemCluster) : Type 0 where
  pub call : CountsCall old SetUps (is_counted result) new
  pub exact : CanCount old SetUps → is_counted result ≡ true → failure_of result ≡ planned_failure (next_kind_of old)
  pub bad : IfOk result (λ link. CanCount old SetUps → is_bad_at new link ≡ is_bad_ack (next_kind_of old))
  pub others : (link : ℕ) → IsSome ((shown_of old).writes link) → is_bad_at new link ≡ is_bad_at old link
  pub links : (shown_of new).counts.links ≡ (shown_of old).counts.links + one_if (has_failed_set_up result && is_none (blamed setup))
  pub nodes : (d : List ℕ) → (shown_of new).counts.nodes d
      ≡ (shown_of old).counts.nodes d + one_if (has_failed_set_up result && is_first (blamed setup) d)

-- A transfer was asked for. It has the next number of the set-ups, and fails exactly as a line plans that number to: then the
-- links' count rises by one. No count of a datanode rises, and the same acknowledgements are bad.
pub record AsksTransfer (old : MemCluster) (result : Result (Unit {0}) LinkFault) (new : MemCluster) : Type 0 where
  pub call : CountsCall old SetUps (is_counted result) new
  pub exact : CanCount old SetUps → is_counted result ≡ true → failure_of result ≡ planned_transfer_failure (next_kind_of old)
  pub bad : (link : ℕ) → is_bad_at new link ≡ is_bad_at old link
  pub links : (shown_of new).counts.links ≡ (shown_of old).counts.links + one_if (is_counted result && is_some (failure_of result))
  pub nodes : (d : List ℕ) → (shown_of new).counts.nodes d ≡ (shown_of old).counts.nodes d

-- An acknowledgement came. It tells of each datanode of the link. Where it is planned to be bad, it is that of no packet that
-- is due, and the links' count rises by one; the next one of the link is good.
pub record AsksAck (old : MemCluster) (link : ℕ) (write : OpenWrite) (ack : Ack) (new : MemCluster) : Type 0 where
  pub tells : TellsAll (plans (shown_of old).loaded.lines) old.faults (write_nodes write) ack.replies new.faults
  pub good : is_bad_at old link ≡ false → IsWellFormed write ack
  pub bad : is_bad_at old link ≡ true → (due : ℤ) (rest : List ℤ) → write.waiting ≡ due ∷ rest → ack.seqno ≢ due
  pub left : (l : ℕ) → is_bad_at new l ≡ (is_bad_at old l && not (link == l))
  pub links : (shown_of new).counts.links ≡ (shown_of old).counts.links + one_if (is_bad_at old link)
  pub there : HasNodesOf old new
