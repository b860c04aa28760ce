-- What a cluster shows of itself, and what each of its calls does to that.
use Rattle.std.specs.Prelude.{◌≡◌, ◌≢◌, ◌⊎◌, ℕ, pos, List, length, Option, Some, None, IsSome, Result, Err, IfSome}
use Rattle.hdfs_wire.specs.Checksums.{IsChecked}
use Rattle.hdfs_wire.specs.declared.checksums.ChecksumInfo.{ChecksumInfo}
use Rattle.hdfs_wire.specs.declared.read_packet.ReadPacket.{ReadPacket}
use Rattle.hdfs_cluster.specs.declared.messages.ReadAsk.{ReadAsk}
use Rattle.hdfs_cluster.specs.declared.asks.Ask.{Ask}
use Rattle.hdfs_cluster.specs.declared.asks.Answer.{Answer}
use Rattle.hdfs_cluster.specs.declared.asks.AskFault.{AskFault}
use Rattle.hdfs_cluster.specs.declared.asks.AskFault.TheVariants as ask_faults
use Rattle.hdfs_cluster.specs.declared.asks.LinkFault.{LinkFault}
use Rattle.hdfs_cluster.specs.declared.asks.LinkFault.TheVariants as faults
use Rattle.hdfs_cluster.specs.declared.picture.LastAnswer.{LastAnswer}
use Rattle.hdfs_cluster.specs.declared.picture.OpenRead.{OpenRead}
use Rattle.hdfs_cluster.specs.declared.picture.OpenWrite.{OpenWrite}
use Rattle.hdfs_cluster.specs.declared.mem_settings.MemSettings.{MemSettings}
use Rattle.hdfs_cluster.specs.declared.store.Line.{Line}
use Rattle.hdfs_cluster.specs.Counts.{FaultCounts, NeverFall, Rose}
use Rattle.hdfs_cluster.specs.Picture.{Picture, SameFiles, SamePicture, Told}
use Rattle.hdfs_cluster.specs.Namenode.{last_of, IsFailure, ServesTold}
use Rattle.hdfs_cluster.specs.Reading.{ReadsAt, Begins, Gives, Closes}

-- what was loaded into a cluster: the settings that it was made with, where it is a store, and its lines, in order
pub record Loaded : Type 0 where
  pub settings : Option MemSettings
  pub lines : List Line

-- the picture where it is told, the counts, and what else is seen from outside
pub record Shown : Type 0 where
  -- the picture, where the cluster tells it
  pub picture : Option Picture
  -- how often it has failed
  pub counts : FaultCounts
  -- the answer to the last ask
  pub last : LastAnswer
  -- how many namenodes it has
  pub namenodes : ℕ
  -- its open read links
  pub reads : ℕ → Option OpenRead
  -- its open write links
  pub writes : ℕ → Option OpenWrite
  -- what was loaded into it
  pub loaded : Loaded

-- what every call keeps
pub record Later (old new : Shown) : Type 0 where
  pub counts : NeverFall old.counts new.counts
  pub namenodes : new.namenodes ≡ old.namenodes
  pub loaded : new.loaded ≡ old.loaded

-- no datanode has failed
abbrev pub SameNodes : Shown → Shown → Type 0
SameNodes old new = (d : List ℕ) → new.counts.nodes d ≡ old.counts.nodes d

-- the write links stay
abbrev pub SameWrites : Picture → Picture → Type 0
SameWrites old new = (link : ℕ) → new.writes link ≡ old.writes link

-- the places of the read links that are open stay
abbrev pub SameReadPlaces : Shown → Picture → Picture → Type 0
SameReadPlaces shown old new = (link : ℕ) → IsSome (shown.reads link) → new.reads link ≡ old.reads link

-- no read link was changed, none was closed, and none is left open
pub record SameReads (old new : Shown) : Type 0 where
  pub links : (link : ℕ) → new.reads link ≡ old.reads link
  pub places : Told (SameReadPlaces old) old.picture new.picture

-- the places of the read links that are open stay, and the write links
abbrev pub SamePlaces : Shown → Picture → Picture → Type 0
SamePlaces shown old new = ((link : ℕ) → IsSome (shown.reads link) → new.reads link ≡ old.reads link) × SameWrites old new

-- no link was changed, none was closed, and none is left open
pub record SameLinks (old new : Shown) : Type 0 where
  pub links : (link : ℕ) → new.reads link ≡ old.reads link
  pub writes : (link : ℕ) → new.writes link ≡ old.writes link
  pub places : Told (SamePlaces old) old.picture new.picture

-- An ask of namenode i, which is counted, unless there was no memory for it. It raises no count of a link or a datanode. That no answer
-- comes, or false to `complete`, is only where the namenode's count rose.
pub record Served (old : Shown) (i : ℕ) (ask : Ask) (result : Result Answer AskFault) (new : Shown) : Type 0 where
  pub later : Later old new
  pub last : new.last ≡ last_of result
  pub asked : (result ≡ Err ask_faults.NoMemory → ⊥) → Rose (old.counts.asks i) (new.counts.asks i)
  pub cause : IsFailure result → Rose (old.counts.calls i) (new.counts.calls i)
  pub reads : (link : ℕ) → new.reads link ≡ old.reads link
  pub writes : (link : ℕ) → new.writes link ≡ old.writes link
  pub links : new.counts.links ≡ old.counts.links
  pub nodes : SameNodes old new
  pub picture : Told (λ p q. ServesTold (Rose (old.counts.calls i) (new.counts.calls i)) p i ask result q) old.picture new.picture

-- a call that names one read link, and changes nothing else
pub record Reading (link : ℕ) (old new : Shown) : Type 0 where
  pub later : Later old new
  pub last : new.last ≡ old.last
  pub others : (other : ℕ) → other ≢ link → new.reads other ≡ old.reads other
  pub writes : (other : ℕ) → new.writes other ≡ old.writes other
  pub picture : Told (ReadsAt link) old.picture new.picture

-- a read was opened
pub record Opened (old : Shown) (ask : ReadAsk) (link : ℕ) (new : Shown) : Type 0 where
  pub reading : Reading link old new
  pub fresh : old.reads link ≡ None
  pub checksums : Option ChecksumInfo
  pub opened : new.reads link ≡ Some (record { ask = ask; checksums = checksums; before = old.counts.nodes ask.node.datanode_uuid })
  pub begins : Told (Begins ask link) old.picture new.picture

-- a connection that was kept is found broken: datanodes end those that are idle
abbrev pub IsStale : Option ℕ → LinkFault → Type 0
IsStale kept fault = IsSome kept × (fault ≡ faults.Broken)

-- No read was opened. Beside want of memory and a kept connection that is found broken, this comes only where the datanode's count
-- rose.
pub record NotOpened (old : Shown) (kept : Option ℕ) (ask : ReadAsk) (fault : LinkFault) (new : Shown) : Type 0 where
  pub later : Later old new
  pub last : new.last ≡ old.last
  pub reads : (link : ℕ) → new.reads link ≡ old.reads link
  pub writes : (link : ℕ) → new.writes link ≡ old.writes link
  pub picture : Told SamePicture old.picture new.picture
  pub cause : fault ≢ faults.NoMemory
      → IsStale kept fault ⊎ Rose (old.counts.nodes ask.node.datanode_uuid) (new.counts.nodes ask.node.datanode_uuid)

-- the datanode of a read has failed since the read was opened
abbrev pub HasFailedSince : OpenRead → Shown → Type 0
HasFailedSince read now = Rose read.before (now.counts.nodes read.ask.node.datanode_uuid)

-- A packet was given. Where its checksums don't hold, or it isn't the next slice, the link's datanode has failed since the read was
-- opened.
pub record Given (old : Shown) (link : ℕ) (packet : ReadPacket) (new : Shown) : Type 0 where
  pub reading : Reading link old new
  pub still_open : new.reads link ≡ old.reads link
  pub length : packet.header.data_len ≡ pos (length packet.payload)
  pub checked : (read : OpenRead) → old.reads link ≡ Some read → IsChecked read.checksums packet ⊎ HasFailedSince read new
  pub gives : (read : OpenRead) → old.reads link ≡ Some read
      → Told (Gives link read.checksums (HasFailedSince read new) packet) old.picture new.picture

-- No packet came, and the link is as it was. A broken packet comes only where the count of the link's datanode rose.
pub record NotGiven (old : Shown) (link : ℕ) (fault : LinkFault) (new : Shown) : Type 0 where
  pub later : Later old new
  pub last : new.last ≡ old.last
  pub reads : (other : ℕ) → new.reads other ≡ old.reads other
  pub writes : (other : ℕ) → new.writes other ≡ old.writes other
  pub picture : Told SamePicture old.picture new.picture
  pub not_refused : fault ≢ faults.Refused
  pub cause : fault ≡ faults.Broken
      → IfSome (old.reads link) (λ read. Rose (old.counts.nodes read.ask.node.datanode_uuid) (new.counts.nodes read.ask.node.datanode_uuid))

-- a read was ended
pub record Ended (old : Shown) (link : ℕ) (new : Shown) : Type 0 where
  pub reading : Reading link old new
  pub ended : new.reads link ≡ None
  pub closes : Told (Closes link) old.picture new.picture

-- Reads were opened, went on and ended, and nothing else happened.
pub record OnlyReads (old new : Shown) : Type 0 where
  pub later : Later old new
  pub last : new.last ≡ old.last
  pub writes : (link : ℕ) → new.writes link ≡ old.writes link
  pub files : Told SameFiles old.picture new.picture
  pub places : Told SameWrites old.picture new.picture
