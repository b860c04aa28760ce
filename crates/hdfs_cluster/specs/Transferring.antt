-- A datanode gives what it holds of a block to others.
use Rattle.std.specs.Prelude.{◌≡◌, ◌≢◌, ◌⊎◌, ℕ, ◌<◌, List, length, All, Contains, Some}
use Rattle.hdfs_cluster.specs.declared.asks.LinkFault.{LinkFault}
use Rattle.hdfs_cluster.specs.declared.asks.LinkFault.TheVariants as faults
use Rattle.hdfs_cluster.specs.declared.messages.Transfer.{Transfer}
use Rattle.hdfs_cluster.specs.Counts.{Rose}
use Rattle.hdfs_cluster.specs.Picture.{Picture, Told}
use Rattle.hdfs_cluster.specs.Pipes.{OnlyWrites}
use Rattle.hdfs_cluster.specs.Sending.{WritePlace, node_at, uuids}
use Rattle.hdfs_cluster.specs.Shown.{Shown}
use Rattle.hdfs_cluster.specs.Writing.{OnlyBlock}

-- it names some datanode to give to
abbrev pub IsTransfer : Transfer → Type 0
IsTransfer transfer = 0 < length transfer.targets

-- what the source holds of the block
abbrev pub given_by : Transfer → Picture → List ℕ
given_by transfer p = p.held transfer.source.id.datanode_uuid transfer.block.block_id

-- a write link whose block was given to some datanodes: it may be disturbed at these, and all else of it stays
pub record IsGivenOver (targets : List (List ℕ)) (old new : WritePlace) : Type 0 where
  pub block : new.block ≡ old.block
  pub nodes : new.nodes ≡ old.nodes
  pub base : (i : ℕ) → i < length old.nodes → new.base i ≡ old.base i
  pub sent : new.sent ≡ old.sent
  pub responses : new.responses ≡ old.responses
  pub acknowledged : new.acknowledged ≡ old.acknowledged
  pub received : (i : ℕ) → i < length old.nodes → new.received i ≡ old.received i
  pub disturbed : (i : ℕ) → i < length old.nodes → (Contains targets (node_at old i) → ⊥) → new.disturbed i ≡ old.disturbed i

-- so is each write link
abbrev pub LinksAreGivenOver : List (List ℕ) → Picture → Picture → Type 0
LinksAreGivenOver targets old new =
    (link : ℕ) (place : WritePlace) → old.writes link ≡ Some place
    → (place' : WritePlace) × (new.writes link ≡ Some place') × IsGivenOver targets place place'

-- nothing changes but what the targets hold of the block, of each of which this holds, and that links are disturbed there
pub record OnlyTargets (P : List ℕ → Type 0) (transfer : Transfer) (old new : Picture) : Type 0 where
  pub only : OnlyBlock transfer.block.block_id (uuids transfer.targets) old new
  pub links : LinksAreGivenOver (uuids transfer.targets) old new
  pub each : All P (uuids transfer.targets)

-- each target holds what the source held
abbrev pub GivesAll : Transfer → Picture → Picture → Type 0
GivesAll transfer old new =
    OnlyTargets (λ node. new.held node transfer.block.block_id ≡ given_by transfer old) transfer old new

-- each target holds what the source held, or what it held itself
abbrev pub GivesSome : Transfer → Picture → Picture → Type 0
GivesSome transfer old new =
    OnlyTargets (λ node. (new.held node transfer.block.block_id ≡ given_by transfer old)
    ⊎ (new.held node transfer.block.block_id ≡ old.held node transfer.block.block_id)) transfer old new

-- a block was given to others
pub record Transferred (old : Shown) (transfer : Transfer) (new : Shown) : Type 0 where
  pub only : OnlyWrites old new
  pub writes : (link : ℕ) → new.writes link ≡ old.writes link
  pub gives : Told (GivesAll transfer) old.picture new.picture

-- It wasn't, or to some of them alone. Beside want of memory this comes only where the count of the links rose.
pub record NotTransferred (old : Shown) (transfer : Transfer) (fault : LinkFault) (new : Shown) : Type 0 where
  pub only : OnlyWrites old new
  pub writes : (link : ℕ) → new.writes link ≡ old.writes link
  pub gives : Told (GivesSome transfer) old.picture new.picture
  pub cause : fault ≢ faults.NoMemory → Rose old.counts.links new.counts.links
