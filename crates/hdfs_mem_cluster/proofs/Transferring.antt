-- What a transfer does to what a cluster shows, and how it is counted.
use Rattle.std.proofs.Common.{◌≡◌, ◌≢◌, ◌⊎◌, inl, inr, ⊎_elim, ℕ, ◌+◌, Bool, true, false, not, ◌&&◌, ◌||◌, eqb, List, [], ◌∷◌, map, Option, Some, None, is_some, unwrap_or, Result, refl, sym, ◌∙◌, ap, subst, arith}
use Rattle.std.proofs.lemmas.Bool.{eqb-true}
use Rattle.std.proofs.lemmas.List.Elements.{All-cons, All-nil}
use Rattle.std.proofs.lemmas.Slice.Eq.{bytes_eq-Decides}
use Rattle.std.specs.List.{All, Contains}
use Rattle.std.specs.Str.{bytes_eq}
use Rattle.hdfs_cluster.specs.declared.asks.LinkFault.{LinkFault}
use Rattle.hdfs_cluster.specs.declared.asks.LinkFault.TheVariants as link_faults
use Rattle.hdfs_cluster.specs.declared.messages.DatanodeInfo.{DatanodeInfo}
use Rattle.hdfs_cluster.specs.declared.messages.Transfer.{Transfer}
use Rattle.hdfs_cluster.specs.declared.mem_settings.MemSettings.{MemSettings}
use Rattle.hdfs_cluster.specs.declared.picture.LastAnswer.{LastAnswer}
use Rattle.hdfs_cluster.specs.declared.store.Line.{Line}
use Rattle.hdfs_cluster.specs.declared.store.LinkKind.{LinkKind}
use Rattle.hdfs_cluster.specs.declared.store.LinkKind.TheVariants as kinds
use Rattle.hdfs_cluster.specs.Counts.{Rose}
use Rattle.hdfs_cluster.specs.Picture.{Picture}
use Rattle.hdfs_cluster.specs.Pipes.{OnlyWrites}
use Rattle.hdfs_cluster.specs.Sending.{WritePlace, node_at, uuids}
use Rattle.hdfs_cluster.specs.Shown.{Shown}
use Rattle.hdfs_cluster.specs.Transferring.{IsGivenOver, LinksAreGivenOver, Transferred, NotTransferred, given_by}
use Rattle.hdfs_cluster.specs.Writing.{OnlyBlock}
use Rattle.hdfs_mem_faults.specs.declared.fault_plan.FaultPlan.{FaultPlan}
use Rattle.hdfs_mem_faults.specs.Calls.{one_if}
use Rattle.hdfs_mem_faults.specs.Plans.{CountsTransfer, calls_of, link_faults_of}
use Rattle.hdfs_mem_faults.specs.Series.{SetUps}
use Rattle.hdfs_mem_faults.proofs.Following.{next_kind_follows}
use Rattle.hdfs_mem_namenode.specs.declared.namespace.Namespace.{Namespace}
use Rattle.hdfs_mem_datanodes.specs.declared.datanodes.Datanodes.{Datanodes}
use Rattle.hdfs_mem_datanodes.specs.Nodes.{SameNodes, held_in, is_named, is_on, replica_at}
use Rattle.hdfs_mem_datanodes.specs.Replicas.{IsGiven, MayBeGiven, SameReplica}
use Rattle.hdfs_mem_cluster.specs.declared.mem_cluster.MemCluster.{MemCluster}
use Rattle.hdfs_mem_cluster.specs.declared.mem_links.MemLinks.{MemLinks}
use Rattle.hdfs_mem_cluster.specs.declared.write_link.MemWrite.{MemWrite}
use Rattle.hdfs_mem_cluster.specs.Counting.{AsksTransfer}
use Rattle.hdfs_mem_cluster.specs.Failures.{failure_of, is_counted, planned_transfer_failure}
use Rattle.hdfs_mem_cluster.specs.Lines.{line_of}
use Rattle.hdfs_mem_cluster.specs.Links.{write_at, write_place}
use Rattle.hdfs_mem_cluster.specs.MemShown.{picture_at}
use Rattle.hdfs_mem_cluster.specs.Writes.{place_of}
use Rattle.hdfs_mem_cluster.proofs.Counting.{NoneFalls, asks_grow, same_namenodes, nodes_stay, one_more}
use Rattle.hdfs_mem_cluster.proofs.Packets.{contains_named}
use Rattle.hdfs_mem_cluster.proofs.Places.{place_same_for}
use Rattle.hdfs_mem_cluster.proofs.Stills.{shown_at, still_later}

-- ---- what is counted

-- no count falls
pub falls_transfer : (old new : FaultPlan) (kind : Option LinkKind) → CountsTransfer old kind new → NoneFalls old new
falls_transfer old new kind h = record { asked = asks_grow old new SetUps h.call; asks = h.asks; links = omega (arith, h.faults); nodes = λ d. omega (arith, h.nodes d) }

-- a transfer fails in whatever way it is planned to
pub fails_so : (kind : Option LinkKind) → is_some (planned_transfer_failure kind) ≡ is_some kind
fails_so None = refl
fails_so (Some kinds.Broken) = refl
fails_so (Some kinds.Refused) = refl
fails_so (Some kinds.BadAck) = refl

-- a transfer was counted
pub asks_transfer : (m m' : MemCluster) (kind : Option LinkKind) → SameNodes m.nodes m'.nodes → CountsTransfer m.faults kind m'.faults
    → (result : Result (Unit {0}) LinkFault) → is_counted result ≡ true → failure_of result ≡ planned_transfer_failure kind → AsksTransfer m result m'
asks_transfer m m' kind rest h result counted fails = record {
  call = record {
    own = λ can.
        (let one : one_if (is_counted result) ≡ 1 = ap one_if counted in
        omega (arith, one_more (calls_of m.faults SetUps) (calls_of m'.faults SetUps) (h.call.own refl) can.room, one));
    others = h.call.others;
    there = nodes_stay m m' rest h.call.plans.there;
  };
  exact = λ can sure. fails ∙ ap planned_transfer_failure (h.as_planned ∙ next_kind_follows m.faults (map line_of m.loaded.items) m.follows can.room);
  bad = h.bad;
  links = h.faults
      ∙ ap (λ (b : Bool). link_faults_of m.faults + one_if b) (sym (ap (λ (b : Bool). b && is_some (failure_of result)) counted ∙ ap is_some fails ∙ fails_so kind));
  nodes = h.nodes;
}

-- ---- what is given

-- one of two tests is true where the second is
true_or : (b : Bool) → (b || true) ≡ true
true_or true = refl
true_or false = refl

-- what holds of each datanode that is named holds of all of them
all_named : (P : List ℕ → Type 0) (locs : List DatanodeInfo) → ((d : List ℕ) → is_named locs d ≡ true → P d) → All P (uuids locs)
all_named P [] holds = All-nil P
all_named P (node ∷ locs) holds =
    let uuid = node.id.datanode_uuid in
    let own : bytes_eq uuid uuid ≡ true = (bytes_eq-Decides uuid uuid).1 refl in
    All-cons P uuid (uuids locs) (holds uuid (ap (λ (b : Bool). b || is_named locs uuid) own))
    (all_named P locs (λ d named. holds d (ap (λ (b : Bool). bytes_eq d uuid || b) named ∙ true_or (bytes_eq d uuid))))

-- a replica of another block, or on another datanode, is none of these
not_on : (locs : List DatanodeInfo) (block : ℕ) (d : List ℕ) (b : ℕ) → (block ≡ b → Contains (uuids locs) d → ⊥) → is_on locs block d b ≡ false
not_on locs block d b apart = by_tests (is_named locs d) (eqb block b) (contains_named locs d) (eqb-true block b)
  where
    by_tests : (s t : Bool) → (s ≡ true → Contains (uuids locs) d) → (t ≡ true → block ≡ b) → (s && t) ≡ false
    by_tests true true named same = absurd (apart (same refl) (named refl))
    by_tests true false named same = refl
    by_tests false t named same = refl

-- The datanodes after a transfer, over which links and names stay as they are. Which datanodes it names is known by equations.
module _ (space : Namespace) (settings : MemSettings) (last : LastAnswer) (failures : ℕ) (loaded : List Line) (faults faults' : FaultPlan) (fall : NoneFalls faults faults') (nodes nodes' : Datanodes) (s : MemLinks) (transfer : Transfer) (source : List ℕ) (targets : List DatanodeInfo) (is_source : source ≡ transfer.source.id.datanode_uuid) (is_targets : targets ≡ transfer.targets)
    (others : (d : List ℕ) (b : ℕ) → is_on targets transfer.block.block_id d b ≡ false → SameReplica (replica_at nodes d b) (replica_at nodes' d b)) where
  abbrev old : Shown
  old = shown_at space settings last failures loaded faults nodes s

  abbrev new : Shown
  new = shown_at space settings last failures loaded faults' nodes' s

  abbrev p : Picture
  p = picture_at space nodes settings s

  abbrev q : Picture
  q = picture_at space nodes' settings s

  abbrev block : ℕ
  block = transfer.block.block_id

  -- what was asked of namenodes and the read links stay
  only_writes : OnlyWrites old new
  only_writes = record { later = still_later space settings last failures loaded faults faults' fall nodes nodes' s s; last = refl; calls = same_namenodes settings failures faults faults' fall.asks; reads = λ l. refl; places = λ l is. refl }

  -- the other replicas stay
  apart_stays : (d : List ℕ) (b : ℕ) → (block ≡ b → Contains (uuids transfer.targets) d → ⊥) → SameReplica (replica_at nodes d b) (replica_at nodes' d b)
  apart_stays d b apart = others d b (ap (λ (locs : List DatanodeInfo). is_on locs block d b) is_targets ∙ not_on transfer.targets block d b apart)

  -- a link that has another block is shown alike
  other_write : (link : ℕ) (slot : Option MemWrite) (place : WritePlace) → write_place nodes link slot ≡ Some place → place.block ≢ block → write_place nodes' link slot ≡ Some place
  other_write link None place is apart = absurd (cc)
  other_write link (Some write) place is apart =
      let same : place_of nodes link write ≡ place = ap (λ (o : Option WritePlace). unwrap_or o (place_of nodes link write)) is in
      let other : block ≡ write.setup.block.block_id → ⊥ = λ equal. apart (ap (λ (place : WritePlace). place.block) (sym same) ∙ sym equal) in
      ap Some (place_same_for nodes nodes' link write (λ d. (apart_stays d write.setup.block.block_id (λ equal named. other equal)).links link)) ∙ is

  -- nothing changes but what the targets hold of the block, and links that have it
  only_block : OnlyBlock block (uuids transfer.targets) p q
  only_block = record {
    records = record { names = λ path. refl; table = λ id. refl; active = refl; defaults = refl; reads = λ l. refl };
    held = λ d b apart. (apart_stays d b apart).bytes;
    writes = λ link place is apart. other_write link (write_at s link) place is apart;
  }

  -- a link that has the block may be disturbed at the targets, and all else of it stays
  given_over : (link : ℕ) (slot : Option MemWrite) (place : WritePlace) → write_place nodes link slot ≡ Some place
      → (place' : WritePlace) × (write_place nodes' link slot ≡ Some place') × IsGivenOver (uuids transfer.targets) place place'
  given_over link None place is = absurd (cc)
  given_over link (Some write) place is =
      let same : place_of nodes link write ≡ place = ap (λ (o : Option WritePlace). unwrap_or o (place_of nodes link write)) is in (
        place_of nodes' link write,
        refl,
        subst (λ (place : WritePlace). IsGivenOver (uuids transfer.targets) place (place_of nodes' link write)) same (record {
          block = refl;
          nodes = refl;
          base = λ i within. refl;
          sent = refl;
          responses = refl;
          acknowledged = refl;
          received = λ i within. refl;
          disturbed = λ i within apart.
              ap not ((apart_stays (node_at (place_of nodes link write) i) write.setup.block.block_id (λ equal named. apart named)).links link);
        }),
      )

  links_given_over : LinksAreGivenOver (uuids transfer.targets) p q
  links_given_over = λ link place is. given_over link (write_at s link) place is

  -- the block was given to all targets
  pub transferred : ((d : List ℕ) → is_named targets d ≡ true → IsGiven (held_in nodes source block) (replica_at nodes' d block)) → Transferred old transfer new
  transferred given = record {
    only = only_writes;
    writes = λ link. refl;
    gives = record {
      only = only_block;
      links = links_given_over;
      each = all_named (λ d. q.held d block ≡ given_by transfer p) transfer.targets
          (λ d named. (given d (ap (λ (locs : List DatanodeInfo). is_named locs d) is_targets ∙ named)).bytes ∙ ap (λ (u : List ℕ). held_in nodes u block) is_source);
    };
  }

  -- it was given to some of them, or to none
  pub not_transferred : ((d : List ℕ) → MayBeGiven (held_in nodes source block) (replica_at nodes d block) (replica_at nodes' d block))
      → (fault : LinkFault) → (fault ≢ link_faults.NoMemory → Rose (link_faults_of faults) (link_faults_of faults')) → NotTransferred old transfer fault new
  not_transferred some fault cause = record {
    only = only_writes;
    writes = λ link. refl;
    gives = record {
      only = only_block;
      links = links_given_over;
      each = all_named (λ d. (q.held d block ≡ given_by transfer p) ⊎ (q.held d block ≡ p.held d block)) transfer.targets
          (λ d named. ⊎_elim (λ same. inr same.bytes) (λ given. inl (given.bytes ∙ ap (λ (u : List ℕ). held_in nodes u block) is_source)) (some d));
    };
    cause = cause;
  }
