-- What a cluster shows where nothing is seen to change.
use Rattle.std.proofs.Common.{◌≡◌, ◌≢◌, inl, ℕ, List, [], get_or, Option, Some, IfSome, unwrap_or, refl, sym, ◌∙◌, ap, subst, arith}
use Rattle.hdfs_wire.specs.Outgoing.{Outgoing}
use Rattle.hdfs_cluster.specs.declared.asks.LinkFault.{LinkFault}
use Rattle.hdfs_cluster.specs.declared.asks.LinkFault.TheVariants as link_faults
use Rattle.hdfs_cluster.specs.declared.messages.ReadAsk.{ReadAsk}
use Rattle.hdfs_cluster.specs.declared.mem_settings.MemSettings.{MemSettings}
use Rattle.hdfs_cluster.specs.declared.picture.LastAnswer.{LastAnswer}
use Rattle.hdfs_cluster.specs.declared.store.Line.{Line}
use Rattle.hdfs_cluster.specs.Picture.{Picture, SameFiles, SamePicture}
use Rattle.hdfs_cluster.specs.Counts.{Rose}
use Rattle.hdfs_cluster.specs.Pipes.{OnlyWrites, WritesLink, NotSent, NotAcknowledged, nodes_of}
use Rattle.hdfs_cluster.specs.Sending.{WritePlace, MovesOn, StaysHeld, uuids}
use Rattle.hdfs_cluster.specs.Writing.{MayBeBehind, Sends, WritesAt}
use Rattle.hdfs_cluster.specs.declared.picture.OpenWrite.{OpenWrite}
use Rattle.hdfs_mem_faults.specs.declared.fault_plan.FaultPlan.{FaultPlan}
use Rattle.hdfs_mem_faults.specs.Plans.{node_faults_of}
use Rattle.hdfs_cluster.specs.Shown.{Shown, Later, NotOpened, NotGiven}
use Rattle.hdfs_mem_namenode.specs.declared.namespace.Namespace.{Namespace}
use Rattle.hdfs_mem_datanodes.specs.declared.datanodes.Datanodes.{Datanodes}
use Rattle.hdfs_mem_cluster.specs.declared.mem_links.MemLinks.{MemLinks}
use Rattle.hdfs_mem_cluster.specs.declared.read_link.MemRead.{MemRead}
use Rattle.hdfs_mem_cluster.specs.declared.write_link.MemWrite.{MemWrite}
use Rattle.hdfs_mem_cluster.specs.Links.{read_at, read_told, read_place, write_at, write_told, write_place, ChangesRead, ChangesWrite, ChangesNoLink, UnsentOn, UnackedOn, first_uuid}
use Rattle.hdfs_mem_cluster.specs.MemShown.{picture_at, loaded_at, counts_at}
use Rattle.hdfs_mem_cluster.specs.Writes.{place_of, told_of}
use Rattle.hdfs_mem_datanodes.specs.Nodes.{SameHeld}
use Rattle.hdfs_mem_cluster.proofs.Counting.{same_namenodes, NoneFalls, falls_beside}
use Rattle.hdfs_mem_cluster.proofs.Places.{link_stays, place_same, told_kept, place_kept}

-- what a cluster with these parts shows
abbrev pub shown_at : Namespace → MemSettings → LastAnswer → ℕ → List Line → FaultPlan → Datanodes → MemLinks → Shown
shown_at space settings last failures loaded faults nodes s = record {
  picture = Some (picture_at space nodes settings s);
  counts = counts_at settings failures faults;
  last = last;
  namenodes = settings.namenodes;
  reads = λ link. read_told (read_at s link);
  writes = λ link. write_told (write_at s link);
  loaded = loaded_at settings loaded;
}

-- each link is shown alike
pub record SameLinksShown (s s' : MemLinks) : Type 0 where
  pub reads : (l : ℕ) → read_told (read_at s' l) ≡ read_told (read_at s l)
  pub read_places : (l : ℕ) → read_place (read_at s' l) ≡ read_place (read_at s l)
  pub writes : (l : ℕ) → write_told (write_at s' l) ≡ write_told (write_at s l)
  pub write_places : (nodes : Datanodes) (l : ℕ) → write_place nodes l (write_at s' l) ≡ write_place nodes l (write_at s l)

pub links_from_same : (s s' : MemLinks) → ChangesNoLink s s' → SameLinksShown s s'
links_from_same s s' same = record {
  reads = λ l. ap read_told (same.reads l);
  read_places = λ l. ap read_place (same.reads l);
  writes = λ l. ap write_told (same.writes l);
  write_places = λ nodes l. ap (write_place nodes l) (same.writes l);
}

-- a write is written back of which nothing changed that is shown
pub links_from_write : (s s' : MemLinks) (link : ℕ) (v w : MemWrite) → write_at s link ≡ Some v → ChangesWrite s s' link (Some w)
    → w.setup ≡ v.setup → w.base ≡ v.base → w.sent.items ≡ v.sent.items → w.responses.items ≡ v.responses.items → w.acknowledged ≡ v.acknowledged → SameLinksShown s s'
links_from_write s s' link v w was changes setup base sent responses acknowledged = record {
  reads = λ l. ap read_told (changes.reads l);
  read_places = λ l. ap read_place (changes.reads l);
  writes = link_stays (λ l. write_told) (write_at s) (write_at s') link (Some v) (Some w) was changes.changed changes.others (ap Some (told_kept v w setup base sent responses acknowledged));
  write_places = λ nodes. link_stays (write_place nodes) (write_at s) (write_at s') link (Some v) (Some w) was changes.changed changes.others (ap Some (place_kept v w setup base sent responses acknowledged nodes link));
}

-- a read is written back of which nothing changed
pub links_from_read : (s s' : MemLinks) (link : ℕ) (v w : MemRead) → read_at s link ≡ Some v → ChangesRead s s' link (Some w) → w.told ≡ v.told → w.place ≡ v.place → SameLinksShown s s'
links_from_read s s' link v w was changes told place = record {
  reads = link_stays (λ l. read_told) (read_at s) (read_at s') link (Some v) (Some w) was changes.changed changes.others (ap Some told);
  read_places = link_stays (λ l. read_place) (read_at s) (read_at s') link (Some v) (Some w) was changes.changed changes.others (ap Some place);
  writes = λ l. ap write_told (changes.writes l);
  write_places = λ nodes l. ap (write_place nodes l) (changes.writes l);
}

-- a write is written back after a packet that wasn't sent
pub links_unsent : (nodes nodes' : Datanodes) (s s' : MemLinks) (link : ℕ) (v w : MemWrite) → write_at s link ≡ Some v → ChangesWrite s s' link (Some w) → UnsentOn nodes nodes' v w → SameLinksShown s s'
links_unsent nodes nodes' s s' link v w was changes h = links_from_write s s' link v w was changes h.same.setup h.same.base h.sent h.same.responses h.same.acknowledged

-- and after an acknowledgement that didn't come
pub links_unacked : (s s' : MemLinks) (link : ℕ) (v w : MemWrite) → write_at s link ≡ Some v → ChangesWrite s s' link (Some w) → UnackedOn v w → SameLinksShown s s'
links_unacked s s' link v w was changes h = links_from_write s s' link v w was changes h.setup h.base (ap (λ x. x.items) h.sent) h.responses h.acknowledged

module _ (space : Namespace) (settings : MemSettings) (last : LastAnswer) (failures : ℕ) (loaded : List Line) (faults faults' : FaultPlan) (fall : NoneFalls faults faults') (nodes nodes' : Datanodes) (s s' : MemLinks) where
  abbrev old : Shown
  old = shown_at space settings last failures loaded faults nodes s

  abbrev new : Shown
  new = shown_at space settings last failures loaded faults' nodes' s'

  abbrev p : Picture
  p = picture_at space nodes settings s

  abbrev q : Picture
  q = picture_at space nodes' settings s'

  pub still_later : Later old new
  still_later = record { counts = falls_beside settings failures faults faults' fall; namenodes = refl; loaded = refl }

  module _ (held : SameHeld nodes nodes') where
    pub still_files : SameFiles p q
    still_files = record { names = λ path. refl; table = λ id. refl; held = λ node id. (held node id).bytes; defaults = refl }

    pub still_place : (l : ℕ) (slot : Option MemWrite) → write_place nodes' l slot ≡ write_place nodes l slot
    still_place = place_same nodes nodes' (λ d b link. (held d b).links link)

    module _ (same : SameLinksShown s s') where
      pub still_picture : SamePicture p q
      still_picture = record { rest = record { files = still_files; reads = same.read_places; writes = λ l. still_place l (write_at s' l) ∙ same.write_places nodes l }; active = refl }

      only : OnlyWrites old new
      only = record { later = still_later; last = refl; calls = same_namenodes settings failures faults faults' fall.asks; reads = same.reads; places = λ l is. same.read_places l }

      still_link : (link : ℕ) → WritesLink link old new
      still_link link = record { only = only; others = λ l apart. same.writes l; picture = inl still_picture }

      still_writes : (link : ℕ) → WritesAt link p q
      still_writes link = record {
        records = record { names = λ path. refl; table = λ id. refl; active = refl; defaults = refl; reads = same.read_places };
        held = λ write is node id apart. (held node id).bytes;
        none = λ other apart is. still_picture.rest.writes other ∙ is;
        others = λ write is other place apart now. inl (still_picture.rest.writes other ∙ now, λ i within. (held (get_or place.nodes i []) place.block).bytes);
      }

      -- the link goes on, and no packet was sent
      still_sends : (link : ℕ) (packet : Outgoing) (v : MemWrite) → write_at s link ≡ Some v → Sends link (MayBeBehind packet) p q
      still_sends link packet v was = (
        still_writes link,
        λ write is.
            subst (λ (y : WritePlace). (write' : WritePlace) × (q.writes link ≡ Some write') × MovesOn y write' × MayBeBehind packet y.sent write'.sent × (write'.responses ≡ y.responses) × (write'.acknowledged ≡ y.acknowledged) × StaysHeld p.held y q.held write')
            (ap (λ (o : Option WritePlace). unwrap_or o (place_of nodes link v)) (sym (ap (write_place nodes link) was) ∙ is)) (
              place_of nodes link v,
              still_picture.rest.writes link ∙ ap (write_place nodes link) was,
              record { block = refl; nodes = refl; base = λ i lt. refl; received = λ i lt. (omega arith, omega arith); disturbed = λ i lt. refl },
              inl refl,
              refl,
              refl,
              λ i lt calm holds. (held (get_or (uuids v.setup.locs) i []) v.setup.block.block_id).bytes ∙ holds,
            ),
      )

      -- no packet came
      pub not_given : (link : ℕ) (fault : LinkFault) → fault ≢ link_faults.Refused
          → (fault ≡ link_faults.Broken → IfSome (old.reads link) (λ read. Rose (old.counts.nodes read.ask.node.datanode_uuid) (new.counts.nodes read.ask.node.datanode_uuid))) → NotGiven old link fault new
      not_given link fault not_refused cause = record { later = still_later; last = refl; reads = same.reads; writes = same.writes; picture = still_picture; not_refused = not_refused; cause = cause }

      -- the connection broke in place of a packet
      pub broke_off_sent : (link : ℕ) (packet : Outgoing) (v : MemWrite) → write_at s link ≡ Some v
          → Rose (node_faults_of faults (first_uuid v)) (node_faults_of faults' (first_uuid v)) → NotSent old link packet link_faults.Broken new
      broke_off_sent link packet v was rose = record {
        writes = still_link link;
        still_open = λ write told. (write, same.writes link ∙ told, refl);
        sent = λ broken. still_sends link packet v was;
        memory = λ memory. inl still_picture;
        not_refused = λ refused. (cc);
        cause = λ broken write told.
            subst (λ (y : OpenWrite). Rose (old.counts.nodes (get_or (nodes_of y) 0 [])) (new.counts.nodes (get_or (nodes_of y) 0 [])))
            (ap (λ (o : Option OpenWrite). unwrap_or o (told_of v)) (sym (ap write_told was) ∙ told)) rose;
      }

      module _ (fault : LinkFault) (is : fault ≡ link_faults.NoMemory) where
        pub not_opened : (kept : Option ℕ) (ask : ReadAsk) → NotOpened old kept ask fault new
        not_opened kept ask = record { later = still_later; last = refl; reads = same.reads; writes = same.writes; picture = still_picture; cause = λ apart. absurd (apart is) }

        pub not_sent : (link : ℕ) (packet : Outgoing) → NotSent old link packet fault new
        not_sent link packet = record {
          writes = still_link link;
          still_open = λ write told. (write, same.writes link ∙ told, refl);
          sent = λ broken. absurd (cc);
          memory = λ memory. inl still_picture;
          not_refused = λ refused. (cc);
          cause = λ broken. absurd (cc);
        }

        pub not_acknowledged : (link : ℕ) → NotAcknowledged old link fault new
        not_acknowledged link = record {
          writes = still_link link;
          still_open = same.writes link;
          broke = λ broken. absurd (cc);
          memory = λ memory. still_picture;
          not_refused = λ refused. (cc);
          cause = λ broken. absurd (cc);
        }
