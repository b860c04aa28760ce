-- What an opening and a packet of a read do to what a cluster shows.
use Rattle.std.proofs.Common.{◌≡◌, ◌≢◌, ◌⊎◌, inr, ℕ, ◌+◌, ◌≤◌, Bool, true, List, length, Option, Some, None, is_some, IfSome, Result, Ok, Err, refl, sym, ◌∙◌, ap, subst, unwrap_or, arith}
use Rattle.std.specs.Result.{IfOk, IfErr}
use Rattle.hdfs_wire.specs.Checksums.{IsChecked}
use Rattle.hdfs_wire.specs.declared.checksums.ChecksumInfo.{ChecksumInfo}
use Rattle.hdfs_wire.specs.declared.read_packet.ReadPacket.{ReadPacket}
use Rattle.hdfs_cluster.specs.declared.asks.LinkFault.{LinkFault}
use Rattle.hdfs_cluster.specs.declared.asks.LinkFault.TheVariants as link_faults
use Rattle.hdfs_cluster.specs.declared.messages.ReadAsk.{ReadAsk}
use Rattle.hdfs_cluster.specs.declared.mem_settings.MemSettings.{MemSettings}
use Rattle.hdfs_cluster.specs.declared.picture.LastAnswer.{LastAnswer}
use Rattle.hdfs_cluster.specs.declared.picture.OpenRead.{OpenRead}
use Rattle.hdfs_cluster.specs.declared.picture.ReadPlace.{ReadPlace}
use Rattle.hdfs_cluster.specs.declared.store.Line.{Line}
use Rattle.hdfs_cluster.specs.declared.store.ReadKind.{ReadKind}
use Rattle.hdfs_mem_faults.specs.declared.fault_plan.FaultPlan.{FaultPlan}
use Rattle.hdfs_mem_faults.specs.declared.node_plan.NodeCall.TheVariants as calls
use Rattle.hdfs_mem_faults.specs.Calls.{one_if}
use Rattle.hdfs_mem_faults.specs.Plans.{Counts, node_faults_of}
use Rattle.hdfs_mem_faults.specs.Series.{opens_of, reads_of}
use Rattle.hdfs_cluster.specs.Counts.{Rose}
use Rattle.hdfs_cluster.specs.Picture.{Picture}
use Rattle.hdfs_cluster.specs.Reading.{Gives, IsHonest, IsSlice, ReadsAt, placed_at}
use Rattle.hdfs_cluster.specs.Shown.{Shown, Opened, NotOpened, Given, NotGiven, Ended, HasFailedSince}
use Rattle.hdfs_mem_namenode.specs.declared.namespace.Namespace.{Namespace}
use Rattle.hdfs_mem_datanodes.specs.declared.datanodes.Datanodes.{Datanodes}
use Rattle.hdfs_mem_cluster.specs.declared.read_link.MemRead.{MemRead}
use Rattle.hdfs_mem_cluster.specs.declared.mem_links.MemLinks.{MemLinks}
use Rattle.hdfs_mem_cluster.specs.Links.{read_at, read_told, read_place, write_at, write_told, write_place, AreEarlier, ChangesRead, GaveOn, GivesOn, IsEarlier, SameRead, next_of, node_of}
use Rattle.hdfs_mem_cluster.specs.MemShown.{picture_at}
use Rattle.hdfs_mem_cluster.specs.Slices.{crc32c_for, place_for, told_for}
use Rattle.hdfs_mem_datanodes.specs.Nodes.{held_in, SameHeld}
use Rattle.hdfs_mem_datanodes.proofs.Pipelines.{same_held_refl}
use Rattle.hdfs_mem_cluster.proofs.Counting.{NoneFalls, falls_beside, falls_counts, falls_refl, falls_same, own_count, rose_counts}
use Rattle.hdfs_mem_cluster.proofs.Earlier.{changed_earlier, later_earlier, told_earlier}
use Rattle.hdfs_mem_cluster.proofs.Places.{link_stays}
use Rattle.hdfs_mem_cluster.proofs.AskingReads.{counted_packet}
use Rattle.hdfs_mem_cluster.proofs.Slices.{comes_checked, comes_slice, comes_told}
use Rattle.hdfs_mem_cluster.proofs.Stills.{shown_at, still_later, still_files, still_place, links_from_read, not_given}

-- a read was opened
pub opened_read : (space : Namespace) (settings : MemSettings) (last : LastAnswer) (failures : ℕ) (loaded : List Line) (faults faults' : FaultPlan) (nodes nodes' : Datanodes) (s s' : MemLinks) (link : ℕ) (v : MemRead) (ask : ReadAsk)
    → NoneFalls faults faults' → SameHeld nodes nodes' → read_at s link ≡ None → ChangesRead s s' link (Some v) → v.told ≡ told_for ask (node_faults_of faults ask.node.datanode_uuid) v.chunk
    → (base : List ℕ) → v.place ≡ place_for ask base v.place.place → base ≡ held_in nodes ask.node.datanode_uuid ask.block.block_id → v.place.place ≤ ask.offset
    → Opened (shown_at space settings last failures loaded faults nodes s) ask link (shown_at space settings last failures loaded faults' nodes' s')
opened_read space settings last failures loaded faults faults' nodes nodes' s s' link v ask fall held vacant updates told base is holds behind =
    let rest : ReadsAt link (picture_at space nodes settings s) (picture_at space nodes' settings s') =
    record {
      files = still_files space settings last failures loaded faults faults' fall nodes nodes' s s' held;
      active = refl;
      others = λ l apart. ap read_place (updates.others l apart);
      writes = λ l. still_place space settings last failures loaded faults faults' fall nodes nodes' s s' held l (write_at s' l) ∙ ap (write_place nodes l) (updates.writes l);
    } in
    record {
      reading = record {
        later = still_later space settings last failures loaded faults faults' fall nodes nodes' s s';
        last = refl;
        others = λ l apart. ap read_told (updates.others l apart);
        writes = λ l. ap write_told (updates.writes l);
        picture = rest;
      };
      fresh = ap read_told vacant;
      checksums = Some (crc32c_for v.chunk);
      opened = ap read_told updates.changed ∙ ap Some told;
      begins = record { rest = rest; place = v.place.place; behind = behind; at = ap read_place updates.changed ∙ ap Some is ∙ ap (λ (bytes : List ℕ). Some (place_for ask bytes v.place.place)) holds };
    }

-- one was refused
pub refused_read : (space : Namespace) (settings : MemSettings) (last : LastAnswer) (failures : ℕ) (loaded : List Line) (faults faults' : FaultPlan) (nodes : Datanodes) (s : MemLinks) (kept : Option ℕ) (ask : ReadAsk) → Counts faults (opens_of ask.node.datanode_uuid) true faults'
    → NotOpened (shown_at space settings last failures loaded faults nodes s) kept ask link_faults.Refused (shown_at space settings last failures loaded faults' nodes s)
refused_read space settings last failures loaded faults faults' nodes s kept ask counts = record {
  later = record { counts = falls_beside settings failures faults faults' (falls_counts faults faults' (opens_of ask.node.datanode_uuid) true counts); namenodes = refl; loaded = refl };
  last = refl;
  reads = λ l. refl;
  writes = λ l. refl;
  picture = record { rest = record { files = record { names = λ path. refl; table = λ id. refl; held = λ node id. refl; defaults = refl }; reads = λ l. refl; writes = λ l. refl }; active = refl };
  cause = λ apart. inr (rose_counts faults faults' calls.Open ask.node.datanode_uuid counts);
}

-- a read was ended
pub ended_read : (space : Namespace) (settings : MemSettings) (last : LastAnswer) (failures : ℕ) (loaded : List Line) (faults : FaultPlan) (nodes : Datanodes) (s s' : MemLinks) (link : ℕ)
    → ChangesRead s s' link None → Ended (shown_at space settings last failures loaded faults nodes s) link (shown_at space settings last failures loaded faults nodes s')
ended_read space settings last failures loaded faults nodes s s' link updates =
    let rest : ReadsAt link (picture_at space nodes settings s) (picture_at space nodes settings s') =
    record {
      files = record { names = λ path. refl; table = λ id. refl; held = λ node id. refl; defaults = refl };
      active = refl;
      others = λ l apart. ap read_place (updates.others l apart);
      writes = λ l. ap (write_place nodes l) (updates.writes l);
    } in
    record {
      reading = record {
        later = record { counts = falls_beside settings failures faults faults (falls_refl faults); namenodes = refl; loaded = refl };
        last = refl;
        others = λ l apart. ap read_told (updates.others l apart);
        writes = λ l. ap write_told (updates.writes l);
        picture = rest;
      };
      ended = ap read_told updates.changed;
      closes = record { rest = rest; gone = ap read_place updates.changed };
    }

module _ (space : Namespace) (settings : MemSettings) (last : LastAnswer) (failures : ℕ) (loaded : List Line) (faults faults' : FaultPlan) (nodes : Datanodes) (s s' : MemLinks) (link : ℕ) (v w : MemRead)
    (was : read_at s link ≡ Some v) (updates : ChangesRead s s' link (Some w)) (earlier : AreEarlier s faults) where
  abbrev old : Shown
  old = shown_at space settings last failures loaded faults nodes s

  abbrev new : Shown
  new = shown_at space settings last failures loaded faults' nodes s'

  abbrev p : Picture
  p = picture_at space nodes settings s

  abbrev q : Picture
  q = picture_at space nodes settings s'

  -- the datanode has failed since the read was opened
  abbrev Failed : Type 0
  Failed = HasFailedSince v.told new

  was_earlier : IsEarlier faults v.told
  was_earlier = earlier link v.told (ap read_told was)

  rose_since : (fails : Bool) → Counts faults (reads_of (node_of v)) fails faults' → fails ≡ true → Failed
  rose_since fails counts is = omega (arith, own_count faults faults' calls.Read (node_of v) fails counts, ap one_if is, was_earlier)

  told_is : (read : OpenRead) → old.reads link ≡ Some read → v.told ≡ read
  told_is read is = ap (λ (o : Option OpenRead). unwrap_or o v.told) (sym (ap read_told was) ∙ is)

  place_is : (read : ReadPlace) → p.reads link ≡ Some read → v.place ≡ read
  place_is read is = ap (λ (o : Option ReadPlace). unwrap_or o v.place) (sym (ap read_place was) ∙ is)

  -- a packet was given
  module _ (packet : ReadPacket) (kind : Option ReadKind) (h : GaveOn kind packet v w) (counts : Counts faults (reads_of (node_of v)) (is_some kind) faults') where
    told_stays : (l : ℕ) → new.reads l ≡ old.reads l
    told_stays = link_stays (λ l. read_told) (read_at s) (read_at s') link (Some v) (Some w) was updates.changed updates.others (ap Some h.told)

    rest : ReadsAt link p q
    rest = record {
      files = record { names = λ path. refl; table = λ id. refl; held = λ node id. refl; defaults = refl };
      active = refl;
      others = λ l apart. ap read_place (updates.others l apart);
      writes = λ l. ap (write_place nodes l) (updates.writes l);
    }

    failed : is_some kind ≡ true → Failed
    failed = rose_since (is_some kind) counts

    checked : IsChecked v.told.checksums packet ⊎ Failed
    checked = subst (λ (info : Option ChecksumInfo). IsChecked info packet ⊎ Failed) (sym v.sums) (comes_checked v.chunk v.some_chunk v.place packet Failed kind h.comes failed)

    slice : IsSlice v.place packet ⊎ (Failed × IsHonest v.told.checksums v.place packet)
    slice = subst (λ (info : Option ChecksumInfo). IsSlice v.place packet ⊎ (Failed × IsHonest info v.place packet)) (sym v.sums) (comes_slice v.chunk v.some_chunk v.place packet Failed kind h.comes failed)

    gives : Gives link v.told.checksums Failed packet p q
    gives = record {
      rest = rest;
      slice = λ read is. subst (λ (r : ReadPlace). IsSlice r packet ⊎ (Failed × IsHonest v.told.checksums r packet)) (place_is read is) slice;
      moved = λ read is offset at. ap read_place updates.changed ∙ ap Some (h.place offset at) ∙ ap (λ (r : ReadPlace). Some (placed_at r (offset + length packet.payload))) (place_is read is);
    }

    gave : Given old link packet new
    gave = record {
      reading = record {
        later = record { counts = falls_beside settings failures faults faults' (falls_counts faults faults' (reads_of (node_of v)) (is_some kind) counts); namenodes = refl; loaded = refl };
        last = refl;
        others = λ l apart. told_stays l;
        writes = λ l. ap write_told (updates.writes l);
        picture = rest;
      };
      still_open = told_stays link;
      length = comes_told v.chunk v.some_chunk v.place packet kind h.comes;
      checked = λ read is. subst (λ (t : OpenRead). IsChecked t.checksums packet ⊎ HasFailedSince t new) (told_is read is) checked;
      gives = λ read is. subst (λ (t : OpenRead). Gives link t.checksums (HasFailedSince t new) packet p q) (told_is read is) gives;
    }

  -- none was
  module _ (fault : LinkFault) (same : SameRead v w) (fall : NoneFalls faults faults') where
    gave_none : fault ≢ link_faults.Refused → (fault ≡ link_faults.Broken → Rose (node_faults_of faults (node_of v)) (node_faults_of faults' (node_of v))) → NotGiven old link fault new
    gave_none not_refused cause =
        not_given space settings last failures loaded faults faults' fall nodes nodes s s' (same_held_refl nodes) (links_from_read s s' link v w was updates same.told same.place) link fault not_refused
        (λ broken. subst (λ (o : Option OpenRead). IfSome o (λ read. Rose (old.counts.nodes read.ask.node.datanode_uuid) (new.counts.nodes read.ask.node.datanode_uuid))) (sym (ap read_told was)) (cause broken))

  pub gives_packet : (result : Result ReadPacket LinkFault) → GivesOn faults faults' v w result → IfOk result (λ packet. Given old link packet new)
  gives_packet (Ok packet) h = gave packet (next_of faults (node_of v)) h.0 (counted_packet faults faults' (node_of v) h.1)
  gives_packet (Err fault) h = tt

  pub gives_none : (result : Result ReadPacket LinkFault) → GivesOn faults faults' v w result → IfErr result (λ fault. NotGiven old link fault new)
  gives_none (Ok packet) h = tt
  gives_none (Err link_faults.NoMemory) h = gave_none link_faults.NoMemory h.0 (falls_same faults faults' h.1) (λ is. (cc)) (λ is. absurd (cc))
  gives_none (Err link_faults.Broken) h =
      let counts = counted_packet faults faults' (node_of v) h.2 in
      let failed = subst (λ (b : Bool). Counts faults (reads_of (node_of v)) b faults') (ap is_some h.1) counts in
      gave_none link_faults.Broken h.0 (falls_counts faults faults' (reads_of (node_of v)) true failed) (λ is. (cc)) (λ is. rose_counts faults faults' calls.Read (node_of v) failed)
  gives_none (Err link_faults.Refused) h = absurd h

  told_after : w.told ≡ v.told → NoneFalls faults faults' → AreEarlier s' faults'
  told_after same fall =
      changed_earlier s s' faults' link (Some w) updates (told_earlier faults' w (subst (IsEarlier faults') (sym same) (later_earlier s faults faults' fall earlier link v.told (ap read_told was))))
      (later_earlier s faults faults' fall earlier)

  pub gives_earlier : (result : Result ReadPacket LinkFault) → GivesOn faults faults' v w result → AreEarlier s' faults'
  gives_earlier (Ok packet) h = told_after h.0.told (falls_counts faults faults' (reads_of (node_of v)) h.1.0 h.1.1)
  gives_earlier (Err link_faults.NoMemory) h = told_after h.0.told (falls_same faults faults' h.1)
  gives_earlier (Err link_faults.Broken) h = told_after h.0.told (falls_counts faults faults' (reads_of (node_of v)) h.2.0 h.2.1)
  gives_earlier (Err link_faults.Refused) h = absurd h
