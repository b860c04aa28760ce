-- What the calls on write links do to what a cluster shows.
use Rattle.std.proofs.Common.{◌≡◌, ◌≢◌, ◌⊎◌, inl, inr, ⊎_elim, ℕ, ℤ, ◌<◌, Bool, true, false, ◌&&◌, ◌||◌, not, cond, eqb, List, [], ◌∷◌, ◌++◌, length, map, drop, get_or, Option, Some, None, unwrap_or, suc, refl, sym, ◌∙◌, ap, subst, arith, length-append}
use Rattle.std.proofs.lemmas.Bool.{cases_eq}
use Rattle.std.proofs.lemmas.Bool.Decides.{nat_tests}
use Rattle.std.proofs.lemmas.List.{take_all}
use Rattle.std.specs.List.{Contains}
use Rattle.hdfs_wire.specs.declared.ack.Ack.{Ack}
use Rattle.hdfs_wire.specs.Outgoing.{Outgoing}
use Rattle.hdfs_cluster.specs.declared.asks.LinkFault.{LinkFault}
use Rattle.hdfs_cluster.specs.declared.asks.LinkFault.TheVariants as link_faults
use Rattle.hdfs_cluster.specs.declared.messages.Setup.{Setup}
use Rattle.hdfs_cluster.specs.declared.mem_settings.MemSettings.{MemSettings}
use Rattle.hdfs_cluster.specs.declared.picture.LastAnswer.{LastAnswer}
use Rattle.hdfs_cluster.specs.declared.picture.OpenWrite.{OpenWrite}
use Rattle.hdfs_cluster.specs.declared.store.Line.{Line}
use Rattle.hdfs_cluster.specs.Picture.{Picture}
use Rattle.hdfs_cluster.specs.Pipes.{WriteOpened, WriteNotOpened, Sent, NotSent}
use Rattle.hdfs_cluster.specs.Sending.{WritePlace, IsDisturbed, MovesOn, StaysHeld, uuids, end_of, seqno_of, put_packet, put_packets}
use Rattle.hdfs_cluster.specs.Shown.{Shown, Later}
use Rattle.hdfs_cluster.specs.Writing.{IsLeftAlone, WritesAt, Sends, Starts, IsFresh, IsBehind}
use Rattle.hdfs_mem_faults.specs.declared.fault_plan.FaultPlan.{FaultPlan}
use Rattle.hdfs_mem_faults.specs.declared.node_plan.NodeCall.TheVariants as calls
use Rattle.hdfs_mem_faults.specs.Series.{sends_to}
use Rattle.hdfs_mem_namenode.specs.declared.namespace.Namespace.{Namespace}
use Rattle.hdfs_mem_datanodes.specs.declared.datanodes.Datanodes.{Datanodes}
use Rattle.hdfs_mem_cluster.specs.declared.mem_links.MemLinks.{MemLinks}
use Rattle.hdfs_mem_cluster.specs.declared.write_link.MemWrite.{MemWrite}
use Rattle.hdfs_mem_cluster.specs.Links.{read_told, read_place, write_at, write_told, write_place, ChangesWrite, ChangesNoLink, SendsOn, among, first_uuid}
use Rattle.hdfs_mem_cluster.specs.MemShown.{picture_at}
use Rattle.hdfs_mem_datanodes.specs.Nodes.{held_in, undisturbed_in, is_named, is_on}
use Rattle.hdfs_mem_cluster.specs.Writes.{told_at, told_of, place_at, place_of, disturbed_at, SameWrite, PutsPacket}
use Rattle.hdfs_mem_cluster.proofs.Packets.{last_end-push, put_packets-push, waiting-push, named_at, named_any, contains_named, answered}
use Rattle.hdfs_mem_cluster.proofs.Places.{place_same_for, place_same_at}
use Rattle.hdfs_mem_cluster.specs.SettingUp.{blamed}
use Rattle.hdfs_mem_cluster.proofs.Counting.{same_namenodes, BlamedRose, NoneFalls, falls_counts, rose_counts, stage_failed}
use Rattle.hdfs_mem_cluster.proofs.Stills.{shown_at, still_later, broke_off_sent, links_unsent}

-- the test on a block
same_block : (a b : ℕ) → a ≡ b → eqb a b ≡ true
same_block a b is = grind (arith, nat_tests)

other_block : (a b : ℕ) → a ≢ b → eqb a b ≡ false
other_block a b apart = grind (arith, nat_tests)

-- a replica of another block is on none of these datanodes
off_block : (setup : Setup) (d : List ℕ) (b : ℕ) → setup.block.block_id ≢ b → is_on setup.locs setup.block.block_id d b ≡ false
off_block setup d b apart = ap (λ (t : Bool). is_named setup.locs d && t) (other_block setup.block.block_id b apart) ∙ and_false (is_named setup.locs d)
  where
    and_false : (t : Bool) → (t && false) ≡ false
    and_false true = refl
    and_false false = refl

on_block : (setup : Setup) (d : List ℕ) (b : ℕ) → setup.block.block_id ≡ b → is_on setup.locs setup.block.block_id d b ≡ is_named setup.locs d
on_block setup d b is = ap (λ (t : Bool). is_named setup.locs d && t) (same_block setup.block.block_id b is) ∙ and_true (is_named setup.locs d)
  where
    and_true : (t : Bool) → (t && true) ≡ t
    and_true true = refl
    and_true false = refl

-- the link that has written is disturbed no more than before
own_link : (on u : Bool) (link : ℕ) → cond on (u && eqb link link) u ≡ u
own_link false u link = refl
own_link true u link = ap (λ (t : Bool). u && t) (same_block link link refl) ∙ and_true u
  where
    and_true : (t : Bool) → (t && true) ≡ t
    and_true true = refl
    and_true false = refl

-- and another one at these datanodes
other_link : (on u u' : Bool) (link other : ℕ) → link ≢ other → u' ≡ cond on (u && eqb link other) u → not u' ≡ (not u || on)
other_link true true u' link other apart is = ap not (is ∙ other_block link other apart)
other_link true false u' link other apart is = ap not is
other_link false true u' link other apart is = ap not is
other_link false false u' link other apart is = ap not is

-- No pipeline was set up. What its datanodes note of the link is not seen, since it is vacant.
pub not_opened_write : (space : Namespace) (settings : MemSettings) (last : LastAnswer) (failures : ℕ) (loaded : List Line) (faults faults' : FaultPlan) (nodes nodes' : Datanodes) (s s' : MemLinks) (link : ℕ) (setup : Setup) (fault : LinkFault)
    → NoneFalls faults faults' → write_at s link ≡ None → ChangesNoLink s s'
    → ((d : List ℕ) (b other : ℕ) → (link ≡ other → ⊥) → undisturbed_in nodes' d b other ≡ undisturbed_in nodes d b other) → ((d : List ℕ) (b : ℕ) → held_in nodes' d b ≡ held_in nodes d b)
    → (fault ≢ link_faults.NoMemory → BlamedRose (blamed setup) faults faults')
    → WriteNotOpened (shown_at space settings last failures loaded faults nodes s) setup fault (shown_at space settings last failures loaded faults' nodes' s')
not_opened_write space settings last failures loaded faults faults' nodes nodes' s s' link setup fault fall vacant same others bytes rose = record {
  only = record { later = still_later space settings last failures loaded faults faults' fall nodes nodes' s s'; last = refl; calls = same_namenodes settings failures faults faults' fall.asks; reads = λ l. ap read_told (same.reads l); places = λ l is. ap read_place (same.reads l) };
  writes = λ l. ap write_told (same.writes l);
  picture = record {
    rest = record {
      files = record { names = λ path. refl; table = λ id. refl; held = bytes; defaults = refl };
      reads = λ l. ap read_place (same.reads l);
      writes = λ l. ap (write_place nodes' l) (same.writes l) ∙ ⊎_elim
          (λ here. subst (λ (k : ℕ). write_place nodes' k (write_at s k) ≡ write_place nodes k (write_at s k)) (sym here) (ap (write_place nodes' link) vacant ∙ sym (ap (write_place nodes link) vacant)))
          (λ apart. place_same_at nodes nodes' l (λ d b. others d b l (λ here. apart (sym here))) (write_at s l))
          (cases_eq l link);
    };
    active = refl;
  };
  cause = λ apart. stage_failed settings failures faults faults' setup.stage setup.locs (rose apart);
}

module _ (space : Namespace) (settings : MemSettings) (last : LastAnswer) (failures : ℕ) (loaded : List Line) (faults faults' : FaultPlan) (fall : NoneFalls faults faults') (nodes nodes' : Datanodes) (s s' : MemLinks) (link : ℕ) (w : MemWrite) (updates : ChangesWrite s s' link (Some w)) where
  abbrev old : Shown
  old = shown_at space settings last failures loaded faults nodes s

  abbrev new : Shown
  new = shown_at space settings last failures loaded faults' nodes' s'

  abbrev p : Picture
  p = picture_at space nodes settings s

  abbrev q : Picture
  q = picture_at space nodes' settings s'

  later : Later old new
  later = still_later space settings last failures loaded faults faults' fall nodes nodes' s s'

  module _ (setup : Setup) (vacant : write_at s link ≡ None) (is_setup : w.setup ≡ setup) (none_sent : w.sent.items ≡ []) (none_came : w.responses.items ≡ []) (none : w.acknowledged ≡ 0)
      (base : w.base.items ≡ map (λ node. held_in nodes node.id.datanode_uuid setup.block.block_id) setup.locs)
      (entered : (d : List ℕ) → is_named setup.locs d ≡ true → undisturbed_in nodes' d setup.block.block_id link ≡ true)
      (others : (d : List ℕ) (b other : ℕ) → (link ≡ other → ⊥) → undisturbed_in nodes' d b other ≡ undisturbed_in nodes d b other)
      (bytes : (d : List ℕ) (b : ℕ) → held_in nodes' d b ≡ held_in nodes d b) where
    is_place : place_of nodes' link w ≡ place_at (λ i. disturbed_at nodes' link setup i) setup w.base.items [] [] 0
    is_place =
        ap (λ (x : Setup). place_at (λ i. disturbed_at nodes' link x i) x w.base.items w.sent.items w.responses.items w.acknowledged) is_setup
        ∙ ap (λ (x : List Outgoing). place_at (λ i. disturbed_at nodes' link setup i) setup w.base.items x w.responses.items w.acknowledged) none_sent
        ∙ ap (λ (x : List Ack). place_at (λ i. disturbed_at nodes' link setup i) setup w.base.items [] x w.acknowledged) none_came
        ∙ ap (place_at (λ i. disturbed_at nodes' link setup i) setup w.base.items [] []) none

    is_told : told_of w ≡ told_at setup [] 0
    is_told =
        ap (λ (x : Setup). told_at x w.sent.items w.acknowledged) is_setup
        ∙ ap (λ (x : List Outgoing). told_at setup x w.acknowledged) none_sent
        ∙ ap (told_at setup []) none

    fresh : IsFresh setup p (place_at (λ i. disturbed_at nodes' link setup i) setup w.base.items [] [] 0)
    fresh = record {
      block = refl;
      nodes = refl;
      base = λ i within. ap (λ (bs : List (List ℕ)). get_or bs i []) base ∙ answered (λ u. held_in nodes u setup.block.block_id) setup.locs i within;
      sent = refl;
      responses = refl;
      acknowledged = refl;
      received = λ i within. refl;
      disturbed = λ i within. ap not (entered (get_or (uuids setup.locs) i []) (named_at setup.locs i within));
    }

    starts : Starts link setup p q
    starts = record {
      files = record { names = λ path. refl; table = λ id. refl; held = bytes; defaults = refl };
      active = refl;
      reads = λ l. ap read_place (updates.reads l);
      unused = ap (write_place nodes link) vacant;
      others = λ l apart. place_same_at nodes nodes' l (λ d b. others d b l (λ same. apart (sym same))) (write_at s' l) ∙ ap (write_place nodes l) (updates.others l apart);
      place = place_at (λ i. disturbed_at nodes' link setup i) setup w.base.items [] [] 0;
      at = ap (write_place nodes' link) updates.changed ∙ ap Some is_place;
      fresh = fresh;
    }

    -- a pipeline was set up
    pub opened_write : WriteOpened old setup link new
    opened_write = record {
      only = record {
        later = later;
        last = refl;
        calls = same_namenodes settings failures faults faults' fall.asks;
        reads = λ l. ap read_told (updates.reads l);
        places = λ l is. starts.reads l;
      };
      fresh = ap write_told vacant;
      others = λ l apart. ap write_told (updates.others l apart);
      opened = ap write_told updates.changed ∙ ap Some is_told;
      starts = starts;
    }

  module _ (v : MemWrite) (packet : Outgoing) (was : write_at s link ≡ Some v) (same : SameWrite v w) (sent : w.sent.items ≡ v.sent.items ++ packet ∷ []) (puts : PutsPacket v.setup link packet nodes nodes') where
    abbrev more : List Outgoing
    more = v.sent.items ++ packet ∷ []

    abbrev before : WritePlace
    before = place_of nodes link v

    abbrev after : WritePlace
    after = place_at (λ i. disturbed_at nodes' link v.setup i) v.setup v.base.items more v.responses.items v.acknowledged

    is_after : place_of nodes' link w ≡ after
    is_after =
        ap (λ (x : Setup). place_at (λ i. disturbed_at nodes' link x i) x w.base.items w.sent.items w.responses.items w.acknowledged) same.setup
        ∙ ap (λ b. place_at (λ i. disturbed_at nodes' link v.setup i) v.setup b.items w.sent.items w.responses.items w.acknowledged) same.base
        ∙ ap (λ (x : List Outgoing). place_at (λ i. disturbed_at nodes' link v.setup i) v.setup v.base.items x w.responses.items w.acknowledged) sent
        ∙ ap (λ (x : List Ack). place_at (λ i. disturbed_at nodes' link v.setup i) v.setup v.base.items more x w.acknowledged) same.responses
        ∙ ap (place_at (λ i. disturbed_at nodes' link v.setup i) v.setup v.base.items more v.responses.items) same.acknowledged

    is_told_after : told_of w ≡ told_at v.setup more v.acknowledged
    is_told_after =
        ap (λ (x : Setup). told_at x w.sent.items w.acknowledged) same.setup
        ∙ ap (λ (x : List Outgoing). told_at v.setup x w.acknowledged) sent
        ∙ ap (told_at v.setup more) same.acknowledged

    at_others : (other : ℕ) (slot : Option MemWrite) (place : WritePlace) → other ≢ link → write_at s' other ≡ slot → write_place nodes other slot ≡ Some place
        → IsLeftAlone p q other place ⊎ ((place' : WritePlace) × (q.writes other ≡ Some place') × IsDisturbed before place place')
    at_others other None place apart now is = absurd (cc)
    at_others other (Some x) place apart now is =
        let same_place : place_of nodes other x ≡ place = ap (λ (o : Option WritePlace). unwrap_or o (place_of nodes other x)) is in
        subst (λ (y : WritePlace). IsLeftAlone p q other y ⊎ ((place' : WritePlace) × (q.writes other ≡ Some place') × IsDisturbed before y place')) same_place
        (⊎_elim
        (λ shared. inr (
          place_of nodes' other x,
          ap (write_place nodes' other) now,
          record {
            shared = sym shared;
            block = refl;
            nodes = refl;
            base = λ i within. refl;
            sent = refl;
            responses = refl;
            acknowledged = refl;
            received = λ i within. refl;
            disturbed = λ i within.
                (let d = get_or (uuids x.setup.locs) i [] in
                let u = undisturbed_in nodes d x.setup.block.block_id other in
                other_link (is_named v.setup.locs d) u (undisturbed_in nodes' d x.setup.block.block_id other) link other (λ same. apart (sym same))
                (puts.links d x.setup.block.block_id other ∙ ap (λ (t : Bool). cond t (u && eqb link other) u) (on_block v.setup d x.setup.block.block_id shared))
                ∙ ap (λ (t : Bool). not u || t) (sym (named_any v.setup.locs d)));
          },
        ))
        (λ other_one. inl (
          ap (write_place nodes' other) now ∙ ap Some (place_same_for nodes nodes' other x (λ d. puts.links d x.setup.block.block_id other
              ∙ ap (λ (t : Bool). cond t (undisturbed_in nodes d x.setup.block.block_id other && eqb link other) (undisturbed_in nodes d x.setup.block.block_id other)) (off_block v.setup d x.setup.block.block_id other_one))),
          λ i within.
              (let d = get_or (uuids x.setup.locs) i [] in
              puts.bytes d x.setup.block.block_id ∙ ap (λ (t : Bool). cond t (put_packet (held_in nodes d x.setup.block.block_id) packet) (held_in nodes d x.setup.block.block_id)) (off_block v.setup d x.setup.block.block_id other_one)),
        ))
        (cases_eq v.setup.block.block_id x.setup.block.block_id))

    held_stays : (d : List ℕ) (b : ℕ) → (v.setup.block.block_id ≡ b → Contains (uuids v.setup.locs) d → ⊥) → held_in nodes' d b ≡ held_in nodes d b
    held_stays d b apart = ⊎_elim
        (λ shared. by_test (is_named v.setup.locs d) refl (puts.bytes d b ∙ ap (λ (t : Bool). cond t (put_packet (held_in nodes d b) packet) (held_in nodes d b)) (on_block v.setup d b shared)) (apart shared))
        (λ other_one. puts.bytes d b ∙ ap (λ (t : Bool). cond t (put_packet (held_in nodes d b) packet) (held_in nodes d b)) (off_block v.setup d b other_one))
        (cases_eq v.setup.block.block_id b)
      where
        by_test : (t : Bool) → is_named v.setup.locs d ≡ t → held_in nodes' d b ≡ cond t (put_packet (held_in nodes d b) packet) (held_in nodes d b) → (Contains (uuids v.setup.locs) d → ⊥) → held_in nodes' d b ≡ held_in nodes d b
        by_test true named is none = absurd (none (contains_named v.setup.locs d named))
        by_test false named is none = is

    from_before : (write : WritePlace) → p.writes link ≡ Some write → before ≡ write
    from_before write is = ap (λ (o : Option WritePlace). unwrap_or o before) (sym (ap (write_place nodes link) was) ∙ is)

    writes_at : WritesAt link p q
    writes_at = record {
      records = record { names = λ path. refl; table = λ id. refl; active = refl; defaults = refl; reads = λ l. ap read_place (updates.reads l) };
      held = λ write is. subst (λ (y : WritePlace). (node : List ℕ) (id : ℕ) → (y.block ≡ id → Contains y.nodes node → ⊥) → q.held node id ≡ p.held node id) (from_before write is) held_stays;
      none = λ other apart is. none_at other (write_at s other) (updates.others other apart) is;
      others = λ write is other place apart there.
          subst (λ (y : WritePlace). IsLeftAlone p q other place ⊎ ((place' : WritePlace) × (q.writes other ≡ Some place') × IsDisturbed y place place')) (from_before write is)
          (at_others other (write_at s other) place apart (updates.others other apart) there);
    }
      where
        none_at : (other : ℕ) (slot : Option MemWrite) → write_at s' other ≡ slot → write_place nodes other slot ≡ None → q.writes other ≡ None
        none_at other None now is = ap (write_place nodes' other) now
        none_at other (Some x) now is = absurd (cc)

    moves_on : MovesOn before after
    moves_on = record {
      block = refl;
      nodes = refl;
      base = λ i within. refl;
      received = λ i within. (omega (arith, length-append v.sent.items (packet ∷ [])), omega arith);
      disturbed = λ i within.
          (let d = get_or (uuids v.setup.locs) i [] in
          let u = undisturbed_in nodes d v.setup.block.block_id link in
          ap not (puts.links d v.setup.block.block_id link ∙ own_link (is_on v.setup.locs v.setup.block.block_id d v.setup.block.block_id) u link));
    }

    stays_held : StaysHeld p.held before q.held after
    stays_held i within calm holds =
        let d = get_or (uuids v.setup.locs) i [] in
        let b = v.setup.block.block_id in
        let bytes = get_or v.base.items i [] in
        let within_locs : i < length v.setup.locs = omega (arith, within, length_uuids v.setup.locs) in
        let on : is_on v.setup.locs b d b ≡ true = on_block v.setup d b refl ∙ named_at v.setup.locs i within_locs in
        let held : held_in nodes d b ≡ put_packets bytes v.sent.items = holds ∙ ap (put_packets bytes) (take_all (length v.sent.items) v.sent.items (omega arith)) in
        puts.bytes d b
        ∙ ap (λ (t : Bool). cond t (put_packet (held_in nodes d b) packet) (held_in nodes d b)) on
        ∙ ap (λ (bs : List ℕ). put_packet bs packet) held
        ∙ sym (put_packets-push bytes v.sent.items packet)
        ∙ ap (put_packets bytes) (sym (take_all (length more) more (omega arith)))
      where
        length_uuids : (locs : List _) → length (uuids locs) ≡ length locs
        length_uuids [] = refl
        length_uuids (node ∷ locs) = ap suc (length_uuids locs)

    sends : Sends link (IsBehind packet) p q
    sends = (
      writes_at,
      λ write is.
          subst (λ (y : WritePlace). (write' : WritePlace) × (q.writes link ≡ Some write') × MovesOn y write' × IsBehind packet y.sent write'.sent × (write'.responses ≡ y.responses) × (write'.acknowledged ≡ y.acknowledged) × StaysHeld p.held y q.held write')
          (from_before write is)
          (after, ap (write_place nodes' link) updates.changed ∙ ap Some is_after, moves_on, refl, refl, refl, stays_held),
    )

    told_before : (write : OpenWrite) → old.writes link ≡ Some write → told_of v ≡ write
    told_before write is = ap (λ (o : Option OpenWrite). unwrap_or o (told_of v)) (sym (ap write_told was) ∙ is)

    now_told : told_at v.setup more v.acknowledged ≡ record { setup = v.setup; end = Some (end_of packet); waiting = map seqno_of (drop v.acknowledged v.sent.items) ++ seqno_of packet ∷ [] }
    now_told =
        ap (λ (e : Option ℕ). record { setup = v.setup; end = e; waiting = map seqno_of (drop v.acknowledged more) }) (last_end-push None v.sent.items packet)
        ∙ ap (λ (ws : List ℤ). record { setup = v.setup; end = Some (end_of packet); waiting = ws }) (waiting-push v.sent.items v.acknowledged packet v.within)

    -- a packet was sent
    pub sent_packet : Sent old link packet new
    sent_packet = record {
      writes = record {
        only = record {
          later = later;
          last = refl;
          calls = same_namenodes settings failures faults faults' fall.asks;
          reads = λ l. ap read_told (updates.reads l);
          places = λ l is. ap read_place (updates.reads l);
        };
        others = λ l apart. ap write_told (updates.others l apart);
        picture = inr writes_at;
      };
      now = λ write is. subst (λ (y : OpenWrite). new.writes link ≡ Some (record { setup = y.setup; end = Some (end_of packet); waiting = y.waiting ++ seqno_of packet ∷ [] })) (told_before write is)
          (ap write_told updates.changed ∙ ap Some (is_told_after ∙ now_told));
      sent = sends;
    }

-- a packet was sent, with all that it is sent on with
pub sent_on : (space : Namespace) (settings : MemSettings) (last : LastAnswer) (failures : ℕ) (loaded : List Line) (faults faults' : FaultPlan) (nodes nodes' : Datanodes) (s s' : MemLinks) (link : ℕ) (packet : Outgoing) (v w : MemWrite)
    → write_at s link ≡ Some v → ChangesWrite s s' link (Some w) → SendsOn link packet false (among nodes faults v) (among nodes' faults' w)
    → Sent (shown_at space settings last failures loaded faults nodes s) link packet (shown_at space settings last failures loaded faults' nodes' s')
sent_on space settings last failures loaded faults faults' nodes nodes' s s' link packet v w was updates h =
    sent_packet space settings last failures loaded faults faults' (falls_counts faults faults' (sends_to (first_uuid v)) false h.1) nodes nodes' s s' link w updates v packet was h.0.same h.0.sent h.0.puts

-- the connection broke in place of a packet
pub broke_on : (space : Namespace) (settings : MemSettings) (last : LastAnswer) (failures : ℕ) (loaded : List Line) (faults faults' : FaultPlan) (nodes nodes' : Datanodes) (s s' : MemLinks) (link : ℕ) (packet : Outgoing) (v w : MemWrite)
    → write_at s link ≡ Some v → ChangesWrite s s' link (Some w) → SendsOn link packet true (among nodes faults v) (among nodes' faults' w)
    → NotSent (shown_at space settings last failures loaded faults nodes s) link packet link_faults.Broken (shown_at space settings last failures loaded faults' nodes' s')
broke_on space settings last failures loaded faults faults' nodes nodes' s s' link packet v w was updates h =
    broke_off_sent space settings last failures loaded faults faults' (falls_counts faults faults' (sends_to (first_uuid v)) true h.1) nodes nodes' s s' h.0.held
    (links_unsent nodes nodes' s s' link v w was updates h.0) link packet v was (rose_counts faults faults' calls.Send (first_uuid v) h.1)
