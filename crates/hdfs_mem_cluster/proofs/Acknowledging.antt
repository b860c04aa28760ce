-- What an acknowledgement and the end of a pipeline do to what a cluster shows: nothing that is held changes.
use Rattle.std.proofs.Common.{◌≡◌, ◌≢◌, ◌⊎◌, inl, inr, ℕ, ℤ, ◌+◌, ◌<◌, ◌≤◌, Bool, true, false, List, [], ◌∷◌, ◌++◌, length, map, take, drop, get_or, Option, Some, None, unwrap_or, zero, suc, refl, sym, ◌∙◌, ap, subst, arith, add-one, take-append-drop}
use Rattle.std.proofs.Math.Seq.{get_or-append_seam}
use Rattle.std.proofs.lemmas.List.{length-take-le, map-append}
use Rattle.hdfs_wire.specs.declared.ack.Ack.{Ack}
use Rattle.hdfs_wire.specs.Outgoing.{Outgoing}
use Rattle.hdfs_cluster.specs.declared.messages.Setup.{Setup}
use Rattle.hdfs_cluster.specs.declared.mem_settings.MemSettings.{MemSettings}
use Rattle.hdfs_cluster.specs.declared.picture.LastAnswer.{LastAnswer}
use Rattle.hdfs_cluster.specs.declared.picture.OpenWrite.{OpenWrite}
use Rattle.hdfs_cluster.specs.declared.store.Line.{Line}
use Rattle.hdfs_cluster.specs.Picture.{Picture}
use Rattle.hdfs_cluster.specs.Counts.{Rose}
use Rattle.hdfs_cluster.specs.Pipes.{WritesLink, Waits, Acknowledged, IsWellFormed, WriteEnded, nodes_of}
use Rattle.hdfs_cluster.specs.declared.messages.DatanodeInfo.{DatanodeInfo}
use Rattle.hdfs_mem_faults.specs.declared.fault_plan.FaultPlan.{FaultPlan}
use Rattle.hdfs_mem_faults.specs.Calls.{one_if}
use Rattle.hdfs_mem_faults.specs.Plans.{link_faults_of, node_faults_of}
use Rattle.hdfs_mem_faults.specs.Series.{AsksOf}
use Rattle.hdfs_cluster.specs.Sending.{WritePlace, Came, Acknowledges, IsDue, MovesOn, StaysHeld, seqno_of, uuids}
use Rattle.hdfs_cluster.specs.Shown.{Shown}
use Rattle.hdfs_cluster.specs.Writing.{WritesAt, Responds}
use Rattle.hdfs_mem_namenode.specs.declared.namespace.Namespace.{Namespace}
use Rattle.hdfs_mem_datanodes.specs.declared.datanodes.Datanodes.{Datanodes}
use Rattle.hdfs_mem_cluster.specs.declared.mem_links.MemLinks.{MemLinks}
use Rattle.hdfs_mem_cluster.specs.declared.write_link.MemWrite.{MemWrite}
use Rattle.hdfs_mem_cluster.specs.Links.{read_told, read_place, write_at, write_told, write_place, AckedOn, ChangesWrite}
use Rattle.hdfs_mem_cluster.specs.MemShown.{picture_at}
use Rattle.hdfs_mem_cluster.specs.Telling.{failures}
use Rattle.hdfs_mem_cluster.specs.Writes.{told_at, told_of, place_at, place_of, disturbed_at}
use Rattle.hdfs_mem_cluster.proofs.Counting.{same_namenodes, NoneFalls, falls_beside}
use Rattle.hdfs_mem_cluster.proofs.Stills.{shown_at}
use Rattle.hdfs_mem_cluster.proofs.Telling.{failed_status}

-- where packets wait, not all that were sent are acknowledged
some_wait : (n : ℕ) (sent : List Outgoing) → 0 < length (map seqno_of (drop n sent)) → n < length sent
some_wait zero [] some = absurd (omega arith)
some_wait zero (packet ∷ sent) some = omega arith
some_wait (suc n) [] some = absurd (omega arith)
some_wait (suc n) (packet ∷ sent) some = omega (arith, some_wait n sent some)

drop_at : (n : ℕ) (xs : List Outgoing) (d : Outgoing) → n < length xs → drop n xs ≡ get_or xs n d ∷ drop (suc n) xs
drop_at n [] d within = absurd (omega arith)
drop_at zero (x ∷ xs) d within = refl
drop_at (suc n) (x ∷ xs) d within = drop_at n xs d (omega arith)

-- the packet that is due, and those behind it
pub rest_due : (sent : List Outgoing) (n : ℕ) (d : Outgoing) → n < length sent → drop n sent ≡ get_or sent n d ∷ drop (n + 1) sent
rest_due sent n d due = drop_at n sent d due ∙ ap (λ (k : ℕ). get_or sent n d ∷ drop k sent) (sym (add-one n))

-- a packet that waits was sent and isn't acknowledged
pub awaited : (v : MemWrite) (write : OpenWrite) (o : Option OpenWrite) → o ≡ Some (told_of v) → o ≡ Some write → 0 < length write.waiting → v.acknowledged < length v.sent.items
awaited v write o was is some =
    let same : told_of v ≡ write = ap (λ (x : Option OpenWrite). unwrap_or x (told_of v)) (sym was ∙ is) in
    some_wait v.acknowledged v.sent.items (subst (λ (y : OpenWrite). 0 < length y.waiting) (sym same) some)

module _ (space : Namespace) (settings : MemSettings) (last : LastAnswer) (failures : ℕ) (loaded : List Line) (faults faults' : FaultPlan) (fall : NoneFalls faults faults') (nodes : Datanodes) (s s' : MemLinks) (link : ℕ) (slot : Option MemWrite) (updates : ChangesWrite s s' link slot) where
  abbrev old : Shown
  old = shown_at space settings last failures loaded faults nodes s

  abbrev new : Shown
  new = shown_at space settings last failures loaded faults' nodes s'

  abbrev p : Picture
  p = picture_at space nodes settings s

  abbrev q : Picture
  q = picture_at space nodes settings s'

  quiet_writes : WritesAt link p q
  quiet_writes = record {
    records = record { names = λ path. refl; table = λ id. refl; active = refl; defaults = refl; reads = λ l. ap read_place (updates.reads l) };
    held = λ write is node id apart. refl;
    none = λ other apart is. ap (write_place nodes other) (updates.others other apart) ∙ is;
    others = λ write is other place apart now. inl (ap (write_place nodes other) (updates.others other apart) ∙ now, λ i within. refl);
  }

  quiet_link : WritesLink link old new
  quiet_link = record {
    only = record {
      later = record { counts = falls_beside settings failures faults faults' fall; namenodes = refl; loaded = refl };
      last = refl;
      calls = same_namenodes settings failures faults faults' fall.asks;
      reads = λ l. ap read_told (updates.reads l);
      places = λ l is. quiet_writes.records.reads l;
    };
    others = λ l apart. ap write_told (updates.others l apart);
    picture = inr quiet_writes;
  }

  stays : (write : WritePlace) → ((i : ℕ) → i < length write.nodes → (write.received i ≤ write.received i) × (write.received i ≤ length write.sent)) → MovesOn write write
  stays write within = record { block = refl; nodes = refl; base = λ i lt. refl; received = within; disturbed = λ i lt. refl }

  -- a pipeline was ended
  pub ended_write : write_told slot ≡ None → write_place nodes link slot ≡ None → WriteEnded old link new
  ended_write gone place_gone = record {
    writes = quiet_link;
    ended = ap write_told updates.changed ∙ gone;
    released = (quiet_writes, ap (write_place nodes link) updates.changed ∙ place_gone, λ write is. released (write_at s link) write is);
  }
    where
      released : (o : Option MemWrite) (write : WritePlace) → write_place nodes link o ≡ Some write → (write' : WritePlace) × MovesOn write write' × (write'.sent ≡ write.sent) × StaysHeld p.held write q.held write'
      released None write is = absurd (cc)
      released (Some v) write is =
          let same : place_of nodes link v ≡ write = ap (λ (o : Option WritePlace). unwrap_or o (place_of nodes link v)) is in
          subst (λ (y : WritePlace). (write' : WritePlace) × MovesOn y write' × (write'.sent ≡ y.sent) × StaysHeld p.held y q.held write') same
          (place_of nodes link v, stays (place_of nodes link v) (λ i lt. (omega arith, omega arith)), refl, λ i lt calm holds. holds)

  module _ (v w : MemWrite) (ack : Ack) (d : Outgoing) (was : write_at s link ≡ Some v) (is_slot : slot ≡ Some w) (same_setup : w.setup ≡ v.setup) (same_base : w.base ≡ v.base) (same_sent : w.sent ≡ v.sent)
      (one_came : w.responses.items ≡ v.responses.items ++ ack ∷ []) (due : v.acknowledged < length v.sent.items) (replies : length ack.replies ≡ length v.setup.locs)
      (failed : (i : ℕ) → i < length v.setup.locs → i < length ack.replies → get_or ack.replies i 0 ≢ 0 → Rose (node_faults_of faults (get_or (uuids v.setup.locs) i [])) (node_faults_of faults' (get_or (uuids v.setup.locs) i []))) where
    abbrev sent : List Outgoing
    sent = v.sent.items

    abbrev packet : Outgoing
    packet = get_or sent v.acknowledged d

    abbrev before : WritePlace
    before = place_of nodes link v

    abbrev after : ℕ → WritePlace
    after n = place_at (λ i. disturbed_at nodes link v.setup i) v.setup v.base.items v.sent.items (v.responses.items ++ ack ∷ []) n

    is_after : (n : ℕ) → w.acknowledged ≡ n → place_of nodes link w ≡ after n
    is_after n is =
        ap (λ (x : Setup). place_at (λ i. disturbed_at nodes link x i) x w.base.items w.sent.items w.responses.items w.acknowledged) same_setup
        ∙ ap (λ b. place_at (λ i. disturbed_at nodes link v.setup i) v.setup b.items w.sent.items w.responses.items w.acknowledged) same_base
        ∙ ap (λ x. place_at (λ i. disturbed_at nodes link v.setup i) v.setup v.base.items x.items w.responses.items w.acknowledged) same_sent
        ∙ ap (λ (x : List Ack). place_at (λ i. disturbed_at nodes link v.setup i) v.setup v.base.items v.sent.items x w.acknowledged) one_came
        ∙ ap (place_at (λ i. disturbed_at nodes link v.setup i) v.setup v.base.items v.sent.items (v.responses.items ++ ack ∷ [])) is

    is_told_after : (n : ℕ) → w.acknowledged ≡ n → told_of w ≡ told_at v.setup v.sent.items n
    is_told_after n is =
        ap (λ (x : Setup). told_at x w.sent.items w.acknowledged) same_setup
        ∙ ap (λ x. told_at v.setup x.items w.acknowledged) same_sent
        ∙ ap (told_at v.setup v.sent.items) is

    rest_is : drop v.acknowledged sent ≡ packet ∷ drop (v.acknowledged + 1) sent
    rest_is = rest_due sent v.acknowledged d due

    waiting_is : map seqno_of (drop v.acknowledged sent) ≡ seqno_of packet ∷ map seqno_of (drop (v.acknowledged + 1) sent)
    waiting_is = ap (map seqno_of) rest_is

    from_before : (write : WritePlace) → p.writes link ≡ Some write → before ≡ write
    from_before write is = ap (λ (o : Option WritePlace). unwrap_or o before) (sym (ap (write_place nodes link) was) ∙ is)

    -- a response came, whatever it acknowledges
    came : (n : ℕ) → w.acknowledged ≡ n → Acknowledges before (Came ack) (after n) → Responds link (Came ack) p q
    came n is says = (
      quiet_writes,
      λ write there.
          subst (λ (y : WritePlace). (write' : WritePlace) × (q.writes link ≡ Some write') × MovesOn y write' × (write'.sent ≡ y.sent) × (write'.responses ≡ y.responses ++ Came ack ∷ []) × Acknowledges y (Came ack) write' × StaysHeld p.held y q.held write')
          (from_before write there) (
            after n,
            ap (write_place nodes link) (updates.changed ∙ is_slot) ∙ ap Some (is_after n is),
            record { block = refl; nodes = refl; base = λ i lt. refl; received = λ i lt. (omega arith, omega arith); disturbed = λ i lt. refl },
            refl,
            map-append Came v.responses.items (ack ∷ []),
            says,
            λ i lt calm holds. holds,
          ),
    )

    told_before : (write : OpenWrite) → old.writes link ≡ Some write → told_of v ≡ write
    told_before write is = ap (λ (o : Option OpenWrite). unwrap_or o (told_of v)) (sym (ap write_told was) ∙ is)

    now_told : (n : ℕ) → w.acknowledged ≡ n → new.writes link ≡ Some (told_at v.setup v.sent.items n)
    now_told n is = ap write_told (updates.changed ∙ is_slot) ∙ ap Some (is_told_after n is)

    -- an acknowledgement came
    acknowledged_at : (n : ℕ) (is : w.acknowledged ≡ n) → Acknowledges before (Came ack) (after n) → Waits ack.seqno (map seqno_of (drop v.acknowledged sent)) (map seqno_of (drop n sent))
        → IsWellFormed (told_of v) ack ⊎ Rose (link_faults_of faults) (link_faults_of faults') → Acknowledged old link ack new
    acknowledged_at n is says waits formed = record {
      writes = quiet_link;
      now = λ write there. subst (λ (y : OpenWrite). (write' : OpenWrite) × (new.writes link ≡ Some write') × (write'.setup ≡ y.setup) × (write'.end ≡ y.end) × Waits ack.seqno y.waiting write'.waiting) (told_before write there)
          (told_at v.setup v.sent.items n, now_told n is, refl, refl, waits);
      formed = λ write there. subst (λ (y : OpenWrite). IsWellFormed y ack ⊎ Rose old.counts.links new.counts.links) (told_before write there) formed;
      statuses = λ write there.
          subst (λ (y : OpenWrite). (i : ℕ) → i < length y.setup.locs → i < length ack.replies → get_or ack.replies i 0 ≢ 0 → Rose (old.counts.nodes (get_or (nodes_of y) i [])) (new.counts.nodes (get_or (nodes_of y) i [])))
          (told_before write there) failed;
      came = came n is says;
    }

    -- that of the packet that is due
    well_formed : ack.seqno ≡ seqno_of packet → IsWellFormed (told_of v) ack
    well_formed seqno = (map seqno_of (drop (v.acknowledged + 1) sent), waiting_is ∙ ap (λ (n : ℤ). n ∷ map seqno_of (drop (v.acknowledged + 1) sent)) (sym seqno), replies)

    pub acknowledged_due : ack.seqno ≡ seqno_of packet → w.acknowledged ≡ v.acknowledged + 1 → Acknowledged old link ack new
    acknowledged_due seqno is =
        acknowledged_at (v.acknowledged + 1) is
        (inl (
          (
            take v.acknowledged sent,
            packet,
            drop (v.acknowledged + 1) sent,
            sym (take-append-drop v.acknowledged sent) ∙ ap (λ (xs : List Outgoing). take v.acknowledged sent ++ xs) rest_is,
            length-take-le v.acknowledged sent (omega arith),
            sym seqno,
          ),
          refl,
          λ i lt replied zero_status. due,
        ))
        (subst (λ (xs : List ℤ). Waits ack.seqno xs (map seqno_of (drop (v.acknowledged + 1) sent))) (sym waiting_is) (inl (seqno, refl)))
        (inl (well_formed seqno))

    -- a bad one, and the packet that is due still waits
    not_due : ((x : Outgoing) → ack.seqno ≢ seqno_of (get_or sent v.acknowledged x)) → IsDue before ack.seqno → ⊥
    not_due apart is =
        let front = is.0 in
        let first = is.1 in
        let at : get_or sent v.acknowledged first ≡ first =
        ap (λ (xs : List Outgoing). get_or xs v.acknowledged first) is.3 ∙ ap (λ (n : ℕ). get_or (front ++ first ∷ is.2) n first) (sym is.4) ∙ get_or-append_seam front first is.2 first in
        apart first (sym is.5 ∙ ap seqno_of (sym at))

    pub acknowledged_bad : ((x : Outgoing) → ack.seqno ≢ seqno_of (get_or sent v.acknowledged x)) → w.acknowledged ≡ v.acknowledged → Rose (link_faults_of faults) (link_faults_of faults') → Acknowledged old link ack new
    acknowledged_bad apart is rose =
        acknowledged_at v.acknowledged is
        (inr (not_due apart, refl))
        (subst (λ (xs : List ℤ). Waits ack.seqno xs (map seqno_of (drop v.acknowledged sent))) (sym waiting_is) (inr (apart d, waiting_is)))
        (inr rose)

-- one of some packets
pub one_of : (packets : List Outgoing) → 0 < length packets → Outgoing
one_of [] some = absurd (omega arith)
one_of (packet ∷ packets) some = packet

length_uuids : (locs : List DatanodeInfo) → length (uuids locs) ≡ length locs
length_uuids [] = refl
length_uuids (node ∷ locs) = ap suc (length_uuids locs)

-- what an acknowledgement counts
module _ (link : ℕ) (ack : Ack) (faults faults' : FaultPlan) (v w : MemWrite) (h : AckedOn link ack faults faults' v w) where
  pub acked_links : link_faults_of faults' ≡ link_faults_of faults + one_if h.bad
  acked_links = h.takes.faults ∙ ap (λ (n : ℕ). n + one_if h.bad) h.links.faults

  pub acked_nodes : (d : List ℕ) → node_faults_of faults' d ≡ node_faults_of faults d + failures d (uuids v.setup.locs) ack.replies
  acked_nodes d = h.takes.nodes d ∙ h.tells.nodes d

  pub acked_falls : NoneFalls faults faults'
  acked_falls = record { asked = λ i. omega (arith, h.takes.calls (AsksOf i), h.tells.others (AsksOf i) (λ d is. (cc))); asks = λ i. h.takes.asks i ∙ h.tells.asks i; links = omega (arith, acked_links); nodes = λ d. omega (arith, acked_nodes d) }

  pub acked_replies : length ack.replies ≡ length v.setup.locs
  acked_replies = h.tells.len ∙ length_uuids v.setup.locs

  pub acked_failed : (i : ℕ) → i < length v.setup.locs → i < length ack.replies → get_or ack.replies i 0 ≢ 0 → Rose (node_faults_of faults (get_or (uuids v.setup.locs) i [])) (node_faults_of faults' (get_or (uuids v.setup.locs) i []))
  acked_failed i lt replied status =
      let d = get_or (uuids v.setup.locs) i [] in
      let some = failed_status (uuids v.setup.locs) ack.replies i d (omega (arith, lt, length_uuids v.setup.locs)) replied refl in
      let one : 1 ≤ get_or ack.replies i 0 = at_least (get_or ack.replies i 0) status in
      omega (arith, acked_nodes d, some, one)
    where
      at_least : (n : ℕ) → n ≢ 0 → 1 ≤ n
      at_least zero apart = absurd (apart refl)
      at_least (suc n) apart = omega arith

module _ (space : Namespace) (settings : MemSettings) (last : LastAnswer) (failures : ℕ) (loaded : List Line) (faults faults' : FaultPlan) (nodes : Datanodes) (s s' : MemLinks) (link : ℕ) (ack : Ack) where
  by_bad : (v w : MemWrite) → write_at s link ≡ Some v → ChangesWrite s s' link (Some w) → (h : AckedOn link ack faults faults' v w) → v.acknowledged < length v.sent.items
      → (b : Bool) → h.bad ≡ b → Acknowledged (shown_at space settings last failures loaded faults nodes s) link ack (shown_at space settings last failures loaded faults' nodes s')
  by_bad v w was updates h due false is =
      let d : Outgoing = one_of v.sent.items (omega arith) in
      let taken = h.seqno.taken is in
      acknowledged_due space settings last failures loaded faults faults' (acked_falls link ack faults faults' v w h) nodes s s' link (Some w) updates
      v w ack d was refl h.seqno.setup h.seqno.base h.seqno.sent h.responses due (acked_replies link ack faults faults' v w h) (acked_failed link ack faults faults' v w h) (taken.0 d) taken.1
  by_bad v w was updates h due true is =
      let d : Outgoing = one_of v.sent.items (omega arith) in
      let left = h.seqno.left is in
      let rose : Rose (link_faults_of faults) (link_faults_of faults') = omega (arith, acked_links link ack faults faults' v w h, ap one_if is) in
      acknowledged_bad space settings last failures loaded faults faults' (acked_falls link ack faults faults' v w h) nodes s s' link (Some w) updates
      v w ack d was refl h.seqno.setup h.seqno.base h.seqno.sent h.responses due (acked_replies link ack faults faults' v w h) (acked_failed link ack faults faults' v w h) left.0 left.1 rose

  -- an acknowledgement came
  pub acknowledged_on : (v w : MemWrite) → write_at s link ≡ Some v → ChangesWrite s s' link (Some w) → AckedOn link ack faults faults' v w → v.acknowledged < length v.sent.items
      → Acknowledged (shown_at space settings last failures loaded faults nodes s) link ack (shown_at space settings last failures loaded faults' nodes s')
  acknowledged_on v w was updates h due = by_bad v w was updates h due h.bad refl
