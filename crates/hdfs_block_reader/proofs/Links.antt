-- A write link that carries a block's bytes goes on carrying them.
use Rattle.std.proofs.Common.{◌≡◌, ⊎_elim, ℕ, ◌+◌, ◌<◌, ◌≤◌, max, List, [], ◌∷◌, ◌++◌, length, take, drop, Some, refl, sym, ◌∙◌, ap, subst, arith}
use Rattle.std.proofs.lemmas.List.{append-nil, length-take-le, length-append, take-append-le}
use Rattle.std.specs.List.{All, slice_index_or}
use Rattle.hdfs_wire.specs.Outgoing.{Outgoing}
use Rattle.hdfs_wire.specs.declared.ack.Ack.{Ack}
use Rattle.hdfs_cluster.specs.Picture.{Picture}
use Rattle.hdfs_cluster.specs.Sending.{WritePlace, MovesOn, StaysHeld, put_packets, node_at, seqno_of, Response, Came}
use Rattle.hdfs_cluster.specs.Writing.{Sends, IsBehind, MayBeBehind, Responds, Releases}
use Rattle.hdfs_cluster.specs.Stores.{HoldsPrefix}
use Rattle.hdfs_block_reader.specs.Carrying.{total, AreSlices, Awaits, LinkHolds, LinkCarries}
use Rattle.hdfs_block_reader.proofs.Awaiting.{awaits_sends, awaits_acknowledges}
use Rattle.hdfs_block_reader.proofs.Prefixes.{put_slices, slices_take, slices_within, slices_longer, slices_join, total_more, total_cut, total_join, prefix_longer, take_whole}

-- Whatever fails.
module _ (p : Picture) (link id : ℕ) (nodes : List (List ℕ)) (safe : ℕ) (bytes : List ℕ) (c : LinkHolds p link id nodes safe bytes) where
  -- how many bytes the datanode at a place holds
  abbrev reach : ℕ → ℕ
  reach i = max (length (c.place.base i)) (c.start + total (take (c.place.received i) c.place.sent))

  held_is : (i : ℕ) → i < length nodes → p.held (slice_index_or nodes i []) id ≡ take (reach i) bytes
  held_is i within =
      let base = c.base i within in
      ap (λ (ns : List (List ℕ)). p.held (slice_index_or ns i []) id) (sym c.same_nodes)
      ∙ ap (λ (b : ℕ). p.held (node_at c.place i) b) (sym c.block)
      ∙ c.holds i within
      ∙ ap (λ (b : List ℕ). put_packets b (take (c.place.received i) c.place.sent)) base.0
      ∙ put_slices bytes (take (c.place.received i) c.place.sent) (length (c.place.base i)) c.start base.2 base.1 (slices_take bytes c.place.sent (c.place.received i) c.start c.slices)

  reach_within : (i : ℕ) → i < length nodes → reach i ≤ length bytes
  reach_within i within =
      let base = c.base i within in
      omega (arith, base.2, slices_within bytes (take (c.place.received i) c.place.sent) c.start (omega (arith, base.1, base.2)) (slices_take bytes c.place.sent (c.place.received i) c.start c.slices))

  held_length : (i : ℕ) → i < length nodes → length (p.held (slice_index_or nodes i []) id) ≡ reach i
  held_length i within = ap length (held_is i within) ∙ length-take-le (reach i) bytes (reach_within i within)

  -- each datanode of the link holds a prefix with all that is acknowledged
  pub each_holds : (i : ℕ) → i < length nodes → HoldsPrefix (λ node. p.held node id) bytes (slice_index_or nodes i []) × (safe ≤ length (p.held (slice_index_or nodes i []) id))
  each_holds i within = (
    held_is i within ∙ ap (λ (n : ℕ). take n bytes) (sym (held_length i within)),
    omega (arith, held_length i within, c.settles, total_more c.place.sent c.settled (c.place.received i) (c.received i within).0),
  )

  -- what is acknowledged is within the block, where the link has a datanode
  pub safe_within : 0 < length nodes → safe ≤ length bytes
  safe_within some = (let h = each_holds 0 some in omega (arith, h.1, held_length 0 some, reach_within 0 some))

  -- a datanode of the link by its number in the place
  pub in_place : (i : ℕ) → i < length nodes → i < length c.place.nodes
  in_place i within = subst (λ (ns : List (List ℕ)). i < length ns) (sym c.same_nodes) within

  -- The link further on keeps it, with as much settled or more.
  abbrev pub holds_goes : (q : Picture) (later : WritePlace) (safe' settled : ℕ) → q.writes link ≡ Some later → MovesOn c.place later → StaysHeld p.held c.place q.held later
      → AreSlices bytes c.start later.sent → settled ≤ length later.sent → c.start + total (take settled later.sent) ≡ safe' → ((i : ℕ) → i < length nodes → settled ≤ later.received i) → LinkHolds q link id nodes safe' bytes
  holds_goes q later safe' settled told moves held slices few settles received = record {
    place = later;
    told = told;
    block = moves.block ∙ c.block;
    same_nodes = moves.nodes ∙ c.same_nodes;
    start = c.start;
    base = λ i within. subst (λ (b : List ℕ). (b ≡ take (length b) bytes) × (c.start ≤ length b) × (length b ≤ length bytes)) (sym (moves.base i (in_place i within))) (c.base i within);
    slices = slices;
    settled = settled;
    few = few;
    settles = settles;
    undisturbed = λ i within. moves.disturbed i (in_place i within) ∙ c.undisturbed i within;
    holds = λ i within. held i (in_place i within) (c.undisturbed i within) (c.holds i within);
    received = λ i within. (received i within, (moves.received i (in_place i within)).1);
  }

  -- what is settled is received still
  pub still_received : (later : WritePlace) → MovesOn c.place later → (i : ℕ) → i < length nodes → c.settled ≤ later.received i
  still_received later moves i within =
      let before = (c.received i within).0 in
      let after = (moves.received i (in_place i within)).0 in
      omega (arith, before, after)

  -- The link further on, with more packets behind, keeps it with as much settled as before.
  abbrev pub holds_on : (q : Picture) (later : WritePlace) (more : List Outgoing) → q.writes link ≡ Some later → MovesOn c.place later → StaysHeld p.held c.place q.held later
      → later.sent ≡ c.place.sent ++ more → AreSlices bytes (c.start + total c.place.sent) more → LinkHolds q link id nodes safe bytes
  holds_on q later more told moves held sent slices =
      holds_goes q later safe c.settled told moves held (subst (AreSlices bytes c.start) (sym sent) (slices_join bytes c.place.sent more c.start c.slices slices))
      (omega (arith, ap length sent, length-append c.place.sent more, c.few))
      (ap (λ (l : List Outgoing). c.start + total (take c.settled l)) sent ∙ ap (λ (l : List Outgoing). c.start + total l) (take-append-le c.settled c.place.sent more c.few) ∙ c.settles) (still_received later moves)

  -- a response of any kind keeps it
  pub holds_responds : (q : Picture) (response : Response) → Responds link response p q → LinkHolds q link id nodes safe bytes
  holds_responds q response responds =
      let t = responds.1 c.place c.told in
      holds_on q t.0 [] t.1 t.2 t.6 (t.3 ∙ sym (append-nil c.place.sent)) tt

  -- so does a packet that was sent, and one of which nobody knows, since the connection broke
  pub holds_sends : (q : Picture) (packet : Outgoing) → AreSlices bytes (c.start + total c.place.sent) (packet ∷ []) → Sends link (MayBeBehind packet) p q → LinkHolds q link id nodes safe bytes
  holds_sends q packet slice sends =
      let t = sends.1 c.place c.told in
      ⊎_elim
      (λ same. holds_on q t.0 [] t.1 t.2 t.6 (same ∙ sym (append-nil c.place.sent)) tt)
      (λ more. holds_on q t.0 (packet ∷ []) t.1 t.2 t.6 more slice)
      t.3

  -- more bytes that weren't sent yet keep it
  abbrev pub holds_longer : (more : List ℕ) → LinkHolds p link id nodes safe (bytes ++ more)
  holds_longer more = record {
    place = c.place;
    told = c.told;
    block = c.block;
    same_nodes = c.same_nodes;
    start = c.start;
    base = λ i within. (let b = c.base i within in (prefix_longer bytes more (c.place.base i) b.2 b.0, b.1, omega (arith, b.2, length-append bytes more)));
    slices = slices_longer bytes more c.place.sent c.start c.slices;
    settled = c.settled;
    few = c.few;
    settles = c.settles;
    undisturbed = c.undisturbed;
    holds = c.holds;
    received = c.received;
  }

  -- a picture with the same link, whose datanodes hold what they held of its block, keeps it
  abbrev pub holds_stays : (q : Picture) → q.writes link ≡ Some c.place → ((i : ℕ) → i < length nodes → q.held (slice_index_or nodes i []) id ≡ p.held (slice_index_or nodes i []) id) → LinkHolds q link id nodes safe bytes
  holds_stays q told same = record {
    place = c.place;
    told = told;
    block = c.block;
    same_nodes = c.same_nodes;
    start = c.start;
    base = c.base;
    slices = c.slices;
    settled = c.settled;
    few = c.few;
    settles = c.settles;
    undisturbed = c.undisturbed;
    holds = λ i within.
        (let here : q.held (node_at c.place i) c.place.block ≡ p.held (node_at c.place i) c.place.block =
        subst (λ (ns : List (List ℕ)). q.held (slice_index_or ns i []) c.place.block ≡ p.held (slice_index_or ns i []) c.place.block) (sym c.same_nodes)
        (subst (λ (b : ℕ). q.held (slice_index_or nodes i []) b ≡ p.held (slice_index_or nodes i []) b) (sym c.block) (same i within)) in
        here ∙ c.holds i within);
    received = c.received;
  }

  -- after the end, in the picture as if the link were still there
  ended_is : (q : Picture) → Releases link p q → (place : WritePlace) × LinkHolds (record q { writes = λ other. Some place }) link id nodes safe bytes
  ended_is q gone =
      let t = gone.2 c.place c.told in
      (t.0, holds_on (record q { writes = λ other. Some t.0 }) t.0 [] refl t.1 t.3 (t.2 ∙ sym (append-nil c.place.sent)) tt)

-- Once the link is gone each datanode holds a prefix with all that is acknowledged.
pub ended_holds : (p q : Picture) (link id : ℕ) (nodes : List (List ℕ)) (safe : ℕ) (bytes : List ℕ) → LinkHolds p link id nodes safe bytes → Releases link p q
    → (i : ℕ) → i < length nodes → HoldsPrefix (λ node. q.held node id) bytes (slice_index_or nodes i []) × (safe ≤ length (q.held (slice_index_or nodes i []) id))
ended_holds p q link id nodes safe bytes c gone =
    let e = ended_is p link id nodes safe bytes c q gone in
    each_holds (record q { writes = λ other. Some e.0 }) link id nodes safe bytes e.1

-- While nothing has failed.
module _ (p : Picture) (link id : ℕ) (nodes : List (List ℕ)) (safe : ℕ) (unacknowledged : List Outgoing) (bytes : List ℕ) (c : LinkCarries p link id nodes safe unacknowledged bytes) where
  -- each datanode of the link holds a prefix with all that is acknowledged
  pub node_holds : (i : ℕ) → i < length nodes → HoldsPrefix (λ node. p.held node id) bytes (slice_index_or nodes i []) × (safe ≤ length (p.held (slice_index_or nodes i []) id))
  node_holds = each_holds p link id nodes safe bytes c.on

  -- where all is acknowledged it holds all
  pub node_whole : (i : ℕ) → i < length nodes → length bytes ≤ safe → p.held (slice_index_or nodes i []) id ≡ bytes
  node_whole i within all =
      let h = node_holds i within in
      h.0 ∙ take_whole (length (p.held (slice_index_or nodes i []) id)) bytes (omega (arith, all, h.1))

  -- the packets that are not acknowledged wait
  pub awaits_from-LinkCarries : Awaits c.on.place unacknowledged
  awaits_from-LinkCarries = record {
    few = subst (λ (k : ℕ). k ≤ length c.on.place.sent) c.all c.on.few;
    behind = ap (λ (k : ℕ). drop k c.on.place.sent) (sym c.all) ∙ c.behind;
    received = λ i within. (let r = c.on.received i (subst (λ (ns : List (List ℕ)). i < length ns) c.on.same_nodes within) in (omega (arith, r.0, c.all), r.1));
  }

  -- where the next packet begins
  pub next_at : c.on.start + total c.on.place.sent ≡ safe + total unacknowledged
  next_at = omega (arith, c.on.settles, total_cut c.on.place.sent c.on.settled, ap total c.behind)

  -- The link further on keeps it, with what is acknowledged then: all that was sent but what waits.
  pub link_goes : (q : Picture) (later : WritePlace) (safe' : ℕ) (more waiting : List Outgoing) → q.writes link ≡ Some later → MovesOn c.on.place later → StaysHeld p.held c.on.place q.held later
      → later.sent ≡ c.on.place.sent ++ more → AreSlices bytes (safe + total unacknowledged) more → Awaits later waiting → safe' + total waiting ≡ safe + total unacknowledged + total more → LinkCarries q link id nodes safe' waiting bytes
  link_goes q later safe' more waiting told moves held sent slices awaits ends = record {
    on = holds_goes p link id nodes safe bytes c.on q later safe' later.acknowledged told moves held
        (subst (AreSlices bytes c.on.start) (sym sent) (slices_join bytes c.on.place.sent more c.on.start c.on.slices (subst (λ (k : ℕ). AreSlices bytes k more) (sym next_at) slices)))
        awaits.few
        (omega (arith, ends, next_at, ap total sent, total_join c.on.place.sent more, total_cut later.sent later.acknowledged, ap total awaits.behind))
        (λ i within. (awaits.received i (subst (λ (ns : List (List ℕ)). i < length ns) (sym (moves.nodes ∙ c.on.same_nodes)) within)).0);
    all = refl;
    behind = awaits.behind;
  }

  -- more bytes that weren't sent yet keep it
  pub link_longer : (more : List ℕ) → LinkCarries p link id nodes safe unacknowledged (bytes ++ more)
  link_longer more = record { on = holds_longer p link id nodes safe bytes c.on more; all = c.all; behind = c.behind }

  -- a picture with the same link, whose datanodes hold what they held of its block, keeps it
  pub link_stays : (q : Picture) → q.writes link ≡ Some c.on.place → ((i : ℕ) → i < length nodes → q.held (slice_index_or nodes i []) id ≡ p.held (slice_index_or nodes i []) id) → LinkCarries q link id nodes safe unacknowledged bytes
  link_stays q told same = record { on = holds_stays p link id nodes safe bytes c.on q told same; all = c.all; behind = c.behind }

  -- a packet was sent that follows on
  pub link_sends : (q : Picture) (packet : Outgoing) → Sends link (IsBehind packet) p q → AreSlices bytes (safe + total unacknowledged) (packet ∷ []) → LinkCarries q link id nodes safe (unacknowledged ++ packet ∷ []) bytes
  link_sends q packet sends slice =
      let t = sends.1 c.on.place c.on.told in
      link_goes q t.0 safe (packet ∷ []) (unacknowledged ++ packet ∷ []) t.1 t.2 t.6 t.3 slice
      (awaits_sends p q link c.on.place c.on.told unacknowledged packet sends awaits_from-LinkCarries)
      (omega (arith, total_join unacknowledged (packet ∷ [])))

  -- the first packet that isn't acknowledged was acknowledged by all datanodes
  pub link_acknowledges : (q : Picture) (packet : Outgoing) (rest : List Outgoing) (ack : Ack) → unacknowledged ≡ packet ∷ rest → seqno_of packet ≡ ack.seqno → length ack.replies ≡ length nodes → All (λ status. status ≡ 0) ack.replies
      → Responds link (Came ack) p q → LinkCarries q link id nodes (safe + length packet.payload) rest bytes
  link_acknowledges q packet rest ack first same count fine responds =
      let t = responds.1 c.on.place c.on.told in
      link_goes q t.0 (safe + length packet.payload) [] rest t.1 t.2 t.6 (t.3 ∙ sym (append-nil c.on.place.sent)) tt
      (awaits_acknowledges p q link c.on.place c.on.told packet rest ack responds (subst (Awaits c.on.place) first awaits_from-LinkCarries) same (count ∙ ap length (sym c.on.same_nodes)) fine)
      (omega (arith, ap total first))
