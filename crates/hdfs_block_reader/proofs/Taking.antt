-- How a read goes on over a packet that was given.
use Rattle.std.proofs.Common.{◌≡◌, inl, inr, ⊎_elim, ℕ, zero, suc, true, ℤ, pos, ◌+◌, ◌<◌, ◌≤◌, List, length, take, drop, Option, Some, None, refl, sym, ◌∙◌, ap, subst, arith}
use Rattle.std.proofs.lemmas.Bool.{cases_eq}
use Rattle.hdfs_cluster.specs.declared.messages.LocatedBlock.{LocatedBlock}
use Rattle.hdfs_cluster.specs.declared.picture.OpenRead.{OpenRead}
use Rattle.hdfs_cluster.specs.declared.picture.ReadPlace.{ReadPlace}
use Rattle.hdfs_cluster.specs.Counts.{FaultCounts, NeverFall, Rose}
use Rattle.hdfs_cluster.specs.Picture.{Picture}
use Rattle.hdfs_cluster.specs.Reading.{ReadsAt, Gives, IsSlice, placed_at}
use Rattle.hdfs_cluster.specs.Shown.{Shown, OnlyReads, Given, HasFailedSince}
use Rattle.hdfs_cluster.proofs.Frames.{told_after, told_weaker, only_reads_from-Reading}
use Rattle.hdfs_wire.specs.Checksums.{IsChecked}
use Rattle.hdfs_wire.specs.declared.read_packet.ReadPacket.{ReadPacket}
use Rattle.hdfs_block_reader.specs.Blocks.{node_at, node_count, held_at, IsToBlame}
use Rattle.hdfs_block_reader.specs.Reader.{tried_of, Holds, IsNodeAt, LinkHolds, OthersStay, PlaceIs, PlacedIn, ShowsBlock, stage_of, before_opening, before_link}
use Rattle.hdfs_block_reader.specs.Going.{Frame, Goes, Accepts, IsPartOf, count_at, gives_up}
use Rattle.hdfs_block_reader.specs.declared.block_read.BlockRead.{BlockRead}
use Rattle.hdfs_block_reader.specs.declared.given_up.GivenUp.{GivenUp}
use Rattle.hdfs_block_reader.specs.declared.given_up.GivenUp.TheVariants as reasons
use Rattle.hdfs_block_reader.specs.declared.packets.Step.{Step}
use Rattle.hdfs_block_reader.specs.declared.packets.Step.TheVariants as steps
use Rattle.hdfs_block_reader.proofs.Joining.{asks_same, frame_trans}
use Rattle.hdfs_block_reader.proofs.Going.{before_link_le, shows_later, gave_up_goes}
use Rattle.hdfs_block_reader.proofs.Locations.{stays_same, moves_on}
use Rattle.hdfs_block_reader.proofs.Ranges.{part_of_block}

-- one whole number is two natural ones only where they are the same
pos_same : (a b : ℕ) (z : ℤ) → z ≡ pos a → z ≡ pos b → a ≡ b
pos_same a b z x y = cc

-- what isn't above 0 is 0
zero_from_not_below : (n : ℕ) → (0 < n → ⊥) → n ≡ 0
zero_from_not_below zero h = refl
zero_from_not_below (suc n) h = absurd (h (omega arith))

-- a reader that differs from another only in that it is further in the range, and in that bytes have come
pub record SameRead (r r' : BlockRead) : Type 0 where
  pub block : r'.block ≡ r.block
  pub client : r'.client ≡ r.client
  pub wanted : r.wanted ≤ r'.wanted
  pub end : r'.end ≡ r.end
  pub given_up : r'.given_up ≡ r.given_up
  pub link : r'.link ≡ r.link
  pub moved : r.moved ≡ true → r'.moved ≡ true

-- a packet was given
module _ (s t : Shown) (r : BlockRead) (l : ℕ) (packet : ReadPacket) (holds : Holds s r) (is_link' : r.link ≡ Some l) (given : Given s l packet t) where
  -- only a packet was read
  given_only : OnlyReads s t
  given_only = only_reads_from-Reading l s t given.reading

  -- every link is open as before
  same_reads : (m : ℕ) → t.reads m ≡ s.reads m
  same_reads m = ⊎_elim (λ e. ap t.reads e ∙ given.still_open ∙ sym (ap s.reads e)) (λ ne. given.reading.others m ne) (cases_eq m l)

  -- other links keep their places
  same_places : (p q : Picture) → ReadsAt l p q → OthersStay s r p q
  same_places p q at m other some = at.others m (λ same. other (is_link' ∙ ap Some (sym same)))

  -- the kept link still holds
  given_link : (m : ℕ) → LinkHolds s r m → LinkHolds t r m
  given_link m h = (h.0, h.1, same_reads m ∙ h.2, h.3, omega (arith, h.4, given_only.later.counts.nodes (node_at r.block (tried_of r))))

  -- the reader as it was
  pub given_frame : Frame s t r r
  given_frame = record {
    block = refl;
    client = refl;
    wanted = omega arith;
    end = refl;
    only = given_only;
    others = λ m other is. same_reads m;
    places = told_weaker (ReadsAt l) (OthersStay s r) s.picture t.picture same_places given.reading.picture;
    own = λ m is. inl is;
    asks = asks_same s t r r refl same_reads;
    frees = λ m not_its free. ⊎_elim (λ its. absurd (not_its its)) (λ none. same_reads m ∙ none) free;
    holds = record { range = holds.range; tried = holds.tried; link = λ m is. given_link m (holds.link m is); position = holds.position };
  }

  -- the next packet begins at the wanted offset at the latest
  place_behind : (position : Option ℕ) (place : ℕ) → ((at : ℕ) → position ≡ Some at → at ≤ r.wanted) → PlaceIs position r.wanted place → place ≤ r.wanted
  place_behind None place stood is = is
  place_behind (Some at) place stood is = omega (arith, stood at refl, is)

  -- and where the one before it ended
  place_follows : (position : Option ℕ) (place : ℕ) → PlaceIs position r.wanted place → (at : ℕ) → position ≡ Some at → place ≡ at
  place_follows None place is at same = absurd (cc)
  place_follows (Some x) place is at same = let e : x ≡ at = cc in is ∙ e

  -- the read that the kept link is
  abbrev pub open_here : LinkHolds s r l
  open_here = holds.link l is_link'

  abbrev pub opened : OpenRead
  opened = open_here.1

  -- the count of its datanode just before it was opened
  before_here : (stage_of s r).before ≡ opened.before
  before_here =
      ap (λ (link : Option ℕ). before_link s link (count_at s r)) is_link'
      ∙ ap (λ (o : Option OpenRead). before_opening o (count_at s r)) open_here.2

  -- a datanode that has failed since then is to blame
  failed_blame : HasFailedSince opened t → (now : FaultCounts) → NeverFall t.counts now → (bytes : List ℕ) (p : Picture) → IsToBlame p r.block bytes (tried_of r) (stage_of s r).before now
  failed_blame failed now later bytes p =
      let rose : Rose opened.before (count_at t r) = subst (λ (d : List ℕ). Rose opened.before (t.counts.nodes d)) open_here.3.node failed in
      inl (omega (arith, before_here, rose, later.nodes (node_at r.block (tried_of r))))

  -- and so is one whose packet's checksums don't hold
  pub unchecked_blame : ((IsChecked opened.checksums packet) → ⊥) → (now : FaultCounts) → NeverFall t.counts now → (bytes : List ℕ) (p : Picture) → IsToBlame p r.block bytes (tried_of r) (stage_of s r).before now
  unchecked_blame never now later bytes p =
      failed_blame (⊎_elim (λ checked. absurd (never checked)) (λ failed. failed) (given.checked opened open_here.2)) now later bytes p

  -- where the link stands in a told picture
  abbrev Placed : Picture → Type 0
  Placed p =
      (read : ReadPlace) × (p.reads l ≡ Some read) × (read.base ≡ held_at p r.block (tried_of r)) × (read.offset + read.len ≡ r.end)
      × PlaceIs r.position r.wanted read.place

  -- nothing lets the packet stand there
  abbrev IsMisplaced : Type 0
  IsMisplaced =
      (start : ℕ) → packet.header.offset_in_block ≡ pos start → start ≤ r.wanted → ((at : ℕ) → r.position ≡ Some at → start ≡ at)
      → 0 < length packet.payload → ⊥

  -- a slice that can't stand there is empty, since the node doesn't hold the block whole
  slice_blame : r.wanted < r.end → IsMisplaced → (bytes : List ℕ) (shows : ShowsBlock s r bytes) (here : Placed shows.picture) → IsSlice here.0 packet
      → (now : FaultCounts) → IsToBlame shows.picture r.block bytes (tried_of r) (stage_of s r).before now
  slice_blame more never bytes shows here slice now =
      let behind = place_behind r.position here.0.place (λ at is. holds.position at is more) here.4 in
      let empty : length packet.payload ≡ 0 = zero_from_not_below (length packet.payload) (never here.0.place slice.offset behind (place_follows r.position here.0.place here.4)) in
      let short : length here.0.base ≤ here.0.place = ⊎_elim (λ past. absurd (omega (arith, past, here.3, behind, more))) (λ e. e) (slice.goes_on empty) in
      inr (omega (arith, ap length here.2, short, behind, more, shows.within))

  -- what the packet is in a told picture
  gives_here : (bytes : List ℕ) (shows : ShowsBlock s r bytes)
      → (q : Picture) × (t.picture ≡ Some q) × Gives l opened.checksums (HasFailedSince opened t) packet shows.picture q
  gives_here bytes shows =
      told_after (Gives l opened.checksums (HasFailedSince opened t) packet) s.picture t.picture shows.picture (given.gives opened open_here.2) shows.told

  -- a packet that can't stand there: its datanode has failed, or doesn't hold the block whole
  pub misplaced_blame : r.wanted < r.end → IsMisplaced → (now : FaultCounts) → NeverFall t.counts now
      → (bytes : List ℕ) (shows : ShowsBlock s r bytes) → IsToBlame shows.picture r.block bytes (tried_of r) (stage_of s r).before now
  misplaced_blame more never now later bytes shows =
      let here = shows.placed l is_link' in
      ⊎_elim
      (λ slice. slice_blame more never bytes shows here slice now)
      (λ other. failed_blame other.0 now later bytes shows.picture)
      ((gives_here bytes shows).2.slice here.0 here.1)

  -- the location was given up behind the packet
  module _ (u : Shown) (r' : BlockRead) (more : r.wanted < r.end) (frame : Frame t u r r') where
    -- since it can't stand there
    pub misplaced_goes : IsMisplaced → r' ≡ gives_up r reasons.Misplaced → Goes s u r r'
    misplaced_goes never is =
        gave_up_goes s u r reasons.Misplaced r' is (frame_trans s t u r r r' given_frame frame) (misplaced_blame more never u.counts frame.only.later.counts) (moves_on s u r r' reasons.Misplaced is refl)

    -- or since its checksums don't hold
    pub damaged_goes : (IsChecked opened.checksums packet → ⊥) → r' ≡ gives_up r reasons.Damaged → Goes s u r r'
    damaged_goes never is =
        gave_up_goes s u r reasons.Damaged r' is (frame_trans s t u r r r' given_frame frame) (λ bytes shows. unchecked_blame never u.counts frame.only.later.counts bytes shows.picture) (moves_on s u r r' reasons.Damaged is refl)

  -- the reader took what it wanted from the packet
  module _ (r' : BlockRead) (start end : ℕ) (same : SameRead r r') (offset : packet.header.offset_in_block ≡ pos start) (ends : end ≡ start + length packet.payload) (position : r'.position ≡ Some end) where
    -- it tries the same location
    same_tried : tried_of r' ≡ tried_of r
    same_tried = ap (λ (given : List GivenUp). length given) same.given_up

    -- the link's place moved with the reader
    accepted_placed : (bytes : List ℕ) → ShowsBlock s r bytes → (q : Picture) → t.picture ≡ Some q → PlacedIn q r'
    accepted_placed bytes shows q told m is =
        let after = gives_here bytes shows in
        let same_q : after.0 ≡ q = cc (after.1, told) in
        let here = shows.placed l is_link' in
        let this : l ≡ m = cc (is_link', same.link, is) in
        let held : q.held (node_at r.block (tried_of r)) r.block.b.block_id ≡ shows.picture.held (node_at r.block (tried_of r)) r.block.b.block_id =
        ap (λ (x : Picture). x.held (node_at r.block (tried_of r)) r.block.b.block_id) (sym same_q) ∙ after.2.rest.files.held (node_at r.block (tried_of r)) r.block.b.block_id in (
          placed_at here.0 (start + length packet.payload),
          ap q.reads (sym this) ∙ ap (λ (x : Picture). x.reads l) (sym same_q) ∙ after.2.moved here.0 here.1 start offset,
          here.2 ∙ sym held ∙ sym (ap (λ (b : LocatedBlock). held_at q b (tried_of r')) same.block ∙ ap (λ (k : ℕ). held_at q r.block k) same_tried),
          here.3 ∙ sym same.end,
          subst (λ (o : Option ℕ). PlaceIs o r'.wanted (start + length packet.payload)) (sym position) (omega (arith, ends)),
        )

    -- no other link was opened
    accepted_before : (stage_of s r).before ≤ (stage_of t r').before
    accepted_before =
        subst (λ (link : Option ℕ). (stage_of s r).before ≤ before_link t link (t.counts.nodes (node_at r'.block (tried_of r')))) (sym same.link)
        (subst (λ (b : LocatedBlock). (stage_of s r).before ≤ before_link t r.link (t.counts.nodes (node_at b (tried_of r')))) (sym same.block)
        (subst (λ (k : ℕ). (stage_of s r).before ≤ before_link t r.link (t.counts.nodes (node_at r.block k))) (sym same_tried)
        (before_link_le s t r.link (count_at s r) (count_at t r) same_reads (given_only.later.counts.nodes (node_at r.block (tried_of r))))))

    -- which is the same datanode
    same_node : node_at r'.block (tried_of r') ≡ node_at r.block (tried_of r)
    same_node = ap (λ (b : LocatedBlock). node_at b (tried_of r')) same.block ∙ ap (node_at r.block) same_tried

    -- the kept link still holds
    accepted_link : (m : ℕ) → r'.link ≡ Some m → LinkHolds t r' m
    accepted_link m is =
        let h = given_link m (holds.link m (sym same.link ∙ is)) in (
          omega (arith, h.0, same_tried, ap node_count same.block),
          h.1,
          h.2,
          record {
            node = h.3.node ∙ sym same_node;
            listed = subst (λ (b : LocatedBlock). IsNodeAt b (tried_of r') h.1.ask.node) (sym same.block)
                (subst (λ (k : ℕ). IsNodeAt r.block k h.1.ask.node) (sym same_tried) h.3.listed);
            same_block = h.3.same_block ∙ sym (ap (λ (b : LocatedBlock). b.b) same.block);
            token = h.3.token ∙ sym (ap (λ (b : LocatedBlock). b.block_token) same.block);
            same_client = h.3.same_client ∙ sym same.client;
            same_end = h.3.same_end ∙ sym same.end;
          },
          omega (arith, h.4, ap t.counts.nodes same_node),
        )

    -- so the reader goes on
    pub accepted_goes : r'.wanted ≤ r'.end → (r'.wanted < r'.end → end ≤ r'.wanted) → Goes s t r r'
    accepted_goes range behind = record {
      frame = record {
        block = same.block;
        client = same.client;
        wanted = same.wanted;
        end = same.end;
        only = given_only;
        others = λ m other is. same_reads m;
        places = told_weaker (ReadsAt l) (OthersStay s r) s.picture t.picture same_places given.reading.picture;
        own = λ m is. inl (sym same.link ∙ is);
        asks = asks_same s t r r' same.link same_reads;
        frees = λ m not_its free. ⊎_elim (λ its. absurd (not_its (same.link ∙ its))) (λ none. same_reads m ∙ none) free;
        holds = record {
          range = range;
          tried = subst (λ (b : LocatedBlock). tried_of r' ≤ node_count b) (sym same.block) (let e : tried_of r' ≤ node_count r.block = omega (arith, same_tried, holds.tried) in e);
          link = accepted_link;
          position = λ at is more. (let e : end ≡ at = cc (position, is) in omega (arith, e, behind more));
        };
      };
      shows = λ bytes shows. shows_later s t r r' bytes shows given_only same.block same.end (accepted_placed bytes shows);
      gives_up = λ bytes shows. (zero, (same_tried, accepted_before, given_only.later.counts));
      locations = inl (stays_same s t r r' same.given_up same.moved);
    }

  -- such a reader by an equation
  same_read : (r' x : BlockRead) → r' ≡ x → x.block ≡ r.block → x.client ≡ r.client → r.wanted ≤ x.wanted → x.end ≡ r.end → x.given_up ≡ r.given_up → x.link ≡ r.link
      → (r.moved ≡ true → x.moved ≡ true) → SameRead r r'
  same_read r' x is b c w e k o m = record {
    block = ap (λ (y : BlockRead). y.block) is ∙ b;
    client = ap (λ (y : BlockRead). y.client) is ∙ c;
    wanted = omega (arith, w, ap (λ (y : BlockRead). y.wanted) is);
    end = ap (λ (y : BlockRead). y.end) is ∙ e;
    given_up = ap (λ (y : BlockRead). y.given_up) is ∙ k;
    link = ap (λ (y : BlockRead). y.link) is ∙ o;
    moved = λ moved. ap (λ (y : BlockRead). y.moved) is ∙ m moved;
  }

  -- whatever was taken from the packet, the reader goes on
  pub goes_from-Accepts : (r' : BlockRead) (start end : ℕ) (step : Step) → Accepts r start end packet.payload step r' → packet.header.offset_in_block ≡ pos start → end ≡ start + length packet.payload → Goes s t r r'
  goes_from-Accepts r' start end (steps.Piece bytes) h offset ends =
      let same = same_read r' (record r { position = Some end; wanted = r.wanted + length bytes; moved = true }) h.0 refl refl (omega arith) refl refl refl (λ moved. refl) in
      accepted_goes r' start end same offset ends (ap (λ (y : BlockRead). y.position) h.0) (omega (arith, h.3, same.end)) (λ lt. h.5 (omega (arith, lt, same.end)))
  goes_from-Accepts r' start end steps.Before h offset ends =
      let same = same_read r' (record r { position = Some end }) h.0 refl refl (omega arith) refl refl refl (λ moved. moved) in
      let wanted : r'.wanted ≡ r.wanted = ap (λ (y : BlockRead). y.wanted) h.0 in
      accepted_goes r' start end same offset ends (ap (λ (y : BlockRead). y.position) h.0) (omega (arith, wanted, same.end, holds.range)) (λ lt. omega (arith, wanted, h.1))
  goes_from-Accepts r' start end steps.Failed h offset ends = absurd h

  -- a packet whose checksums hold has the bytes of the base where it says
  bytes_here : IsChecked opened.checksums packet → (start : ℕ) → packet.header.offset_in_block ≡ pos start → (bytes : List ℕ) (shows : ShowsBlock s r bytes) (here : Placed shows.picture)
      → packet.payload ≡ take (length packet.payload) (drop start here.0.base)
  bytes_here checked start offset bytes shows here =
      ⊎_elim
      (λ slice. (let at : here.0.place ≡ start = pos_same here.0.place start packet.header.offset_in_block slice.offset offset in
      subst (λ (a : ℕ). packet.payload ≡ take (length packet.payload) (drop a here.0.base)) at slice.bytes))
      (λ other. other.1.bytes checked start offset)
      ((gives_here bytes shows).2.slice here.0 here.1)

  -- what is given stands there in the block
  pub part_from-Accepts : IsChecked opened.checksums packet → (r' : BlockRead) (start end : ℕ) (step : Step) → Accepts r start end packet.payload step r' → packet.header.offset_in_block ≡ pos start → end ≡ start + length packet.payload → start ≤ r.wanted
      → (block : List ℕ) → ShowsBlock s r block → IsPartOf block r.wanted step
  part_from-Accepts checked r' start end (steps.Piece bytes) h offset ends behind block shows =
      let here = shows.placed l is_link' in
      let first : here.0.base ≡ take (length here.0.base) block = subst (λ (b : List ℕ). b ≡ take (length b) block) (sym here.2) (shows.prefixes (tried_of r) open_here.0) in
      let moved : r'.wanted ≡ r.wanted + length bytes = ap (λ (y : BlockRead). y.wanted) h.0 in
      part_of_block block here.0.base packet.payload bytes start r.wanted (length bytes) first (bytes_here checked start offset block shows here) h.2 refl h.1 behind (omega (arith, ends, moved, h.4))
  part_from-Accepts checked r' start end steps.Before h offset ends behind block shows = tt
  part_from-Accepts checked r' start end steps.Failed h offset ends behind block shows = absurd h
