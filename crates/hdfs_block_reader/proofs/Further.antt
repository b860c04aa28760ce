-- A write link over several calls: how they join, and what it carries then.
use Rattle.std.proofs.Common.{◌≡◌, ◌⊎◌, inl, inr, ⊎_elim, ℕ, ◌+◌, ◌<◌, ◌≤◌, List, [], ◌∷◌, ◌++◌, length, take, Some, refl, sym, ◌∙◌, ap, subst, arith, append_assoc}
use Rattle.std.proofs.lemmas.List.{append-nil, take-append-le}
use Rattle.std.specs.List.{slice_index_or}
use Rattle.hdfs_wire.specs.Outgoing.{Outgoing}
use Rattle.hdfs_cluster.specs.Picture.{Picture, SamePicture}
use Rattle.hdfs_cluster.specs.Sending.{WritePlace, MovesOn, StaysHeld, Response}
use Rattle.hdfs_cluster.specs.Writing.{Sends, IsBehind, MayBeBehind, Responds}
use Rattle.hdfs_block_reader.specs.Carrying.{total, AreSlices, LinkHolds, LinkCarries, LinkGoesOn, ReceivesSent, WritesFurther, Awaits}
use Rattle.hdfs_block_reader.proofs.Prefixes.{slices_join, total_more}
use Rattle.hdfs_block_reader.proofs.Links.{holds_goes, holds_on, link_goes, still_received}
use Rattle.hdfs_block_reader.proofs.OnlyBlocks.{only_block_trans, only_block_same, only_block_from-SamePicture, only_block_from-Sends, only_block_from-Responds}

-- a place is further on as it is
pub moves_on_refl : (place : WritePlace) → ReceivesSent place → MovesOn place place
moves_on_refl place sent = record { block = refl; nodes = refl; base = λ i within. refl; received = λ i within. (omega arith, sent i within); disturbed = λ i within. refl }

pub moves_on_trans : (a b c : WritePlace) → MovesOn a b → MovesOn b c → MovesOn a c
moves_on_trans a b c f g = record {
  block = g.block ∙ f.block;
  nodes = g.nodes ∙ f.nodes;
  base = λ i within. g.base i (there i within) ∙ f.base i within;
  received = λ i within. (let one = (f.received i within).0 in let two = g.received i (there i within) in (omega (arith, one, two.0), two.1));
  disturbed = λ i within. g.disturbed i (there i within) ∙ f.disturbed i within;
}
  where
    there : (i : ℕ) → i < length a.nodes → i < length b.nodes
    there i within = subst (λ (ns : List (List ℕ)). i < length ns) (sym f.nodes) within

pub stays_held_trans : (held held' held'' : List ℕ → ℕ → List ℕ) (a b c : WritePlace) → MovesOn a b → StaysHeld held a held' b → StaysHeld held' b held'' c → StaysHeld held a held'' c
stays_held_trans held held' held'' a b c moves f g i within still holds =
    g i (subst (λ (ns : List (List ℕ)). i < length ns) (sym moves.nodes) within) (moves.disturbed i within ∙ still) (f i within still holds)

-- what was received was sent, further on too
pub receives_sent_after : (a b : WritePlace) → MovesOn a b → ReceivesSent b
receives_sent_after a b moves i within = (moves.received i (subst (λ (ns : List (List ℕ)). i < length ns) moves.nodes within)).1

-- where nothing changed the link is further on as it is
abbrev pub further_from-SamePicture : (p q : Picture) (link : ℕ) (place : WritePlace) → SamePicture p q → p.writes link ≡ Some place → ReceivesSent place → LinkGoesOn p q link place
further_from-SamePicture p q link place same told sent = record {
  later = place;
  at = same.rest.writes link ∙ told;
  moves = moves_on_refl place sent;
  held = λ i within still holds. same.rest.files.held (slice_index_or place.nodes i []) place.block ∙ holds;
  only = only_block_from-SamePicture place.block place.nodes p q same;
  more = [];
  sent = sym (append-nil place.sent);
}

-- further on from further on
abbrev pub further_trans : (p q r : Picture) (link : ℕ) (place : WritePlace) → (f : LinkGoesOn p q link place) → LinkGoesOn q r link f.later → LinkGoesOn p r link place
further_trans p q r link place f g = record {
  later = g.later;
  at = g.at;
  moves = moves_on_trans place f.later g.later f.moves g.moves;
  held = stays_held_trans p.held q.held r.held place f.later g.later f.moves f.held g.held;
  only = only_block_trans place.block place.nodes p q r f.only (only_block_same f.later.block place.block f.later.nodes place.nodes q r f.moves.block f.moves.nodes g.only);
  more = f.more ++ g.more;
  sent = g.sent ∙ ap (λ (l : List Outgoing). l ++ g.more) f.sent ∙ append_assoc place.sent f.more g.more;
}

module _ (p q : Picture) (link : ℕ) (place : WritePlace) (told : p.writes link ≡ Some place) where
  -- a call on the link that leaves behind what was sent
  abbrev pub further_from-Sends : (P : List Outgoing → List Outgoing → Type 0) (more : List Outgoing) → (sends : Sends link P p q) → (sends.1 place told).0.sent ≡ place.sent ++ more → LinkGoesOn p q link place
  further_from-Sends P more sends sent = record {
    later = (sends.1 place told).0;
    at = (sends.1 place told).1;
    moves = (sends.1 place told).2;
    held = (sends.1 place told).6;
    only = only_block_from-Sends p q link place told P sends;
    more = more;
    sent = sent;
  }

  -- a packet was sent
  abbrev pub further_sends : (packet : Outgoing) → Sends link (IsBehind packet) p q → LinkGoesOn p q link place
  further_sends packet sends = further_from-Sends (IsBehind packet) (packet ∷ []) sends (sends.1 place told).3

  -- a packet may have been sent
  pub further_may_send : (packet : Outgoing) → Sends link (MayBeBehind packet) p q → (further : LinkGoesOn p q link place) × ((further.more ≡ []) ⊎ (further.more ≡ packet ∷ []))
  further_may_send packet sends = ⊎_elim
      (λ same. (further_from-Sends (MayBeBehind packet) [] sends (same ∙ sym (append-nil place.sent)), inl refl))
      (λ more. (further_from-Sends (MayBeBehind packet) (packet ∷ []) sends more, inr refl))
      (sends.1 place told).3

  -- a response came
  abbrev pub further_responds : (response : Response) → Responds link response p q → LinkGoesOn p q link place
  further_responds response responds = record {
    later = (responds.1 place told).0;
    at = (responds.1 place told).1;
    moves = (responds.1 place told).2;
    held = (responds.1 place told).6;
    only = only_block_from-Responds p q link place told response responds;
    more = [];
    sent = (responds.1 place told).3 ∙ sym (append-nil place.sent);
  }

pub writes_further_from-SamePicture : (link : ℕ) (p q : Picture) → SamePicture p q → WritesFurther link p q
writes_further_from-SamePicture link p q same place told sent = further_from-SamePicture p q link place same told sent

pub writes_further_trans : (link : ℕ) (p q r : Picture) → WritesFurther link p q → WritesFurther link q r → WritesFurther link p r
writes_further_trans link p q r f g place told sent =
    let one = f place told sent in
    further_trans p q r link place one (g one.later one.at (receives_sent_after place one.later one.moves))

pub writes_further_from-Sends : (link : ℕ) (p q : Picture) (packet : Outgoing) → Sends link (IsBehind packet) p q → WritesFurther link p q
writes_further_from-Sends link p q packet sends place told sent = further_sends p q link place told packet sends

pub writes_further_from-broken : (link : ℕ) (p q : Picture) (packet : Outgoing) → Sends link (MayBeBehind packet) p q → WritesFurther link p q
writes_further_from-broken link p q packet sends place told sent = (further_may_send p q link place told packet sends).0

pub writes_further_from-Responds : (link : ℕ) (p q : Picture) (response : Response) → Responds link response p q → WritesFurther link p q
writes_further_from-Responds link p q response responds place told sent = further_responds p q link place told response responds

-- What a link holds it holds further on.
module _ (p q : Picture) (link id : ℕ) (nodes : List (List ℕ)) (safe : ℕ) (bytes : List ℕ) (c : LinkHolds p link id nodes safe bytes) where
  -- the datanodes of the link have received no more than was sent
  pub receives_sent : ReceivesSent c.place
  receives_sent i within = (c.received i (subst (λ (ns : List (List ℕ)). i < length ns) c.same_nodes within)).1

  module _ (further : LinkGoesOn p q link c.place) (slices : AreSlices bytes (c.start + total c.place.sent) further.more) where
    -- with as much acknowledged as before
    pub holds_further : LinkHolds q link id nodes safe bytes
    holds_further = holds_on p link id nodes safe bytes c q further.later further.more further.at further.moves further.held further.sent slices

    -- with all the packets acknowledged that each datanode has received
    pub holds_settled : (settled : ℕ) → settled ≤ length further.later.sent → ((i : ℕ) → i < length nodes → settled ≤ further.later.received i)
        → LinkHolds q link id nodes (c.start + total (take settled further.later.sent)) bytes
    holds_settled settled few received =
        holds_goes p link id nodes safe bytes c q further.later (c.start + total (take settled further.later.sent)) settled further.at further.moves further.held
        (subst (AreSlices bytes c.start) (sym further.sent) (slices_join bytes c.place.sent further.more c.start c.slices slices)) few refl received

    -- these are no fewer bytes
    pub safe_grows : (settled : ℕ) → c.settled ≤ settled → safe ≤ c.start + total (take settled further.later.sent)
    safe_grows settled more =
        let same : take c.settled further.later.sent ≡ take c.settled c.place.sent = ap (take c.settled) further.sent ∙ take-append-le c.settled c.place.sent further.more c.few in
        omega (arith, c.settles, ap total same, total_more further.later.sent c.settled settled more)

    -- no datanode of it has less of the block
    pub held_by_each : (i : ℕ) → i < length nodes → c.settled ≤ further.later.received i
    held_by_each i within = still_received p link id nodes safe bytes c further.later further.moves i within

-- While nothing has failed, it carries further on what it carried, but what waits then.
pub link_further : (p q : Picture) (link id : ℕ) (nodes : List (List ℕ)) (safe : ℕ) (unacknowledged : List Outgoing) (bytes : List ℕ) (c : LinkCarries p link id nodes safe unacknowledged bytes) (further : LinkGoesOn p q link c.on.place)
    → AreSlices bytes (safe + total unacknowledged) further.more → (safe' : ℕ) (waiting : List Outgoing) → Awaits further.later waiting → safe' + total waiting ≡ safe + total unacknowledged + total further.more
    → LinkCarries q link id nodes safe' waiting bytes
link_further p q link id nodes safe unacknowledged bytes c further slices safe' waiting awaits ends =
    link_goes p link id nodes safe unacknowledged bytes c q further.later safe' further.more waiting further.at further.moves further.held further.sent slices awaits ends
