-- What is settled in the picture while a pipeline is driven.
use Rattle.std.proofs.Common.{◌≡◌, ⊎_elim, ℕ, ℤ, zero, suc, ◌+◌, ◌<◌, ◌≤◌, true, List, [], ◌∷◌, ◌++◌, length, take, drop, Option, Some, None, IsSome, refl, sym, ◌∙◌, ap, subst, arith, take-append-drop}
use Rattle.std.specs.Prelude.{get_or}
use Rattle.std.proofs.lemmas.Bool.Decides.{nat_tests}
use Rattle.std.proofs.lemmas.List.{length-take-le, append-nil, drop_more, length-append, drop-append-le}
use Rattle.hdfs_wire.specs.Outgoing.{Outgoing}
use Rattle.hdfs_wire.specs.declared.ack.Ack.{Ack}
use Rattle.hdfs_cluster.specs.Picture.{Picture, SamePicture, Told}
use Rattle.hdfs_cluster.specs.Pipes.{WritesLink, IsStillOpen}
use Rattle.hdfs_cluster.specs.Sending.{WritePlace, Response, Came, MovesOn, node_at, IsDue, Acknowledges}
use Rattle.hdfs_cluster.specs.Shown.{Shown}
use Rattle.hdfs_cluster.specs.Writing.{OnlyBlock, GoesFurther, WritesAt, Sends, Responds}
use Rattle.hdfs_cluster.proofs.Frames.{told_after}
use Rattle.hdfs_pipeline.proofs.Rows.{writes}
use Rattle.hdfs_pipeline.specs.Pipelines.{Pipeline}
use Rattle.hdfs_pipeline.specs.Places.{are_fine}
use Rattle.hdfs_pipeline.specs.Driving.{OnLink, Settles, SentMore}

-- a call on a link changes nothing but its block at its datanodes
pub only_from-WritesAt : (link : ℕ) (p q : Picture) (place : WritePlace) → WritesAt link p q → p.writes link ≡ Some place → OnlyBlock place.block place.nodes p q
only_from-WritesAt link p q place h is = record {
  records = h.records;
  held = λ node other away. h.held place is node other away;
  writes = λ other place' at apart. ⊎_elim (λ alone. alone.0) (λ disturbed. absurd (apart disturbed.2.shared)) (h.others place is other place' (λ same. apart (cc)) at);
}

-- the same picture is no further, where no datanode is shown to have more than was sent
pub same_further : (p q : Picture) (place : WritePlace) → ((i : ℕ) → i < length place.nodes → place.received i ≤ length place.sent) → SamePicture p q → GoesFurther p place q place
same_further p q place within same = record {
  moves = record { block = refl; nodes = refl; base = λ i below. refl; received = λ i below. (omega arith, within i below); disturbed = λ i below. refl };
  stays = λ i below undisturbed holds. same.rest.files.held (node_at place i) place.block ∙ holds;
  only = record {
    records = record { names = same.rest.files.names; table = same.rest.files.table; active = same.active; defaults = same.rest.files.defaults; reads = same.rest.reads };
    held = λ node other away. same.rest.files.held node other;
    writes = λ other place' at apart. same.rest.writes other ∙ at;
  };
}

-- a call that names a link, and leaves it open
pub on_link : (link : ℕ) (a b : Shown) → WritesLink link a b → IsStillOpen a link b → OnLink link a b
on_link link a b writes still = record { only = writes.only; others = writes.others; still_open = still }

fine_at : (statuses : List ℕ) (i : ℕ) → are_fine statuses ≡ true → i < length statuses → get_or statuses i 1 ≡ 0
fine_at [] i fine below = absurd (omega arith)
fine_at (status ∷ statuses) zero fine below = grind (arith, nat_tests, fine)
fine_at (status ∷ statuses) (suc i) fine below = fine_at statuses i (grind (arith, nat_tests, fine)) (omega (arith, below))

below_from_drop : {X : Type 0} (xs : List X) (n : ℕ) (x : X) (rest : List X) → drop n xs ≡ x ∷ rest → n < length xs
below_from_drop [] zero x rest is = absurd (cc)
below_from_drop [] (suc n) x rest is = absurd (cc)
below_from_drop (y ∷ xs) zero x rest is = omega arith
below_from_drop (y ∷ xs) (suc n) x rest is = omega (arith, below_from_drop xs n x rest is)

one_more : {X : Type 0} (xs : List X) (n : ℕ) (x : X) (rest : List X) → drop n xs ≡ x ∷ rest → drop (n + 1) xs ≡ rest
one_more xs n x rest is =
    let parts : get_or xs n x ∷ drop (n + 1) xs ≡ x ∷ rest = sym (drop_more xs n x (below_from_drop xs n x rest is)) ∙ is in
    cc

pub none_or_some : {X : Type 0} {A : Type 0} (o : Option X) → IsSome o → o ≡ None → A
none_or_some None has is = absurd (cc has)
none_or_some (Some x) has is = absurd (cc)

-- nothing more was sent
pub nothing_sent : (place place' : WritePlace) (core' : Pipeline) → place'.sent ≡ place.sent → SentMore place [] core' place'
nothing_sent place place' core' sent = record { sent = []; rest = []; cut = refl; behind = sent ∙ sym (append-nil place.sent); all = λ fine. refl }

module _ (place place' : WritePlace) (core core' : Pipeline) (settled : ℕ) (s : Settles place core settled) (moves : MovesOn place place') (nodes : core'.nodes ≡ core.nodes) where
  same_nodes : length place'.nodes ≡ core'.nodes
  same_nodes = ap length moves.nodes ∙ s.nodes ∙ sym nodes

  below_still : (i : ℕ) → i < length place'.nodes → i < length place.nodes
  below_still i below = subst (λ (ns : List (List ℕ)). i < length ns) moves.nodes below

  -- what is settled stays settled
  pub received_still : (i : ℕ) → i < length place'.nodes → (settled ≤ place'.received i) × (place'.received i ≤ length place'.sent)
  received_still i below =
      let here = below_still i below in
      (omega (arith, (moves.received i here).0, (s.received i here).0), (moves.received i here).1)

  -- a response of which the pipeline has ended
  pub settles_still : place'.sent ≡ place.sent → core'.pushed ≡ core.pushed → IsSome core'.end → Settles place' core' settled
  settles_still sent pushed has = record {
    nodes = same_nodes;
    few = omega (arith, s.few, ap length sent);
    unsent = s.unsent;
    behind = pushed ∙ s.behind ∙ ap (λ (xs : List Outgoing). drop settled xs ++ s.unsent) (sym sent);
    received = received_still;
    going = λ none. none_or_some core'.end has none;
  }

  -- the packets that aren't settled are those of the pipeline, while it goes on
  behind_all : core.end ≡ None → drop settled place.sent ≡ core.pushed
  behind_all going = sym (s.behind ∙ ap (λ (xs : List Outgoing). drop settled place.sent ++ xs) (s.going going).0 ∙ append-nil (drop settled place.sent))

  -- the oldest packet is due
  is_due : (packet : Outgoing) (rest : List Outgoing) (seqno : ℤ) → core.end ≡ None → core.pushed ≡ packet ∷ rest → packet.header.seqno ≡ seqno → IsDue place seqno
  is_due packet rest seqno going pushed same =
      let left = behind_all going ∙ pushed in
      (take settled place.sent, packet, rest, sym (ap (λ (xs : List Outgoing). take settled place.sent ++ xs) (sym left) ∙ take-append-drop settled place.sent), length-take-le settled place.sent s.few ∙ sym (s.going going).1, same)

  -- the oldest packet is settled, where each datanode has it
  pub settles_first : (packet : Outgoing) (rest : List Outgoing) (ack : Ack) → core.end ≡ None → core.pushed ≡ packet ∷ rest → packet.header.seqno ≡ ack.seqno → length ack.replies ≡ core.nodes → are_fine ack.replies ≡ true
      → place'.sent ≡ place.sent → Acknowledges place (Came ack) place' → core'.pushed ≡ rest → Settles place' core' (settled + 1)
  settles_first packet rest ack going pushed same each fine sent acknowledges gone =
      let left = behind_all going ∙ pushed in
      let due = is_due packet rest ack.seqno going pushed same in
      let says : (place'.acknowledged ≡ place.acknowledged + 1) × ((i : ℕ) → i < length place.nodes → i < length ack.replies → get_or ack.replies i 1 ≡ 0 → place.acknowledged < place'.received i) =
      ⊎_elim (λ yes. (yes.1, yes.2)) (λ not_due. absurd (not_due.0 due)) acknowledges in
      record {
        nodes = same_nodes;
        few = omega (arith, below_from_drop place.sent settled packet rest left, ap length sent);
        unsent = [];
        behind = gone ∙ sym (one_more place.sent settled packet rest left) ∙ ap (drop (settled + 1)) (sym sent) ∙ sym (append-nil (drop (settled + 1) place'.sent));
        received = λ i below.
            let here = below_still i below in
            let within : i < length ack.replies = omega (arith, here, s.nodes, each) in
            (omega (arith, says.1 i here within (fine_at ack.replies i fine within), (s.going going).1), (moves.received i here).1);
        going = λ none. (refl, says.0 ∙ ap (λ (n : ℕ). n + 1) (s.going going).1);
      }

  -- a packet was sent behind the others
  pub settles_sent : (packet : Outgoing) → core.end ≡ None → place'.sent ≡ place.sent ++ packet ∷ [] → place'.acknowledged ≡ place.acknowledged → core'.pushed ≡ core.pushed ++ packet ∷ [] → Settles place' core' settled
  settles_sent packet going sent acknowledged pushed = record {
    nodes = same_nodes;
    few = omega (arith, s.few, ap length sent, length-append place.sent (packet ∷ []));
    unsent = [];
    behind = pushed ∙ ap (λ (xs : List Outgoing). xs ++ packet ∷ []) (sym (behind_all going)) ∙ sym (drop-append-le settled place.sent (packet ∷ []) s.few) ∙ ap (drop settled) (sym sent) ∙ sym (append-nil (drop settled place'.sent));
    received = received_still;
    going = λ none. (refl, acknowledged ∙ (s.going going).1);
  }

  -- a packet was put behind the others, and its send broke without it
  pub settles_unsent : (packet : Outgoing) → core.end ≡ None → place'.sent ≡ place.sent → core'.pushed ≡ core.pushed ++ packet ∷ [] → IsSome core'.end → Settles place' core' settled
  settles_unsent packet going sent pushed has = record {
    nodes = same_nodes;
    few = omega (arith, s.few, ap length sent);
    unsent = packet ∷ [];
    behind = pushed ∙ ap (λ (xs : List Outgoing). xs ++ packet ∷ []) (sym (behind_all going)) ∙ ap (λ (xs : List Outgoing). drop settled xs ++ packet ∷ []) (sym sent);
    received = received_still;
    going = λ none. none_or_some core'.end has none;
  }

-- In the picture: the link goes further by these packets, and what became acknowledged is settled.
abbrev pub DroveTold : ℕ → Pipeline → Option Picture → ℕ → List Outgoing → Pipeline → Option Picture → Type 0
DroveTold link core old acknowledged more core' new =
    (p : Picture) (place : WritePlace) (settled : ℕ) → old ≡ Some p → p.writes link ≡ Some place → Settles place core settled
    → (q : Picture) × (place' : WritePlace) × (new ≡ Some q) × (q.writes link ≡ Some place') × GoesFurther p place q place'
    × SentMore place more core' place' × Settles place' core' (settled + acknowledged)

-- the told part of a response, where so much more is settled
pub told_response : (link : ℕ) (core core' : Pipeline) (a b : Option Picture) (response : Response) (n : ℕ) → Told (Responds link response) a b
    → ((place place' : WritePlace) (settled : ℕ) → Settles place core settled → MovesOn place place' → place'.sent ≡ place.sent → Acknowledges place response place' → Settles place' core' (settled + n))
    → DroveTold link core a n [] core' b
told_response link core core' a b response n told settles p place settled is at s =
    let t = told_after (Responds link response) a b p told is in
    let r = t.2.1 place at in
    (t.0, r.0, t.1, r.1, record { moves = r.2; stays = r.6; only = only_from-WritesAt link p t.0 place t.2.0 at }, nothing_sent place r.0 core' r.3, settles place r.0 settled s r.2 r.3 r.5)

-- the told part of a send, or of one that broke
pub told_send : (link : ℕ) (core core' : Pipeline) (a b : Option Picture) (packet : Outgoing) (P : List Outgoing → List Outgoing → Type 0) → Told (Sends link P) a b
    → ((place place' : WritePlace) (settled : ℕ) → Settles place core settled → MovesOn place place' → P place.sent place'.sent → place'.acknowledged ≡ place.acknowledged
    → SentMore place (packet ∷ []) core' place' × Settles place' core' settled)
    → DroveTold link core a 0 (packet ∷ []) core' b
told_send link core core' a b packet P told settles p place settled is at s =
    let t = told_after (Sends link P) a b p told is in
    let r = t.2.1 place at in
    let both = settles place r.0 settled s r.2 r.3 r.5 in
    (t.0, r.0, t.1, r.1, record { moves = r.2; stays = r.6; only = only_from-WritesAt link p t.0 place t.2.0 at }, both.0, subst (Settles r.0 core') (omega arith) both.1)
