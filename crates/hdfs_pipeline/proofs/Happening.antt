-- The events of a driven core are those of its link.
use Rattle.std.proofs.Common.{◌≡◌, ℕ, List, [], ◌∷◌, ◌++◌, refl, sym, ◌∙◌, ap, subst, append_assoc}
use Rattle.std.proofs.lemmas.List.{append-nil}
use Rattle.hdfs_wire.specs.Outgoing.{Outgoing}
use Rattle.hdfs_wire.specs.declared.ack.Ack.{Ack}
use Rattle.hdfs_cluster.specs.declared.asks.LinkFault.TheVariants as faults
use Rattle.hdfs_cluster.specs.Picture.{Told}
use Rattle.hdfs_cluster.specs.Pipes.{Sent, NotSent, Acknowledged, NotAcknowledged}
use Rattle.hdfs_cluster.specs.Sending.{Response, Came, Broke}
use Rattle.hdfs_cluster.specs.Shown.{Shown}
use Rattle.hdfs_cluster.specs.Writing.{Sends, IsBehind, MayBeBehind, Responds}
use Rattle.hdfs_cluster.proofs.Frames.{told_after}
use Rattle.hdfs_pipeline.specs.declared.event.Event.{Event}
use Rattle.hdfs_pipeline.specs.declared.event.Event.TheVariants.{Push, Take, Wrote, WriteFailed, Acked, AckFailed, Heartbeat}
use Rattle.hdfs_pipeline.specs.Pipelines.{Pipeline}
use Rattle.hdfs_pipeline.specs.Cores.{Stands, Follows}
use Rattle.hdfs_pipeline.specs.Driving.{Happened, responses_of}

-- the responses among events, one after another
responses_join : (events more : List Event) → responses_of (events ++ more) ≡ responses_of events ++ responses_of more
responses_join [] more = refl
responses_join (Push packet ∷ events) more = responses_join events more
responses_join (Take ∷ events) more = responses_join events more
responses_join (Wrote ∷ events) more = responses_join events more
responses_join (WriteFailed ∷ events) more = responses_join events more
responses_join (Acked ack ∷ events) more = ap (λ (responses : List Response). Came ack ∷ responses) (responses_join events more)
responses_join (AckFailed ∷ events) more = ap (λ (responses : List Response). Broke ∷ responses) (responses_join events more)
responses_join (Heartbeat ∷ events) more = responses_join events more

-- nothing happened
pub happened_refl : (link : ℕ) (core : Pipeline) (a : Shown) → Happened link core a core a
happened_refl link core a = record {
  events = [];
  stands = λ before stands. subst (Stands core) (sym (append-nil before)) stands;
  came = λ p place is at. (p, place, is, at, sym (append-nil place.responses));
}

-- what happened first, and then
pub happened_trans : (link : ℕ) (c d e : Pipeline) (a b z : Shown) → Happened link c a d b → Happened link d b e z → Happened link c a e z
happened_trans link c d e a b z f g = record {
  events = f.events ++ g.events;
  stands = λ before stands. subst (Stands e) (append_assoc before f.events g.events) (g.stands (before ++ f.events) (f.stands before stands));
  came = λ p place is at.
      let x = f.came p place is at in
      let y = g.came x.0 x.1 x.2 x.3 in (
        y.0,
        y.1,
        y.2,
        y.3,
        y.4 ∙ ap (λ (responses : List Response). responses ++ responses_of g.events) x.4
            ∙ append_assoc place.responses (responses_of f.events) (responses_of g.events) ∙ ap (λ (responses : List Response). place.responses ++ responses) (sym (responses_join f.events g.events)),
      );
}

-- an acknowledgement came
pub acked_happened : (link : ℕ) (core core' : Pipeline) (a b : Shown) (ack : Ack) → Acknowledged a link ack b → Follows core (Acked ack) core' → Happened link core a core' b
acked_happened link core core' a b ack acked follows = record {
  events = Acked ack ∷ [];
  stands = follows.stands;
  came = λ p place is at.
      let t = told_after (Responds link (Came ack)) a.picture b.picture p acked.came is in
      let r = t.2.1 place at in
      (t.0, r.0, t.1, r.1, r.4);
}

-- none came
pub broke_happened : (link : ℕ) (core core' : Pipeline) (a b : Shown) → NotAcknowledged a link faults.Broken b → Follows core AckFailed core' → Happened link core a core' b
broke_happened link core core' a b n follows = record {
  events = AckFailed ∷ [];
  stands = follows.stands;
  came = λ p place is at.
      let t = told_after (Responds link Broke) a.picture b.picture p (n.broke refl) is in
      let r = t.2.1 place at in
      (t.0, r.0, t.1, r.1, r.4);
}

-- a packet was pushed, taken and sent, or its send broke
module _ (link : ℕ) (core c1 c2 core' : Pipeline) (a b : Shown) (packet : Outgoing) (last : Event) (push : Follows core (Push packet) c1) (take : Follows c1 Take c2) (end : Follows c2 last core') where
  in_a_row : (before : List Event) → before ++ Push packet ∷ [] ++ Take ∷ [] ++ last ∷ [] ≡ before ++ (Push packet ∷ Take ∷ last ∷ [])
  in_a_row before = append_assoc (before ++ Push packet ∷ []) (Take ∷ []) (last ∷ []) ∙ append_assoc before (Push packet ∷ []) (Take ∷ last ∷ [])

  three_stand : (before : List Event) → Stands core before → Stands core' (before ++ (Push packet ∷ Take ∷ last ∷ []))
  three_stand before stands = subst (Stands core') (in_a_row before) (end.stands (before ++ Push packet ∷ [] ++ Take ∷ []) (take.stands (before ++ Push packet ∷ []) (push.stands before stands)))

  send_came : (P : List Outgoing → List Outgoing → Type 0) → Told (Sends link P) a.picture b.picture → responses_of (last ∷ []) ≡ [] → Happened link core a core' b
  send_came P told none = record {
    events = Push packet ∷ Take ∷ last ∷ [];
    stands = three_stand;
    came = λ p place is at.
        let t = told_after (Sends link P) a.picture b.picture p told is in
        let r = t.2.1 place at in
        (t.0, r.0, t.1, r.1, r.4 ∙ sym (ap (λ (responses : List Response). place.responses ++ responses) none ∙ append-nil place.responses));
  }

-- the packet was sent
pub sent_happened : (link : ℕ) (core c1 c2 core' : Pipeline) (a b : Shown) (packet : Outgoing) → Sent a link packet b → Follows core (Push packet) c1 → Follows c1 Take c2 → Follows c2 Wrote core' → Happened link core a core' b
sent_happened link core c1 c2 core' a b packet sent push take wrote = send_came link core c1 c2 core' a b packet Wrote push take wrote (IsBehind packet) sent.sent refl

-- its send broke
pub unsent_happened : (link : ℕ) (core c1 c2 core' : Pipeline) (a b : Shown) (packet other : Outgoing) → NotSent a link other faults.Broken b → Follows core (Push packet) c1 → Follows c1 Take c2 → Follows c2 WriteFailed core' → Happened link core a core' b
unsent_happened link core c1 c2 core' a b packet other n push take failed = send_came link core c1 c2 core' a b packet WriteFailed push take failed (MayBeBehind other) (n.sent refl) refl
