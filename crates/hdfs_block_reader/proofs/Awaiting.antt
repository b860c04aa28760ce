-- Which packets of a write link wait for their acknowledgement.
use Rattle.std.proofs.Common.{take-append-drop, ◌≡◌, ⊎_elim, ℕ, suc, ℤ, ◌+◌, ◌<◌, ◌≤◌, List, [], ◌∷◌, ◌++◌, length, take, drop, Some, refl, sym, ◌∙◌, ap, subst, arith, append_assoc}
use Rattle.std.proofs.Math.Seq.{drop-append-add}
use Rattle.std.proofs.lemmas.List.{length-append, length-take-le, length-map}
use Rattle.std.specs.List.{All}
use Rattle.hdfs_wire.specs.Outgoing.{Outgoing}
use Rattle.hdfs_wire.specs.declared.ack.Ack.{Ack}
use Rattle.hdfs_cluster.specs.declared.messages.Setup.{Setup}
use Rattle.hdfs_cluster.specs.Picture.{Picture}
use Rattle.hdfs_cluster.specs.Sending.{WritePlace, MovesOn, seqno_of, IsDue, Came}
use Rattle.hdfs_cluster.specs.Writing.{IsFresh, Sends, IsBehind, Responds}
use Rattle.hdfs_block_reader.specs.Carrying.{Awaits, ReceivesSent}

cut_one : (xs rest : List Outgoing) (x : Outgoing) → drop (suc (length xs)) (xs ++ x ∷ rest) ≡ rest
cut_one [] rest x = refl
cut_one (y ∷ xs) rest x = cut_one xs rest x

-- on a link that was just set up none waits
pub awaits_from-IsFresh : (setup : Setup) (p : Picture) (place : WritePlace) → IsFresh setup p place → Awaits place []
awaits_from-IsFresh setup p place fresh = record {
  few = omega (arith, fresh.acknowledged);
  behind = ap (λ (n : ℕ). drop n place.sent) fresh.acknowledged ∙ fresh.sent;
  received = λ i within. (let none : place.received i ≡ 0 = fresh.received i (of_setup i within) in (omega (arith, fresh.acknowledged), omega (arith, none)));
}
  where
    of_setup : (i : ℕ) → i < length place.nodes → i < length setup.locs
    of_setup i within = omega (arith, within, ap length fresh.nodes, length-map setup.locs (λ node. node.id.datanode_uuid))

module _ (place : WritePlace) (waiting : List Outgoing) (a : Awaits place waiting) where
  -- the packets that are acknowledged
  abbrev pub settled_front : List Outgoing
  settled_front = take place.acknowledged place.sent

  pub length-settled_front : length settled_front ≡ place.acknowledged
  length-settled_front = length-take-le place.acknowledged place.sent a.few

  -- those that wait are behind them
  pub sent_parts : place.sent ≡ settled_front ++ waiting
  sent_parts = sym (take-append-drop place.acknowledged place.sent) ∙ ap (λ (l : List Outgoing). settled_front ++ l) a.behind

  -- what was received was sent
  pub awaits_receives : ReceivesSent place
  awaits_receives i within = (a.received i within).1

  -- the first that waits is due
  pub is_due : (packet : Outgoing) (rest : List Outgoing) (seqno : ℤ) → waiting ≡ packet ∷ rest → seqno_of packet ≡ seqno → IsDue place seqno
  is_due packet rest seqno first same = (settled_front, packet, rest, sent_parts ∙ ap (λ (l : List Outgoing). settled_front ++ l) first, length-settled_front, same)

  -- more were sent, and some of all these are acknowledged
  pub awaits_further : (later : WritePlace) (more : List Outgoing) (k : ℕ) → MovesOn place later → later.sent ≡ place.sent ++ more → later.acknowledged ≡ place.acknowledged + k → k ≤ length (waiting ++ more)
      → ((i : ℕ) → i < length place.nodes → later.acknowledged ≤ later.received i) → Awaits later (drop k (waiting ++ more))
  awaits_further later more k moves sent now few received =
      let whole : later.sent ≡ settled_front ++ (waiting ++ more) = sent ∙ ap (λ (l : List Outgoing). l ++ more) sent_parts ∙ append_assoc settled_front waiting more in
      record {
        few = omega (arith, now, few, ap length whole, length-append settled_front (waiting ++ more), length-settled_front);
        behind =
            ap (drop later.acknowledged) whole
            ∙ ap (λ (n : ℕ). drop n (settled_front ++ (waiting ++ more))) (omega (arith, now, length-settled_front))
            ∙ drop-append-add settled_front (waiting ++ more) k;
        received = λ i within.
            (let there = subst (λ (ns : List (List ℕ)). i < length ns) moves.nodes within in
            (received i there, (moves.received i there).1));
      }

module _ (p q : Picture) (link : ℕ) (place : WritePlace) (told : p.writes link ≡ Some place) where
  -- a packet that was sent waits behind the others
  pub awaits_sends : (waiting : List Outgoing) (packet : Outgoing) (sends : Sends link (IsBehind packet) p q) → Awaits place waiting → Awaits (sends.1 place told).0 (waiting ++ packet ∷ [])
  awaits_sends waiting packet sends a =
      let t = sends.1 place told in
      awaits_further place waiting a t.0 (packet ∷ []) 0 t.2 t.3 (omega (arith, t.5)) (omega arith)
      (λ i within. (let before = (a.received i within).0 in let after = (t.2.received i within).0 in omega (arith, t.5, before, after)))

  -- the first that waits was acknowledged by all datanodes
  pub awaits_acknowledges : (packet : Outgoing) (rest : List Outgoing) (ack : Ack) (responds : Responds link (Came ack) p q) → Awaits place (packet ∷ rest) → seqno_of packet ≡ ack.seqno
      → length ack.replies ≡ length place.nodes → All (λ status. status ≡ 0) ack.replies → Awaits (responds.1 place told).0 rest
  awaits_acknowledges packet rest ack responds a same count fine =
      let t = responds.1 place told in
      let whole : t.0.sent ≡ settled_front place (packet ∷ rest) a ++ packet ∷ rest = t.3 ∙ sent_parts place (packet ∷ rest) a in
      let count_front = length-settled_front place (packet ∷ rest) a in
      let front = settled_front place (packet ∷ rest) a in
      ⊎_elim
      (λ due. (let now : t.0.acknowledged ≡ suc (length front) = omega (arith, due.1, count_front) in record {
        few = omega (arith, now, ap length whole, length-append front (packet ∷ rest));
        behind = ap (drop t.0.acknowledged) whole ∙ ap (λ (n : ℕ). drop n (front ++ packet ∷ rest)) now ∙ cut_one front rest packet;
        received = λ i within.
            (let there = subst (λ (ns : List (List ℕ)). i < length ns) t.2.nodes within in
            let here = due.2 i there (omega (arith, count, there)) (fine i 1 (omega (arith, count, there))) in
            (omega (arith, due.1, here), (t.2.received i there).1));
      }))
      (λ undue. absurd (undue.0 (is_due place (packet ∷ rest) a packet rest ack.seqno refl same)))
      t.5
