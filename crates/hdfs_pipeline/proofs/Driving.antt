-- What one call on its link makes of a driven pipeline.
use Rattle.std.proofs.Common.{◌≡◌, ◌≢◌, inl, inr, ⊎_elim, ℕ, ℤ, suc, ◌+◌, ◌<◌, Bool, true, false, cond, List, [], ◌∷◌, ◌++◌, length, take, drop, Option, Some, None, IsSome, refl, sym, ◌∙◌, ap, subst, arith}
use Rattle.std.specs.Prelude.{get_or, map, All, ◌==◌}
use Rattle.std.specs.List.{AllByRecursion}
use Rattle.std.proofs.lemmas.Bool.{cases_Bool}
use Rattle.std.proofs.lemmas.List.Elements.{All-from_recursion}
use Rattle.std.proofs.lemmas.Bool.Decides.{nat_tests}
use Rattle.std.proofs.lemmas.List.{map-append, append-nil, length-append}
use Rattle.hdfs_wire.specs.Outgoing.{Outgoing}
use Rattle.hdfs_wire.specs.declared.ack.Ack.{Ack}
use Rattle.hdfs_cluster.specs.declared.asks.LinkFault.TheVariants as faults
use Rattle.hdfs_cluster.specs.declared.picture.OpenWrite.{OpenWrite}
use Rattle.hdfs_cluster.specs.Counts.{Rose}
use Rattle.hdfs_cluster.specs.Pipes.{Sent, NotSent, Acknowledged, NotAcknowledged, nodes_of, Waits}
use Rattle.hdfs_cluster.specs.Sending.{Came, Broke, seqno_of, end_of}
use Rattle.hdfs_cluster.specs.Shown.{Shown}
use Rattle.hdfs_cluster.specs.Writing.{IsBehind, MayBeBehind}
use Rattle.hdfs_pipeline.specs.Pipelines.{Pipeline, End, Done, Failed, Bad, ended}
use Rattle.hdfs_pipeline.specs.Places.{are_fine, failed_from}
use Rattle.hdfs_pipeline.proofs.Acknowledging.{Acks, Misshapen, Nodes, First, Other, without_first}
use Rattle.hdfs_pipeline.specs.Driving.{Drives, OnLink, Settles, Drove}
use Rattle.hdfs_pipeline.proofs.Settling.{DroveTold, on_link, none_or_some, settles_still, settles_first, settles_sent, settles_unsent, told_response, told_send}

-- a place is that of a status that isn't 0
abbrev IsFailedAt : ℕ → List ℕ → ℕ → Type 0
IsFailedAt k statuses place = (i : ℕ) × (place ≡ k + i) × (i < length statuses) × (get_or statuses i 0 ≢ 0)

failed_later : (k status : ℕ) (statuses places : List ℕ) → AllByRecursion (IsFailedAt (k + 1) statuses) places → AllByRecursion (IsFailedAt k (status ∷ statuses)) places
failed_later k status statuses [] all = tt
failed_later k status statuses (place ∷ places) all = ((suc all.0.0, omega (arith, all.0.1), omega (arith, all.0.2), all.0.3), failed_later k status statuses places all.1)

failed_at : (k : ℕ) (statuses : List ℕ) → AllByRecursion (IsFailedAt k statuses) (failed_from k statuses)
failed_at k [] = tt
failed_at k (status ∷ statuses) =
    let later = failed_later k status statuses (failed_from (k + 1) statuses) (failed_at (k + 1) statuses) in
    elim (cases_Bool (status == 0)) [
      | inl fine ↦ rw fine later
      | inr bad ↦ rw bad ((0, omega arith, omega arith, grind (arith, nat_tests, bad)), later)
    ]

weaker : (P Q : ℕ → Type 0) → ((x : ℕ) → P x → Q x) → (xs : List ℕ) → AllByRecursion P xs → AllByRecursion Q xs
weaker P Q h [] all = tt
weaker P Q h (x ∷ xs) all = (h x all.0, weaker P Q h xs all.1)

-- the node at a place has failed between two states
abbrev pub RoseAt : Shown → Shown → OpenWrite → ℕ → Type 0
RoseAt a b write place = Rose (a.counts.nodes (get_or (nodes_of write) place [])) (b.counts.nodes (get_or (nodes_of write) place []))

-- the end behind an acknowledgement of the oldest packet
done_last : (b : Bool) → ◌≡◌ {A = Option End} (cond b (Some Done) None) (Some Done) → b ≡ true
done_last true is = refl
done_last false is = absurd (cc)

not_done : (b : Bool) → ◌≡◌ {A = Option End} (cond b (Some Done) None) None → b ≡ false
not_done false is = refl
not_done true is = absurd (cc)

-- the packet isn't the last of its block
abbrev pub IsNotLast : Outgoing → Type 0
IsNotLast packet = packet.header.last_packet_in_block ≡ false

never_failed : (b : Bool) (places : List ℕ) → ◌≡◌ {A = Option End} (cond b (Some Done) None) (Some (Failed places)) → ⊥
never_failed true places is = cc
never_failed false places is = cc

never_bad : (b : Bool) (seqno : ℤ) → ◌≡◌ {A = Option End} (cond b (Some Done) None) (Some (Bad seqno)) → ⊥
never_bad true seqno is = cc
never_bad false seqno is = cc

first_waits : (packets : List Outgoing) (seqno : ℤ) (rest : List ℤ) → ((packet : Outgoing) (more : List Outgoing) → packets ≡ packet ∷ more → packet.header.seqno ≡ seqno → ⊥) → map seqno_of packets ≡ seqno ∷ rest → ⊥
first_waits [] seqno rest never is = cc
first_waits (packet ∷ packets) seqno rest never is = never packet packets refl (cc)

waits_first : (seqno due : ℤ) (waiting waiting' rest : List ℤ) → Waits seqno waiting waiting' → waiting ≡ due ∷ rest → due ≡ seqno → waiting' ≡ rest
waits_first seqno due [] waiting' rest waits is same = absurd (cc)
waits_first seqno due (first ∷ others) waiting' rest waits is same =
    let one : first ≡ due = cc in
    let two : others ≡ rest = cc in
    ⊎_elim (λ taken. taken.1 ∙ two) (λ left. absurd (left.0 (sym (one ∙ same)))) waits

-- an acknowledgement came
module _ (link : ℕ) (core : Pipeline) (a b : Shown) (ack : Ack) (drives : Drives a link core) (going : core.end ≡ None) (acked : Acknowledged a link ack b) where
  on : OnLink link a b
  on = on_link link a b acked.writes (λ write is. let now = acked.now write is in (now.0, now.1, now.2))

  -- the link is open, and the pipeline has ended
  drives_ended : (core' : Pipeline) → IsSome core'.end → Drives b link core'
  drives_ended core' has = let now = acked.now drives.0 drives.1 in (now.0, now.1, λ none. none_or_some core'.end has none)

  told_ended : (core' : Pipeline) → core'.nodes ≡ core.nodes → core'.pushed ≡ core.pushed → IsSome core'.end → DroveTold link core a.picture 0 [] core' b.picture
  told_ended core' nodes pushed has =
      told_response link core core' a.picture b.picture (Came ack) 0 acked.came
      (λ place place' settled s moves sent acknowledges. subst (Settles place' core') (omega arith) (settles_still place place' core core' settled s moves nodes sent pushed has))

  bad_drove : (seqno : ℤ) → Rose a.counts.links b.counts.links → Drove link [] core a (ended core (Bad seqno)) b
  bad_drove seqno rose = record {
    on = on;
    drives = drives_ended (ended core (Bad seqno)) refl;
    acknowledged = 0;
    goes = record { window = refl; nodes = refl; few = omega arith; pushed = sym (append-nil core.pushed); ended = λ has. none_or_some core.end has going; done = λ none is. absurd (cc); going = λ none. absurd (cc) };
    cause = record { failed = λ write places at none is. absurd (cc); bad = λ other none is. rose };
    told = told_ended (ended core (Bad seqno)) refl refl refl;
  }

  -- each datanode whose status isn't 0 has failed
  each_rose : (write : OpenWrite) → a.writes link ≡ Some write → length ack.replies ≡ core.nodes → All (RoseAt a b write) (failed_from 0 ack.replies)
  each_rose write at each =
      let same : drives.0 ≡ write = cc (drives.1, at) in
      let count : length write.setup.locs ≡ core.nodes = ap (λ (w : OpenWrite). length w.setup.locs) (sym same) ∙ (drives.2 going).nodes in
      All-from_recursion (RoseAt a b write) (failed_from 0 ack.replies)
      (weaker (IsFailedAt 0 ack.replies) (RoseAt a b write)
      (λ place bad. let here : bad.0 ≡ place = omega (arith, bad.1) in subst (RoseAt a b write) here (acked.statuses write at bad.0 (omega (arith, bad.2, each, count)) bad.2 bad.3))
      (failed_from 0 ack.replies) (failed_at 0 ack.replies))

  failed_drove : length ack.replies ≡ core.nodes → Drove link [] core a (ended core (Failed (failed_from 0 ack.replies))) b
  failed_drove each = record {
    on = on;
    drives = drives_ended (ended core (Failed (failed_from 0 ack.replies))) refl;
    acknowledged = 0;
    goes = record { window = refl; nodes = refl; few = omega arith; pushed = sym (append-nil core.pushed); ended = λ has. none_or_some core.end has going; done = λ none is. absurd (cc); going = λ none. absurd (cc) };
    cause = record {
      failed = λ write places at none is. subst (All (RoseAt a b write)) (cc) (each_rose write at each);
      bad = λ other none is. absurd (cc);
    };
    told = told_ended (ended core (Failed (failed_from 0 ack.replies))) refl refl refl;
  }

  -- the link and the pipeline are in step without the oldest packet
  drives_first : (packet : Outgoing) (rest : List Outgoing) → core.pushed ≡ packet ∷ rest → packet.header.seqno ≡ ack.seqno → Drives b link (without_first core packet rest)
  drives_first packet rest pushed same =
      let now = acked.now drives.0 drives.1 in
      let step = drives.2 going in (
        now.0,
        now.1,
        λ none. record {
          nodes = ap (λ setup. length setup.locs) now.2 ∙ step.nodes;
          sent = omega (arith, step.sent, ap length pushed);
          taken = omega (arith, step.taken, ap length pushed);
          waiting = waits_first ack.seqno (seqno_of packet) drives.0.waiting now.0.waiting (map seqno_of rest) now.4 (step.waiting ∙ ap (map seqno_of) pushed) same;
          heartbeats = step.heartbeats;
        },
      )

  first_drove : (packet : Outgoing) (rest : List Outgoing) → core.pushed ≡ packet ∷ rest → packet.header.seqno ≡ ack.seqno → length ack.replies ≡ core.nodes → are_fine ack.replies ≡ true → Drove link [] core a (without_first core packet rest) b
  first_drove packet rest pushed same each fine = record {
    on = on;
    drives = drives_first packet rest pushed same;
    acknowledged = 1;
    goes = record {
      window = refl;
      nodes = refl;
      few = omega (arith, ap length pushed);
      pushed = sym (append-nil (drop 1 core.pushed) ∙ ap (drop 1) pushed);
      ended = λ has. none_or_some core.end has going;
      done = λ none is. ([], packet, ap (take 1) pushed, done_last packet.header.last_packet_in_block is);
      going = λ none. subst (All IsNotLast) (sym (ap (take 1) pushed)) (All-from_recursion IsNotLast (packet ∷ []) (not_done packet.header.last_packet_in_block none, tt));
    };
    cause = record {
      failed = λ write places at none is. absurd (never_failed packet.header.last_packet_in_block places is);
      bad = λ other none is. absurd (never_bad packet.header.last_packet_in_block other is);
    };
    told = told_response link core (without_first core packet rest) a.picture b.picture (Came ack) 1 acked.came
        (λ place place' settled s moves sent acknowledges. settles_first place place' core (without_first core packet rest) settled s moves refl packet rest ack going pushed same each fine sent acknowledges refl);
  }

  -- so the pipeline goes on, or it has ended
  pub acked_drove : (core' : Pipeline) → Acks core ack core' → Drove link [] core a core' b
  acked_drove core' (Misshapen away is) =
      subst (λ (p : Pipeline). Drove link [] core a p b) (sym is)
      (bad_drove ack.seqno (⊎_elim (λ formed. absurd (away (formed.2 ∙ (drives.2 going).nodes))) (λ rose. rose) (acked.formed drives.0 drives.1)))
  acked_drove core' (Nodes each bad is) = subst (λ (p : Pipeline). Drove link [] core a p b) (sym is) (failed_drove each)
  acked_drove core' (First packet rest pushed same each fine is) = subst (λ (p : Pipeline). Drove link [] core a p b) (sym is) (first_drove packet rest pushed same each fine)
  acked_drove core' (Other never is) =
      subst (λ (p : Pipeline). Drove link [] core a p b) (sym is)
      (bad_drove ack.seqno (⊎_elim (λ formed. absurd (first_waits core.pushed ack.seqno formed.0 never (sym (drives.2 going).waiting ∙ formed.1))) (λ rose. rose) (acked.formed drives.0 drives.1)))

-- The connection broke: the first datanode has failed.
module _ (link : ℕ) (core : Pipeline) (a b : Shown) (drives : Drives a link core) (going : core.end ≡ None) where
  -- it is at place 0
  first_rose : ((write : OpenWrite) → a.writes link ≡ Some write → RoseAt a b write 0) → (write : OpenWrite) (places : List ℕ) → a.writes link ≡ Some write → Some (Failed (0 ∷ [])) ≡ Some (Failed places) → All (RoseAt a b write) places
  first_rose rose write places at is =
      let same : 0 ∷ [] ≡ places = cc in
      subst (All (RoseAt a b write)) same (All-from_recursion (RoseAt a b write) (0 ∷ []) (rose write at, tt))

  -- no acknowledgement came
  pub broke_drove : NotAcknowledged a link faults.Broken b → Drove link [] core a (ended core (Failed (0 ∷ []))) b
  broke_drove n = record {
    on = on_link link a b n.writes (λ write is. (write, n.still_open ∙ is, refl));
    drives = (drives.0, n.still_open ∙ drives.1, λ none. absurd (cc));
    acknowledged = 0;
    goes = record { window = refl; nodes = refl; few = omega arith; pushed = sym (append-nil core.pushed); ended = λ has. none_or_some core.end has going; done = λ none is. absurd (cc); going = λ none. absurd (cc) };
    cause = record { failed = λ write places at none is. first_rose (n.cause refl) write places at is; bad = λ seqno none is. absurd (cc) };
    told =
        let core' = ended core (Failed (0 ∷ [])) in
        told_response link core core' a.picture b.picture Broke 0 (n.broke refl)
        (λ place place' settled s moves sent acknowledges. subst (Settles place' core') (omega arith) (settles_still place place' core core' settled s moves refl sent refl refl));
  }

  -- a packet was sent
  pub sent_drove : (packet : Outgoing) → Sent a link packet b → Drove link (packet ∷ []) core a (record core { pushed = core.pushed ++ packet ∷ []; sent = core.taken + 1; taken = core.taken + 1 }) b
  sent_drove packet sent =
      let core' = record core { pushed = core.pushed ++ packet ∷ []; sent = core.taken + 1; taken = core.taken + 1 } in
      let step = drives.2 going in
      let count : core.taken + 1 ≡ length (core.pushed ++ packet ∷ []) = omega (arith, step.taken, length-append core.pushed (packet ∷ [])) in
      record {
        on = on_link link a b sent.writes (λ write is. (record { setup = write.setup; end = Some (end_of packet); waiting = write.waiting ++ seqno_of packet ∷ [] }, sent.now write is, refl));
        drives = (
          record { setup = drives.0.setup; end = Some (end_of packet); waiting = drives.0.waiting ++ seqno_of packet ∷ [] },
          sent.now drives.0 drives.1,
          λ none. record {
            nodes = step.nodes;
            sent = count;
            taken = count;
            waiting = ap (λ (waiting : List ℤ). waiting ++ seqno_of packet ∷ []) step.waiting ∙ sym (map-append seqno_of core.pushed (packet ∷ []));
            heartbeats = step.heartbeats;
          },
        );
        acknowledged = 0;
        goes = record { window = refl; nodes = refl; few = omega arith; pushed = refl; ended = λ has. (refl, refl); done = λ none is. absurd (cc); going = λ none k d below. absurd (omega (arith, below)) };
        cause = record { failed = λ write places at none is. absurd (cc); bad = λ seqno none is. absurd (cc) };
        told = told_send link core core' a.picture b.picture packet (IsBehind packet) sent.sent
            (λ place place' settled s moves behind acknowledged.
            (record { sent = packet ∷ []; rest = []; cut = refl; behind = behind; all = λ fine. refl }, settles_sent place place' core core' settled s moves refl packet going behind acknowledged refl));
      }

  -- its send broke
  pub unsent_drove : (packet : Outgoing) → NotSent a link packet faults.Broken b → Drove link (packet ∷ []) core a (ended (record core { pushed = core.pushed ++ packet ∷ []; taken = core.taken + 1 }) (Failed (0 ∷ []))) b
  unsent_drove packet n =
      let core' = ended (record core { pushed = core.pushed ++ packet ∷ []; taken = core.taken + 1 }) (Failed (0 ∷ [])) in
      let open_still = n.still_open drives.0 drives.1 in
      record {
        on = on_link link a b n.writes n.still_open;
        drives = (open_still.0, open_still.1, λ none. absurd (cc));
        acknowledged = 0;
        goes = record { window = refl; nodes = refl; few = omega arith; pushed = refl; ended = λ has. none_or_some core.end has going; done = λ none is. absurd (cc); going = λ none. absurd (cc) };
        cause = record { failed = λ write places at none is. first_rose (n.cause refl) write places at is; bad = λ seqno none is. absurd (cc) };
        told = told_send link core core' a.picture b.picture packet (MayBeBehind packet) (n.sent refl)
            (λ place place' settled s moves may acknowledged. ⊎_elim
            (λ unsent. (record { sent = []; rest = packet ∷ []; cut = refl; behind = unsent ∙ sym (append-nil place.sent); all = λ fine. absurd (fine (0 ∷ []) refl) }, settles_unsent place place' core core' settled s moves refl packet going unsent refl refl))
            (λ behind. (record { sent = packet ∷ []; rest = []; cut = refl; behind = behind; all = λ fine. refl }, settles_sent place place' core core' settled s moves refl packet going behind acknowledged refl))
            may);
      }
