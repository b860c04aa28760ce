-- A pipeline is done with the acknowledgement of the last packet of its block.
use Rattle.std.proofs.Common.{◌≡◌, ℕ, zero, suc, ◌+◌, Bool, true, false, not, ◌&&◌, ◌||◌, cond, List, [], ◌∷◌, ◌++◌, length, take, drop, Option, Some, None, IsSome, refl, sym, ◌∙◌, ap, subst, arith, inl, inr, append_assoc, suc-add}
use Rattle.std.specs.Prelude.{nat_lt, slice_get, is_none, is_some, ◌==◌, ◌^◌, ◌-◌}
use Rattle.std.proofs.lemmas.Bool.{cases_Bool}
use Rattle.std.proofs.lemmas.List.{append-nil, drop-append-le, take-append-drop}
use Rattle.hdfs_wire.specs.Outgoing.{Outgoing}
use Rattle.hdfs_wire.specs.declared.ack.Ack.{Ack}
use Rattle.hdfs_pipeline.specs.declared.end.PipelineEnd.{PipelineEnd}
use Rattle.hdfs_pipeline.specs.declared.event.Event.{Event}
use Rattle.hdfs_pipeline.specs.declared.event.Event.TheVariants.{Push, Take, Wrote, WriteFailed, Acked, AckFailed, Heartbeat}
use Rattle.hdfs_pipeline.specs.Places.{are_fine}
use Rattle.hdfs_pipeline.specs.Pipelines.{End, Done, Failed, Bad, Pipeline, row, ack_row, after, run_from, run_of, empty_pipeline, has_room, has_hand, has_untaken, closes_heartbeat, is_due, is_push, is_last, acknowledged, acked_of, pending_of}
use Rattle.hdfs_pipeline.specs.Cores.{Stands}
use Rattle.hdfs_pipeline.specs.Ends.{HandsBack, end_of, handed_back}
use Rattle.hdfs_pipeline.specs.Pushed.{IsLastBehind}
use Rattle.hdfs_pipeline.proofs.Rows.{end_stays}
use Rattle.hdfs_pipeline.proofs.Running.{InOrder, after_in_order, empty_in_order}

-- the newest acknowledged packet is the last of its block
record Finished (p : Pipeline) : Type 0 where
  front : List Outgoing
  packet : Outgoing
  whole : p.pushed ≡ front ++ packet ∷ pending_of p
  last : packet.header.last_packet_in_block ≡ true

abbrev FinishedIfDone : Pipeline → Type 0
FinishedIfDone p = p.end ≡ Some Done → Finished p

pick : (b : Bool) (p q : Pipeline) → (b ≡ true → FinishedIfDone p) → FinishedIfDone q → FinishedIfDone (cond b p q)
pick true p q one two = one refl
pick false p q one two = two

-- a list around an item
split_at : (packets : List Outgoing) (k : ℕ) (packet : Outgoing) → slice_get packets k ≡ Some packet → packets ≡ take k packets ++ packet ∷ drop (k + 1) packets
split_at [] k packet is = absurd (cc)
split_at (x ∷ packets) zero packet is = let same : x ≡ packet = cc in ap (λ (y : Outgoing). y ∷ packets) same
split_at (x ∷ packets) (suc k) packet is = rw (suc-add k 1) (ap (λ (ys : List Outgoing). x ∷ ys) (split_at packets k packet is))

last_acknowledged : (p : Pipeline) (packet : Option Outgoing) → slice_get p.pushed p.acked ≡ packet → cond (is_last packet) (Some Done) None ≡ Some Done → Finished (acknowledged p)
last_acknowledged p None is done = absurd (cc)
last_acknowledged p (Some packet) is done =
    record {
      front = take p.acked p.pushed;
      packet = packet;
      whole = split_at p.pushed p.acked packet is;
      last = elim (cases_Bool packet.header.last_packet_in_block) [ inl last ↦ last | inr other ↦ absurd (cc (rw other at done)) ];
    }

module _ (p : Pipeline) (going : p.end ≡ None) where
  still_going : FinishedIfDone p
  still_going done = absurd (cc)

  ack_finishes : (ack : Ack) → FinishedIfDone (ack_row p ack)
  ack_finishes ack =
      pick (not (length ack.replies == p.nodes)) _ _ (λ _ done. absurd (cc))
      (pick (not (are_fine ack.replies)) _ _ (λ _ done. absurd (cc))
      (pick (closes_heartbeat p ack.seqno) _ _ (λ _ done. absurd (cc))
      (pick (is_due p ack.seqno) _ _ (λ _ done. last_acknowledged p (slice_get p.pushed p.acked) refl done) (λ done. absurd (cc)))))

  row_finishes : (event : Event) → FinishedIfDone (row p event)
  row_finishes (Push packet) = pick (has_room p) _ _ (λ _ done. absurd (cc)) still_going
  row_finishes Take = pick (has_untaken p && not (has_hand p)) _ _ (λ _ done. absurd (cc)) still_going
  row_finishes Wrote = pick (has_hand p) _ _ (λ _ done. absurd (cc)) still_going
  row_finishes WriteFailed = pick (has_hand p) _ _ (λ _ done. absurd (cc)) still_going
  row_finishes (Acked ack) = ack_finishes ack
  row_finishes AckFailed = λ done. absurd (cc)
  row_finishes Heartbeat = pick (nat_lt p.heartbeats (2 ^ 32 - 1)) _ _ (λ _ done. absurd (cc)) still_going

-- a push behind the end leaves it
push_finishes : (p : Pipeline) (packet : Outgoing) → InOrder p → Finished p → Finished (record p { pushed = p.pushed ++ packet ∷ [] })
push_finishes p packet o was =
    let waits : pending_of (record p { pushed = p.pushed ++ packet ∷ [] }) ≡ pending_of p ++ packet ∷ [] = drop-append-le p.acked p.pushed (packet ∷ []) (omega (arith, o.acked, o.sent, o.taken)) in
    record {
      front = was.front;
      packet = was.packet;
      whole = ap (λ (ys : List Outgoing). ys ++ packet ∷ []) was.whole ∙ append_assoc was.front (was.packet ∷ pending_of p) (packet ∷ []) ∙ ap (λ (ys : List Outgoing). was.front ++ was.packet ∷ ys) (sym waits);
      last = was.last;
    }

none_from : (end : Option End) → is_some end ≡ false → end ≡ None
none_from None none = refl
none_from (Some end) none = absurd (cc)

end_finishes : (p : Pipeline) (event : Event) → InOrder p → IsSome p.end → FinishedIfDone p → FinishedIfDone (after p event)
end_finishes p (Push packet) o has was =
    pick (is_none p.end || true) _ _ (λ _. pick (has_room p) _ _ (λ _ done. push_finishes p packet o (was done)) was) was
end_finishes p event o has was = subst FinishedIfDone (sym (end_stays p event has refl)) was

going_finishes : (p : Pipeline) (event : Event) → p.end ≡ None → FinishedIfDone p → FinishedIfDone (after p event)
going_finishes p event going was = pick (is_none p.end || is_push event) _ _ (λ _. row_finishes p going event) was

after_finishes : (p : Pipeline) (event : Event) → InOrder p → FinishedIfDone p → FinishedIfDone (after p event)
after_finishes p event o was = elim (cases_Bool (is_some p.end)) [ inl has ↦ end_finishes p event o has was | inr none ↦ going_finishes p event (none_from p.end none) was ]

run_finishes : (p : Pipeline) (events : List Event) → InOrder p → FinishedIfDone p → FinishedIfDone (run_from p events)
run_finishes p [] o was = was
run_finishes p (event ∷ events) o was = run_finishes (after p event) events (after_in_order p o event) (after_finishes p event o was)

pub none_waits : (window nodes : ℕ) (events : List Event) → let run = run_of window nodes events in IsLastBehind run.pushed → run.end ≡ Some Done → pending_of run ≡ []
none_waits window nodes events behind done =
    let run = run_of window nodes events in
    let finished = run_finishes (empty_pipeline window nodes) events (empty_in_order window nodes) (λ none. absurd (cc)) done in
    behind finished.front (pending_of run) finished.packet finished.whole finished.last

all_acknowledged : (p : Pipeline) → pending_of p ≡ [] → p.pushed ≡ acked_of p
all_acknowledged p none = sym (take-append-drop p.acked p.pushed) ∙ ap (λ (packets : List Outgoing). acked_of p ++ packets) none ∙ append-nil (acked_of p)

by_end : (p : Pipeline) (end : Option End) → p.end ≡ end → (IsLastBehind p.pushed → p.end ≡ Some Done → pending_of p ≡ []) → HandsBack p (handed_back end (pending_of p))
by_end p None is whole = sym (take-append-drop p.acked p.pushed)
by_end p (Some Done) is whole = λ behind. all_acknowledged p (whole behind is)
by_end p (Some (Failed places)) is whole = sym (take-append-drop p.acked p.pushed)
by_end p (Some (Bad seqno)) is whole = tt

-- no packet is lost at the end
pub hands_back : (window nodes : ℕ) (events : List Event) → let run = run_of window nodes events in HandsBack run (end_of run)
hands_back window nodes events =
    let run = run_of window nodes events in
    by_end run run.end refl (none_waits window nodes events)

-- the same for a core that stands for the events
pub core_hands_back : (core : Pipeline) (result : PipelineEnd) → result ≡ end_of core → (events : List Event) → Stands core events → HandsBack (run_of core.window core.nodes events) result
core_hands_back core result is events stands =
    let run = run_of core.window core.nodes events in
    let ends : result ≡ end_of run = is ∙ ap end_of stands in
    subst (HandsBack run) (sym ends) (hands_back core.window core.nodes events)
