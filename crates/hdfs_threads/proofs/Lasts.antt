-- While there is no end, no acknowledged packet is the last of its block.
use Rattle.std.proofs.Common.{◌≡◌, ℕ, ◌+◌, Bool, true, false, not, ◌&&◌, ◌||◌, cond, List, [], ◌∷◌, ◌++◌, length, take, Option, Some, None, refl, sym, ◌∙◌, ap, subst, arith, inl, inr}
use Rattle.std.specs.Prelude.{nat_lt, slice_get, is_none, ◌==◌, ◌^◌, ◌-◌}
use Rattle.std.proofs.lemmas.Bool.{cases_Bool}
use Rattle.std.proofs.lemmas.List.{take-append-le, take_all, take_more}
use Rattle.std.proofs.lemmas.List.Elements.{All-push, All-nil}
use Rattle.std.proofs.lemmas.Option.{slice_get_within, slice_get_cases, get_or_from_slice_get}
use Rattle.hdfs_wire.specs.Outgoing.{Outgoing}
use Rattle.hdfs_wire.specs.declared.ack.Ack.{Ack}
use Rattle.hdfs_pipeline.specs.declared.event.Event.{Event}
use Rattle.hdfs_pipeline.specs.declared.event.Event.TheVariants.{Push, Take, Wrote, WriteFailed, Acked, AckFailed, Heartbeat}
use Rattle.hdfs_pipeline.specs.Places.{are_fine, failed_from}
use Rattle.hdfs_pipeline.specs.Pipelines.{End, Done, Failed, Bad, Pipeline, row, ack_row, after, run_from, run_of, empty_pipeline, ended, has_room, has_hand, has_untaken, closes_heartbeat, is_due, is_push, is_last, acked_of}
use Rattle.hdfs_pipeline.proofs.Running.{InOrder, after_in_order, empty_in_order}
use Rattle.hdfs_threads.specs.Ends.{NoneIsLast}

abbrev NoneWhileGoing : Pipeline → Type 0
NoneWhileGoing p = p.end ≡ None → NoneIsLast (acked_of p)

pick : (b : Bool) (p q : Pipeline) → (b ≡ true → NoneWhileGoing p) → NoneWhileGoing q → NoneWhileGoing (cond b p q)
pick true p q one two = one refl
pick false p q one two = two

take_one_more : (packets : List Outgoing) (k : ℕ) (packet : Outgoing) → slice_get packets k ≡ Some packet → take (k + 1) packets ≡ take k packets ++ packet ∷ []
take_one_more packets k packet is =
    take_more packets k packet (slice_get_within packets k packet is)
    ∙ ap (λ (x : Outgoing). take k packets ++ x ∷ []) (get_or_from_slice_get packets k packet packet is)

take_nothing_more : (packets : List Outgoing) (k : ℕ) → slice_get packets k ≡ None → take (k + 1) packets ≡ take k packets
take_nothing_more packets k none = elim (slice_get_cases packets k).1 [
  | inl some ↦ let is = some.2 in absurd (cc (none, is))
  | inr past ↦ take_all (k + 1) packets (omega (arith, past.0)) ∙ sym (take_all k packets past.0)
]

-- a packet that isn't the last is acknowledged
acknowledges : (packets : List Outgoing) (k : ℕ) (packet : Option Outgoing) → slice_get packets k ≡ packet → cond (is_last packet) (Some Done) None ≡ None → NoneIsLast (take k packets) → NoneIsLast (take (k + 1) packets)
acknowledges packets k None is none before = subst NoneIsLast (sym (take_nothing_more packets k is)) before
acknowledges packets k (Some packet) is none before = elim (cases_Bool packet.header.last_packet_in_block) [
  | inl is_one ↦ absurd (cc (rw is_one at none))
  | inr other ↦ subst NoneIsLast (sym (take_one_more packets k packet is)) (All-push (λ (p : Outgoing). p.header.last_packet_in_block ≡ false) (take k packets) packet before other)
]

module _ (p : Pipeline) (o : InOrder p) (before : NoneWhileGoing p) where
  ended_never : (end : End) → NoneWhileGoing (ended p end)
  ended_never end none = absurd (cc (none))

  ack_none : (ack : Ack) → p.end ≡ None → NoneWhileGoing (ack_row p ack)
  ack_none ack going =
      pick (not (length ack.replies == p.nodes)) _ _ (λ _. ended_never (Bad ack.seqno))
      (pick (not (are_fine ack.replies)) _ _ (λ _. ended_never (Failed (failed_from 0 ack.replies)))
      (pick (closes_heartbeat p ack.seqno) _ _ (λ _. before)
      (pick (is_due p ack.seqno) _ _ (λ _ none. acknowledges p.pushed p.acked (slice_get p.pushed p.acked) refl none (before going)) (ended_never (Bad ack.seqno)))))

  row_none : (event : Event) → (is_push event ≡ false → p.end ≡ None) → NoneWhileGoing (row p event)
  row_none (Push packet) going = pick (has_room p) _ p (λ _ none. subst NoneIsLast (sym (take-append-le p.acked p.pushed (packet ∷ []) (omega (arith, o.acked, o.sent, o.taken)))) (before none)) before
  row_none Take going = pick (has_untaken p && not (has_hand p)) _ p (λ _. before) before
  row_none Wrote going = pick (has_hand p) _ p (λ _. before) before
  row_none WriteFailed going = pick (has_hand p) _ p (λ _. ended_never (Failed (0 ∷ []))) before
  row_none (Acked ack) going = ack_none ack (going refl)
  row_none AckFailed going = ended_never (Failed (0 ∷ []))
  row_none Heartbeat going = pick (nat_lt p.heartbeats (2 ^ 32 - 1)) _ p (λ _. before) before

  going_on : (end : Option End) (push : Bool) → (is_none end || push) ≡ true → push ≡ false → end ≡ None
  going_on None push acts unpushed = refl
  going_on (Some end) push acts unpushed = absurd (cc (acts, unpushed))

  after_none : (event : Event) → NoneWhileGoing (after p event)
  after_none event = pick (is_none p.end || is_push event) (row p event) p (λ acts. row_none event (λ unpushed. going_on p.end (is_push event) acts unpushed)) before

run_none : (p : Pipeline) (events : List Event) → InOrder p → NoneWhileGoing p → NoneWhileGoing (run_from p events)
run_none p [] o before = before
run_none p (event ∷ events) o before = run_none (after p event) events (after_in_order p o event) (after_none p o before event)

-- while there is no end, no acknowledged packet is a last one
pub none_last : (window nodes : ℕ) (events : List Event) → (run_of window nodes events).end ≡ None → NoneIsLast (acked_of (run_of window nodes events))
none_last window nodes events = run_none (empty_pipeline window nodes) events (empty_in_order window nodes) (λ none. All-nil (λ (p : Outgoing). p.header.last_packet_in_block ≡ false))
