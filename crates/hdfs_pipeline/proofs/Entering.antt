-- What is true after every list of events.
use Rattle.std.proofs.Common.{◌≡◌, ℕ, Bool, true, false, not, ◌&&◌, ◌||◌, cond, List, [], ◌∷◌, ◌++◌, length, refl, sym, ◌∙◌, ap, inl, inr, append_assoc}
use Rattle.std.specs.Prelude.{nat_lt, is_none, ◌==◌}
use Rattle.std.proofs.lemmas.Bool.{cases_Bool}
use Rattle.std.proofs.lemmas.List.{append-nil, take-append-drop}
use Rattle.hdfs_wire.specs.Outgoing.{Outgoing}
use Rattle.hdfs_pipeline.specs.declared.event.Event.{Event}
use Rattle.hdfs_pipeline.specs.declared.event.Event.TheVariants.{Push, Take, Wrote, WriteFailed, Acked, AckFailed, Heartbeat}
use Rattle.hdfs_pipeline.specs.Places.{are_fine}
use Rattle.hdfs_pipeline.specs.Pipelines.{Pipeline, row, after, run_from, run_of, empty_pipeline, has_room, has_hand, has_untaken, closes_heartbeat, is_due, is_push, acked_of, pending_of}
use Rattle.hdfs_pipeline.specs.Pushed.{entering, entering_with, entered}

same_pushed : (b : Bool) (p q : Pipeline) (packets : List Outgoing) → p.pushed ≡ packets → q.pushed ≡ packets → (cond b p q).pushed ≡ packets
same_pushed true p q packets one two = one
same_pushed false p q packets one two = two

row_enters : (p : Pipeline) (event : Event) → (row p event).pushed ≡ p.pushed ++ entering p event
row_enters p (Push packet) = elim (cases_Bool (has_room p)) [
  | inl room ↦ rw room refl
  | inr full ↦ rw full (sym (append-nil p.pushed))
]
row_enters p Take = same_pushed (has_untaken p && not (has_hand p)) _ p (p.pushed ++ []) (sym (append-nil p.pushed)) (sym (append-nil p.pushed))
row_enters p Wrote = same_pushed (has_hand p) _ p (p.pushed ++ []) (sym (append-nil p.pushed)) (sym (append-nil p.pushed))
row_enters p WriteFailed = same_pushed (has_hand p) _ p (p.pushed ++ []) (sym (append-nil p.pushed)) (sym (append-nil p.pushed))
row_enters p (Acked ack) =
    same_pushed (not (length ack.replies == p.nodes)) _ _ (p.pushed ++ []) (sym (append-nil p.pushed))
    (same_pushed (not (are_fine ack.replies)) _ _ (p.pushed ++ []) (sym (append-nil p.pushed))
    (same_pushed (closes_heartbeat p ack.seqno) _ _ (p.pushed ++ []) (sym (append-nil p.pushed))
    (same_pushed (is_due p ack.seqno) _ _ (p.pushed ++ []) (sym (append-nil p.pushed)) (sym (append-nil p.pushed)))))
row_enters p AckFailed = sym (append-nil p.pushed)
row_enters p Heartbeat = same_pushed (nat_lt p.heartbeats 4294967295) _ p (p.pushed ++ []) (sym (append-nil p.pushed)) (sym (append-nil p.pushed))

stays_out : (p : Pipeline) (event : Event) → is_push event ≡ false → entering p event ≡ []
stays_out p (Push packet) unpushed = absurd (cc)
stays_out p Take unpushed = refl
stays_out p Wrote unpushed = refl
stays_out p WriteFailed unpushed = refl
stays_out p (Acked ack) unpushed = refl
stays_out p AckFailed unpushed = refl
stays_out p Heartbeat unpushed = refl

second_false : (b c : Bool) → (b || c) ≡ false → c ≡ false
second_false true c none = absurd (cc)
second_false false c none = none

after_enters : (p : Pipeline) (event : Event) → (after p event).pushed ≡ p.pushed ++ entering p event
after_enters p event = elim (cases_Bool (is_none p.end || is_push event)) [
  | inl acts ↦ rw acts (row_enters p event)
  | inr stays ↦
      let unpushed : is_push event ≡ false = second_false (is_none p.end) (is_push event) stays in
      rw stays (rw (stays_out p event unpushed) (sym (append-nil p.pushed)))
]

-- what came in is what was pushed
run_enters : (p : Pipeline) (events : List Event) → (run_from p events).pushed ≡ p.pushed ++ entering_with p events
run_enters p [] = sym (append-nil p.pushed)
run_enters p (event ∷ events) =
    run_enters (after p event) events
    ∙ ap (λ (packets : List Outgoing). packets ++ entering_with (after p event) events) (after_enters p event)
    ∙ append_assoc p.pushed (entering p event) (entering_with (after p event) events)

pub none_lost : (window nodes : ℕ) (events : List Event) → let run = run_of window nodes events in entered window nodes events ≡ acked_of run ++ pending_of run
none_lost window nodes events =
    let run = run_of window nodes events in
    sym (run_enters (empty_pipeline window nodes) events) ∙ sym (take-append-drop run.acked run.pushed)
