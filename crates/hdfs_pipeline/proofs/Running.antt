-- A pipeline that forgets its acknowledged packets goes on as one that doesn't.
use Rattle.std.proofs.Common.{◌≡◌, ℕ, zero, suc, ℤ, ◌+◌, ◌-◌, ◌≤◌, Bool, true, false, not, ◌&&◌, ◌||◌, cond, List, [], ◌∷◌, ◌++◌, length, drop, Option, Some, None, refl, sym, ◌∙◌, ap, subst, arith}
use Rattle.std.specs.Prelude.{nat_lt, slice_get, is_none, ◌==◌, ◌^◌}
use Rattle.std.proofs.lemmas.Bool.Decides.{nat_tests}
use Rattle.std.proofs.lemmas.List.{length-drop, length-append, drop-append-le, drop-drop}
use Rattle.hdfs_wire.specs.Outgoing.{Outgoing}
use Rattle.hdfs_wire.specs.declared.ack.Ack.{Ack}
use Rattle.hdfs_pipeline.specs.declared.event.Event.{Event}
use Rattle.hdfs_pipeline.specs.declared.event.Event.TheVariants.{Push, Take, Wrote, WriteFailed, Acked, AckFailed, Heartbeat}
use Rattle.hdfs_pipeline.specs.Pipelines.{End, Done, Failed, Bad, Pipeline, row, ack_row, after, run_from, run_of, empty_pipeline, has_room, has_hand, has_untaken, closes_heartbeat, is_due, has_seqno, is_push, is_last, ended, acknowledged}
use Rattle.hdfs_pipeline.specs.Places.{are_fine, failed_from}
use Rattle.hdfs_pipeline.specs.Cores.{forgotten, next_of, Stands, Follows}

-- the counts of a pipeline are in order
pub record InOrder (p : Pipeline) : Type 0 where
  pub acked : p.acked ≤ p.sent
  pub sent : p.sent ≤ p.taken
  pub taken : p.taken ≤ length p.pushed

-- pipelines with equal parts are equal
pub equal : (w n : ℕ) (P Q : List Outgoing) (a b s t u v h : ℕ) (e : Option End) → P ≡ Q → a ≡ b → s ≡ t → u ≡ v
    → ◌≡◌ {A = Pipeline} (record { window = w; nodes = n; pushed = P; acked = a; sent = s; taken = u; heartbeats = h; end = e })
    (record { window = w; nodes = n; pushed = Q; acked = b; sent = t; taken = v; heartbeats = h; end = e })
equal w n P Q a b s t u v h e one two three four = cc

-- a pipeline with nothing acknowledged has nothing to forget
pub nothing_forgotten : (p : Pipeline) → p.acked ≡ 0 → forgotten p ≡ p
nothing_forgotten p none =
    equal p.window p.nodes (drop p.acked p.pushed) p.pushed 0 p.acked (p.sent - p.acked) p.sent (p.taken - p.acked) p.taken p.heartbeats p.end (rw none refl) (sym none) (omega arith) (omega arith)

lt_less : (a s t : ℕ) → a ≤ s → a ≤ t → nat_lt (s - a) (t - a) ≡ nat_lt s t
lt_less a s t one two = grind (arith, nat_tests)

first_left : {X : Type 0} (xs : List X) (k : ℕ) → slice_get (drop k xs) 0 ≡ slice_get xs k
first_left [] zero = refl
first_left [] (suc k) = refl
first_left (x ∷ xs) zero = refl
first_left (x ∷ xs) (suc k) = first_left xs k

module _ (p : Pipeline) (o : InOrder p) where
  room_left : has_room (forgotten p) ≡ has_room p
  room_left = rw (length-drop p.acked p.pushed) (grind (arith, nat_tests))

  hand_left : has_hand (forgotten p) ≡ has_hand p
  hand_left = lt_less p.acked p.sent p.taken o.acked (omega (arith, o.acked, o.sent))

  untaken_left : has_untaken (forgotten p) ≡ has_untaken p
  untaken_left = rw (length-drop p.acked p.pushed) (lt_less p.acked p.taken (length p.pushed) (omega (arith, o.acked, o.sent)) (omega (arith, o.acked, o.sent, o.taken)))

  sent_left : nat_lt 0 (p.sent - p.acked) ≡ nat_lt p.acked p.sent
  sent_left = grind (arith, nat_tests)

  due_left : (seqno : ℤ) → is_due (forgotten p) seqno ≡ is_due p seqno
  due_left seqno = rw (sent_left, first_left p.pushed p.acked) refl

-- the rows of an acknowledgement from the fourth on, from the third, and from the second
abbrev pub by_due : Pipeline → ℤ → Pipeline
by_due p seqno = cond (is_due p seqno) (acknowledged p) (ended p (Bad seqno))

abbrev pub by_seqno : Pipeline → ℤ → Pipeline
by_seqno p seqno = cond (closes_heartbeat p seqno) (record p { heartbeats = p.heartbeats - 1 }) (by_due p seqno)

abbrev pub by_statuses : Pipeline → Ack → Pipeline
by_statuses p ack = cond (not (are_fine ack.replies)) (ended p (Failed (failed_from 0 ack.replies))) (by_seqno p ack.seqno)

-- a choice between pipelines, by equal tests
both : (b c : Bool) (p q r s : Pipeline) → b ≡ c → forgotten p ≡ forgotten r → forgotten q ≡ forgotten s → forgotten (cond b p q) ≡ forgotten (cond c r s)
both true true p q r s same one two = one
both false false p q r s same one two = two
both true false p q r s same one two = cc
both false true p q r s same one two = cc

module _ (p : Pipeline) (o : InOrder p) where
  twice : forgotten (forgotten p) ≡ forgotten p
  twice = nothing_forgotten (forgotten p) refl

  closed : (end : End) → forgotten (ended (forgotten p) end) ≡ forgotten (ended p end)
  closed end = nothing_forgotten (ended (forgotten p) end) refl

  push_row : (packet : Outgoing) → forgotten (row (forgotten p) (Push packet)) ≡ forgotten (row p (Push packet))
  push_row packet =
      both (has_room (forgotten p)) (has_room p) (record (forgotten p) { pushed = drop p.acked p.pushed ++ packet ∷ [] }) (forgotten p) (record p { pushed = p.pushed ++ packet ∷ [] }) p (room_left p o)
      (nothing_forgotten (record (forgotten p) { pushed = drop p.acked p.pushed ++ packet ∷ [] }) refl
      ∙ equal p.window p.nodes (drop p.acked p.pushed ++ packet ∷ []) (drop p.acked (p.pushed ++ packet ∷ [])) 0 0 (p.sent - p.acked) (p.sent - p.acked) (p.taken - p.acked) (p.taken - p.acked) p.heartbeats p.end
      (sym (drop-append-le p.acked p.pushed (packet ∷ []) (omega (arith, o.acked, o.sent, o.taken)))) refl refl refl)
      twice

  take_row : forgotten (row (forgotten p) Take) ≡ forgotten (row p Take)
  take_row =
      both (has_untaken (forgotten p) && not (has_hand (forgotten p))) (has_untaken p && not (has_hand p)) (record (forgotten p) { taken = p.taken - p.acked + 1 }) (forgotten p) (record p { taken = p.taken + 1 }) p (rw (untaken_left p o, hand_left p o) refl)
      (equal p.window p.nodes (drop 0 (drop p.acked p.pushed)) (drop p.acked p.pushed) 0 0 (p.sent - p.acked - 0) (p.sent - p.acked) (p.taken - p.acked + 1 - 0) (p.taken + 1 - p.acked) p.heartbeats p.end
      refl refl (omega arith) (omega (arith, o.acked, o.sent)))
      twice

  wrote_row : forgotten (row (forgotten p) Wrote) ≡ forgotten (row p Wrote)
  wrote_row =
      both (has_hand (forgotten p)) (has_hand p) (record (forgotten p) { sent = p.sent - p.acked + 1 }) (forgotten p) (record p { sent = p.sent + 1 }) p (hand_left p o)
      (equal p.window p.nodes (drop 0 (drop p.acked p.pushed)) (drop p.acked p.pushed) 0 0 (p.sent - p.acked + 1 - 0) (p.sent + 1 - p.acked) (p.taken - p.acked - 0) (p.taken - p.acked) p.heartbeats p.end
      refl refl (omega (arith, o.acked)) (omega arith))
      twice

  failed_row : forgotten (row (forgotten p) WriteFailed) ≡ forgotten (row p WriteFailed)
  failed_row = both (has_hand (forgotten p)) (has_hand p) (ended (forgotten p) (Failed (0 ∷ []))) (forgotten p) (ended p (Failed (0 ∷ []))) p (hand_left p o) (closed (Failed (0 ∷ []))) twice

  acknowledged_left : forgotten (acknowledged (forgotten p)) ≡ forgotten (acknowledged p)
  acknowledged_left =
      rw (first_left p.pushed p.acked)
      (equal p.window p.nodes (drop 1 (drop p.acked p.pushed)) (drop (p.acked + 1) p.pushed) 0 0 (p.sent - p.acked - 1) (p.sent - (p.acked + 1)) (p.taken - p.acked - 1) (p.taken - (p.acked + 1)) p.heartbeats
      (cond (is_last (slice_get p.pushed p.acked)) (Some Done) None) (drop-drop 1 p.acked p.pushed) refl (omega arith) (omega arith))

  due_row : (seqno : ℤ) → forgotten (by_due (forgotten p) seqno) ≡ forgotten (by_due p seqno)
  due_row seqno =
      both (is_due (forgotten p) seqno) (is_due p seqno) (acknowledged (forgotten p)) (ended (forgotten p) (Bad seqno)) (acknowledged p) (ended p (Bad seqno))
      (due_left p o seqno) acknowledged_left (closed (Bad seqno))

  beat_left : forgotten (record (forgotten p) { heartbeats = p.heartbeats - 1 }) ≡ forgotten (record p { heartbeats = p.heartbeats - 1 })
  beat_left = nothing_forgotten (record (forgotten p) { heartbeats = p.heartbeats - 1 }) refl

  beat_more : forgotten (record (forgotten p) { heartbeats = p.heartbeats + 1 }) ≡ forgotten (record p { heartbeats = p.heartbeats + 1 })
  beat_more = nothing_forgotten (record (forgotten p) { heartbeats = p.heartbeats + 1 }) refl

  fine_row : (seqno : ℤ) → forgotten (by_seqno (forgotten p) seqno) ≡ forgotten (by_seqno p seqno)
  fine_row seqno =
      both _ (closes_heartbeat p seqno) (record (forgotten p) { heartbeats = p.heartbeats - 1 }) (by_due (forgotten p) seqno) (record p { heartbeats = p.heartbeats - 1 }) (by_due p seqno)
      refl beat_left (due_row seqno)

  statuses_row : (ack : Ack) → forgotten (by_statuses (forgotten p) ack) ≡ forgotten (by_statuses p ack)
  statuses_row ack =
      let end = Failed (failed_from 0 ack.replies) in
      both _ (not (are_fine ack.replies)) (ended (forgotten p) end) (by_seqno (forgotten p) ack.seqno) (ended p end) (by_seqno p ack.seqno) refl (closed end) (fine_row ack.seqno)

  acked_row : (ack : Ack) → forgotten (ack_row (forgotten p) ack) ≡ forgotten (ack_row p ack)
  acked_row ack =
      both _ (not (length ack.replies == p.nodes)) (ended (forgotten p) (Bad ack.seqno)) (by_statuses (forgotten p) ack) (ended p (Bad ack.seqno)) (by_statuses p ack)
      refl (closed (Bad ack.seqno)) (statuses_row ack)

  heartbeat_row : forgotten (row (forgotten p) Heartbeat) ≡ forgotten (row p Heartbeat)
  heartbeat_row = both _ (nat_lt p.heartbeats (2 ^ 32 - 1)) (record (forgotten p) { heartbeats = p.heartbeats + 1 }) (forgotten p) (record p { heartbeats = p.heartbeats + 1 }) p refl beat_more twice

  rows : (event : Event) → forgotten (row (forgotten p) event) ≡ forgotten (row p event)
  rows (Push packet) = push_row packet
  rows Take = take_row
  rows Wrote = wrote_row
  rows WriteFailed = failed_row
  rows (Acked ack) = acked_row ack
  rows AckFailed = closed (Failed (0 ∷ []))
  rows Heartbeat = heartbeat_row

  -- an event comes to the same, whether or not the acknowledged packets were forgotten before
  pub forgets : (event : Event) → next_of (forgotten p) event ≡ forgotten (after p event)
  forgets event = both _ (is_none p.end || is_push event) (row (forgotten p) event) (forgotten p) (row p event) p refl (rows event) twice

first_true : (b c : Bool) → (b && c) ≡ true → b ≡ true
first_true true c both = refl
first_true false c both = absurd (cc)

kept : (b : Bool) (p q : Pipeline) → (b ≡ true → InOrder p) → InOrder q → InOrder (cond b p q)
kept true p q one two = one refl
kept false p q one two = two

module _ (p : Pipeline) (o : InOrder p) where
  ended_in_order : (end : End) → InOrder (ended p end)
  ended_in_order end = record { acked = o.acked; sent = o.sent; taken = o.taken }

  acknowledged_in_order : (seqno : ℤ) → is_due p seqno ≡ true → InOrder (acknowledged p)
  acknowledged_in_order seqno due =
      let first : nat_lt p.acked p.sent ≡ true = first_true (nat_lt p.acked p.sent) (has_seqno seqno (slice_get p.pushed p.acked)) due in
      record { acked = grind (arith, nat_tests); sent = o.sent; taken = o.taken }

  ack_in_order : (ack : Ack) → InOrder (ack_row p ack)
  ack_in_order ack =
      kept (not (length ack.replies == p.nodes)) _ _ (λ _. ended_in_order (Bad ack.seqno))
      (kept (not (are_fine ack.replies)) _ _ (λ _. ended_in_order (Failed (failed_from 0 ack.replies)))
      (kept (closes_heartbeat p ack.seqno) _ _ (λ _. record { acked = o.acked; sent = o.sent; taken = o.taken })
      (kept (is_due p ack.seqno) _ _ (λ due. acknowledged_in_order ack.seqno due) (ended_in_order (Bad ack.seqno)))))

  row_in_order : (event : Event) → InOrder (row p event)
  row_in_order (Push packet) = kept (has_room p) _ _ (λ _. record { acked = o.acked; sent = o.sent; taken = rw (length-append p.pushed (packet ∷ [])) (omega (arith, o.taken)) }) o
  row_in_order Take = kept (has_untaken p && not (has_hand p)) _ _ (λ h. record { acked = o.acked; sent = omega (arith, o.sent); taken = grind (arith, nat_tests) }) o
  row_in_order Wrote = kept (has_hand p) _ _ (λ h. record { acked = omega (arith, o.acked); sent = grind (arith, nat_tests); taken = o.taken }) o
  row_in_order WriteFailed = kept (has_hand p) _ _ (λ _. ended_in_order (Failed (0 ∷ []))) o
  row_in_order (Acked ack) = ack_in_order ack
  row_in_order AckFailed = ended_in_order (Failed (0 ∷ []))
  row_in_order Heartbeat = kept (nat_lt p.heartbeats (2 ^ 32 - 1)) _ _ (λ _. record { acked = o.acked; sent = o.sent; taken = o.taken }) o

  pub after_in_order : (event : Event) → InOrder (after p event)
  after_in_order event = kept (is_none p.end || is_push event) _ _ (λ _. row_in_order event) o

run_in_order : (p : Pipeline) (events : List Event) → InOrder p → InOrder (run_from p events)
run_in_order p [] o = o
run_in_order p (event ∷ events) o = run_in_order (after p event) events (after_in_order p o event)

pub empty_in_order : (window nodes : ℕ) → InOrder (empty_pipeline window nodes)
empty_in_order window nodes = record { acked = omega arith; sent = omega arith; taken = omega arith }

-- the counts of a run are in order
pub in_order : (window nodes : ℕ) (events : List Event) → InOrder (run_of window nodes events)
in_order window nodes events = run_in_order (empty_pipeline window nodes) events (empty_in_order window nodes)

run_push : (p : Pipeline) (events : List Event) (event : Event) → run_from p (events ++ event ∷ []) ≡ after (run_from p events) event
run_push p [] event = refl
run_push p (first ∷ events) event = run_push (after p first) events event

-- a run goes on with one event more
pub run_more : (window nodes : ℕ) (events : List Event) (event : Event) → run_of window nodes (events ++ event ∷ []) ≡ after (run_of window nodes events) event
run_more window nodes events event = run_push (empty_pipeline window nodes) events event

same_size : (p q r : Pipeline) (b : Bool) → (p.window ≡ r.window) × (p.nodes ≡ r.nodes) → (q.window ≡ r.window) × (q.nodes ≡ r.nodes) → ((cond b p q).window ≡ r.window) × ((cond b p q).nodes ≡ r.nodes)
same_size p q r true one two = one
same_size p q r false one two = two

row_size : (p : Pipeline) (event : Event) → ((row p event).window ≡ p.window) × ((row p event).nodes ≡ p.nodes)
row_size p (Push packet) = same_size _ p p (has_room p) (refl, refl) (refl, refl)
row_size p Take = same_size _ p p (has_untaken p && not (has_hand p)) (refl, refl) (refl, refl)
row_size p Wrote = same_size _ p p (has_hand p) (refl, refl) (refl, refl)
row_size p WriteFailed = same_size _ p p (has_hand p) (refl, refl) (refl, refl)
row_size p (Acked ack) =
    same_size _ _ p (not (length ack.replies == p.nodes)) (refl, refl)
    (same_size _ _ p (not (are_fine ack.replies)) (refl, refl)
    (same_size _ _ p (closes_heartbeat p ack.seqno) (refl, refl)
    (same_size _ _ p (is_due p ack.seqno) (refl, refl) (refl, refl))))
row_size p AckFailed = (refl, refl)
row_size p Heartbeat = same_size _ p p (nat_lt p.heartbeats (2 ^ 32 - 1)) (refl, refl) (refl, refl)

-- the window and the number of nodes stay
pub after_size : (p : Pipeline) (event : Event) → ((after p event).window ≡ p.window) × ((after p event).nodes ≡ p.nodes)
after_size p event = same_size (row p event) p p (is_none p.end || is_push event) (row_size p event) (refl, refl)

next_stands : (core : Pipeline) (event : Event) (events : List Event) → Stands core events → Stands (next_of core event) (events ++ event ∷ [])
next_stands core event events stands =
    let run = run_of core.window core.nodes events in
    let size = after_size core event in
    let on : next_of core event ≡ forgotten (after run event) = ap (λ p. next_of p event) stands ∙ forgets run (in_order core.window core.nodes events) event in
    let next = next_of core event in
    let more = events ++ event ∷ [] in
    on ∙ ap forgotten (sym (run_more core.window core.nodes events event))
    ∙ ap (λ w. forgotten (run_of w core.nodes more)) (sym size.0)
    ∙ ap (λ n. forgotten (run_of next.window n more)) (sym size.1)

-- what an event makes of a core stands for one event more
pub follows : (old new : Pipeline) (event : Event) → new ≡ next_of old event → Follows old event new
follows old new event next = record { next = next; stands = λ events stands. subst (λ (p : Pipeline). Stands p (events ++ event ∷ [])) (sym next) (next_stands old event events stands) }
