-- The value under the lock goes on.
use Rattle.std.proofs.Common.{◌≡◌, ℕ, zero, suc, ◌+◌, ◌<◌, Bool, true, false, ◌||◌, cond, List, [], ◌∷◌, ◌++◌, length, take, drop, Option, Some, None, IsSome, refl, sym, ◌∙◌, ap, subst, arith}
use Rattle.std.specs.Prelude.{slice_index_or, is_none, not, ◌==◌}
use Rattle.hdfs_pipeline.specs.Places.{are_fine}
use Rattle.std.proofs.Math.Bool.{or-true}
use Rattle.std.proofs.lemmas.Bool.Decides.{nat_tests}
use Rattle.std.proofs.lemmas.List.{length-drop, take_more}
use Rattle.hdfs_wire.specs.Outgoing.{Outgoing}
use Rattle.hdfs_pipeline.specs.Pipelines.{Pipeline, End, row, after, run_of, has_room, is_push, closes_heartbeat, is_due}
use Rattle.hdfs_pipeline.specs.Cores.{Stands, Follows, forgotten, next_of}
use Rattle.hdfs_pipeline.specs.declared.event.Event.{Event}
use Rattle.hdfs_pipeline.specs.declared.event.Event.TheVariants.{Push, Take, Wrote, WriteFailed, Acked, AckFailed, Heartbeat}
use Rattle.hdfs_pipeline.proofs.Running.{run_more, after_size}
use Rattle.hdfs_pipeline.proofs.Rows.{end_stays}
use Rattle.hdfs_threads.specs.Counts.{count, is_wrote, is_write_failed, is_acked, is_ack_failed, wrote_in, write_failed_in, acked_in, ack_failed_in}
use Rattle.hdfs_threads.specs.Pairs.{Keeps, IsOver}

-- a count of a history with one event more
pub count_more : (kind : Event → ℕ) (events : List Event) (event : Event) → count kind (events ++ event ∷ []) ≡ count kind events + kind event
count_more kind [] event = omega arith
count_more kind (first ∷ events) event = let more = count_more kind events event in omega (arith, more)

-- what stands at a place, whatever the default
pub same_index : (xs : List Outgoing) (k : ℕ) (d e : Outgoing) → k < length xs → slice_index_or xs k d ≡ slice_index_or xs k e
same_index [] k d e lt = absurd (omega (arith, lt))
same_index (x ∷ xs) zero d e lt = refl
same_index (x ∷ xs) (suc k) d e lt = same_index xs k d e (omega (arith, lt))

same_pushed : (b : Bool) (p q : Pipeline) (packets : List Outgoing) → p.pushed ≡ packets → q.pushed ≡ packets → (cond b p q).pushed ≡ packets
same_pushed true p q packets one two = one
same_pushed false p q packets one two = two

row_pushed : (p : Pipeline) (event : Event) → is_push event ≡ false → (row p event).pushed ≡ p.pushed
row_pushed p (Push packet) no_push = absurd (cc)
row_pushed p Take no_push = same_pushed _ _ p p.pushed refl refl
row_pushed p Wrote no_push = same_pushed _ _ p p.pushed refl refl
row_pushed p WriteFailed no_push = same_pushed _ _ p p.pushed refl refl
row_pushed p (Acked ack) no_push =
    same_pushed (not (length ack.replies == p.nodes)) _ _ p.pushed refl
    (same_pushed (not (are_fine ack.replies)) _ _ p.pushed refl
    (same_pushed (closes_heartbeat p ack.seqno) _ _ p.pushed refl
    (same_pushed (is_due p ack.seqno) _ _ p.pushed refl refl)))
row_pushed p AckFailed no_push = refl
row_pushed p Heartbeat no_push = same_pushed _ _ p p.pushed refl refl

-- no event but a push brings a packet
pub after_pushed : (p : Pipeline) (event : Event) → is_push event ≡ false → (after p event).pushed ≡ p.pushed
after_pushed p event no_push = same_pushed (is_none p.end || is_push event) (row p event) p p.pushed (row_pushed p event no_push) refl

drop_none : (k : ℕ) (xs : List Outgoing) → xs ≡ [] → drop k xs ≡ []
drop_none zero xs is = is
drop_none (suc k) xs is = ap (drop (suc k)) is

end_from : (p : Pipeline) (event : Event) (end : Option End) → p.end ≡ end → (IsSome end → after p event ≡ p) → (after p event).end ≡ None → p.end ≡ None
end_from p event None is same none = is
end_from p event (Some end) is same none = ap (λ q. q.end) (sym (same refl)) ∙ none

-- an event that leaves no end found none
pub end_before : (p : Pipeline) (event : Event) → is_push event ≡ false → (after p event).end ≡ None → p.end ≡ None
end_before p event no_push none = end_from p event p.end refl (λ has. end_stays p event has no_push) none

-- it stays over
over_after : (packets : List Outgoing) (core core' : Pipeline) (pushed : ℕ) (event : Event) → is_push event ≡ false → core' ≡ next_of core event → IsOver packets core pushed → IsOver packets core' pushed
over_after packets core core' pushed event no_push next over none =
    let before : core.end ≡ None = end_before core event no_push (ap (λ p. p.end) (sym next) ∙ none) in
    let was = over before in
    let left : core'.pushed ≡ drop (after core event).acked core.pushed = ap (λ p. p.pushed) next ∙ ap (drop (after core event).acked) (after_pushed core event no_push) in
    (was.0, left ∙ drop_none (after core event).acked core.pushed was.1)

module _ (window nodes : ℕ) (packets : List Outgoing) (core core' : Pipeline) (history : List Event) (pushed a b c d z : ℕ) where
  -- an event that isn't a push, which each book that counts it has counted
  pub keeps_on : (event : Event) (history' : List Event) (a' b' c' d' : ℕ) → is_push event ≡ false → Follows core event core' → history' ≡ history ++ event ∷ []
      → a' ≡ a + is_wrote event → b' ≡ b + is_write_failed event → c' ≡ c + is_acked event → d' ≡ d + is_ack_failed event
      → Keeps window nodes packets core history pushed a b c d z → Keeps window nodes packets core' history' pushed a' b' c' d' z
  keeps_on event history' a' b' c' d' no_push follows more one two three four k =
      let size = after_size core event in record {
        window_is = ap (λ p. p.window) follows.next ∙ size.0 ∙ k.window_is;
        nodes_is = ap (λ p. p.nodes) follows.next ∙ size.1 ∙ k.nodes_is;
        stands = subst (Stands core') (sym more) (follows.stands history k.stands);
        within = k.within;
        pushes = ap (λ h. (run_of window nodes h).pushed) more ∙ ap (λ p. p.pushed) (run_more window nodes history event) ∙ after_pushed (run_of window nodes history) event no_push ∙ k.pushes;
        wrote_is = one ∙ ap (λ n. n + is_wrote event) k.wrote_is ∙ sym (ap wrote_in more ∙ count_more is_wrote history event);
        write_failed_is = two ∙ ap (λ n. n + is_write_failed event) k.write_failed_is ∙ sym (ap write_failed_in more ∙ count_more is_write_failed history event);
        acked_is = three ∙ ap (λ n. n + is_acked event) k.acked_is ∙ sym (ap acked_in more ∙ count_more is_acked history event);
        ack_failed_is = four ∙ ap (λ n. n + is_ack_failed event) k.ack_failed_is ∙ sym (ap ack_failed_in more ∙ count_more is_ack_failed history event);
        over_is = λ some. over_after packets core core' pushed event no_push follows.next (k.over_is some);
      }

  room_of_run : (p q : Pipeline) → q ≡ forgotten p → has_room q ≡ true → has_room p ≡ true
  room_of_run p q is room =
      let same : has_room (forgotten p) ≡ has_room p = rw (length-drop p.acked p.pushed) (grind (arith, nat_tests)) in
      sym same ∙ ap has_room (sym is) ∙ room

  pushed_more : (p : Pipeline) (packet : Outgoing) → has_room p ≡ true → (after p (Push packet)).pushed ≡ p.pushed ++ packet ∷ []
  pushed_more p packet room = rw (or-true (is_none p.end), room) refl

  pushed_end : (p : Pipeline) (packet : Outgoing) → has_room p ≡ true → (after p (Push packet)).end ≡ p.end
  pushed_end p packet room = rw (or-true (is_none p.end), room) refl

  -- the next packet was pushed
  pub keeps_pushing : (packet : Outgoing) (history' : List Event) (pushed' : ℕ) → history' ≡ history ++ Push packet ∷ [] → pushed' ≡ pushed + 1 → Follows core (Push packet) core' → has_room core ≡ true → pushed < length packets → packet ≡ slice_index_or packets pushed packet
      → Keeps window nodes packets core history pushed a b c d z → Keeps window nodes packets core' history' pushed' a b c d z
  keeps_pushing packet history' pushed' more next follows room left is k =
      let event = Push packet in
      let size = after_size core event in
      let run = run_of window nodes history in
      let stands : core ≡ forgotten run = k.stands ∙ ap (λ w. forgotten (run_of w core.nodes history)) k.window_is ∙ ap (λ n. forgotten (run_of window n history)) k.nodes_is in record {
        window_is = ap (λ p. p.window) follows.next ∙ size.0 ∙ k.window_is;
        nodes_is = ap (λ p. p.nodes) follows.next ∙ size.1 ∙ k.nodes_is;
        stands = subst (Stands core') (sym more) (follows.stands history k.stands);
        within = omega (arith, left, next);
        pushes = ap (λ h. (run_of window nodes h).pushed) more ∙ ap (λ p. p.pushed) (run_more window nodes history event) ∙ pushed_more run packet (room_of_run run core stands room) ∙ ap (λ xs. xs ++ packet ∷ []) k.pushes ∙ ap (λ x. take pushed packets ++ x ∷ []) is ∙ sym (take_more packets pushed packet left) ∙ ap (λ n. take n packets) (sym next);
        wrote_is = k.wrote_is ∙ sym (ap wrote_in more ∙ count_more is_wrote history event ∙ omega arith);
        write_failed_is = k.write_failed_is ∙ sym (ap write_failed_in more ∙ count_more is_write_failed history event ∙ omega arith);
        acked_is = k.acked_is ∙ sym (ap acked_in more ∙ count_more is_acked history event ∙ omega arith);
        ack_failed_is = k.ack_failed_is ∙ sym (ap ack_failed_in more ∙ count_more is_ack_failed history event ∙ omega arith);
        over_is = λ some none.
            let before : core.end ≡ None = sym (pushed_end core packet room) ∙ ap (λ p. p.end) (sym follows.next) ∙ none in
            let was = (k.over_is some before).0 in
            absurd (omega (arith, left, was));
      }

  -- a thread found it over
  pub keeps_over : IsOver packets core pushed → Keeps window nodes packets core history pushed a b c d z → Keeps window nodes packets core history pushed a b c d (z + 1)
  keeps_over over k = record {
    window_is = k.window_is;
    nodes_is = k.nodes_is;
    stands = k.stands;
    within = k.within;
    pushes = k.pushes;
    wrote_is = k.wrote_is;
    write_failed_is = k.write_failed_is;
    acked_is = k.acked_is;
    ack_failed_is = k.ack_failed_is;
    over_is = λ some. over;
  }
