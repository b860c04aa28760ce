-- What each event makes of a core, row by row.
use Rattle.std.proofs.Common.{◌≡◌, ◌+◌, ◌-◌, ◌^◌, ◌<◌, ◌≤◌, Bool, true, false, not, ◌&&◌, ◌||◌, cond, [], ◌∷◌, ◌++◌, Option, Some, None, IsSome, IsTrue, refl, sym, ◌∙◌, ap, arith, inl, inr}
use Rattle.std.specs.Prelude.{nat_lt, is_none}
use Rattle.std.proofs.lemmas.Bool.{cases_lt}
use Rattle.std.proofs.Math.Bool.{or-true}
use Rattle.std.proofs.lemmas.Bool.Decides.{nat_tests}
use Rattle.hdfs_wire.specs.Outgoing.{Outgoing}
use Rattle.hdfs_pipeline.specs.declared.event.Event.{Event}
use Rattle.hdfs_pipeline.specs.declared.event.Event.TheVariants.{Push, Take, Wrote, WriteFailed, AckFailed, Heartbeat}
use Rattle.hdfs_pipeline.specs.Pipelines.{End, Failed, Pipeline, after, has_room, has_hand, has_untaken, is_push, ended}
use Rattle.hdfs_pipeline.specs.Cores.{forgotten, CanTake, CanOpenHeartbeat, Follows}
use Rattle.hdfs_pipeline.proofs.Running.{nothing_forgotten, follows, equal}

stays : (p : Pipeline) (event : Event) (end : Option End) → IsSome end → is_push event ≡ false → p.end ≡ end → after p event ≡ p
stays p event (Some end) has unpushed is = rw (is, unpushed) refl
stays p event None has unpushed is = absurd (cc)

-- after an end nothing happens but a push
pub end_stays : (p : Pipeline) (event : Event) → IsSome p.end → is_push event ≡ false → after p event ≡ p
end_stays p event has unpushed = stays p event p.end has unpushed refl

none_true : (end : Option End) → (is_none end || false) ≡ true → end ≡ None
none_true None h = refl
none_true (Some end) h = absurd (cc)

-- where there is no end
pub going_from : (end : Option End) → (IsSome end → IsTrue false) → end ≡ None
going_from None never = refl
going_from (Some end) never = absurd (cc (never refl))

nothing_chosen : (b c : Bool) (p q : Pipeline) → (b ≡ true → c ≡ true → ⊥) → cond b (cond c q p) p ≡ p
nothing_chosen true true p q never = absurd (never refl refl)
nothing_chosen true false p q never = refl
nothing_chosen false c p q never = refl

module _ (p : Pipeline) (none : p.acked ≡ 0) where
  -- an event whose row is q makes q of a core
  by_row : (event : Event) (q : Pipeline) → after p event ≡ q → q.acked ≡ 0 → Follows p event q
  by_row event q is left = follows p q event (sym (ap forgotten is ∙ nothing_forgotten q left))

  pub stays_ended : (event : Event) → IsSome p.end → is_push event ≡ false → Follows p event p
  stays_ended event has unpushed = by_row event p (end_stays p event has unpushed) none

  pub pushes : (packet : Outgoing) → has_room p ≡ true → Follows p (Push packet) (record p { pushed = p.pushed ++ packet ∷ [] })
  pushes packet room = by_row (Push packet) (record p { pushed = p.pushed ++ packet ∷ [] }) (rw (or-true (is_none p.end), room) refl) none

  pub takes : CanTake p → Follows p Take (record p { taken = p.taken + 1 })
  takes can =
      let tests : (has_untaken p && not (has_hand p)) ≡ true = grind (arith, nat_tests) in
      by_row Take (record p { taken = p.taken + 1 }) (rw (can.going, tests) refl) none

  pub takes_nothing : p.sent ≤ p.taken → (CanTake p → ⊥) → Follows p Take p
  takes_nothing order never =
      by_row Take p (nothing_chosen (is_none p.end || false) (has_untaken p && not (has_hand p)) p (record p { taken = p.taken + 1 })
      (λ going test. never (record { going = none_true p.end going; empty = grind (arith, nat_tests); left = grind (arith, nat_tests) }))) none

  pub writes : p.end ≡ None → p.sent ≤ p.taken → p.taken ≤ p.sent + 1 → Follows p Wrote (record p { sent = p.taken })
  writes going some one = by_row Wrote (record p { sent = p.taken })
      (elim (cases_lt p.sent p.taken) [
        | inl hand ↦
            let test : has_hand p ≡ true = grind (arith, nat_tests) in
            rw (going, test) (equal p.window p.nodes p.pushed p.pushed p.acked p.acked (p.sent + 1) p.taken p.taken p.taken p.heartbeats None refl refl (omega arith) refl)
        | inr empty ↦
            let test : has_hand p ≡ false = grind (arith, nat_tests) in
            rw (going, test) (equal p.window p.nodes p.pushed p.pushed p.acked p.acked p.sent p.taken p.taken p.taken p.heartbeats None refl refl (omega arith) refl)
      ])
      none

  pub fails_to_write : p.end ≡ None → p.sent < p.taken → Follows p WriteFailed (ended p (Failed (0 ∷ [])))
  fails_to_write going hand =
      let test : has_hand p ≡ true = grind (arith, nat_tests) in
      by_row WriteFailed (ended p (Failed (0 ∷ []))) (rw (going, test) refl) none

  pub fails_at_nothing : p.taken ≤ p.sent → Follows p WriteFailed p
  fails_at_nothing empty = by_row WriteFailed p (nothing_chosen (is_none p.end || false) (has_hand p) p (ended p (Failed (0 ∷ []))) (λ going test. absurd (grind (arith, nat_tests)))) none

  pub fails_to_ack : p.end ≡ None → Follows p AckFailed (ended p (Failed (0 ∷ [])))
  fails_to_ack going = by_row AckFailed (ended p (Failed (0 ∷ []))) (rw going refl) none

  pub beats : CanOpenHeartbeat p → Follows p Heartbeat (record p { heartbeats = p.heartbeats + 1 })
  beats can =
      let test : nat_lt p.heartbeats (2 ^ 32 - 1) ≡ true = grind (arith, nat_tests, can.few) in
      by_row Heartbeat (record p { heartbeats = p.heartbeats + 1 }) (rw (can.going, test) refl) none

  pub beats_nothing : (CanOpenHeartbeat p → ⊥) → Follows p Heartbeat p
  beats_nothing never =
      by_row Heartbeat p (nothing_chosen (is_none p.end || false) (nat_lt p.heartbeats (2 ^ 32 - 1)) p (record p { heartbeats = p.heartbeats + 1 })
      (λ going test. never (record { going = none_true p.end going; few = grind (arith, nat_tests) }))) none
