-- What an acknowledgement makes of a core all of whose packets were sent.
use Rattle.std.proofs.Common.{◌≡◌, inl, inr, ℕ, ℤ, ◌-◌, ◌<◌, Bool, true, false, not, ◌&&◌, cond, List, [], ◌∷◌, length, Option, Some, None, refl, sym, ◌∙◌, ap, arith}
use Rattle.std.specs.Prelude.{nat_lt, slice_get, ◌==◌, ◌||◌, is_none}
use Rattle.std.proofs.lemmas.Bool.{cases_Bool}
use Rattle.std.proofs.lemmas.Bool.Decides.{nat_tests}
use Rattle.hdfs_wire.specs.Outgoing.{Outgoing}
use Rattle.hdfs_wire.specs.declared.ack.Ack.{Ack}
use Rattle.hdfs_pipeline.specs.declared.event.Event.TheVariants.{Acked}
use Rattle.hdfs_pipeline.specs.Pipelines.{has_seqno, End, Done, Failed, Bad, Pipeline, ack_row, closes_heartbeat, is_due, ended, acknowledged}
use Rattle.hdfs_pipeline.specs.Places.{are_fine, failed_from}
use Rattle.hdfs_pipeline.specs.Cores.{forgotten, next_of}
use Rattle.hdfs_pipeline.proofs.Running.{nothing_forgotten}

-- the core without its oldest packet, which is acknowledged
abbrev pub without_first : Pipeline → Outgoing → List Outgoing → Pipeline
without_first p packet rest = record p { pushed = rest; sent = p.sent - 1; taken = p.taken - 1; end = cond (packet.header.last_packet_in_block) (Some Done) None }

-- the four ends of an acknowledgement: a wrong number of statuses; failed nodes; the oldest packet's; another's
pub data Acks (p : Pipeline) (ack : Ack) (q : Pipeline) : Type 0 where
  Misshapen : (length ack.replies ≡ p.nodes → ⊥) → q ≡ ended p (Bad ack.seqno) → Acks p ack q
  Nodes : length ack.replies ≡ p.nodes → are_fine ack.replies ≡ false → q ≡ ended p (Failed (failed_from 0 ack.replies)) → Acks p ack q
  First : (packet : Outgoing) (rest : List Outgoing) → p.pushed ≡ packet ∷ rest → packet.header.seqno ≡ ack.seqno → length ack.replies ≡ p.nodes → are_fine ack.replies ≡ true → q ≡ without_first p packet rest → Acks p ack q
  Other : ((packet : Outgoing) (rest : List Outgoing) → p.pushed ≡ packet ∷ rest → packet.header.seqno ≡ ack.seqno → ⊥) → q ≡ ended p (Bad ack.seqno) → Acks p ack q

not_true : (b : Bool) → not b ≡ true → b ≡ false
not_true false is = refl
not_true true is = absurd (cc)

no_heartbeat : (p : Pipeline) (seqno : ℤ) → p.heartbeats ≡ 0 → closes_heartbeat p seqno ≡ false
no_heartbeat p seqno none = grind (arith, nat_tests)

first_in : (packets : List Outgoing) (seqno : ℤ) (sent : ℕ) → (nat_lt 0 sent && has_seqno seqno (slice_get packets 0)) ≡ true → (packet : Outgoing) × (rest : List Outgoing) × (packets ≡ packet ∷ rest) × (packet.header.seqno ≡ seqno)
first_in [] seqno sent due = absurd (grind (arith, nat_tests, due))
first_in (packet ∷ rest) seqno sent due = (packet, rest, refl, grind (arith, nat_tests, due))

not_first : (packets : List Outgoing) (seqno : ℤ) (sent : ℕ) → 0 < sent → (nat_lt 0 sent && has_seqno seqno (slice_get packets 0)) ≡ false → (packet : Outgoing) (rest : List Outgoing) → packets ≡ packet ∷ rest → packet.header.seqno ≡ seqno → ⊥
not_first packets seqno sent some due packet rest is same = grind (arith, nat_tests, due)

module _ (p : Pipeline) (ack : Ack) (going : p.end ≡ None) (none : p.acked ≡ 0) (beats : p.heartbeats ≡ 0) (some : 0 < p.sent) where
  by_row : (q : Pipeline) → ack_row p ack ≡ q → q.acked ≡ 0 → next_of p (Acked ack) ≡ q
  by_row q is left = ap (λ (e : Option End). forgotten (cond (is_none e || false) (ack_row p ack) p)) going ∙ ap forgotten is ∙ nothing_forgotten q left

  due_is : (seqno : ℤ) → is_due p seqno ≡ (nat_lt 0 p.sent && has_seqno seqno (slice_get p.pushed 0))
  due_is seqno = ap (λ (n : ℕ). nat_lt n p.sent && has_seqno seqno (slice_get p.pushed n)) none

  first_gone : (packet : Outgoing) (rest : List Outgoing) → p.pushed ≡ packet ∷ rest → forgotten (acknowledged p) ≡ without_first p packet rest
  first_gone packet rest is = rw (none, is) refl

  due_case : length ack.replies ≡ p.nodes → are_fine ack.replies ≡ true → (b : Bool) → is_due p ack.seqno ≡ b → ack_row p ack ≡ cond b (acknowledged p) (ended p (Bad ack.seqno)) → Acks p ack (next_of p (Acked ack))
  due_case each fine true due is =
      let f = first_in p.pushed ack.seqno p.sent (sym (due_is ack.seqno) ∙ due) in
      First f.0 f.1 f.2 f.3 each fine (ap (λ (e : Option End). forgotten (cond (is_none e || false) (ack_row p ack) p)) going ∙ ap forgotten is ∙ first_gone f.0 f.1 f.2)
  due_case each fine false due is = Other (not_first p.pushed ack.seqno p.sent some (sym (due_is ack.seqno) ∙ due)) (by_row (ended p (Bad ack.seqno)) is none)

  fine_case : length ack.replies ≡ p.nodes → (b : Bool) → are_fine ack.replies ≡ b → (length ack.replies == p.nodes) ≡ true → Acks p ack (next_of p (Acked ack))
  fine_case each true fine test = due_case each fine (is_due p ack.seqno) refl (rw (test, fine, no_heartbeat p ack.seqno beats) refl)
  fine_case each false fine test = Nodes each fine (by_row (ended p (Failed (failed_from 0 ack.replies))) (rw (test, fine) refl) none)

  -- what an acknowledgement makes of the core
  pub acks : Acks p ack (next_of p (Acked ack))
  acks = elim (cases_Bool (length ack.replies == p.nodes)) [
    | inl test ↦ fine_case (grind (arith, nat_tests, test)) (are_fine ack.replies) refl test
    | inr test ↦ Misshapen (λ is. grind (arith, nat_tests, test)) (by_row (ended p (Bad ack.seqno)) (rw test refl) none)
  ]
