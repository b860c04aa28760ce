-- One of the two threads goes on.
use Rattle.std.proofs.Common.{◌≡◌, ℕ, ◌≤◌, true, [], length, inl, inr, arith}
use Rattle.std.proofs.lemmas.Bool.{cases_lt}
use Rattle.std.proofs.lemmas.Bool.Decides.{nat_tests}
use Rattle.std.proofs.lemmas.List.{nil_from_length}
use Rattle.hdfs_pipeline.specs.Pipelines.{Pipeline, has_room}
use Rattle.hdfs_pipeline.specs.Cores.{IsCore}
use Rattle.hdfs_threads.specs.Pairs.{SenderWaits, AskerWaits}

pub never_both : (core : Pipeline) (pushed count : ℕ) → IsCore core → core.sent ≡ core.taken → pushed ≤ count → SenderWaits core pushed count → AskerWaits core pushed count → ⊥
never_both core pushed count is hand within s a =
    let none : core.sent ≡ 0 = elim (cases_lt 0 core.sent) [
      | inl some ↦ absurd (a.none some)
      | inr zero ↦ omega (arith, zero)
    ] in
    let all : length core.pushed ≡ 0 = elim (cases_lt core.taken (length core.pushed)) [
      | inl left ↦ absurd (s.idle (record { going = s.going; empty = hand; left = left }))
      | inr most ↦ omega (arith, most, none, hand)
    ] in
    let nil : core.pushed ≡ [] = nil_from_length core.pushed all in
    let room : has_room core ≡ true = grind (arith, nat_tests, is.window, is.forgets, all) in
    elim (cases_lt pushed count) [
      | inl left ↦ absurd (cc (s.full left, room))
      | inr most ↦ a.left (omega (arith, most, within)) nil
    ]
