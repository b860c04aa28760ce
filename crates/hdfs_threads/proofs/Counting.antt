-- As many packets were sent as a history says.
use Rattle.std.proofs.Common.{ℕ, ◌+◌, ◌-◌, ◌≤◌, Bool, true, false, not, ◌&&◌, ◌||◌, cond, List, [], ◌∷◌, length, arith}
use Rattle.std.specs.Prelude.{nat_lt, is_none, ◌==◌, ◌^◌}
use Rattle.hdfs_pipeline.specs.declared.event.Event.{Event}
use Rattle.hdfs_pipeline.specs.declared.event.Event.TheVariants.{Push, Take, Wrote, WriteFailed, Acked, AckFailed, Heartbeat}
use Rattle.hdfs_pipeline.specs.Places.{are_fine}
use Rattle.hdfs_pipeline.specs.Pipelines.{Pipeline, row, after, run_from, run_of, empty_pipeline, has_room, has_hand, has_untaken, closes_heartbeat, is_due, is_push}
use Rattle.hdfs_threads.specs.Counts.{is_wrote, wrote_in}

sent_most : (b : Bool) (p q : Pipeline) (n : ℕ) → p.sent ≤ n → q.sent ≤ n → (cond b p q).sent ≤ n
sent_most true p q n one two = one
sent_most false p q n one two = two

same_sent : (b : Bool) (p q : Pipeline) (n : ℕ) → p.sent ≤ n + 0 → q.sent ≤ n + 0 → (cond b p q).sent ≤ n + 0
same_sent b p q n one two = sent_most b p q (n + 0) one two

row_sent : (p : Pipeline) (event : Event) → (row p event).sent ≤ p.sent + is_wrote event
row_sent p (Push packet) = same_sent (has_room p) _ p p.sent (omega arith) (omega arith)
row_sent p Take = same_sent (has_untaken p && not (has_hand p)) _ p p.sent (omega arith) (omega arith)
row_sent p Wrote = sent_most (has_hand p) _ p (p.sent + 1) (omega arith) (omega arith)
row_sent p WriteFailed = same_sent (has_hand p) _ p p.sent (omega arith) (omega arith)
row_sent p (Acked ack) =
    same_sent (not (length ack.replies == p.nodes)) _ _ p.sent (omega arith)
    (same_sent (not (are_fine ack.replies)) _ _ p.sent (omega arith)
    (same_sent (closes_heartbeat p ack.seqno) _ _ p.sent (omega arith)
    (same_sent (is_due p ack.seqno) _ _ p.sent (omega arith) (omega arith))))
row_sent p AckFailed = omega arith
row_sent p Heartbeat = same_sent (nat_lt p.heartbeats (2 ^ 32 - 1)) _ p p.sent (omega arith) (omega arith)

after_sent : (p : Pipeline) (event : Event) → (after p event).sent ≤ p.sent + is_wrote event
after_sent p event = sent_most (is_none p.end || is_push event) (row p event) p (p.sent + is_wrote event) (row_sent p event) (omega arith)

run_sent : (p : Pipeline) (events : List Event) → (run_from p events).sent ≤ p.sent + wrote_in events
run_sent p [] = omega arith
run_sent p (event ∷ events) =
    let one = after_sent p event in
    let more = run_sent (after p event) events in
    omega (arith, one, more)

-- no more packets of a run were sent than there are events that say so
pub sent_counted : (window nodes : ℕ) (events : List Event) → (run_of window nodes events).sent ≤ wrote_in events
sent_counted window nodes events = let most = run_sent (empty_pipeline window nodes) events in omega (arith, most)
