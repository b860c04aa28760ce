-- How many events of a kind a history has.
use Rattle.std.specs.Prelude.{ℕ, ◌+◌, List, [], ◌∷◌}
use Rattle.hdfs_pipeline.specs.declared.event.Event.{Event}
use Rattle.hdfs_pipeline.specs.declared.event.Event.TheVariants.{Wrote, WriteFailed, Acked, AckFailed}

-- 1 where a packet was sent, and 0 for any other event
abbrev pub is_wrote : Event → ℕ
is_wrote Wrote = 1
is_wrote _ = 0

-- 1 where a packet couldn't be sent
abbrev pub is_write_failed : Event → ℕ
is_write_failed WriteFailed = 1
is_write_failed _ = 0

-- 1 where an acknowledgement came
abbrev pub is_acked : Event → ℕ
is_acked (Acked ack) = 1
is_acked _ = 0

-- 1 where no acknowledgement came
abbrev pub is_ack_failed : Event → ℕ
is_ack_failed AckFailed = 1
is_ack_failed _ = 0

-- how many events of a kind there are, the kind being 1 for each of them and 0 for all others
abbrev pub count : (Event → ℕ) → List Event → ℕ
count kind [] = 0
count kind (event ∷ events) = kind event + count kind events

-- how many packets were sent
abbrev pub wrote_in : List Event → ℕ
wrote_in events = count is_wrote events

-- how many packets couldn't be sent
abbrev pub write_failed_in : List Event → ℕ
write_failed_in events = count is_write_failed events

-- how many acknowledgements came
abbrev pub acked_in : List Event → ℕ
acked_in events = count is_acked events

-- how often no acknowledgement came
abbrev pub ack_failed_in : List Event → ℕ
ack_failed_in events = count is_ack_failed events
