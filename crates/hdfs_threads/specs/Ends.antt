-- How a pair ends, and what it has counted.
use Rattle.std.specs.Prelude.{◌≡◌, ℕ, ◌<◌, ◌≤◌, false, List, [], ◌++◌, length, take, drop, All}
use Rattle.hdfs_wire.specs.Outgoing.{Outgoing}
use Rattle.hdfs_pipeline.specs.Pipelines.{run_of, acked_of}
use Rattle.hdfs_pipeline.specs.Ends.{end_of}
use Rattle.hdfs_pipeline.specs.declared.end.PipelineEnd.{PipelineEnd}
use Rattle.hdfs_pipeline.specs.declared.end.PipelineEnd.TheVariants as ends
use Rattle.hdfs_pipeline.specs.declared.event.Event.{Event}
use Rattle.hdfs_threads.specs.Counts.{wrote_in, write_failed_in, acked_in, ack_failed_in}
use Rattle.hdfs_threads.specs.Links.{OutShown, InShown, Took, GaveSo}
use Rattle.hdfs_threads.specs.declared.end.PairEnd.{PairEnd}

-- an end with the packets that were never pushed behind its replay
abbrev pub with_rest : PipelineEnd → List Outgoing → PipelineEnd
with_rest ends.Success rest = ends.Success
with_rest (ends.Recover failed replay) rest = ends.Recover failed (replay ++ rest)
with_rest (ends.Bad seqno) rest = ends.Bad seqno

-- none of these is the last packet of a block
abbrev pub NoneIsLast : List Outgoing → Type 0
NoneIsLast packets = All (λ packet. packet.header.last_packet_in_block ≡ false) packets

-- What was pushed is a front of the packets, and the end is that of the history, with the packets that were never
-- pushed behind its replay. So a replay is all packets but the acknowledged ones, in order; where no node has failed
-- it is empty, and none of the packets is a last one; and with success all are acknowledged.
pub record EndsWith (window nodes : ℕ) (packets : List Outgoing) (history : List Event) (end : PipelineEnd) : Type 0 where
  pub pushed : (run_of window nodes history).pushed ≡ take (length (run_of window nodes history).pushed) packets
  pub is : end ≡ with_rest (end_of (run_of window nodes history)) (drop (length (run_of window nodes history).pushed) packets)
  pub whole : (failed : List ℕ) (replay : List Outgoing) → end ≡ ends.Recover failed replay → packets ≡ acked_of (run_of window nodes history) ++ replay
  pub idle : (replay : List Outgoing) → end ≡ ends.Recover [] replay → (replay ≡ []) × NoneIsLast packets
  pub done : end ≡ ends.Success → packets ≡ acked_of (run_of window nodes history)

-- The events are as many as the calls of the two ends: as many packets were sent as were told, the first ones in
-- their order, all of them with success; a send that failed, at most one, has a cause; and what was given is as many
-- acknowledgements, and failures with a cause.
pub record Counted (out out' : OutShown) (acks acks' : InShown) (packets : List Outgoing) (r : PairEnd) : Type 0 where
  pub sent : r.sent ≡ wrote_in r.history
  pub within : r.sent ≤ length packets
  pub all : r.end ≡ ends.Success → r.sent ≡ length packets
  pub took : Took out (take r.sent packets) out'
  pub send_failed : 0 < write_failed_in r.history → out.failures < out'.failures
  pub one : write_failed_in r.history ≤ 1
  pub gave : GaveSo acks (acked_in r.history) (ack_failed_in r.history) acks'
  pub ack_failed : 0 < ack_failed_in r.history → acks.failures < acks'.failures
