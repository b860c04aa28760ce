-- What a node in memory acknowledges.
use Rattle.std.specs.Prelude.{ℕ, zero, suc, pos, List, [], ◌∷◌, ◌++◌, replicate, Option, Some}
use Rattle.hdfs_wire.specs.declared.ack.Ack.{Ack}

-- the acknowledgement of a packet by so many nodes, all of which are fine
abbrev pub fine_ack : ℕ → ℕ → Ack
fine_ack nodes seqno = record { seqno = pos seqno; replies = replicate nodes 0 }

-- those of the first so many packets, whose seqnos count from 0
abbrev pub fine_acks : ℕ → ℕ → List (Option Ack)
fine_acks nodes zero = []
fine_acks nodes (suc count) = fine_acks nodes count ++ Some (fine_ack nodes count) ∷ []
