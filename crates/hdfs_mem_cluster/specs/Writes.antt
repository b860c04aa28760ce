-- What a write link of a cluster in memory shows.
use Rattle.std.specs.Prelude.{◌≡◌, ℕ, ◌==◌, ◌&&◌, Bool, not, List, [], ◌∷◌, length, map, drop, slice_index_or, Option, Some, None, if◌then◌else◌}
use Rattle.hdfs_wire.specs.declared.ack.Ack.{Ack}
use Rattle.hdfs_wire.specs.Outgoing.{Outgoing}
use Rattle.hdfs_cluster.specs.declared.messages.Setup.{Setup}
use Rattle.hdfs_cluster.specs.declared.picture.OpenWrite.{OpenWrite}
use Rattle.hdfs_cluster.specs.Sending.{WritePlace, Came, uuids, end_of, seqno_of, put_packet}
use Rattle.hdfs_mem_datanodes.specs.declared.datanodes.Datanodes.{Datanodes}
use Rattle.hdfs_mem_cluster.specs.declared.write_link.MemWrite.{MemWrite}
use Rattle.hdfs_mem_datanodes.specs.Nodes.{held_in, undisturbed_in, is_on}

-- where the last of these packets ended in the block, behind others
abbrev pub last_end : Option ℕ → List Outgoing → Option ℕ
last_end end [] = end
last_end end (packet ∷ packets) = last_end (Some (end_of packet)) packets

-- what is told of a link with this set-up, these sent packets and so many of them acknowledged
abbrev pub told_at : Setup → List Outgoing → ℕ → OpenWrite
told_at setup sent acknowledged = record { setup = setup; end = last_end None sent; waiting = map seqno_of (drop acknowledged sent) }

-- what is told of a link
abbrev pub told_of : MemWrite → OpenWrite
told_of write = told_at write.setup write.sent.items write.acknowledged

-- what the picture shows of it: each datanode takes each packet at once
abbrev pub place_at : (ℕ → Bool) → Setup → List (List ℕ) → List Outgoing → List Ack → ℕ → WritePlace
place_at disturbed setup base sent responses acknowledged = record {
  block = setup.block.block_id;
  nodes = uuids setup.locs;
  base = λ i. slice_index_or base i [];
  sent = sent;
  responses = map Came responses;
  acknowledged = acknowledged;
  received = λ i. length sent;
  disturbed = disturbed;
}

-- whether another link has written to the block at a datanode of the set-up
abbrev pub disturbed_at : Datanodes → ℕ → Setup → ℕ → Bool
disturbed_at nodes link setup i = not (undisturbed_in nodes (slice_index_or (uuids setup.locs) i []) setup.block.block_id link)

-- what the picture shows of a link
abbrev pub place_of : Datanodes → ℕ → MemWrite → WritePlace
place_of nodes link write =
    place_at (λ i. disturbed_at nodes link write.setup i) write.setup write.base.items write.sent.items write.responses.items write.acknowledged

-- the same link, but for its packets
pub record SameWrite (old new : MemWrite) : Type 0 where
  pub setup : new.setup ≡ old.setup
  pub base : new.base ≡ old.base
  pub responses : new.responses.items ≡ old.responses.items
  pub acknowledged : new.acknowledged ≡ old.acknowledged

-- a packet of the link was put over what its datanodes hold of its block, and disturbed all other links there
pub record PutsPacket (setup : Setup) (link : ℕ) (packet : Outgoing) (old new : Datanodes) : Type 0 where
  pub bytes : (d : List ℕ) (b : ℕ) → held_in new d b
      ≡ (if is_on setup.locs setup.block.block_id d b then put_packet (held_in old d b) packet else held_in old d b)
  pub links : (d : List ℕ) (b other : ℕ) → undisturbed_in new d b other
      ≡ (if is_on setup.locs setup.block.block_id d b then undisturbed_in old d b other && link == other else undisturbed_in old d b other)
