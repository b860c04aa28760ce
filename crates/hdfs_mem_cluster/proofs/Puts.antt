-- What the datanodes of a pipeline hold where a packet is put there.
use Rattle.std.proofs.Common.{◌≡◌, ℕ, Bool, true, false, ◌&&◌, eqb, cond, List, refl, ◌∙◌, ap, subst}
use Rattle.std.proofs.lemmas.Bool.{eqb-true}
use Rattle.hdfs_wire.specs.Outgoing.{Outgoing}
use Rattle.hdfs_cluster.specs.declared.messages.Setup.{Setup}
use Rattle.hdfs_cluster.specs.Sending.{offset_of, put, put_packet}
use Rattle.hdfs_mem_datanodes.specs.declared.datanodes.Datanodes.{Datanodes}
use Rattle.hdfs_mem_datanodes.specs.Nodes.{held_in, whole_in, undisturbed_in, is_named, is_on, SameHeld}
use Rattle.hdfs_mem_cluster.specs.Writes.{PutsPacket}

-- a packet that was offered at all datanodes of a set-up, and then taken, was put over what they held
module _ (setup : Setup) (link : ℕ) (packet : Outgoing) (old mid new : Datanodes) (at : ℕ) (payload : List ℕ) (is_at : at ≡ offset_of packet.header.offset_in_block) (is_payload : payload ≡ packet.payload)
    (offered : (d : List ℕ) → is_named setup.locs d ≡ true → whole_in mid d setup.block.block_id ≡ put (held_in old d setup.block.block_id) at payload) (same : SameHeld old mid)
    (bytes : (d : List ℕ) (b : ℕ) → held_in new d b ≡ cond (is_on setup.locs setup.block.block_id d b) (whole_in mid d b) (held_in mid d b))
    (links : (d : List ℕ) (b other : ℕ) → undisturbed_in new d b other
    ≡ cond (is_on setup.locs setup.block.block_id d b) (undisturbed_in mid d b other && eqb link other) (undisturbed_in mid d b other)) where
  whole : (d : List ℕ) (b : ℕ) → is_named setup.locs d ≡ true → setup.block.block_id ≡ b → whole_in mid d b ≡ put_packet (held_in old d b) packet
  whole d b named is =
      subst (λ (n : ℕ). whole_in mid d n ≡ put_packet (held_in old d n) packet) is
      (offered d named ∙ ap (λ (n : ℕ). put (held_in old d setup.block.block_id) n payload) is_at ∙ ap (put (held_in old d setup.block.block_id) (offset_of packet.header.offset_in_block)) is_payload)

  held_after : (d : List ℕ) (b : ℕ) (s t : Bool) → is_named setup.locs d ≡ s → eqb setup.block.block_id b ≡ t
      → cond (s && t) (whole_in mid d b) (held_in mid d b) ≡ cond (s && t) (put_packet (held_in old d b) packet) (held_in old d b)
  held_after d b true true named is = whole d b named (eqb-true setup.block.block_id b is)
  held_after d b true false named is = (same d b).bytes
  held_after d b false t named is = (same d b).bytes

  pub puts_packet : PutsPacket setup link packet old new
  puts_packet = record {
    bytes = λ d b. bytes d b ∙ held_after d b (is_named setup.locs d) (eqb setup.block.block_id b) refl refl;
    links = λ d b other. links d b other
        ∙ ap (λ (u : Bool). cond (is_on setup.locs setup.block.block_id d b) (u && eqb link other) u) ((same d b).links other);
  }
