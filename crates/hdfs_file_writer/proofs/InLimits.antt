-- The sizes with which a file is written are in their limits where the defaults of its cluster are, and what is given in their place.
use Rattle.std.proofs.Common.{◌≡◌, ◌⊎◌, inl, inr, ⊎_elim, ℕ, ◌+◌, ◌^◌, ◌<◌, ◌≤◌, Bool, true, false, ◌&&◌, ◌||◌, ◌==◌, nat_le, nat_lt, Option, Some, None, unwrap_or, refl, arith}
use Rattle.std.proofs.lemmas.Bool.Decides.{nat_tests}
use Rattle.hdfs_wire.specs.Outgoing.{ArePacketSizes}
use Rattle.hdfs_cluster.specs.declared.messages.ServerDefaults.{ServerDefaults}
use Rattle.hdfs_cluster.specs.Limits.{are_defaults, are_sizes, if_given, is_block_size, is_replication}
use Rattle.hdfs_cluster.proofs.Loads.{and_parts}
use Rattle.hdfs_rebuild.specs.declared.block_plan.RebuildSettings.{RebuildSettings}
use Rattle.hdfs_file_writer.specs.Sizing.{sizes_by}
use Rattle.hdfs_file_writer.specs.Writers.{ArePackets, AreSizes}

le_from : (a b : ℕ) → nat_le a b ≡ true → a ≤ b
le_from a b is = grind (arith, nat_tests, is)

lt_from : (a b : ℕ) → nat_lt a b ≡ true → a < b
lt_from a b is = grind (arith, nat_tests, is)

eq_from : (a b : ℕ) → (a == b) ≡ true → a ≡ b
eq_from a b is = grind (arith, nat_tests, is)

or_cases : (a b : Bool) → (a || b) ≡ true → (a ≡ true) ⊎ (b ≡ true)
or_cases true b is = inl refl
or_cases false b is = inr is

given : (test : ℕ → Bool) (o : Option ℕ) (d : ℕ) → if_given test o ≡ true → test d ≡ true → test (unwrap_or o d) ≡ true
given test None d one two = two
given test (Some n) d one two = one

packet_sizes : (chunk size : ℕ) → are_sizes chunk size ≡ true → ArePacketSizes chunk size
packet_sizes chunk size is =
    let parts = and_parts (nat_le 1 chunk && nat_le chunk (2 ^ 30)) ((size == 0) || (nat_le (chunk + 37) size && nat_lt size (2 ^ 31))) is in
    let first = and_parts (nat_le 1 chunk) (nat_le chunk (2 ^ 30)) parts.0 in
    let below : chunk ≤ 2 ^ 30 = le_from chunk (2 ^ 30) first.1 in (
      le_from 1 chunk first.0,
      omega (arith, below),
      ⊎_elim
          (λ none. inl (eq_from size 0 none))
          (λ room. (let both = and_parts (nat_le (chunk + 37) size) (nat_lt size (2 ^ 31)) room in
          let fits : chunk + 37 ≤ size = le_from (chunk + 37) size both.0 in inr (omega (arith, fits), lt_from size (2 ^ 31) both.1)))
          (or_cases (size == 0) (nat_le (chunk + 37) size && nat_lt size (2 ^ 31)) parts.1),
    )

module _ (rebuilding : RebuildSettings) (setup_limit : ℕ) (d : ServerDefaults) (window : (1 ≤ rebuilding.window) × (rebuilding.window ≤ 1000))
    (defaults : are_defaults d ≡ true) where
  -- of packets
  pub are_packets_by : (replication block_size : ℕ) → ArePackets (sizes_by rebuilding setup_limit d replication block_size)
  are_packets_by replication block_size = record {
    packet = packet_sizes d.bytes_per_checksum d.write_packet_size
        (and_parts (is_replication d.replication && is_block_size d.block_size) (are_sizes d.bytes_per_checksum d.write_packet_size) defaults).1;
    window = window;
  }

  -- and of a file with this replication and block size, or those of the defaults
  pub are_sizes_by : (replication block_size : Option ℕ) → if_given is_replication replication ≡ true → if_given is_block_size block_size ≡ true
      → AreSizes (sizes_by rebuilding setup_limit d (unwrap_or replication d.replication) (unwrap_or block_size d.block_size))
  are_sizes_by replication block_size given_replication given_size =
      let more = and_parts (is_replication d.replication) (is_block_size d.block_size)
      (and_parts (is_replication d.replication && is_block_size d.block_size) (are_sizes d.bytes_per_checksum d.write_packet_size) defaults).0 in
      let r = unwrap_or replication d.replication in
      let b = unwrap_or block_size d.block_size in
      let copies = and_parts (nat_le 1 r) (nat_le r 65535) (given is_replication replication d.replication given_replication more.0) in
      let block = and_parts (nat_le 1 b) (nat_lt b (2 ^ 63)) (given is_block_size block_size d.block_size given_size more.1) in
      let some : 1 ≤ b = le_from 1 b block.0 in
      record {
        limited = record {
          block = omega (arith, some);
          below = lt_from b (2 ^ 63) block.1;
          replication = (le_from 1 r copies.0, le_from r 65535 copies.1);
        };
        packets = are_packets_by r b;
      }
