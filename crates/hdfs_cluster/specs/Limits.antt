-- The limits of numbers: of files, of the cluster's defaults, of a session's settings, and of what a command asks for.
use Rattle.std.specs.Prelude.{ℕ, ◌+◌, ◌^◌, nat_le, nat_lt, Bool, true, ◌&&◌, ◌||◌, ◌==◌, Option, Some, None}
use Rattle.hdfs_cluster.specs.declared.attributes.Attributes.{Attributes}
use Rattle.hdfs_cluster.specs.declared.messages.ServerDefaults.{ServerDefaults}

-- a replication is from 1 to 65,535
abbrev pub is_replication : ℕ → Bool
is_replication n = nat_le 1 n && nat_le n 65535

-- a block has from 1 to 2^63 - 1 bytes
abbrev pub is_block_size : ℕ → Bool
is_block_size n = nat_le 1 n && nat_lt n (2 ^ 63)

-- a chunk has from 1 to 2^30 bytes, and a packet room for one with its header, or size 0
abbrev pub are_sizes : ℕ → ℕ → Bool
are_sizes chunk packet =
    nat_le 1 chunk && nat_le chunk (2 ^ 30) && ((packet == 0) || (nat_le (chunk + 37) packet && nat_lt packet (2 ^ 31)))

-- permission bits are up to 7777 in octal
abbrev pub is_permission : ℕ → Bool
is_permission n = nat_le n 4095

-- a number that is left open is in its limits
abbrev pub if_given : (ℕ → Bool) → Option ℕ → Bool
if_given test None = true
if_given test (Some n) = test n

-- the cluster's defaults are in their limits
abbrev pub are_defaults : ServerDefaults → Bool
are_defaults d = is_replication d.replication && is_block_size d.block_size && are_sizes d.bytes_per_checksum d.write_packet_size

-- permission bits up to 7777 in octal, from 1 to 65,535 replicas, a block size from 1 to 2^63 - 1, and fewer than 2^63 bytes
abbrev pub in_limits : Attributes → ℕ → Bool
in_limits attributes count =
    is_permission attributes.permission && is_replication attributes.replication && is_block_size attributes.block_size
    && nat_lt count (2 ^ 63)

-- the attributes of a file that is written are in their limits
abbrev pub are_attributes : Attributes → Bool
are_attributes attributes = is_replication attributes.replication && is_block_size attributes.block_size
