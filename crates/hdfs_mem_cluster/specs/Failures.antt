-- How calls on links fail.
use Rattle.std.specs.Prelude.{Bool, true, false, Option, Some, None, Result, Ok, Err}
use Rattle.hdfs_cluster.specs.declared.asks.LinkFault.{LinkFault}
use Rattle.hdfs_cluster.specs.declared.asks.LinkFault.TheVariants as link_faults
use Rattle.hdfs_cluster.specs.declared.store.LinkKind.{LinkKind}
use Rattle.hdfs_cluster.specs.declared.store.LinkKind.TheVariants as link_kinds

-- the connection broke
abbrev pub is_broken : {X : Type 0} → Result X LinkFault → Bool
is_broken (Ok value) = false
is_broken (Err link_faults.NoMemory) = false
is_broken (Err link_faults.Broken) = true
is_broken (Err link_faults.Refused) = false

-- the datanode refused
abbrev pub is_refused : {X : Type 0} → Result X LinkFault → Bool
is_refused (Ok value) = false
is_refused (Err link_faults.NoMemory) = false
is_refused (Err link_faults.Broken) = false
is_refused (Err link_faults.Refused) = true

-- the call is counted: there was memory for it
abbrev pub is_counted : {X : Type 0} → Result X LinkFault → Bool
is_counted (Ok value) = true
is_counted (Err link_faults.NoMemory) = false
is_counted (Err link_faults.Broken) = true
is_counted (Err link_faults.Refused) = true

-- how a set-up failed
abbrev pub failure_of : {X : Type 0} → Result X LinkFault → Option LinkFault
failure_of (Ok value) = None
failure_of (Err fault) = Some fault

-- how a set-up fails that is planned so; one with a bad acknowledgement to come doesn't
abbrev pub planned_failure : Option LinkKind → Option LinkFault
planned_failure None = None
planned_failure (Some link_kinds.Broken) = Some link_faults.Broken
planned_failure (Some link_kinds.Refused) = Some link_faults.Refused
planned_failure (Some link_kinds.BadAck) = None

-- how a transfer fails that is planned so; no acknowledgement of it comes to be bad, and where that is planned the connection breaks
abbrev pub planned_transfer_failure : Option LinkKind → Option LinkFault
planned_transfer_failure None = None
planned_transfer_failure (Some link_kinds.Broken) = Some link_faults.Broken
planned_transfer_failure (Some link_kinds.Refused) = Some link_faults.Refused
planned_transfer_failure (Some link_kinds.BadAck) = Some link_faults.Broken
