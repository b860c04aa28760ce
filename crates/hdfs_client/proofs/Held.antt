-- The leases of a service behind a call that opened a file, and one that took no lease.
use Rattle.std.proofs.Common.{◌≡◌, subst}
use Rattle.hdfs_leases.specs.declared.file_leases.FileLeases.{FileLeases}
use Rattle.hdfs_client.specs.Holding.{KeepsLeases}

-- what is kept behind a call that left all leases is kept from before it on
pub keeps_behind : {a b c : FileLeases} → b ≡ a → KeepsLeases b c → KeepsLeases a c
keeps_behind {a} {b} {c} same keeps = subst (λ (l : FileLeases). KeepsLeases l c) same keeps
