-- The leases of the files that a client writes: one is taken where a file is opened, and given back where it is closed or given up.
use Rattle.std.specs.Prelude.{◌≡◌, ℕ, ◌+◌, ◌-◌, Bool, true, false, Option, Some, None, unwrap_or}
use Rattle.hdfs_leases.specs.Leases.{HoldsSame, HoldsSameBut, held, last_of}
use Rattle.hdfs_leases.specs.declared.file_leases.FileLeases.{FileLeases}
use Rattle.hdfs_namenode.specs.Clients.{SameButLeases, SameClient, leases_of}
use Rattle.hdfs_namenode.specs.declared.protocol.NamenodeProtocol.{NamenodeProtocol}
use Rattle.hdfs_opening.specs.declared.opened_file.ToldFile.{ToldFile}
use Rattle.hdfs_client.specs.Clients.{SameBut, service_at}
use Rattle.hdfs_client.specs.declared.client.Client.{Client}
use Rattle.hdfs_client.specs.declared.file_lease.FileLease.{FileLease}

-- the lease of a file of which this was told: by its id, 0 where none was, and by the namespace that it stands in
abbrev pub lease_by : ToldFile → FileLease
lease_by told = record { file_id = unwrap_or told.file_id 0; namespace = told.namespace }

-- how often a lease is held
abbrev pub held_of : FileLeases → FileLease → ℕ
held_of leases lease = held leases lease.namespace lease.file_id

-- a lease is held once more, and each other one as often as before
pub record TakesLease (lease : FileLease) (old new : FileLeases) : Type 0 where
  pub more : held_of new lease ≡ held_of old lease + 1
  pub others : HoldsSameBut lease.namespace lease.file_id old new
  pub last : last_of new ≡ last_of old

-- a lease is held once less, where it was held, and each other one as often as before
pub record GivesLease (lease : FileLease) (old new : FileLeases) : Type 0 where
  pub fewer : held_of new lease ≡ held_of old lease - 1
  pub others : HoldsSameBut lease.namespace lease.file_id old new
  pub last : last_of new ≡ last_of old

-- each lease is held as often as before
pub record KeepsLeases (old new : FileLeases) : Type 0 where
  pub held : HoldsSame old new
  pub last : last_of new ≡ last_of old

-- a service is the same but for the leases that it holds: this one, if there is one, was given back
pub record GivesBack (lease : Option FileLease) (before after : NamenodeProtocol) : Type 0 where
  pub same : SameButLeases before after
  pub given : (held : FileLease) → lease ≡ Some held → GivesLease held (leases_of before) (leases_of after)
  pub kept : lease ≡ None → leases_of after ≡ leases_of before

-- what a service is behind a call that gives a lease back, or doesn't
abbrev pub MayGive : Bool → Option FileLease → NamenodeProtocol → NamenodeProtocol → Type 0
MayGive true lease before after = GivesBack lease before after
MayGive false lease before after = SameClient before after

-- A client is the one that it was, but for the service of this number, if there is one, of which this is so.
pub record ChangesService (Changes : NamenodeProtocol → NamenodeProtocol → Type 0) (k : ℕ) (client client' : Client) : Type 0 where
  pub others : SameBut k client client'
  pub service : (before : NamenodeProtocol) → service_at client k ≡ Some before
      → (after : NamenodeProtocol) × (service_at client' k ≡ Some after) × Changes before after
  pub none : service_at client k ≡ None → service_at client' k ≡ None
