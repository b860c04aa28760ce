-- What callers see of a client, and what it comes to that it asks one of its services.
use Rattle.std.specs.Prelude.{◌≡◌, ◌≢◌, ℕ, Bool, List, [], length, Option, Some, None, slice_get, Result}
use Rattle.hdfs_cluster.specs.declared.asks.Ask.{Ask}
use Rattle.hdfs_cluster.specs.declared.asks.Answer.{Answer}
use Rattle.hdfs_cluster.specs.declared.asks.AskFault.{AskFault}
use Rattle.hdfs_cluster.specs.declared.errors.HdfsError.{HdfsError}
use Rattle.hdfs_cluster.specs.Requests.{Request, AskOf}
use Rattle.hdfs_cluster.specs.Shown.{Shown}
use Rattle.hdfs_connections.specs.Connections.{kept_at}
use Rattle.hdfs_connections.specs.declared.connection_cache.ConnectionCache.{ConnectionCache}
use Rattle.hdfs_names.specs.Mounts.{first_match}
use Rattle.hdfs_names.specs.Paths.{absolute}
use Rattle.hdfs_names.specs.declared.mounts.MountTable.{MountTable}
use Rattle.hdfs_names.specs.declared.mounts.NamenodeAddress.{NamenodeAddress}
use Rattle.hdfs_names.specs.declared.mounts.Resolved.{Resolved}
use Rattle.hdfs_names.specs.declared.replacement.ReplaceDatanodeOnFailure.{ReplaceDatanodeOnFailure}
use Rattle.hdfs_namenode.specs.Asked.{AskedOnce, IsServiceOf}
use Rattle.hdfs_namenode.specs.Clients.{SameClient, proxy_of, through}
use Rattle.hdfs_namenode.specs.declared.protocol.NamenodeProtocol.{NamenodeProtocol}
use Rattle.hdfs_client.specs.declared.client.Client.{Client}

-- its mounts
abbrev pub mounts_of : Client → MountTable
mounts_of client = client.mounts

-- its services, by the numbers that its mounts have for them
abbrev pub services_of : Client → List NamenodeProtocol
services_of client = client.services.items

-- the addresses of their namenodes
abbrev pub addresses_of : Client → List NamenodeAddress
addresses_of client = client.addresses.items

-- how it goes on writing where a datanode fails
abbrev pub replacement_of : Client → ReplaceDatanodeOnFailure
replacement_of client = client.replacement

-- the connections to datanodes that it keeps
abbrev pub connections_of : Client → ConnectionCache
connections_of client = client.connections

-- it keeps none
abbrev pub KeepsNone : Client → Type 0
KeepsNone client = (address : List ℕ) → kept_at (connections_of client) address ≡ []

-- it has these parts, and keeps no connection yet
pub record HasParts (mounts : MountTable) (services : List NamenodeProtocol) (addresses : List NamenodeAddress) (replacement : ReplaceDatanodeOnFailure)
    (client : Client) : Type 0 where
  pub its_mounts : mounts_of client ≡ mounts
  pub its_services : services_of client ≡ services
  pub its_addresses : addresses_of client ≡ addresses
  pub its_replacement : replacement_of client ≡ replacement
  pub unconnected : KeepsNone client

-- where a path leads: the first mount that matches it, and what it is called there
abbrev pub leads_to : Client → List ℕ → Option Resolved
leads_to client src = first_match client.mounts.fallback 0 client.mounts.mounts (absolute client.mounts.home_dir src)

-- the service of this number
abbrev pub service_at : Client → ℕ → Option NamenodeProtocol
service_at client k = slice_get client.services.items k

-- each of these services is one of the cluster's namenodes
abbrev pub AreServicesOf : List NamenodeProtocol → Shown → Type 0
AreServicesOf services shown = (k : ℕ) (namenode : NamenodeProtocol) → slice_get services k ≡ Some namenode → IsServiceOf (proxy_of namenode) shown

-- It has as many addresses as the cluster has namenodes, and its services are the cluster's.
pub record IsClientOf (client : Client) (shown : Shown) : Type 0 where
  pub many : shown.namenodes ≡ length (addresses_of client)
  pub each : AreServicesOf (services_of client) shown

-- leave to make this ask of what a path is called where it leads
abbrev pub LetsAt : (Request → Type 0) → (List ℕ → Ask) → Client → List ℕ → Type 0
LetsAt allows ask client src = (to : Resolved) → leads_to client src ≡ Some to → allows (AskOf (ask to.path))

-- it is the client that it was, but for the service of this number
pub record SameBut (k : ℕ) (client client' : Client) : Type 0 where
  pub others : (other : ℕ) → other ≢ k → service_at client' other ≡ service_at client other
  pub mounts : mounts_of client' ≡ mounts_of client
  pub addresses : addresses_of client' ≡ addresses_of client
  pub replacement : replacement_of client' ≡ replacement_of client

-- a service that was there is there still, and the same client; where none was there is none
abbrev pub IsSameAt : Option NamenodeProtocol → Option NamenodeProtocol → Type 0
IsSameAt None None = Unit {0}
IsSameAt (Some before) (Some after) = SameClient before after
IsSameAt before after = ⊥

-- It is the client that it was: its mounts, its addresses and its policy stay, and each of its services asks the same namenodes in the same
-- name, knows what it knew, and holds the leases that it held.
pub record Stays (client client' : Client) : Type 0 where
  pub mounts : mounts_of client' ≡ mounts_of client
  pub addresses : addresses_of client' ≡ addresses_of client
  pub replacement : replacement_of client' ≡ replacement_of client
  pub services : (k : ℕ) → IsSameAt (service_at client k) (service_at client' k)

-- A client asked the service to which a path leads, once, for what is at the path that it is called there, or there was no memory for that.
pub record AsksAt {C : Type 0} (serves : C → ℕ → Ask → Result Answer AskFault → C → Type 0) (write : Bool) (ask : List ℕ → Ask) (client : Client)
    (src : List ℕ) (old : C) (outcome : Result Answer HdfsError) (client' : Client) (new : C) : Type 0 where
  pub to : Resolved
  pub leads : leads_to client src ≡ Some to
  pub before : NamenodeProtocol
  pub was : service_at client to.service ≡ Some before
  pub after : NamenodeProtocol
  pub is : service_at client' to.service ≡ Some after
  pub asked : AskedOnce serves write (ask to.path) (through before old) outcome (through after new)
  pub keeps : SameClient before after
  pub others : SameBut to.service client client'
