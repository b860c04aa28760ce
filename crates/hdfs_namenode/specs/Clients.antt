-- The name of a client, the service that it asks, and what it knows.
use Rattle.std.specs.Prelude.{◌≡◌, ℕ, List, ◌++◌, codes, Option, IfSome}
use Rattle.hdfs_cluster.specs.declared.asks.Answer.{Answer}
use Rattle.hdfs_cluster.specs.declared.asks.Answer.TheVariants as answers
use Rattle.hdfs_cluster.specs.declared.asks.Ask.{Ask}
use Rattle.hdfs_cluster.specs.declared.asks.Ask.TheVariants as asks
use Rattle.hdfs_leases.specs.declared.file_leases.FileLeases.{FileLeases}
use Rattle.hdfs_cluster.specs.declared.messages.EncryptionKey.{EncryptionKey}
use Rattle.hdfs_cluster.specs.declared.messages.ServerDefaults.{ServerDefaults}
use Rattle.hdfs_namenode.specs.Asked.{SameService, Through}
use Rattle.hdfs_namenode.specs.declared.protocol.NamenodeProtocol.{NamenodeProtocol}
use Rattle.hdfs_namenode.specs.declared.proxy.NameServiceProxy.{NameServiceProxy}
use Rattle.uuid.specs.Text.{hyphenated_text, lower}

-- the name by which namenodes and datanodes know a client: its sixteen bytes as a UUID in lower-case digits with hyphens
abbrev pub client_name : List ℕ → List ℕ
client_name client = codes "hdfs_native_client-" ++ hyphenated_text lower client

-- the name in which it asks
abbrev pub name_of : NamenodeProtocol → List ℕ
name_of namenode = namenode.client

-- the server defaults that it has kept
abbrev pub defaults_of : NamenodeProtocol → Option ServerDefaults
defaults_of namenode = namenode.defaults

-- the server defaults that it has kept, if any, were answered
abbrev pub KeepsAnswered : (Ask → Answer → Type 0) → NamenodeProtocol → Type 0
KeepsAnswered may_answer namenode = IfSome (defaults_of namenode) (λ kept. may_answer asks.GetServerDefaults (answers.GetServerDefaults kept))

-- the key that it has kept
abbrev pub key_of : NamenodeProtocol → Option EncryptionKey
key_of namenode = namenode.key

-- the leases of the files that it is writing
abbrev pub leases_of : NamenodeProtocol → FileLeases
leases_of namenode = namenode.leases

-- the service that it asks
abbrev pub proxy_of : NamenodeProtocol → NameServiceProxy
proxy_of namenode = namenode.proxy

-- a cluster, as it asks its namenodes
abbrev pub through : {C : Type 0} → NamenodeProtocol → C → Through C
through namenode cluster = record { cluster = cluster; proxy = namenode.proxy }

-- it asks the same service in the same name, knows what it knew, and holds the leases that it held
pub record SameClient (namenode namenode' : NamenodeProtocol) : Type 0 where
  pub service : SameService (proxy_of namenode) (proxy_of namenode')
  pub name : name_of namenode' ≡ name_of namenode
  pub defaults : defaults_of namenode' ≡ defaults_of namenode
  pub key : key_of namenode' ≡ key_of namenode
  pub leases : leases_of namenode' ≡ leases_of namenode

-- the same, but for the server defaults and the key that it has kept
pub record SameButKept (namenode namenode' : NamenodeProtocol) : Type 0 where
  pub service : SameService (proxy_of namenode) (proxy_of namenode')
  pub name : name_of namenode' ≡ name_of namenode
  pub leases : leases_of namenode' ≡ leases_of namenode

-- the same, but for the leases that it holds
pub record SameButLeases (namenode namenode' : NamenodeProtocol) : Type 0 where
  pub service : SameService (proxy_of namenode) (proxy_of namenode')
  pub name : name_of namenode' ≡ name_of namenode
  pub defaults : defaults_of namenode' ≡ defaults_of namenode
  pub key : key_of namenode' ≡ key_of namenode

-- nothing changes but the leases that it holds
pub record ChangesLeases (namenode namenode' : NamenodeProtocol) : Type 0 where
  pub proxy : proxy_of namenode' ≡ proxy_of namenode
  pub name : name_of namenode' ≡ name_of namenode
  pub defaults : defaults_of namenode' ≡ defaults_of namenode
  pub key : key_of namenode' ≡ key_of namenode
