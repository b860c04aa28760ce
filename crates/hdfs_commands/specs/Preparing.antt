-- What a session keeps from call to call.
use Rattle.std.specs.Prelude.{◌≡◌, Some}
use Rattle.hdfs_cluster.specs.declared.messages.ServerDefaults.{ServerDefaults}
use Rattle.hdfs_namenode.specs.Asked.{SameService}
use Rattle.hdfs_namenode.specs.Clients.{name_of, proxy_of}
use Rattle.hdfs_commands.specs.Session.{defaults_known}
use Rattle.hdfs_commands.specs.declared.session.Session.{Session}

-- A session is run with what it was run with, asks the namenodes that it asked in the same name, and knows the defaults that it knew.
pub record Remembers (session session' : Session) : Type 0 where
  pub settings : session'.settings ≡ session.settings
  pub name : name_of session'.namenode ≡ name_of session.namenode
  pub service : SameService (proxy_of session.namenode) (proxy_of session'.namenode)
  pub known : (defaults : ServerDefaults) → defaults_known session ≡ Some defaults → defaults_known session' ≡ Some defaults
