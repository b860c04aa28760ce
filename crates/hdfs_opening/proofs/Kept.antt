-- What stays of a service that is asked more than once.
use Rattle.std.proofs.Common.{◌≡◌, ℕ, List, Some, ◌∙◌}
use Rattle.hdfs_cluster.specs.declared.asks.Ask.TheVariants as asks
use Rattle.hdfs_cluster.specs.Asks.{create_ask}
use Rattle.hdfs_cluster.specs.Picture.{Picture}
use Rattle.hdfs_cluster.specs.Repeating.{Leaves}
use Rattle.hdfs_cluster.specs.Shown.{Shown}
use Rattle.hdfs_model.specs.Opening.{appending, create_flag, creating}
use Rattle.hdfs_model.specs.declared.commands.WriteOptions.{WriteOptions}
use Rattle.hdfs_namenode.specs.Asked.{IsServiceOf}
use Rattle.hdfs_namenode.specs.Clients.{SameClient, proxy_of}
use Rattle.hdfs_namenode.specs.declared.protocol.NamenodeProtocol.{NamenodeProtocol}
use Rattle.hdfs_namenode.specs.Views.{View, Whole, OfService, HasView, see}
use Rattle.hdfs_namenode.proofs.Seeing.{view_same}
use Rattle.hdfs_namenode.proofs.Services.{same_service_trans, service_same}
use Rattle.hdfs_opening.specs.Opening.{KeepsName, KeepsService, LeavesLinks}

-- it keeps its name, its service and its key, no namenode is lost, and no link changes
abbrev pub Goes : NamenodeProtocol → Shown → NamenodeProtocol → Shown → Type 0
Goes before old after new = KeepsService before after × LeavesLinks old new

pub links_from : {s t : Shown} → Leaves s t → LeavesLinks s t
links_from leaves = record { namenodes = leaves.later.namenodes; writes = leaves.writes }

pub links_trans : {s m t : Shown} → LeavesLinks s m → LeavesLinks m t → LeavesLinks s t
links_trans one two = record { namenodes = two.namenodes ∙ one.namenodes; writes = λ link. two.writes link ∙ one.writes link }

pub service_from-client : {a b : NamenodeProtocol} → SameClient a b → KeepsService a b
service_from-client same = record { service = same.service; name = same.name; key = same.key }

pub service_trans : {a b c : NamenodeProtocol} → KeepsService a b → KeepsService b c → KeepsService a c
service_trans {a} {b} {c} one two = record {
  service = same_service_trans (proxy_of a) (proxy_of b) (proxy_of c) one.service two.service;
  name = two.name ∙ one.name;
  key = two.key ∙ one.key;
}

pub goes_trans : {a b c : NamenodeProtocol} {s m t : Shown} → Goes a s b m → Goes b m c t → Goes a s c t
goes_trans one two = (service_trans one.0 two.0, links_trans one.1 two.1)

-- what keeps its leases, too
pub goes_of : {a b : NamenodeProtocol} {s t : Shown} → KeepsName a b × LeavesLinks s t → Goes a s b t
goes_of both = (both.0.0, both.1)

-- a call that leaves the client as it was
pub goes_by : {a b : NamenodeProtocol} {s t : Shown} → SameClient a b → Leaves s t → Goes a s b t
goes_by same leaves = (service_from-client same, links_from leaves)

-- with its leases, it goes on so
pub keeps_trans : {a b c : NamenodeProtocol} {s m t : Shown} → KeepsName a b × LeavesLinks s m → KeepsName b c × LeavesLinks m t
    → KeepsName a c × LeavesLinks s t
keeps_trans one two = ((service_trans one.0.0 two.0.0, two.0.1 ∙ one.0.1), links_trans one.1 two.1)

-- a call that leaves the client as it was keeps them
pub keeps_by : {a b : NamenodeProtocol} {s t : Shown} → SameClient a b → LeavesLinks s t → KeepsName a b × LeavesLinks s t
keeps_by same links = ((service_from-client same, same.leases), links)

-- it is a service of the cluster still, and has the view that it had
pub goes_service : {a b : NamenodeProtocol} {s t : Shown} → Goes a s b t → IsServiceOf (proxy_of a) s → IsServiceOf (proxy_of b) t
goes_service {a} {b} {s} {t} goes of = service_same (proxy_of a) (proxy_of b) s t goes.0.service goes.1.namenodes of

pub goes_view : {a b : NamenodeProtocol} {s t : Shown} (view : View) → Goes a s b t → HasView (proxy_of a) s view → HasView (proxy_of b) t view
goes_view {a} {b} {s} {t} view goes has = view_same view (proxy_of a) (proxy_of b) s t goes.0.service goes.1.namenodes has

-- what is told in a view is told
pub picture_seen : (view : View) (s : Shown) (p : Picture) → (see view s).picture ≡ Some p → s.picture ≡ Some p
picture_seen Whole s p is = is
picture_seen (OfService first count) s p is = absurd (cc is)

-- the ask for a new file, from its parts
pub making : (options : WriteOptions) {at path name client : List ℕ} {flag replication replication' block_size block_size' : ℕ} → at ≡ path → name ≡ client
    → flag ≡ create_flag options → replication' ≡ replication → block_size' ≡ block_size
    → create_ask at options.permission name flag options.create_parent replication' block_size' ≡ creating path client options replication block_size
making options one two three four five = cc

-- and for one that is gone on with
pub going_on : {at path name client : List ℕ} → at ≡ path → name ≡ client → asks.Append at name 4 ≡ appending path client 4
going_on one two = cc
