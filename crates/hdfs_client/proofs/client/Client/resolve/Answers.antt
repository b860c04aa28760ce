-- A path leads where its mounts say, and so to one of the client's services.
use Rattle.std.proofs.Common.{◌≡◌, ◌<◌, ℕ, Some, Option, Result, Ok, Err, IfOk, sym, subst}
use Rattle.hdfs_names.specs.declared.mounts.Resolved.{Resolved}
use Rattle.hdfs_wire.specs.declared.values.NoMemory.{NoMemory}
use Rattle.hdfs_client.specs.Clients.{leads_to}
use Rattle.hdfs_client.specs.declared.client.Client.{Client}
use Rattle.hdfs_client.proofs.Leading.{home_begins, leads_somewhere}
use Rattle.hdfs_client.proofs.client.Client.resolve.Goals as goal

within : (client : Client) (src : Option Resolved) (to to' : Resolved) → src ≡ Some to → src ≡ Some to' → to'.service < client.services.len
    → to.service < client.services.len
within client src to to' is is' low = subst (λ (o : Resolved). o.service < client.services.len) (let same : to' ≡ to = cc in same) low

led : (client : Client) (src : _) (result : Result Resolved NoMemory) → IfOk result (λ to. leads_to client src ≡ Some to)
    → IfOk result (λ to. (leads_to client src ≡ Some to) × (to.service < client.services.len))
led client src (Ok to) is =
    let other = leads_somewhere client src in
    (is, within client (leads_to client src) to other.to is other.is (subst (λ (n : ℕ). other.to.service < n) (sym client.services.ok.0) other.within))
led client src (Err error) is = is

pub resolve-requires-clause-home : goal.resolve-requires-clause-home
resolve-requires-clause-home c = home_begins c.args.self.now

pub returns : goal.returns
returns c = led c.args.self.now c.args.src.now c.resolve.result c.resolve.ensures
