-- The leases are renewed by the names of their namespaces, and the turn ends as the renewal says.
use Rattle.std.proofs.Common.{◌≡◌, true, Some, None, Option, refl, sym, ◌∙◌, ap}
use Rattle.hdfs_leases.specs.Leases.{last_of}
use Rattle.hdfs_cluster.specs.declared.errors.HdfsError.TheVariants as errors
use Rattle.std.specs.Prelude.{Ok, Err}
use Rattle.hdfs_namenode.specs.Clients.{leases_of, name_of, through}
use Rattle.hdfs_namenode.specs.Renewing.{turn_of}
use Rattle.hdfs_namenode.specs.declared.leases.LeaseTurn.{LeaseTurn}
use Rattle.hdfs_namenode.proofs.Observers.{once_leaves}
use Rattle.hdfs_namenode.proofs.Renewed.{renews_once}
use Rattle.hdfs_namenode.proofs.protocol.NamenodeProtocol.renew.Goals as goal

pub returns-in_default-clause-renews : goal.returns-in_default-clause-renews
returns-in_default-clause-renews g c = λ last is.
    let renewed = c.renew_lease-renewed in
    let names = c.in_ok-namespaces in
    let none : turn_of renewed.result ≡ None = sym c.turn_of-turn.ensures ∙ c.in_default.is in
    renews_once g.C.Cluster.serves c.args.moment last (name_of c.args.self.now) (leases_of c.args.self.now) (through c.args.self.now c.args.cluster.now)
    (through renewed.new.self renewed.new.cluster) (Err errors.NoMemory) (last_of (leases_of renewed.new.self)) names.namespaces c.as_slice.result.now c.as_slice.ensures
    (record { ascending = names.ensures.ascending; exact = names.ensures.exact }) renewed.result renewed.ensures.asked None none
    (refl, ap last_of renewed.ensures.keeps.leases ∙ is)

pub returns-clause-renews : goal.returns-clause-renews
returns-clause-renews g c = λ last is.
    let renewed = c.renew_lease-renewed in
    let names = c.in_ok-namespaces in
    let some : turn_of renewed.result ≡ Some c.in-Some.turn = sym c.turn_of-turn.ensures ∙ c.in-Some.is in
    renews_once g.C.Cluster.serves c.args.moment last (name_of c.args.self.now) (leases_of c.args.self.now) (through c.args.self.now c.args.cluster.now)
    (through renewed.new.self renewed.new.cluster) (Ok c.in-Some.turn) (last_of c.renewed.new.self) names.namespaces c.as_slice.result.now c.as_slice.ensures
    (record { ascending = names.ensures.ascending; exact = names.ensures.exact }) renewed.result renewed.ensures.asked (Some c.in-Some.turn) some
    (refl, c.renewed.ensures.last)

pub returns-in_default-clause-leaves : goal.returns-in_default-clause-leaves
returns-in_default-clause-leaves g c =
    let renewed = c.renew_lease-renewed in
    once_leaves g.C.Cluster.shown g.C.Cluster.serves g.met.C.Cluster.serves_rows true _ (through c.args.self.now c.args.cluster.now) _
    (through renewed.new.self renewed.new.cluster) renewed.ensures.asked

pub returns-clause-leaves : goal.returns-clause-leaves
returns-clause-leaves g c =
    let renewed = c.renew_lease-renewed in
    once_leaves g.C.Cluster.shown g.C.Cluster.serves g.met.C.Cluster.serves_rows true _ (through c.args.self.now c.args.cluster.now) _
    (through renewed.new.self renewed.new.cluster) renewed.ensures.asked
