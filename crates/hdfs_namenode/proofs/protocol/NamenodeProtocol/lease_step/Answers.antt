-- The look at the moment changes no lease, so those that are renewed are those that were held.
use Rattle.hdfs_leases.specs.Leases.{last_of}
use Rattle.hdfs_namenode.specs.Clients.{leases_of, name_of, through}
use Rattle.hdfs_namenode.proofs.Renewed.{renews_same}
use Rattle.hdfs_namenode.proofs.protocol.NamenodeProtocol.lease_step.Goals as goal

pub returns-in-Due-clause-due : goal.returns-in-Due-clause-due
returns-in-Due-clause-due g c = λ last busy is late.
    let due = c.in-Due.ensures.due last busy is late in
    renews_same g.C.Cluster.serves c.args.moment last (name_of c.args.self.now) (leases_of c.args.self.now) (through c.args.self.now c.args.cluster.now)
    (through c.renew.new.self c.renew.new.cluster) c.renew.result (last_of (leases_of c.renew.new.self)) c.turn.new.self c.turn.ensures.held (c.renew.ensures.renews last due.1)
