-- A lease is given back where the file was closed, and nothing changes else.
use Rattle.std.proofs.Common.{Bool, false, sym, subst}
use Rattle.hdfs_namenode.proofs.Services.{same_client_refl}
use Rattle.hdfs_client.specs.Holding.{ChangesService, MayGive}
use Rattle.hdfs_client.specs.Writing.{lease_of, service_of}
use Rattle.hdfs_client.proofs.Given.{changes_none}
use Rattle.hdfs_client.proofs.writing.FileWriter.settle.Goals as goal

pub returns-then-done-clause-lease : goal.returns-then-done-clause-lease
returns-then-done-clause-lease c =
    let given = c.give_back.ensures.given in
    subst (λ (b : Bool). ChangesService (MayGive b (lease_of c.args.self.now)) (service_of c.args.self.now) c.args.client.now c.give_back.new.client) (sym c.if-done.true)
    (record { others = given.others; service = given.service; none = given.none })

pub returns-else-done-clause-lease : goal.returns-else-done-clause-lease
returns-else-done-clause-lease c =
    subst (λ (b : Bool). ChangesService (MayGive b (lease_of c.args.self.now)) (service_of c.args.self.now) c.args.client.now c.args.client.now) (sym c.if-done.false)
    (changes_none (MayGive false (lease_of c.args.self.now)) same_client_refl (service_of c.args.self.now) c.args.client.now)
