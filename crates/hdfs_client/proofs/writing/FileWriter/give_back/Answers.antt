-- The lease that is held is given back by the service whose file it was of, if the client has it.
use Rattle.std.proofs.Common.{◌<◌, ◌≤◌, length, Option, None, refl, subst, arith}
use Rattle.hdfs_client.specs.Clients.{services_of}
use Rattle.hdfs_client.specs.Holding.{ChangesService, GivesBack}
use Rattle.hdfs_client.specs.Writing.{lease_of}
use Rattle.hdfs_client.specs.declared.file_lease.FileLease.{FileLease}
use Rattle.hdfs_client.proofs.Given.{changes_beyond, changes_none, client_gives, gives_at, gives_none}
use Rattle.hdfs_client.proofs.Serving.{used}
use Rattle.hdfs_client.proofs.writing.FileWriter.give_back.Goals as goal

pub returns-in_default-clause-given : goal.returns-in_default-clause-given
returns-in_default-clause-given c =
    subst (λ (l : Option FileLease). ChangesService (GivesBack l) c.args.self.now.service c.args.client.now c.args.client.now) c.in_default.ensures.value
    (changes_none (GivesBack None) gives_none c.args.self.now.service c.args.client.now)

pub returns-then-self-len-clause-given : goal.returns-then-self-len-clause-given
returns-then-self-len-clause-given c =
    let low : c.args.self.now.service < c.args.client.now.services.len = omega (arith, c.if-self-len.true, c.len.ensures) in
    gives_at (lease_of c.args.self.now) c.in-Some.lease c.in-Some.ensures.value
    (used c.args.client.now _ c.args.self.now.service c.index_mut.result.now c.give_back.new.namenode low c.index_mut.ensures.value refl (refl, refl, refl))
    c.give_back.ensures.given c.give_back.ensures.keeps

pub returns-then-self-len-clause-client : goal.returns-then-self-len-clause-client
returns-then-self-len-clause-client c = client_gives (lease_of c.args.self.now) (returns-then-self-len-clause-given c)

pub returns-clause-given : goal.returns-clause-given
returns-clause-given c =
    let beyond : length (services_of c.args.client.now) ≤ c.args.self.now.service =
    omega (arith, c.if-self-len.false, c.len.ensures, c.args.client.now.services.ok.0) in
    changes_beyond (GivesBack (lease_of c.args.self.now)) c.args.self.now.service c.args.client.now beyond
