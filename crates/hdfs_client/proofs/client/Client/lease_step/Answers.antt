-- Each service has its turn, and those behind it are what they were.
use Rattle.std.proofs.Common.{◌+◌, ◌<◌, ◌≤◌, Option, Some, refl, sym, ◌∙◌, ap, subst, arith, length, length-set, set}
use Rattle.hdfs_namenode.specs.declared.leases.LeaseTurn.{LeaseTurn}
use Rattle.hdfs_namenode.specs.declared.leases.LeaseTurn.TheVariants.{Idle}
use Rattle.hdfs_client.specs.Clients.{services_of}
use Rattle.hdfs_client.specs.Leasing.{StepsOnce, or_memory}
use Rattle.hdfs_client.proofs.Asking.{is_service}
use Rattle.hdfs_client.proofs.ByReaders.{is_then, others_stay, was_there}
use Rattle.hdfs_client.proofs.Beside.{keeps_files, services_but, services_trans}
use Rattle.hdfs_opening.proofs.Kept.{links_from, links_trans}
use Rattle.hdfs_client.proofs.Leased.{GoesOn, all_turns, as_many, client_stepped, left_more, one_turn_more, same_at}
use Rattle.hdfs_client.proofs.client.Client.lease_step.Goals as goal

pub lease_step-step-requires-clause-service : goal.lease_step-step-requires-clause-service
lease_step-step-requires-clause-service g c =
    let low : c.services.k < c.services.self.services.len =
    omega (arith, c.services-test.true, c.services.invariant.many, c.services.self.services.ok.0, c.args.self.now.services.ok.0, c.len-k-end.ensures) in
    is_service c.services.self _ _ _ c.services.invariant.client low c.index_mut.ensures.value

pub lease_step-step-requires-clause-allowed : goal.lease_step-step-requires-clause-allowed
lease_step-step-requires-clause-allowed g c =
    let low : c.services.k < c.services.self.services.len =
    omega (arith, c.services-test.true, c.services.invariant.many, c.services.self.services.ok.0, c.args.self.now.services.ok.0, c.len-k-end.ensures) in
    c.requires.allowed c.services.k c.index_mut.result.now
    (sym (same_at c.services.k (services_of c.services.self) (services_of c.args.self.now) c.services.invariant.left)
    ∙ was_there c.services.self c.services.k c.index_mut.result.now low c.index_mut.ensures.value)

pub services-preserved : goal.services-preserved
services-preserved g c =
    let shown = g.C.Cluster.shown in
    let serves = g.C.Cluster.serves in
    let before = c.index_mut.result.now in
    let after = c.lease_step-step.new.self in
    let now = services_of c.services.self in
    let k = c.services.k in
    let low : k < c.services.self.services.len =
    omega (arith, c.services-test.true, c.services.invariant.many, c.services.self.services.ok.0, c.args.self.now.services.ok.0, c.len-k-end.ensures) in
    let within : k < length now = omega (arith, low, c.services.self.services.ok.0) in
    let step : StepsOnce serves c.args.moment before c.services.cluster c.lease_step-step.result after c.lease_step-step.new.cluster = record {
      idle = c.lease_step-step.ensures.idle;
      first = c.lease_step-step.ensures.first;
      waits = c.lease_step-step.ensures.waits;
      due = c.lease_step-step.ensures.due;
      held = c.lease_step-step.ensures.held;
      keeps = c.lease_step-step.ensures.keeps;
    } in
    record {
      goes_on =
          subst (λ (o : Option LeaseTurn). GoesOn serves c.args.moment (services_of c.args.self.now) c.args.cluster.now (Some Idle) o (k + 1) (set now k after) c.lease_step-step.new.cluster)
          (sym c.both-turn.ensures)
          (one_turn_more serves c.args.moment (services_of c.args.self.now) c.args.cluster.now (Some Idle) c.services.turn k now before after c.services.cluster
          c.lease_step-step.new.cluster c.lease_step-step.result within c.index_mut.ensures.value step c.services.invariant.goes_on);
      client =
          client_stepped c.services.self _ k before after (shown c.services.cluster) (shown c.lease_step-step.new.cluster) c.services.invariant.client
          (as_many shown serves g.met.C.Cluster.serves_rows c.args.moment before after c.services.cluster c.lease_step-step.new.cluster c.lease_step-step.result step)
          c.lease_step-step.ensures.keeps (was_there c.services.self k before low c.index_mut.ensures.value) (is_then c.services.self _ k after low refl)
          (others_stay c.services.self _ k after refl (refl, refl, refl));
      left = left_more k now (services_of c.args.self.now) after c.services.invariant.left;
      services =
          services_trans c.services.invariant.services
          (services_but (was_there c.services.self k before low c.index_mut.ensures.value) (is_then c.services.self _ k after low refl)
          (others_stay c.services.self _ k after refl (refl, refl, refl))
          (c.lease_step-step.ensures.keeps.service, c.lease_step-step.ensures.keeps.name));
      links = links_trans c.services.invariant.links (links_from c.lease_step-step.ensures.leaves);
      many = length-set now k after ∙ c.services.invariant.many;
      rest = c.services.invariant.rest;
    }

pub returns-in-Some-clause-steps : goal.returns-in-Some-clause-steps
returns-in-Some-clause-steps g c =
    let end : length (services_of c.services.self) ≤ c.services.k =
    omega (arith, c.services-test.false, c.services.invariant.many, c.services.self.services.ok.0, c.args.self.now.services.ok.0, c.len-k-end.ensures) in
    let done = all_turns g.C.Cluster.serves c.args.moment (services_of c.args.self.now) c.args.cluster.now (Some Idle) c.services.turn c.services.k
    (services_of c.services.self) c.services.cluster end c.services.invariant.goes_on in
    record { turns = done.0; steps = done.1; is = sym (ap or_memory (done.2 ∙ c.in-Some.is)) }

pub returns-in-None-clause-steps : goal.returns-in-None-clause-steps
returns-in-None-clause-steps g c =
    let end : length (services_of c.services.self) ≤ c.services.k =
    omega (arith, c.services-test.false, c.services.invariant.many, c.services.self.services.ok.0, c.args.self.now.services.ok.0, c.len-k-end.ensures) in
    let done = all_turns g.C.Cluster.serves c.args.moment (services_of c.args.self.now) c.args.cluster.now (Some Idle) c.services.turn c.services.k
    (services_of c.services.self) c.services.cluster end c.services.invariant.goes_on in
    record { turns = done.0; steps = done.1; is = sym (ap or_memory (done.2 ∙ c.in-None.is)) }

pub returns-in-Some-clause-files : goal.returns-in-Some-clause-files
returns-in-Some-clause-files g c =
    keeps_files c.services.invariant.services c.services.invariant.links.namenodes g.C.Cluster.allows g.C.Cluster.may_answer c.services.invariant.links.writes

pub returns-in-None-clause-files : goal.returns-in-None-clause-files
returns-in-None-clause-files g c =
    keeps_files c.services.invariant.services c.services.invariant.links.namenodes g.C.Cluster.allows g.C.Cluster.may_answer c.services.invariant.links.writes
