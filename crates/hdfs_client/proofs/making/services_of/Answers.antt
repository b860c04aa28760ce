-- No plan is left.
use Rattle.std.proofs.Common.{◌≡◌, [], List, length, sym, ◌∙◌, subst, arith}
use Rattle.std.proofs.lemmas.List.{append-nil, nil_from_length}
use Rattle.std.specs.Vec.Iter.{into_iter_items}
use Rattle.hdfs_namenode.specs.declared.protocol.NamenodeProtocol.{NamenodeProtocol}
use Rattle.hdfs_client.specs.Building.{AreServices}
use Rattle.hdfs_client.proofs.Made.{as_many, no_more}
use Rattle.hdfs_client.proofs.making.services_of.Goals as goal

pub returns-clause-services : goal.returns-clause-services
returns-clause-services c =
    let none : into_iter_items c.plans.plan-iterator ≡ [] = nil_from_length _ (omega (arith, c.in-None.ensures.steps.0)) in
    subst (λ (l : List NamenodeProtocol). AreServices 0 c.args.id c.args.plans.items l) (append-nil c.plans.services.items)
    (c.plans.invariant.services [] (no_more (length c.plans.addresses.items) c.args.id (into_iter_items c.plans.plan-iterator) none))

pub returns-clause-len : goal.returns-clause-len
returns-clause-len c =
    c.plans.services.ok.0 ∙ as_many 0 c.args.id c.args.plans.items c.plans.services.items (returns-clause-services c) ∙ sym c.args.plans.ok.0
