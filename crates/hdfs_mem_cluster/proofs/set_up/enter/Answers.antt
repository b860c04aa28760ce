-- The set-up is counted where there was memory for it.
use Rattle.std.proofs.Common.{◌≡◌, ℕ, List, Option, Some, None, subst}
use Rattle.std.proofs.lemmas.Result.{err_from_is_err_and}
use Rattle.hdfs_cluster.specs.declared.store.LinkKind.{LinkKind}
use Rattle.hdfs_mem_faults.specs.declared.fault_plan.FaultPlan.{FaultPlan}
use Rattle.hdfs_mem_faults.specs.Plans.{SetsUp}
use Rattle.hdfs_mem_cluster.specs.SettingUp.{blamed}
use Rattle.hdfs_mem_cluster.proofs.SettingUp.{counted, not_counted, same_plan_refl}
use Rattle.hdfs_mem_cluster.proofs.set_up.enter.Goals as goal

-- a set-up whose failure is put down to a datanode that is named otherwise
sets : {old new : FaultPlan} {link : ℕ} {first other : Option (List ℕ)} {kind : Option LinkKind} → first ≡ other → SetsUp old link first kind new → SetsUp old link other kind new
sets {old} {new} {link} {first} {other} {kind} is h = subst (λ (f : Option (List ℕ)). SetsUp old link f kind new) is h

pub returns-in_err-reserve-clause-counts : goal.returns-in_err-reserve-clause-counts
returns-in_err-reserve-clause-counts c =
    let p = err_from_is_err_and c.from_residual.result c.from_residual.ensures.1 in
    rw (p.1, p.2) (not_counted c.args.faults.now c.end.new.self c.end.new.self c.args.link (blamed c.args.setup.now) c.end.ensures (same_plan_refl c.end.new.self))

pub returns-in_err-base-clause-counts : goal.returns-in_err-base-clause-counts
returns-in_err-base-clause-counts c =
    let p = err_from_is_err_and c.from_residual-in_err-base.result c.from_residual-in_err-base.ensures.1 in
    rw (p.1, p.2) (not_counted c.args.faults.now c.end.new.self c.end.new.self c.args.link (blamed c.args.setup.now) c.end.ensures (same_plan_refl c.end.new.self))

pub returns-in_err-set_up-clause-counts : goal.returns-in_err-set_up-clause-counts
returns-in_err-set_up-clause-counts c =
    let p = err_from_is_err_and c.from_residual-in_err-set_up.result c.from_residual-in_err-set_up.ensures.1 in
    rw (p.1, p.2) (not_counted c.args.faults.now c.end.new.self c.set_up.new.self c.args.link (blamed c.args.setup.now) c.end.ensures c.in_err-set_up.ensures.err)

pub returns-in-None-clause-counts : goal.returns-in-None-clause-counts
returns-in-None-clause-counts c =
    counted c.args.faults.now c.end.new.self c.set_up.new.self c.args.link (blamed c.args.setup.now) c.in_ok-set_up.field-0 None c.end.ensures (sets c.blamed.ensures c.in_ok-set_up.ensures.ok) c.in-None.ensures

pub returns-in-Some-clause-counts : goal.returns-in-Some-clause-counts
returns-in-Some-clause-counts c =
    counted c.args.faults.now c.end.new.self c.set_up.new.self c.args.link (blamed c.args.setup.now) c.in_ok-set_up.field-0 (Some c.in-Some.fault) c.end.ensures (sets c.blamed.ensures c.in_ok-set_up.ensures.ok) c.in-Some.ensures
