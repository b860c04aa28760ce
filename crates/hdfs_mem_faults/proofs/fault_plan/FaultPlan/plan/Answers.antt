-- A fault of a datanode or a namenode is planned in the tally of its calls.
use Rattle.std.proofs.Common.{sym, ◌∙◌, ap, subst}
use Rattle.std.proofs.lemmas.Result.{on_err_weaker, on_ok_weaker}
use Rattle.hdfs_cluster.specs.declared.store.FaultLine.{FaultLine}
use Rattle.hdfs_mem_faults.specs.declared.node_plan.NodeFault.{NodeFault}
use Rattle.hdfs_mem_faults.specs.declared.node_plan.NodeFault.TheVariants as node_faults
use Rattle.hdfs_mem_faults.specs.NodePlans.{PlansCall, node_at, read_fault}
use Rattle.hdfs_mem_faults.specs.Plans.{PlansFault}
use Rattle.hdfs_mem_faults.specs.Series.{ask_kind_in, kind_in, nth_of, packet_kind_in, series_of, uuid_of}
use Rattle.hdfs_mem_faults.proofs.Asking.{plans_asked, same_asked}
use Rattle.hdfs_mem_faults.proofs.Planning.{plans_node, reads_say, reads_unasked, reads_series}
use Rattle.hdfs_mem_faults.proofs.fault_plan.FaultPlan.plan.Goals as goal

pub returns-in-Ask-clause-ok : goal.returns-in-Ask-clause-ok
returns-in-Ask-clause-ok c =
    let s = c.in-Ask in
    let old = c.args.self.now in
    let asks = c.plan.new.self in
    on_ok_weaker c.plan.result
    (λ here. subst (λ (f : FaultLine). PlansFault old f (record { nodes = old.nodes; links = old.links; asks = asks })) (sym s.is)
    (plans_asked old asks s.namenode c.plan.ensures.others s.nth s.kind here))
    c.plan.ensures.ok

pub returns-in-Ask-clause-err : goal.returns-in-Ask-clause-err
returns-in-Ask-clause-err c =
    on_err_weaker c.plan.result (same_asked c.args.self.now c.plan.new.self c.in-Ask.namenode c.plan.ensures.others) c.plan.ensures.err

pub returns-in-AckOf-clause-ok : goal.returns-in-AckOf-clause-ok
returns-in-AckOf-clause-ok c =
    let s = c.in-AckOf in
    on_ok_weaker c.plan-in-AckOf.result
    (λ here. plans_node c.args.self.now c.plan-in-AckOf.new.self node_faults.Ack (uuid_of s.node) s.nth here c.plan-in-AckOf.ensures.others
    c.args.fault.now (ap series_of s.is) (ap nth_of s.is) (λ k. ap (kind_in k) s.is) (λ i k. ap (ask_kind_in i k) s.is) (λ d k. ap (packet_kind_in d k) s.is))
    c.plan-in-AckOf.ensures.ok

pub returns-in-SendTo-clause-ok : goal.returns-in-SendTo-clause-ok
returns-in-SendTo-clause-ok c =
    let s = c.in-SendTo in
    on_ok_weaker c.plan-in-SendTo.result
    (λ here. plans_node c.args.self.now c.plan-in-SendTo.new.self node_faults.Send (uuid_of s.node) s.nth here c.plan-in-SendTo.ensures.others
    c.args.fault.now (ap series_of s.is) (ap nth_of s.is) (λ k. ap (kind_in k) s.is) (λ i k. ap (ask_kind_in i k) s.is) (λ d k. ap (packet_kind_in d k) s.is))
    c.plan-in-SendTo.ensures.ok

pub returns-in-ReadOf-clause-ok : goal.returns-in-ReadOf-clause-ok
returns-in-ReadOf-clause-ok c =
    let s = c.in-ReadOf in
    let uuid = uuid_of s.node in
    let old = c.args.self.now in
    let new = c.plan-in-ReadOf.new.self in
    on_ok_weaker c.plan-in-ReadOf.result
    (λ here. plans_node old new (read_fault s.kind) uuid s.nth
    (subst (λ (f : NodeFault). PlansCall (node_at old.nodes uuid) f s.nth (node_at new uuid)) c.of_reads-fault.ensures here) c.plan-in-ReadOf.ensures.others
    c.args.fault.now (ap series_of s.is ∙ reads_series s.kind uuid) (ap nth_of s.is) (λ k. ap (kind_in k) s.is) (λ i k. ap (ask_kind_in i k) s.is ∙ reads_unasked s.kind s.node s.nth i k)
    (λ d k. ap (packet_kind_in d k) s.is ∙ reads_say s.kind s.node s.nth d k))
    c.plan-in-ReadOf.ensures.ok
