-- A read was opened when its datanode had failed no more often than now, since no count falls.
use Rattle.std.proofs.Common.{◌≡◌, ⊎_elim, ℕ, Option, Some, sym, ◌∙◌, ap, subst, arith}
use Rattle.std.proofs.lemmas.Bool.{cases_eq}
use Rattle.hdfs_cluster.specs.declared.messages.ReadAsk.{ReadAsk}
use Rattle.hdfs_cluster.specs.declared.picture.OpenRead.{OpenRead}
use Rattle.hdfs_mem_faults.specs.declared.fault_plan.FaultPlan.{FaultPlan}
use Rattle.hdfs_mem_faults.specs.Plans.{SameNodeFaults, node_faults_of}
use Rattle.hdfs_mem_cluster.specs.declared.mem_links.MemLinks.{MemLinks}
use Rattle.hdfs_mem_cluster.specs.declared.read_link.MemRead.{MemRead}
use Rattle.hdfs_mem_cluster.specs.Links.{AreEarlier, ChangesRead, IsEarlier, read_at, read_told}
use Rattle.hdfs_mem_cluster.specs.Slices.{told_for}
use Rattle.hdfs_mem_cluster.proofs.Counting.{NoneFalls}

-- no link changes
pub later_earlier : (s : MemLinks) (faults faults' : FaultPlan) → NoneFalls faults faults' → AreEarlier s faults → AreEarlier s faults'
later_earlier s faults faults' fall was link read is = omega (arith, was link read is, fall.nodes read.ask.node.datanode_uuid)

-- nor has a datanode failed
pub counted_earlier : (s : MemLinks) (faults faults' : FaultPlan) → SameNodeFaults faults faults' → AreEarlier s faults → AreEarlier s faults'
counted_earlier s faults faults' same was link read is = omega (arith, was link read is, same read.ask.node.datanode_uuid)

-- each read is what it was
pub same_earlier : (s s' : MemLinks) (faults : FaultPlan) → ((l : ℕ) → read_at s' l ≡ read_at s l) → AreEarlier s faults → AreEarlier s' faults
same_earlier s s' faults same was link read is = was link read (sym (ap read_told (same link)) ∙ is)

-- one read changes
pub changed_earlier : (s s' : MemLinks) (faults : FaultPlan) (link : ℕ) (slot : Option MemRead) → ChangesRead s s' link slot → ((read : OpenRead) → read_told slot ≡ Some read → IsEarlier faults read) → AreEarlier s faults
    → AreEarlier s' faults
changed_earlier s s' faults link slot changes here was l read is =
    ⊎_elim
    (λ same. here read (sym (ap read_told changes.changed) ∙ ap (λ (k : ℕ). read_told (read_at s' k)) (sym same) ∙ is))
    (λ apart. was l read (sym (ap read_told (changes.others l apart)) ∙ is))
    (cases_eq l link)

-- what is told of a read that is there is that of the read
pub told_earlier : (faults : FaultPlan) (v : MemRead) → IsEarlier faults v.told → (read : OpenRead) → read_told (Some v) ≡ Some read → IsEarlier faults read
told_earlier faults v earlier read is =
    let same : v.told ≡ read = cc in
    subst (IsEarlier faults) same earlier

-- a read that is just opened
pub opened_earlier : (faults : FaultPlan) (ask : ReadAsk) (v : MemRead) → v.told ≡ told_for ask (node_faults_of faults ask.node.datanode_uuid) v.chunk → (read : OpenRead) → read_told (Some v) ≡ Some read → IsEarlier faults read
opened_earlier faults ask v told = told_earlier faults v (subst (IsEarlier faults) (sym told) (omega arith))
