-- One host after another is put in.
use Rattle.std.proofs.Common.{◌<◌, ◌||◌, Bool, length, sym, ◌∙◌, ap, take}
use Rattle.std.proofs.lemmas.List.Folds.{list_any_more}
use Rattle.std.specs.BTreeSet.{contains_text}
use Rattle.std.specs.Str.{bytes_eq}
use Rattle.hdfs_cluster.specs.declared.messages.DatanodeInfo.{DatanodeInfo}
use Rattle.hdfs_mem_namenode.specs.Pipelines.{is_addressed}
use Rattle.hdfs_mem_namenode.proofs.Barring.{one_more}
use Rattle.hdfs_mem_namenode.proofs.pipelines.bar_hosts.Goals as goal

pub loop-node-preserved : goal.loop-node-preserved
loop-node-preserved c = λ uuid.
    let nodes = c.args.nodes.now in
    let i = c.loop-node.node-index in
    let node = c.node-item.result in
    let within : i < length nodes = c.loop-node-test.true in
    let here = λ (n : DatanodeInfo). bytes_eq uuid n.id.ip_addr in
    let more = list_any_more here nodes i node within ∙ ap (λ (n : DatanodeInfo). is_addressed (take i nodes) uuid || here n) (sym c.node-item.is) in
    c.in_ok-put.ensures uuid ∙ ap (λ (b : Bool). here node || b) (c.loop-node.invariant uuid)
    ∙ one_more (here node) (is_addressed (take i nodes) uuid) (contains_text c.args.barred.now uuid)
    ∙ ap (λ (b : Bool). b || contains_text c.args.barred.now uuid) (sym more)
