-- A datanode is asked for, and is given the block; or none is added.
use Rattle.std.proofs.Common.{List, ℕ, true, refl, sym, ◌∙◌, subst}
use Rattle.hdfs_cluster.specs.declared.errors.HdfsError.{HdfsError}
use Rattle.hdfs_cluster.specs.declared.messages.DatanodeInfo.{DatanodeInfo}
use Rattle.hdfs_cluster.specs.Effects.{HasOneMore}
use Rattle.hdfs_namenode.specs.Clients.{through}
use Rattle.hdfs_namenode.specs.Views.{see}
use Rattle.hdfs_rebuild.specs.Replacing.{AddsNone}
use Rattle.hdfs_rebuild.proofs.Added.{apart, asked_so, given_none, gives_links, gives_no_links, none_answered, waits_given}
use Rattle.hdfs_cluster.specs.Requests.{IsEnlarged, LetsGoOn}
use Rattle.hdfs_rebuild.proofs.Allowed.{allowed_as, named_over}
use Rattle.hdfs_rebuild.proofs.Asks.{once_links}
use Rattle.hdfs_rebuild.proofs.Seeing.{gives_none_seen, gives_seen}
use Rattle.hdfs_rebuild.proofs.Stepping.{keeps_links_trans}
use Rattle.hdfs_rebuild.proofs.replacing.add_datanode.Goals as goal

pub get_additional_datanode-requires-clause-allowed : goal.get_additional_datanode-requires-clause-allowed
get_additional_datanode-requires-clause-allowed g c =
    let plan = c.args.plan.now in
    allowed_as g.C.Cluster.allows (cc (c.as_str.ensures, c.as_slice.ensures, c.as_slice-2.ensures))
    (c.requires.allowed.lets.adds plan.block.b plan.block.locs c.args.excluded.now plan.block.storage_types plan.block.storage_ids
    (named_over c.requires.allowed.answered) c.requires.allowed.answered.placed c.requires.block.ids)

pub give_block-requires-clause-allowed : goal.give_block-requires-clause-allowed
give_block-requires-clause-allowed g c =
    subst (λ (name : List ℕ). LetsGoOn g.C.Cluster.allows g.C.Cluster.may_answer name c.args.plan.now.src c.args.plan.now.block)
    (sym (c.client_name.ensures ∙ c.in-Ok.ensures.keeps.name)) c.requires.allowed

-- it was answered for the plan's block
enlarged : goal.give_block-requires-clause-enlarged
enlarged g c =
    subst (λ (name : List ℕ). IsEnlarged g.C.Cluster.may_answer name c.args.plan.now.src c.args.plan.now.block.b c.in-Ok.located)
    (sym (c.client_name.ensures ∙ c.in-Ok.ensures.keeps.name)) (record {
      named = c.args.plan.now.block.b;
      existing = c.args.plan.now.block.locs;
      excluded = c.args.excluded.now;
      storages = c.args.plan.now.block.storage_ids;
      answered = rw (← c.as_str.ensures, ← c.as_slice.ensures, ← c.as_slice-2.ensures) c.in-Ok.ensures.answered;
      same = (refl, refl);
    })

pub give_block-requires-clause-enlarged : goal.give_block-requires-clause-enlarged
give_block-requires-clause-enlarged = enlarged

pub returns-in-Err-clause-links : goal.returns-in-Err-clause-links
returns-in-Err-clause-links g c =
    once_links g.C.Cluster.shown g.C.Cluster.serves g.met.C.Cluster.serves_rows true _ (through c.args.namenode.now c.args.cluster.now) _
    (through c.get_additional_datanode.new.self c.get_additional_datanode.new.cluster) c.in-Err.ensures.asked

pub returns-in-Err-clause-err : goal.returns-in-Err-clause-err
returns-in-Err-clause-err g c = λ view has.
    subst (λ (f : HdfsError). AddsNone c.args.plan.now (see view (g.C.Cluster.shown c.args.cluster.now)) f (see view (g.C.Cluster.shown c.get_additional_datanode.new.cluster)))
    (sym c.fault_of_none.ensures)
    (none_answered c.args.plan.now (asked_so c.args.plan.now c.as_str.ensures c.as_slice.ensures (c.in-Err.ensures.came view has)))

pub returns-in-Ok-give_block-clause-links : goal.returns-in-Ok-give_block-clause-links
returns-in-Ok-give_block-clause-links g c =
    keeps_links_trans (g.C.Cluster.shown c.args.cluster.now) (g.C.Cluster.shown c.get_additional_datanode.new.cluster)
    (g.C.Cluster.shown c.give_block.new.cluster)
    (once_links g.C.Cluster.shown g.C.Cluster.serves g.met.C.Cluster.serves_rows true _ (through c.args.namenode.now c.args.cluster.now) _
    (through c.get_additional_datanode.new.self c.get_additional_datanode.new.cluster) c.in-Ok.ensures.asked)
    (gives_links c.in-Ok-give_block.ensures.ok)

pub returns-in-Ok-give_block-clause-adds : goal.returns-in-Ok-give_block-clause-adds
returns-in-Ok-give_block-clause-adds g c = λ view has.
    let came = asked_so c.args.plan.now c.as_str.ensures c.as_slice.ensures (c.in-Ok.ensures.came view has) in
    record {
      shape = c.in-Ok.ensures.shape.0;
      one = subst (λ (nodes : List DatanodeInfo). HasOneMore nodes c.in-Ok.located.locs) c.as_slice.ensures c.in-Ok.ensures.shape.1;
      apart = apart c.args.plan.now came;
      waits = waits_given c.args.plan.now came (gives_seen view c.in-Ok-give_block.ensures.ok);
    }

pub returns-in-Err-give_block-clause-links : goal.returns-in-Err-give_block-clause-links
returns-in-Err-give_block-clause-links g c =
    keeps_links_trans (g.C.Cluster.shown c.args.cluster.now) (g.C.Cluster.shown c.get_additional_datanode.new.cluster)
    (g.C.Cluster.shown c.give_block.new.cluster)
    (once_links g.C.Cluster.shown g.C.Cluster.serves g.met.C.Cluster.serves_rows true _ (through c.args.namenode.now c.args.cluster.now) _
    (through c.get_additional_datanode.new.self c.get_additional_datanode.new.cluster) c.in-Ok.ensures.asked)
    (gives_no_links c.in-Err-give_block.ensures.err)

pub returns-in-Err-give_block-clause-err : goal.returns-in-Err-give_block-clause-err
returns-in-Err-give_block-clause-err g c = λ view has.
    given_none c.args.plan.now (asked_so c.args.plan.now c.as_str.ensures c.as_slice.ensures (c.in-Ok.ensures.came view has))
    (gives_none_seen view c.in-Err-give_block.ensures.err)
