-- The active namenode answers `addBlock` by its row, or finds no datanode.
use Rattle.std.proofs.Common.{◌≡◌, ◌⊎◌, inl, ℕ, List, map, Option, Some, subst}
use Rattle.std.proofs.lemmas.Result.{err_from_is_err_and}
use Rattle.std.specs.BTreeMap.{get_by_text}
use Rattle.std.specs.Prelude.{MatchOption, IfSome}
use Rattle.hdfs_cluster.specs.declared.messages.Block.{Block}
use Rattle.hdfs_cluster.specs.declared.messages.DatanodeInfo.{DatanodeInfo}
use Rattle.hdfs_cluster.specs.declared.messages.LocatedBlock.{LocatedBlock}
use Rattle.hdfs_cluster.specs.declared.picture.Entry.TheVariants as entries
use Rattle.hdfs_cluster.specs.declared.picture.FileEntry.{FileEntry}
use Rattle.hdfs_cluster.specs.Namenode.{IsToWrite}
use Rattle.hdfs_mem_datanodes.specs.declared.datanodes.Datanodes.{Datanodes}
use Rattle.hdfs_mem_namenode.specs.declared.namespace.Namespace.{Namespace}
use Rattle.hdfs_mem_namenode.specs.Adding.{AddsLast, GivesLast, SameSpace}
use Rattle.hdfs_mem_namenode.specs.Pipelines.{LacksPlace}
use Rattle.hdfs_mem_namenode.specs.Spaces.{space_of}
use Rattle.hdfs_mem_cluster.specs.Lines.{line_of}
use Rattle.hdfs_mem_cluster.specs.MemShown.{picture_at}
use Rattle.hdfs_mem_cluster.proofs.Failing.{lacks_place, responds_none}
use Rattle.hdfs_mem_cluster.proofs.Written.{answers_added, answers_not_added, same_looks}
use Rattle.hdfs_mem_cluster.proofs.responding.add_block.Goals as goal

-- what is found, or that no datanode is
abbrev Found : Namespace → Namespace → Datanodes → List ℕ → Option Block → List DatanodeInfo → Option LocatedBlock → Type 0
Found space space' nodes text previous outs found =
    MatchOption found
    (LacksPlace (space_of space nodes) nodes.count text previous outs × SameSpace (space_of space nodes) (space_of space' nodes))
    (λ block. (file : FileEntry) × (get_by_text space.names text ≡ Some (entries.File file))
    × (GivesLast (space_of space nodes) file previous (space_of space' nodes) block ⊎ AddsLast (space_of space nodes) nodes.count text file previous outs (space_of space' nodes) block))

pub returns-in_err-block-clause-responds : goal.returns-in_err-block-clause-responds
returns-in_err-block-clause-responds c = λ settings links i here.
    let ask = c.args.ask.now in
    let r = err_from_is_err_and c.from_residual.result c.from_residual.ensures.1 in
    let fault = c.in_err-block.field-0.0 in
    let h = c.in_err-block.ensures in
    rw (r.1, r.2) (inl (answers_not_added c.args.space.now c.extend.new.self c.args.nodes.now settings links i here c.as_str.result.now ask c.as_str.ensures fault h.stray h.err))

pub returns-in-Some-clause-responds : goal.returns-in-Some-clause-responds
returns-in-Some-clause-responds c = λ settings links i here.
    let ask = c.args.ask.now in
    let block = c.in-Some.block in
    let space = c.args.space.now in
    let space' = c.extend.new.self in
    let nodes = c.args.nodes.now in
    let text = c.as_str.result.now in
    let outs = c.as_slice-excludes.result.now in
    let added = subst (Found space space' nodes text ask.previous outs) c.in-Some.is c.in_ok-block.ensures.added in
    inl (answers_added space space' nodes settings links i here text ask c.as_str.ensures outs c.as_slice-excludes.ensures block added)

pub returns-in-Some-clause-shape : goal.returns-in-Some-clause-shape
returns-in-Some-clause-shape c =
    subst (λ (found : Option LocatedBlock). IfSome found (λ block. IsToWrite block × (block.b.num_bytes ≡ 0))) c.in-Some.is c.in_ok-block.ensures.shape

pub returns-in_err-no_datanode-in-None-clause-responds : goal.returns-in_err-no_datanode-in-None-clause-responds
returns-in_err-no_datanode-in-None-clause-responds c = λ settings links i here.
    let ask = c.args.ask.now in
    let space = c.args.space.now in
    let space' = c.extend.new.self in
    let nodes = c.args.nodes.now in
    let text = c.as_str.result.now in
    let outs = c.as_slice-excludes.result.now in
    let r = err_from_is_err_and c.from_residual-in_err-no_datanode-in-None.result c.from_residual-in_err-no_datanode-in-None.ensures.1 in
    let lacks = subst (Found space space' nodes text ask.previous outs) c.in-None.is c.in_ok-block.ensures.added in
    rw (r.1, r.2) (inl (same_looks space space' nodes settings links lacks.1))

pub returns-in_ok-no_datanode-in-None-clause-responds : goal.returns-in_ok-no_datanode-in-None-clause-responds
returns-in_ok-no_datanode-in-None-clause-responds c = λ settings links i here.
    let ask = c.args.ask.now in
    let space = c.args.space.now in
    let space' = c.extend.new.self in
    let nodes = c.args.nodes.now in
    let text = c.as_str.result.now in
    let outs = c.as_slice-excludes.result.now in
    let p = picture_at space nodes settings links in
    let q = picture_at space' nodes settings links in
    let loaded = map line_of c.args.loaded.now in
    let fault = c.in_ok-no_datanode-in-None.field-0 in
    let lacks = subst (Found space space' nodes text ask.previous outs) c.in-None.is c.in_ok-block.ensures.added in
    responds_none loaded nodes.count p q i _ (same_looks space space' nodes settings links lacks.1) here
    (lacks_place p ask text c.as_str.ensures nodes.count outs c.as_slice-excludes.ensures lacks.0) fault c.in_ok-no_datanode-in-None.ensures
