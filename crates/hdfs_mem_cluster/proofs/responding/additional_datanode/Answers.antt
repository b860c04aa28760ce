-- The active namenode answers `getAdditionalDatanode` by its row.
use Rattle.std.proofs.Common.{◌≡◌, inl, map, Option, subst}
use Rattle.std.proofs.lemmas.Result.{err_from_is_err_and}
use Rattle.std.specs.Prelude.{MatchOption, IfSome}
use Rattle.hdfs_cluster.specs.declared.messages.LocatedBlock.{LocatedBlock}
use Rattle.hdfs_cluster.specs.Namenode.{IsToWrite}
use Rattle.hdfs_mem_namenode.specs.Pipelines.{AddsLowest, AreBarred, is_barred}
use Rattle.hdfs_mem_namenode.proofs.Answering.{answers_one_more, answers_not_one_more, same_picture, shaped_one_more}
use Rattle.hdfs_mem_cluster.specs.Lines.{line_of}
use Rattle.hdfs_mem_cluster.specs.MemShown.{picture_at}
use Rattle.hdfs_mem_cluster.proofs.Failing.{lacks_datanode, responds_none}
use Rattle.hdfs_mem_cluster.proofs.responding.additional_datanode.Goals as goal

pub returns-in_err-block-clause-responds : goal.returns-in_err-block-clause-responds
returns-in_err-block-clause-responds c = λ nodes settings links i here.
    let at = picture_at c.args.space.now nodes settings links in
    let ask = c.args.ask.now in
    let r = err_from_is_err_and c.from_residual.result c.from_residual.ensures.1 in
    let fault = c.in_err-block.field-0.0 in
    let text = c.as_str-src.result.now in
    rw (r.1, r.2) (inl (answers_not_one_more at at i here ask text c.as_str-src.ensures fault c.in_err-block.ensures.stray (same_picture at)))

pub returns-in-Some-clause-responds : goal.returns-in-Some-clause-responds
returns-in-Some-clause-responds c = λ nodes settings links i here.
    let at = picture_at c.args.space.now nodes settings links in
    let ask = c.args.ask.now in
    let h = c.in_ok-block.ensures in
    let block = c.in-Some.block in
    let text = c.as_str-src.result.now in
    let olds = c.as_slice-existing.result.now in
    let outs = c.as_slice-excludes.result.now in
    let count = c.args.nodes.now.count in
    let added = subst (λ (found : Option LocatedBlock). MatchOption found (AreBarred (is_barred olds outs) count) (λ located. (located.b ≡ ask.blk) × AddsLowest count olds outs located.locs)) c.in-Some.is h.added in
    inl (answers_one_more at at i here ask text c.as_str-src.ensures count olds outs c.as_slice-existing.ensures c.as_slice-excludes.ensures block h.written added.1 (same_picture at))

pub returns-in-Some-clause-shape : goal.returns-in-Some-clause-shape
returns-in-Some-clause-shape c =
    let ask = c.args.ask.now in
    let h = c.in_ok-block.ensures in
    let block = c.in-Some.block in
    let olds = c.as_slice-existing.result.now in
    let outs = c.as_slice-excludes.result.now in
    let count = c.args.nodes.now.count in
    let added = subst (λ (found : Option LocatedBlock). MatchOption found (AreBarred (is_barred olds outs) count) (λ located. (located.b ≡ ask.blk) × AddsLowest count olds outs located.locs)) c.in-Some.is h.added in
    let shape = subst (λ (found : Option LocatedBlock). IfSome found IsToWrite) c.in-Some.is h.shape in
    shaped_one_more ask count olds outs c.as_slice-existing.ensures block shape added.1

pub returns-in_err-no_datanode-in-None-clause-responds : goal.returns-in_err-no_datanode-in-None-clause-responds
returns-in_err-no_datanode-in-None-clause-responds c = λ nodes settings links i here.
    let at = picture_at c.args.space.now nodes settings links in
    let r = err_from_is_err_and c.from_residual-in_err-no_datanode-in-None.result c.from_residual-in_err-no_datanode-in-None.ensures.1 in
    rw (r.1, r.2) (inl (same_picture at))

pub returns-in_ok-no_datanode-in-None-clause-responds : goal.returns-in_ok-no_datanode-in-None-clause-responds
returns-in_ok-no_datanode-in-None-clause-responds c = λ nodes settings links i here.
    let at = picture_at c.args.space.now nodes settings links in
    let ask = c.args.ask.now in
    let h = c.in_ok-block.ensures in
    let text = c.as_str-src.result.now in
    let olds = c.as_slice-existing.result.now in
    let outs = c.as_slice-excludes.result.now in
    let count = c.args.nodes.now.count in
    let loaded = map line_of c.args.loaded.now in
    let fault = c.in_ok-no_datanode-in-None.field-0 in
    let barred = subst (λ (found : Option LocatedBlock). MatchOption found (AreBarred (is_barred olds outs) count) (λ located. (located.b ≡ ask.blk) × AddsLowest count olds outs located.locs)) c.in-None.is h.added in
    let lacks = lacks_datanode at ask text c.as_str-src.ensures count olds outs c.as_slice-existing.ensures c.as_slice-excludes.ensures h.written barred in
    responds_none loaded count at at i _ (same_picture at) here lacks fault c.in_ok-no_datanode-in-None.ensures
