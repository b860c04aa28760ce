-- The active namenode answers `updatePipeline` by its row.
use Rattle.std.proofs.Common.{refl, ap}
use Rattle.std.proofs.lemmas.Result.{err_from_is_err_and}
use Rattle.std.specs.BTreeMap.{get_by_text}
use Rattle.hdfs_mem_namenode.proofs.Answering.{answers_renewed, answers_not_renewed}
use Rattle.hdfs_mem_cluster.specs.MemShown.{picture_at}
use Rattle.hdfs_mem_cluster.proofs.Written.{same_parts}
use Rattle.hdfs_mem_cluster.proofs.responding.update_pipeline.Goals as goal

pub returns-in_err-update_pipeline-clause-answers : goal.returns-in_err-update_pipeline-clause-answers
returns-in_err-update_pipeline-clause-answers c = λ nodes settings links i here.
    let ask = c.args.ask.now in
    let r = err_from_is_err_and c.from_residual.result c.from_residual.ensures.1 in
    let fault = c.in_err-update_pipeline.field-0.0 in
    let h = c.in_err-update_pipeline.ensures in
    let p = picture_at c.args.space.now nodes settings links in
    let q = picture_at c.update_pipeline.new.self nodes settings links in
    let same = same_parts c.args.space.now c.update_pipeline.new.self nodes settings links (c.update_pipeline.ensures.names, h.err) in
    rw (r.1, r.2) (answers_not_renewed p q i here ask fault h.stray same)

pub returns-clause-answers : goal.returns-clause-answers
returns-clause-answers c = λ nodes settings links i here.
    let ask = c.args.ask.now in
    let p = picture_at c.args.space.now nodes settings links in
    let q = picture_at c.update_pipeline.new.self nodes settings links in
    answers_renewed p q i here ask c.as_slice-nodes.result.now c.as_slice-nodes.ensures c.in_ok-update_pipeline.ensures.renewed (λ path. ap (λ names. get_by_text names path) c.update_pipeline.ensures.names) (record { held = λ node id. refl; defaults = refl; reads = λ link. refl; writes = λ link. refl }) refl
