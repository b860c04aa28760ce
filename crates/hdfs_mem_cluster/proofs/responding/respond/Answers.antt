-- The active namenode answers each ask by its row.
use Rattle.std.proofs.Common.{inl, inr, refl, ℕ, true, List, Some, Ok, Err, sym, ◌∙◌, ap, subst}
use Rattle.std.proofs.lemmas.Result.{err_from_is_err_and}
use Rattle.std.specs.BTreeMap.{get_by_text}
use Rattle.hdfs_cluster.specs.declared.asks.Ask.{Ask}
use Rattle.hdfs_cluster.specs.declared.asks.Answer.TheVariants as answers
use Rattle.hdfs_cluster.specs.Files.{no_file}
use Rattle.hdfs_cluster.specs.Namenode.{IsShaped}
use Rattle.hdfs_cluster.specs.Picture.{kinds_in}
use Rattle.hdfs_mem_namenode.specs.Answering.{Answers, LocatesFile, StandsForRefusal}
use Rattle.hdfs_mem_namenode.specs.Memory.{table_of}
use Rattle.hdfs_mem_datanodes.specs.Nodes.{held_in}
use Rattle.hdfs_mem_cluster.specs.MemShown.{picture_at}
use Rattle.hdfs_mem_namenode.proofs.Answering.{answers_found, answers_excused, answers_stamped, answers_not_stamped, same_picture, shaped_found}
use Rattle.hdfs_mem_cluster.proofs.Written.{answers_completed, answers_not_completed, same_parts}
use Rattle.hdfs_mem_cluster.proofs.Opening.{answers_appended, answers_not_appended}
use Rattle.hdfs_mem_cluster.proofs.responding.respond.Goals as goal

pub returns-in_err-found-in-GetBlockLocations-clause-responds : goal.returns-in_err-found-in-GetBlockLocations-clause-responds
returns-in_err-found-in-GetBlockLocations-clause-responds c = λ links.
    let at = picture_at c.args.space.now c.args.nodes.now c.args.known.now.config.now.settings links in
    let e = c.in-GetBlockLocations in
    let r = err_from_is_err_and c.from_residual-in_err-found-in-GetBlockLocations.result c.from_residual-in_err-found-in-GetBlockLocations.ensures.1 in
    let fault = c.in_err-found-in-GetBlockLocations.field-0.0 in
    let excused = subst (λ (src : List ℕ). StandsForRefusal (kinds_in (get_by_text c.args.space.now.names)) src fault) c.as_str.ensures c.in_err-found-in-GetBlockLocations.ensures.excused in
    rw (r.1, r.2) (inl (subst (λ (ask : Ask). Answers at c.args.i ask (Err fault) at) (sym e.is) (answers_excused at at c.args.i c.if-i-known.false (same_picture at) e.src e.offset e.length fault excused)))

pub returns-in_ok-found-in-GetBlockLocations-clause-responds : goal.returns-in_ok-found-in-GetBlockLocations-clause-responds
returns-in_ok-found-in-GetBlockLocations-clause-responds c = λ links.
    let at = picture_at c.args.space.now c.args.nodes.now c.args.known.now.config.now.settings links in
    let e = c.in-GetBlockLocations in
    let found = c.in_ok-found-in-GetBlockLocations.found in
    let h = c.in_ok-found-in-GetBlockLocations.ensures in
    let located = subst (λ (src : List ℕ). LocatesFile (get_by_text c.args.space.now.names) (table_of c.args.space.now.table.entries) src found) c.as_str.ensures h.located in
    let allowed = ap (no_file (kinds_in (get_by_text c.args.space.now.names))) (sym c.as_str.ensures) ∙ h.allowed in
    inl (subst (λ (ask : Ask). Answers at c.args.i ask (Ok (answers.GetBlockLocations (Some found))) at) (sym e.is) (answers_found at at c.args.i c.if-i-known.false (same_picture at) e.src e.offset e.length found located allowed))

pub returns-in_ok-found-in-GetBlockLocations-clause-shape : goal.returns-in_ok-found-in-GetBlockLocations-clause-shape
returns-in_ok-found-in-GetBlockLocations-clause-shape c =
    let e = c.in-GetBlockLocations in
    let found = c.in_ok-found-in-GetBlockLocations.found in
    let h = c.in_ok-found-in-GetBlockLocations.ensures in
    subst (λ (ask : Ask). IsShaped ask (answers.GetBlockLocations (Some found))) (sym e.is) (shaped_found e.src e.offset e.length found h.length h.follow)

pub returns-in_err-complete-in-Complete-clause-responds : goal.returns-in_err-complete-in-Complete-clause-responds
returns-in_err-complete-in-Complete-clause-responds c = λ links.
    let config = c.args.known.now.config.now in
    let e = c.in-Complete in
    let r = err_from_is_err_and c.from_residual-in_err-complete-in-Complete.result c.from_residual-in_err-complete-in-Complete.ensures.1 in
    let fault = c.in_err-complete-in-Complete.field-0.0 in
    let h = c.in_err-complete-in-Complete.ensures in
    let q = picture_at c.complete.new.self c.args.nodes.now config.settings links in
    rw (r.1, r.2) (inl (subst (λ (ask : Ask). Answers (picture_at c.args.space.now c.args.nodes.now config.settings links) c.args.i ask (Err fault) q) (sym e.is)
    (answers_not_completed c.args.space.now c.complete.new.self c.args.nodes.now config.settings links c.args.i c.if-i-known.false c.as_str-in-Complete.result.now e.ask c.as_str-in-Complete.ensures fault h.stray h.err)))

pub returns-in_ok-complete-in-Complete-clause-responds : goal.returns-in_ok-complete-in-Complete-clause-responds
returns-in_ok-complete-in-Complete-clause-responds c = λ links.
    let config = c.args.known.now.config.now in
    let e = c.in-Complete in
    let q = picture_at c.complete.new.self c.args.nodes.now config.settings links in
    inl (subst (λ (ask : Ask). Answers (picture_at c.args.space.now c.args.nodes.now config.settings links) c.args.i ask (Ok (answers.Complete true)) q) (sym e.is)
    (answers_completed c.args.space.now c.complete.new.self c.args.nodes.now config.settings links c.args.i c.if-i-known.false c.as_str-in-Complete.result.now e.ask c.as_str-in-Complete.ensures c.in_ok-complete-in-Complete.ensures.done))

pub returns-in_err-append-in-Append-clause-responds : goal.returns-in_err-append-in-Append-clause-responds
returns-in_err-append-in-Append-clause-responds c = λ links.
    let config = c.args.known.now.config.now in
    let e = c.in-Append in
    let r = err_from_is_err_and c.from_residual-in_err-append-in-Append.result c.from_residual-in_err-append-in-Append.ensures.1 in
    let fault = c.in_err-append-in-Append.field-0.0 in
    let h = c.in_err-append-in-Append.ensures in
    let q = picture_at c.append.new.self c.append.new.nodes config.settings links in
    rw (r.1, r.2) (inl (subst (λ (ask : Ask). Answers (picture_at c.args.space.now c.args.nodes.now config.settings links) c.args.i ask (Err fault) q) (sym e.is)
    (answers_not_appended c.args.space.now c.append.new.self c.args.nodes.now c.append.new.nodes config.settings links c.append.ensures.same c.args.i c.if-i-known.false c.as_str-in-Append.result.now e.src c.as_str-in-Append.ensures e.client_name e.flag fault h.excused h.err)))

pub returns-in_ok-append-in-Append-clause-responds : goal.returns-in_ok-append-in-Append-clause-responds
returns-in_ok-append-in-Append-clause-responds c = λ links.
    let config = c.args.known.now.config.now in
    let e = c.in-Append in
    let h = c.in_ok-append-in-Append.ensures in
    let appended = c.in_ok-append-in-Append.field-0 in
    let q = picture_at c.append.new.self c.append.new.nodes config.settings links in
    inl (subst (λ (ask : Ask). Answers (picture_at c.args.space.now c.args.nodes.now config.settings links) c.args.i ask (Ok (answers.Append appended)) q) (sym e.is)
    (answers_appended c.args.space.now c.append.new.self c.args.nodes.now c.append.new.nodes config.settings links c.append.ensures.same c.args.i c.if-i-known.false c.as_str-in-Append.result.now e.src c.as_str-in-Append.ensures e.client_name e.flag appended h.allowed h.opened h.shape))

pub returns-in_err-block-in-UpdateBlockForPipeline-clause-responds : goal.returns-in_err-block-in-UpdateBlockForPipeline-clause-responds
returns-in_err-block-in-UpdateBlockForPipeline-clause-responds c = λ links.
    let config = c.args.known.now.config.now in
    let e = c.in-UpdateBlockForPipeline in
    let r = err_from_is_err_and c.from_residual-in_err-block-in-UpdateBlockForPipeline.result c.from_residual-in_err-block-in-UpdateBlockForPipeline.ensures.1 in
    let fault = c.in_err-block-in-UpdateBlockForPipeline.field-0.0 in
    let p = picture_at c.args.space.now c.args.nodes.now config.settings links in
    let q = picture_at c.update_block_for_pipeline.new.self c.args.nodes.now config.settings links in
    let same = same_parts c.args.space.now c.update_block_for_pipeline.new.self c.args.nodes.now config.settings links c.update_block_for_pipeline.ensures.same in
    rw (r.1, r.2) (inl (subst (λ (ask : Ask). Answers p c.args.i ask (Err fault) q) (sym e.is)
    (answers_not_stamped p q c.args.i c.if-i-known.false e.block e.client_name fault c.in_err-block-in-UpdateBlockForPipeline.ensures.stray same)))

pub returns-in_ok-block-in-UpdateBlockForPipeline-clause-responds : goal.returns-in_ok-block-in-UpdateBlockForPipeline-clause-responds
returns-in_ok-block-in-UpdateBlockForPipeline-clause-responds c = λ links.
    let config = c.args.known.now.config.now in
    let e = c.in-UpdateBlockForPipeline in
    let block = c.in_ok-block-in-UpdateBlockForPipeline.block in
    let p = picture_at c.args.space.now c.args.nodes.now config.settings links in
    let q = picture_at c.update_block_for_pipeline.new.self c.args.nodes.now config.settings links in
    let same = same_parts c.args.space.now c.update_block_for_pipeline.new.self c.args.nodes.now config.settings links c.update_block_for_pipeline.ensures.same in
    inl (subst (λ (ask : Ask). Answers p c.args.i ask (Ok (answers.UpdateBlockForPipeline block)) q) (sym e.is)
    (answers_stamped p q c.args.i c.if-i-known.false e.block e.client_name block c.in_ok-block-in-UpdateBlockForPipeline.ensures.stamp same))

pub returns-then-is_about_names-clause-responds : goal.returns-then-is_about_names-clause-responds
returns-then-is_about_names-clause-responds c = λ links.
    inr (inr (record {
      here = c.if-i-known.false;
      active = refl;
      bytes = record { held = λ node id. refl; defaults = refl; reads = λ link. refl; writes = λ link. refl };
      row = c.answer_names.ensures.answers (held_in c.args.nodes.now);
    }))
