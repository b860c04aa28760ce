use Rattle.std.proofs.Common.{◌≡◌, true, refl, ◌∙◌}
use Rattle.std.proofs.lemmas.Result.{err_from_is_err_and}
use Rattle.hdfs_top.specs.Inside.{IsBare}
use Rattle.hdfs_top.proofs.ScriptLemmas.{same_shown_refl}
use Rattle.hdfs_top.proofs.LoadLemmas.{Unloaded, loads_script, refuses_bad, refuses_unloaded, refuses_untaken}
use Rattle.hdfs_top.proofs.load_lines.load_script.Goals as goal

-- nothing was loaded
pub returns-in-Some-clause-refused : goal.returns-in-Some-clause-refused
returns-in-Some-clause-refused g c =
    let first : Unloaded (g.C.Store.is_fresh c.args.store.now) c.args.read c.refused_unloaded.result = record { fresh = rw c.fresh-fresh.ensures at c.refused_unloaded.ensures.fresh; held = rw c.fresh-fresh.ensures at c.refused_unloaded.ensures.held } in
    λ number is. refuses_unloaded _ _ c.args.read _ number first (c.in-Some.is ∙ cc is) (same_shown_refl _)

-- a line wasn't taken
pub returns-in_err-load_lines-clause-refused : goal.returns-in_err-load_lines-clause-refused
returns-in_err-load_lines-clause-refused g c =
    let p = err_from_is_err_and c.from_residual.result c.from_residual.ensures.1 in
    let first : Unloaded (g.C.Store.is_fresh c.args.store.now) c.args.read c.refused_unloaded.result = record { fresh = rw c.fresh-fresh.ensures at c.refused_unloaded.ensures.fresh; held = rw c.fresh-fresh.ensures at c.refused_unloaded.ensures.held } in
    let bare : g.C.Store.is_fresh c.args.store.now ≡ true → IsBare (g.C.Cluster.shown c.args.store.now) = λ is p told. (g.met.C.Store.fresh_is c.args.store.now p told).0 is in
    λ number refused. refuses_untaken (g.C.Store.is_fresh c.args.store.now) _ _ _ c.args.read _ number first c.in_default.is bare (rw c.fresh-fresh.ensures at c.in-Ok.ensures.readies)
    (c.load_lines.ensures.refused number (cc (c.in_err-load_lines.was, refused, p.1, p.2))) (c.load_lines.ensures.faults number (cc (c.in_err-load_lines.was, refused, p.1, p.2)))

-- all was loaded
pub returns-in-None-clause-loaded : goal.returns-in-None-clause-loaded
returns-in-None-clause-loaded g c =
    let first : Unloaded (g.C.Store.is_fresh c.args.store.now) c.args.read c.refused_unloaded.result = record { fresh = rw c.fresh-fresh.ensures at c.refused_unloaded.ensures.fresh; held = rw c.fresh-fresh.ensures at c.refused_unloaded.ensures.held } in
    let bare : g.C.Store.is_fresh c.args.store.now ≡ true → IsBare (g.C.Cluster.shown c.args.store.now) = λ is p told. (g.met.C.Store.fresh_is c.args.store.now p told).0 is in
    (refl, loads_script (g.C.Store.is_fresh c.args.store.now) _ _ _ c.args.read _ first c.in_default.is c.in-None.is bare (rw c.fresh-fresh.ensures at c.in-Ok.ensures.readies) c.in_ok-load_lines.ensures.loaded)

-- a line is bad by its text or its place
pub returns-in-Some-bad-clause-refused : goal.returns-in-Some-bad-clause-refused
returns-in-Some-bad-clause-refused g c =
    let first : Unloaded (g.C.Store.is_fresh c.args.store.now) c.args.read c.refused_unloaded.result = record { fresh = rw c.fresh-fresh.ensures at c.refused_unloaded.ensures.fresh; held = rw c.fresh-fresh.ensures at c.refused_unloaded.ensures.held } in
    let bare : g.C.Store.is_fresh c.args.store.now ≡ true → IsBare (g.C.Cluster.shown c.args.store.now) = λ is p told. (g.met.C.Store.fresh_is c.args.store.now p told).0 is in
    λ number is. refuses_bad (g.C.Store.is_fresh c.args.store.now) _ _ _ c.args.read _ number first c.in_default.is (c.in-Some-bad.is ∙ cc is) bare (rw c.fresh-fresh.ensures at c.in-Ok.ensures.readies) c.in_ok-load_lines.ensures.loaded
