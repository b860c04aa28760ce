use Rattle.std.proofs.Common.{◌≡◌, ℕ, ◌∙◌, true, Some, sym, ap, length, subst, arith}
use Rattle.std.proofs.lemmas.Result.{err_from_is_err_and}
use Rattle.std.proofs.lemmas.Iterator.Adapters.{YieldsList-from_vec}
use Rattle.std.proofs.lemmas.Iterator.Consumers.{YieldsList-turn, YieldsList-so_far}
use Rattle.hdfs_script.specs.Parsing.{first_untaken}
use Rattle.hdfs_top.proofs.LoadLemmas.{faults_at, loads_more, whole_at, untaken_at}
use Rattle.hdfs_top.proofs.load_lines.load_lines.Goals as goal

pub loop-numbered-preserved : goal.loop-numbered-preserved
loop-numbered-preserved g c = loads_more _ _ _ c.loop-numbered.yielded c.in-Some.numbered c.loop-numbered.invariant c.in_ok-load_line.ensures.loaded c.in_ok-load_line.ensures.taken

-- the files so far don't take this line, which is no fault
pub returns-in_err-load_line-clause-refused : goal.returns-in_err-load_line-clause-refused
returns-in_err-load_line-clause-refused g c =
    let p = err_from_is_err_and c.from_residual.result c.from_residual.ensures.1 in
    let given = c.into_iter-numbered-iterator.ensures.into_iter_gives in
    let items = YieldsList-from_vec {s = c.into_iter-numbered-iterator.result} c.args.lines (given.0 ∙ c.into_vec-numbered-items.ensures) (omega (arith, given.1, c.into_vec-numbered-items.result.ok.0, ap length c.into_vec-numbered-items.ensures)) in
    let front = YieldsList-so_far items c.loop-numbered.yielded c.loop-numbered.numbered-iterator c.loop-numbered.yielded_by in
    let turn = YieldsList-turn items c.loop-numbered.yielded c.loop-numbered.numbered-iterator c.loop-numbered.yielded_by c.next.result c.next.new.self c.in-Some.numbered c.in-Some.is c.next.ensures.steps in
    λ number refused state fits are.
    let here = c.load_line.ensures.refused number (cc (c.in_err-load_line.was, refused, p.1, p.2)) in
    subst (λ (n : ℕ). first_untaken true (g.C.Cluster.shown c.args.store.now).loaded state c.args.lines ≡ Some n) (sym here.0)
    (untaken_at _ _ c.args.lines c.loop-numbered.yielded c.in-Some.numbered _ state (whole_at c.args.lines c.loop-numbered.yielded c.in-Some.numbered front turn) c.loop-numbered.invariant fits are here.1)

pub returns-in_err-load_line-clause-faults : goal.returns-in_err-load_line-clause-faults
returns-in_err-load_line-clause-faults g c =
    let p = err_from_is_err_and c.from_residual.result c.from_residual.ensures.1 in
    let given = c.into_iter-numbered-iterator.ensures.into_iter_gives in
    let items = YieldsList-from_vec {s = c.into_iter-numbered-iterator.result} c.args.lines (given.0 ∙ c.into_vec-numbered-items.ensures) (omega (arith, given.1, c.into_vec-numbered-items.result.ok.0, ap length c.into_vec-numbered-items.ensures)) in
    let front = YieldsList-so_far items c.loop-numbered.yielded c.loop-numbered.numbered-iterator c.loop-numbered.yielded_by in
    let turn = YieldsList-turn items c.loop-numbered.yielded c.loop-numbered.numbered-iterator c.loop-numbered.yielded_by c.next.result c.next.new.self c.in-Some.numbered c.in-Some.is c.next.ensures.steps in
    λ number refused state fits none.
    let here = c.load_line.ensures.refused number (cc (c.in_err-load_line.was, refused, p.1, p.2)) in
    faults_at _ _ c.args.lines c.loop-numbered.yielded c.in-Some.numbered _ state (whole_at c.args.lines c.loop-numbered.yielded c.in-Some.numbered front turn) c.loop-numbered.invariant fits none here.1
