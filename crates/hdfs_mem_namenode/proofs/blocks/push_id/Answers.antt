-- The file is written back, and everything else stays.
use Rattle.std.proofs.Common.{◌≡◌, List, ℕ, Bool, true, false, Option, Some, cond, rules, refl, sym, ◌∙◌, ap, Result, Ok, Err, OnErr}
use Rattle.std.proofs.lemmas.Map.Text.{btree_map_updates_text}
use Rattle.std.proofs.lemmas.Result.{on_ok_weaker}
use Rattle.std.proofs.lemmas.Slice.Eq.{bytes_eq-Decides}
use Rattle.std.specs.BTreeMap.{get_by_text}
use Rattle.std.specs.Str.{bytes_eq}
use Rattle.hdfs_cluster.specs.declared.picture.Entry.{Entry}
use Rattle.hdfs_cluster.specs.declared.picture.Entry.TheVariants as entries
use Rattle.hdfs_mem_namenode.proofs.blocks.push_id.Goals as goal

-- what was there is written again
same_at : (names : List ℕ → Option Entry) (src q : List ℕ) (e : Entry) → names src ≡ Some e → cond (bytes_eq src q) (Some e) (names q) ≡ names q
same_at names src q e is = by_test (bytes_eq src q) (bytes_eq-Decides src q).0
  where
    by_test : (b : Bool) → (b ≡ true → src ≡ q) → cond b (Some e) (names q) ≡ names q
    by_test true same = sym is ∙ ap names (same refl)
    by_test false same = refl

pub returns-in-Some-clause-ok : goal.returns-in-Some-clause-ok
returns-in-Some-clause-ok c =
    let w = c.push_id_at.new.entry in
    let names = get_by_text c.args.names.now in
    on_ok_weaker c.push_id_at.result
    (λ ok file is q.
    let updates = btree_map_updates_text c.args.src.now c.args.names.now (c.get_mut.follows.lender w) (Some w) ((c.get_mut.follows.holds w).3 (search rules)) in
    let found : Some c.in-Some.entry.now ≡ Some (entries.File file) = c.in-Some.ensures.value ∙ is in
    let was : c.in-Some.entry.now ≡ entries.File file = cc (found) in
    updates q ∙ ap (λ e. cond (bytes_eq c.args.src.now q) (Some e) (names q)) (ok file was))
    c.push_id_at.ensures.ok

on_err_weaker : {T E P Q : Type 0} (r : Result T E) → (P → Q) → OnErr r P → OnErr r Q
on_err_weaker (Ok x) f h = tt
on_err_weaker (Err e) f h = f h

pub returns-in-Some-clause-err : goal.returns-in-Some-clause-err
returns-in-Some-clause-err c =
    let w = c.push_id_at.new.entry in
    let names = get_by_text c.args.names.now in
    on_err_weaker c.push_id_at.result
    (λ same q.
    let updates = btree_map_updates_text c.args.src.now c.args.names.now (c.get_mut.follows.lender w) (Some w) ((c.get_mut.follows.holds w).3 (search rules)) in
    updates q ∙ same_at names c.args.src.now q w (sym c.in-Some.ensures.value ∙ ap Some (sym same)))
    c.push_id_at.ensures.err
