-- The next entry, over any cluster and over a told picture.
use Rattle.std.proofs.Common.{◌<◌, suc, List, ℕ, ◌∷◌, length, refl, sym, ◌∙◌, ap, subst}
use Rattle.std.proofs.lemmas.Result.{err_from_is_err_and}
use Rattle.hdfs_cluster.proofs.Frames.{same_files_refl}
use Rattle.hdfs_cluster.proofs.Framing.{leaves_refl, leaves_trans}
use Rattle.hdfs_namenode.specs.Clients.{proxy_of}
use Rattle.hdfs_namenode.proofs.Services.{reaches_later, same_client_refl, same_client_trans}
use Rattle.hdfs_listing.specs.Listing.{IsNotTurned}
use Rattle.hdfs_listing.specs.Walking.{AllMayDo, IsDue, todo_of}
use Rattle.hdfs_listing.specs.declared.walk.Task.{Task}
use Rattle.hdfs_listing.proofs.Nexts.{SoFar, failed_walk, turned_leaves, turned_walk, unturned_leaves, walk_error}
use Rattle.hdfs_listing.proofs.Turning.{fewer, open_pages, page_may}
use Rattle.hdfs_listing.proofs.walk.Walk.next.Goals as goal

pub tasks-init : goal.tasks-init
tasks-init g c = record {
  client = same_client_refl c.args.namenode.now;
  leaves = leaves_refl (g.C.Cluster.shown c.args.cluster.now);
  keeps = (refl, refl, refl);
  may = c.requires.may;
  last = λ fine. fine;
  told = λ p state paths told tells due. (p, told, record { files = same_files_refl p; reads = λ link. refl; writes = λ link. refl }, due);
}

pub turn_page-requires-clause-reaches : goal.turn_page-requires-clause-reaches
turn_page-requires-clause-reaches g c =
    reaches_later (proxy_of c.args.namenode.now) (proxy_of c.tasks.namenode) (g.C.Cluster.shown c.args.cluster.now) (g.C.Cluster.shown c.tasks.cluster) c.tasks.invariant.client.service
    c.tasks.invariant.leaves.later c.requires.reaches

pub turn_page-requires-clause-allowed : goal.turn_page-requires-clause-allowed
turn_page-requires-clause-allowed g c =
    c.requires.allowed c.in-Some-Ask.dir c.in-Some-Ask.start
    (subst (AllMayDo g.C.Cluster.may_answer c.args.self.now.recursive c.args.self.now.path) (c.in-Some-Ask.ensures.taken ∙ ap (λ (task : Task). task ∷ todo_of c.pop.new.self) c.in-Some-Ask.field-0-is) c.tasks.invariant.may).0

pub tasks-preserved : goal.tasks-preserved
tasks-preserved g c =
    let s = g.C.Cluster.shown c.args.cluster.now in
    let m = g.C.Cluster.shown c.tasks.cluster in
    let t = g.C.Cluster.shown c.turn_page.new.cluster in
    let recursive = c.args.self.now.recursive in
    let path = c.args.self.now.path in
    let rest = todo_of c.pop.new.self in
    let h = c.in_ok-turn_page-in-Some-Ask.ensures.ok in
    let may = subst (AllMayDo g.C.Cluster.may_answer recursive path) (c.in-Some-Ask.ensures.taken ∙ ap (λ (task : Task). task ∷ todo_of c.pop.new.self) c.in-Some-Ask.field-0-is) c.tasks.invariant.may in
    let on = c.in_ok-turn_page-in-Some-Ask.ensures.keeps in
    let off = c.pop.ensures.keeps in
    let so = c.tasks.invariant.keeps in
    record {
      client = same_client_trans c.args.namenode.now c.tasks.namenode c.turn_page.new.namenode c.tasks.invariant.client c.in_ok-turn_page-in-Some-Ask.ensures.client;
      leaves = leaves_trans s m t c.tasks.invariant.leaves (turned_leaves h);
      keeps = (on.0 ∙ off.0 ∙ so.0, on.1 ∙ off.1 ∙ so.1, on.2 ∙ off.2 ∙ so.2);
      may = subst (AllMayDo g.C.Cluster.may_answer recursive path) (sym h.tasks) (page_may may.0 h.page rest h.has.answered may.1);
      last = λ fine. h.has.came.relays.fine;
      told =
          turned_walk s m t recursive (todo_of c.args.self.now) c.in-Some-Ask.dir c.in-Some-Ask.start rest (todo_of c.turn_page.new.self)
          (subst (SoFar s m recursive (todo_of c.args.self.now)) (c.in-Some-Ask.ensures.taken ∙ ap (λ (task : Task). task ∷ todo_of c.pop.new.self) c.in-Some-Ask.field-0-is) c.tasks.invariant.told) h;
    }

pub tasks-smaller : goal.tasks-smaller
tasks-smaller g c =
    let h = c.in_ok-turn_page-in-Some-Ask.ensures.ok in
    subst (λ (l : List Task). open_pages (todo_of c.turn_page.new.self) < open_pages l) (sym (c.in-Some-Ask.ensures.taken ∙ ap (λ (task : Task). task ∷ todo_of c.pop.new.self) c.in-Some-Ask.field-0-is))
    (subst (λ (l : List Task). open_pages l < suc (length (todo_of c.pop.new.self))) (sym h.tasks) (fewer c.in-Some-Ask.dir h.page (todo_of c.pop.new.self)))

pub returns-in-None-clause-ok : goal.returns-in-None-clause-ok
returns-in-None-clause-ok g c =
    (subst (AllMayDo g.C.Cluster.may_answer c.args.self.now.recursive c.args.self.now.path) (sym c.in-None.ensures.taken.1) tt, c.in-None.ensures.taken.1, c.tasks.invariant.last)

pub returns-in-None-clause-told : goal.returns-in-None-clause-told
returns-in-None-clause-told g c = λ p state paths was tells due.
    let on = c.tasks.invariant.told p state paths was tells due in
    (on.0, on.1, on.2, subst (λ (l : List Task). IsDue on.0.names state c.args.self.now.recursive l paths) c.in-None.ensures.taken.0 on.3, tt)

pub returns-in-Some-Give-clause-ok : goal.returns-in-Some-Give-clause-ok
returns-in-Some-Give-clause-ok g c =
    let may = subst (AllMayDo g.C.Cluster.may_answer c.args.self.now.recursive c.args.self.now.path) (c.in-Some-Give.ensures.taken ∙ ap (λ (task : Task). task ∷ todo_of c.pop.new.self) c.in-Some-Give.field-0-is) c.tasks.invariant.may in
    (may.1, may.0, c.tasks.invariant.last)

pub returns-in-Some-Give-clause-told : goal.returns-in-Some-Give-clause-told
returns-in-Some-Give-clause-told g c = λ p state paths was tells due.
    let on = c.tasks.invariant.told p state paths was tells due in
    (on.0, on.1, on.2, subst (λ (l : List Task). IsDue on.0.names state c.args.self.now.recursive l paths) (c.in-Some-Give.ensures.taken ∙ ap (λ (task : Task). task ∷ todo_of c.pop.new.self) c.in-Some-Give.field-0-is) on.3, tt)

pub returns-in_err-turn_page-in-Some-Ask-clause-err : goal.returns-in_err-turn_page-in-Some-Ask-clause-err
returns-in_err-turn_page-in-Some-Ask-clause-err g c =
    let p = err_from_is_err_and c.from_residual.result c.from_residual.ensures.1 in
    let s = g.C.Cluster.shown c.args.cluster.now in
    let m = g.C.Cluster.shown c.tasks.cluster in
    let t = g.C.Cluster.shown c.turn_page.new.cluster in
    let e = c.in_err-turn_page-in-Some-Ask.field-0.0 in
    rw (p.1, p.2) (walk_error s m t c.tasks.invariant.leaves
    (subst (AllMayDo g.C.Cluster.may_answer c.args.self.now.recursive c.args.self.now.path) (c.in-Some-Ask.ensures.taken ∙ ap (λ (task : Task). task ∷ todo_of c.pop.new.self) c.in-Some-Ask.field-0-is) c.tasks.invariant.may).0 e
    (subst (λ (given : List ℕ). IsNotTurned g.C.Cluster.may_answer given c.in-Some-Ask.dir c.in-Some-Ask.start m e t) (c.pop.ensures.keeps.0 ∙ c.tasks.invariant.keeps.0) c.in_err-turn_page-in-Some-Ask.ensures.err))

pub returns-in_err-turn_page-in-Some-Ask-clause-told : goal.returns-in_err-turn_page-in-Some-Ask-clause-told
returns-in_err-turn_page-in-Some-Ask-clause-told g c =
    let p' = err_from_is_err_and c.from_residual.result c.from_residual.ensures.1 in
    let s = g.C.Cluster.shown c.args.cluster.now in
    let m = g.C.Cluster.shown c.tasks.cluster in
    let t = g.C.Cluster.shown c.turn_page.new.cluster in
    let e = c.in_err-turn_page-in-Some-Ask.field-0.0 in
    rw (p'.1, p'.2) (λ p state paths was tells due.
    (let on = failed_walk s m t c.args.self.now.recursive (todo_of c.args.self.now) c.in-Some-Ask.dir c.in-Some-Ask.start (todo_of c.pop.new.self)
    (subst (SoFar s m c.args.self.now.recursive (todo_of c.args.self.now)) (c.in-Some-Ask.ensures.taken ∙ ap (λ (task : Task). task ∷ todo_of c.pop.new.self) c.in-Some-Ask.field-0-is) c.tasks.invariant.told) c.tasks.invariant.leaves e c.in_err-turn_page-in-Some-Ask.ensures.err p state paths was tells due in
    (on.0, on.1, on.2, tt, on.3)))

pub returns-in_err-turn_page-in-Some-Ask-clause-leaves : goal.returns-in_err-turn_page-in-Some-Ask-clause-leaves
returns-in_err-turn_page-in-Some-Ask-clause-leaves g c =
    leaves_trans (g.C.Cluster.shown c.args.cluster.now) (g.C.Cluster.shown c.tasks.cluster) (g.C.Cluster.shown c.turn_page.new.cluster) c.tasks.invariant.leaves
    (unturned_leaves c.in_err-turn_page-in-Some-Ask.field-0.0 c.in_err-turn_page-in-Some-Ask.ensures.err)

pub returns-in_err-turn_page-in-Some-Ask-clause-client : goal.returns-in_err-turn_page-in-Some-Ask-clause-client
returns-in_err-turn_page-in-Some-Ask-clause-client g c = same_client_trans c.args.namenode.now c.tasks.namenode c.turn_page.new.namenode c.tasks.invariant.client c.in_err-turn_page-in-Some-Ask.ensures.client
