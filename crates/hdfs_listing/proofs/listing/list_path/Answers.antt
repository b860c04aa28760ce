-- The first page, and what is gathered behind it.
use Rattle.std.proofs.Common.{◌≡◌, ◌≤◌, [], Bool, List, ℕ, Ok, Err, Some, length, rules, sym, ◌∙◌, subst}
use Rattle.std.proofs.lemmas.Result.{err_from_is_err_and}
use Rattle.hdfs_cluster.specs.Files.{State}
use Rattle.hdfs_cluster.specs.Picture.{Picture}
use Rattle.hdfs_cluster.proofs.Framing.{leaves_refl}
use Rattle.hdfs_model.specs.Listings.{IsBelow, asked}
use Rattle.hdfs_listing.specs.Listing.{Gathers, IsNotTurned, IsTurned, Tells}
use Rattle.hdfs_listing.specs.Walking.{AllMayDo, IsDue, todo_of}
use Rattle.hdfs_listing.specs.declared.walk.Task.{Task}
use Rattle.hdfs_listing.proofs.Gathering.{first_fails, lists_all}
use Rattle.hdfs_listing.proofs.Nexts.{listing_from_walk, turned_leaves, walk_error}
use Rattle.hdfs_listing.proofs.Turning.{page_may}
use Rattle.hdfs_listing.proofs.listing.list_path.Goals as goal

pub turn_page-requires-clause-allowed : goal.turn_page-requires-clause-allowed
turn_page-requires-clause-allowed g c =
    c.requires.allowed c.in_ok-dir.dir c.new-start.result (subst (IsBelow g.C.Cluster.may_answer c.args.terms.recursive c.args.path.now) (sym c.in_ok-dir.ensures) asked)

pub returns-in_err-turn_page-clause-err : goal.returns-in_err-turn_page-clause-err
returns-in_err-turn_page-clause-err g c =
    let p' = err_from_is_err_and c.from_residual-in_err-turn_page.result c.from_residual-in_err-turn_page.ensures.1 in
    let s = g.C.Cluster.shown c.args.cluster.now in
    let t = g.C.Cluster.shown c.turn_page.new.cluster in
    let e = c.in_err-turn_page.field-0.0 in
    let may = g.C.Cluster.may_answer in
    let h = subst (λ (given : List ℕ). IsNotTurned may given c.in_ok-dir.dir c.new-start.result s e t) c.in_ok-walk.ensures.1 c.in_err-turn_page.ensures.err in
    rw (p'.1, p'.2) (listing_from_walk s t c.args.terms.limit e (walk_error s s t (leaves_refl s) (subst (IsBelow may c.args.terms.recursive c.args.path.now) (sym c.in_ok-dir.ensures) asked) e h))

pub returns-in_err-turn_page-clause-told : goal.returns-in_err-turn_page-clause-told
returns-in_err-turn_page-clause-told g c =
    let p' = err_from_is_err_and c.from_residual-in_err-turn_page.result c.from_residual-in_err-turn_page.ensures.1 in
    let s = g.C.Cluster.shown c.args.cluster.now in
    let t = g.C.Cluster.shown c.turn_page.new.cluster in
    let e = c.in_err-turn_page.field-0.0 in
    let may = g.C.Cluster.may_answer in
    let h : IsNotTurned may c.args.given.now c.args.path.now [] s e t =
    subst (λ (start : List ℕ). IsNotTurned may c.args.given.now c.args.path.now start s e t) c.new-start.ensures
    (subst (λ (dir : List ℕ). IsNotTurned may c.args.given.now dir c.new-start.result s e t) c.in_ok-dir.ensures
    (subst (λ (given : List ℕ). IsNotTurned may given c.in_ok-dir.dir c.new-start.result s e t) c.in_ok-walk.ensures.1 c.in_err-turn_page.ensures.err)) in
    rw (p'.1, p'.2) (λ p state was tells. first_fails p state tells c.args.given.now c.args.path.now c.args.terms.recursive c.args.terms.limit may s t was e h)

pub gather-requires-clause-may : goal.gather-requires-clause-may
gather-requires-clause-may g c =
    let may = g.C.Cluster.may_answer in
    let h = c.in_ok-turn_page.ensures.ok in
    let k = c.in_ok-turn_page.ensures.keeps in
    let todo = todo_of c.turn_page.new.self in
    let below = subst (IsBelow may c.args.terms.recursive c.args.path.now) (sym c.in_ok-dir.ensures) asked in
    let none = subst (AllMayDo may c.args.terms.recursive c.args.path.now) (sym c.in_ok-walk.ensures.0) tt in
    subst (λ (q : List ℕ). AllMayDo may c.turn_page.new.self.recursive q todo) (sym (k.1 ∙ c.in_ok-walk.ensures.2))
    (subst (λ (r : Bool). AllMayDo may r c.args.path.now todo) (sym (k.2 ∙ c.in_ok-walk.ensures.3))
    (subst (AllMayDo may c.args.terms.recursive c.args.path.now) (sym h.tasks) (page_may below h.page (todo_of c.in_ok-walk.walk) h.has.answered none)))

pub returns-in_err-found-clause-told : goal.returns-in_err-found-clause-told
returns-in_err-found-clause-told g c =
    let p' = err_from_is_err_and c.from_residual-in_err-found.result c.from_residual-in_err-found.ensures.1 in
    let s = g.C.Cluster.shown c.args.cluster.now in
    let m = g.C.Cluster.shown c.turn_page.new.cluster in
    let t = g.C.Cluster.shown c.gather.new.cluster in
    let may = g.C.Cluster.may_answer in
    let todo = todo_of c.turn_page.new.self in
    let raw = c.in_ok-turn_page.ensures.ok in
    let h : IsTurned may c.args.path.now [] [] s m todo =
    subst (λ (l : List Task). IsTurned may c.args.path.now [] l s m todo) c.in_ok-walk.ensures.0
    (subst (λ (start : List ℕ). IsTurned may c.args.path.now start (todo_of c.in_ok-walk.walk) s m todo) c.new-start.ensures
    (subst (λ (dir : List ℕ). IsTurned may dir c.new-start.result (todo_of c.in_ok-walk.walk) s m todo) c.in_ok-dir.ensures raw)) in
    let told = subst (λ (r : Bool). (p : Picture) (state : State) (paths : List (List ℕ)) → m.picture ≡ Some p → Tells p state → IsDue p.names state r todo paths → Gathers p state paths c.args.terms.limit m t (Err c.in_err-found.field-0.0))
    (c.in_ok-turn_page.ensures.keeps.2 ∙ c.in_ok-walk.ensures.3) c.in_err-found.ensures.told in
    rw (p'.1, p'.2) (λ p state was tells. lists_all p state tells c.args.given.now c.args.path.now c.args.terms.recursive c.args.terms.limit may s m t was todo h (turned_leaves raw).later.counts (Err c.in_err-found.field-0.0) told tt)

pub returns-clause-told : goal.returns-clause-told
returns-clause-told g c = λ p state was tells.
    let s = g.C.Cluster.shown c.args.cluster.now in
    let m = g.C.Cluster.shown c.turn_page.new.cluster in
    let t = g.C.Cluster.shown c.gather.new.cluster in
    let may = g.C.Cluster.may_answer in
    let todo = todo_of c.turn_page.new.self in
    let raw = c.in_ok-turn_page.ensures.ok in
    let h : IsTurned may c.args.path.now [] [] s m todo =
    subst (λ (l : List Task). IsTurned may c.args.path.now [] l s m todo) c.in_ok-walk.ensures.0
    (subst (λ (start : List ℕ). IsTurned may c.args.path.now start (todo_of c.in_ok-walk.walk) s m todo) c.new-start.ensures
    (subst (λ (dir : List ℕ). IsTurned may dir c.new-start.result (todo_of c.in_ok-walk.walk) s m todo) c.in_ok-dir.ensures raw)) in
    let told = subst (λ (r : Bool). (p : Picture) (state : State) (paths : List (List ℕ)) → m.picture ≡ Some p → Tells p state → IsDue p.names state r todo paths → Gathers p state paths c.args.terms.limit m t (Ok c.in_ok-found.found))
    (c.in_ok-turn_page.ensures.keeps.2 ∙ c.in_ok-walk.ensures.3) c.in_ok-found.ensures.told in
    let few : length c.in_ok-found.found.items ≤ c.args.terms.limit = search rules in
    lists_all p state tells c.args.given.now c.args.path.now c.args.terms.recursive c.args.terms.limit may s m t was todo h (turned_leaves raw).later.counts (Ok c.in_ok-found.found) told few
