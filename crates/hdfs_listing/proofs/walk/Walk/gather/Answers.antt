-- Entries are gathered one by one.
use Rattle.std.proofs.Common.{◌≡◌, [], inl, inr, Bool, List, ℕ, None, Option, refl, rules, sym, ◌∙◌, ap, subst}
use Rattle.std.proofs.lemmas.Result.{err_from_is_err_and}
use Rattle.hdfs_model.specs.declared.commands.PathEntry.{PathEntry}
use Rattle.std.proofs.lemmas.List.Elements.{All-push}
use Rattle.std.specs.List.{All}
use Rattle.std.specs.Prelude.{MatchOption}
use Rattle.hdfs_cluster.proofs.Framing.{leaves_trans}
use Rattle.hdfs_model.specs.Listings.{IsListedEntry}
use Rattle.hdfs_namenode.proofs.Services.{same_client_trans}
use Rattle.hdfs_listing.specs.Walking.{AllMayDo, MayDo, entered, todo_of}
use Rattle.hdfs_listing.specs.declared.walk.Task.{Task}
use Rattle.hdfs_listing.specs.declared.walk.Task.TheVariants as tasks
use Rattle.hdfs_listing.proofs.Gathering.{NextErr, NextTold, SoGathered, enter_may, err_told, gathered_end, gathered_err, gathered_many, gathered_on, many_more, none_told, some_told}
use Rattle.hdfs_listing.proofs.walk.Walk.gather.Goals as goal

pub returns-then-len-limit-clause-told : goal.returns-then-len-limit-clause-told
returns-then-len-limit-clause-told g c = λ p state paths was tells due.
    let s = g.C.Cluster.shown c.args.cluster.now in
    let m = g.C.Cluster.shown c.entries.cluster in
    let t = g.C.Cluster.shown c.next.new.cluster in
    let recursive = c.args.self.now.recursive in
    let first = todo_of c.args.self.now in
    let todo = todo_of c.entries.self in
    let rest = todo_of c.next.new.self in
    let found = c.entries.found.items in
    let told = subst (λ (r : Bool). NextTold m t r todo rest c.in_ok-entry.field-0) c.entries.invariant.keeps.2 c.in_ok-entry.ensures.told in
    let on = gathered_many s m t recursive first todo found c.entries.invariant.so c.in-Some.entry rest
    (some_told s m t recursive first todo rest found c.entries.invariant.so c.in_ok-entry.field-0 told c.in-Some.entry c.in-Some.is) c.args.limit (search rules) p state paths was tells due in
    record { q = on.0; now = on.1; same = on.2; ok = tt; err = inr (refl, on.3) }

pub returns-clause-told : goal.returns-clause-told
returns-clause-told g c = λ p state paths was tells due.
    let s = g.C.Cluster.shown c.args.cluster.now in
    let m = g.C.Cluster.shown c.entries.cluster in
    let t = g.C.Cluster.shown c.next.new.cluster in
    let recursive = c.args.self.now.recursive in
    let first = todo_of c.args.self.now in
    let todo = todo_of c.entries.self in
    let rest = todo_of c.next.new.self in
    let found = c.entries.found.items in
    let told = subst (λ (r : Bool). NextTold m t r todo rest c.in_ok-entry.field-0) c.entries.invariant.keeps.2 c.in_ok-entry.ensures.told in
    let none : c.in_ok-entry.field-0 ≡ None = search rules in
    let on = gathered_end s m t recursive first todo found c.entries.invariant.so
    (none_told s m t recursive first todo rest found c.entries.invariant.so c.in_ok-entry.field-0 told none) p state paths was tells due in
    record { q = on.0; now = on.1; same = on.2; ok = on.3; err = tt }

pub returns-in_err-entry-clause-told : goal.returns-in_err-entry-clause-told
returns-in_err-entry-clause-told g c =
    let p' = err_from_is_err_and c.from_residual.result c.from_residual.ensures.1 in
    let s = g.C.Cluster.shown c.args.cluster.now in
    let m = g.C.Cluster.shown c.entries.cluster in
    let t = g.C.Cluster.shown c.next.new.cluster in
    let recursive = c.args.self.now.recursive in
    let first = todo_of c.args.self.now in
    let todo = todo_of c.entries.self in
    let rest = todo_of c.next.new.self in
    let found = c.entries.found.items in
    let e = c.in_err-entry.field-0.0 in
    let told = subst (λ (r : Bool). NextErr m t r todo e) c.entries.invariant.keeps.2 c.in_err-entry.ensures.told in
    rw (p'.1, p'.2) (λ p state paths was tells due.
    (let on = gathered_err s m t recursive first todo found c.entries.invariant.so c.entries.invariant.leaves.later.counts e (err_told s m t recursive first todo found c.entries.invariant.so e told) p state paths was tells due in
    record { q = on.0; now = on.1; same = on.2; ok = tt; err = inl on.3 }))

pub returns-in_err-enter-clause-told : goal.returns-in_err-enter-clause-told
returns-in_err-enter-clause-told g c =
    let p' = err_from_is_err_and c.from_residual-in_err-enter.result c.from_residual-in_err-enter.ensures.1 in
    let s = g.C.Cluster.shown c.args.cluster.now in
    let m = g.C.Cluster.shown c.entries.cluster in
    let t = g.C.Cluster.shown c.next.new.cluster in
    let recursive = c.args.self.now.recursive in
    let first = todo_of c.args.self.now in
    let todo = todo_of c.entries.self in
    let rest = todo_of c.next.new.self in
    let found = c.entries.found.items in
    let told = subst (λ (r : Bool). NextTold m t r todo rest c.in_ok-entry.field-0) c.entries.invariant.keeps.2 c.in_ok-entry.ensures.told in
    rw (p'.1, p'.2) (λ p state paths was tells due.
    (let on = gathered_on s m t recursive first todo found c.entries.invariant.so c.in-Some.entry rest
    (some_told s m t recursive first todo rest found c.entries.invariant.so c.in_ok-entry.field-0 told c.in-Some.entry c.in-Some.is) p state paths was tells due in
    record { q = on.0; now = on.1; same = on.2; ok = tt; err = inl (inl refl) }))

pub returns-in_err-push-clause-told : goal.returns-in_err-push-clause-told
returns-in_err-push-clause-told g c =
    let p' = err_from_is_err_and c.from_residual-in_err-push.result c.from_residual-in_err-push.ensures.1 in
    let s = g.C.Cluster.shown c.args.cluster.now in
    let m = g.C.Cluster.shown c.entries.cluster in
    let t = g.C.Cluster.shown c.next.new.cluster in
    let recursive = c.args.self.now.recursive in
    let first = todo_of c.args.self.now in
    let todo = todo_of c.entries.self in
    let rest = todo_of c.next.new.self in
    let found = c.entries.found.items in
    let told = subst (λ (r : Bool). NextTold m t r todo rest c.in_ok-entry.field-0) c.entries.invariant.keeps.2 c.in_ok-entry.ensures.told in
    rw (p'.1, p'.2) (λ p state paths was tells due.
    (let on = gathered_on s m t recursive first todo found c.entries.invariant.so c.in-Some.entry rest
    (some_told s m t recursive first todo rest found c.entries.invariant.so c.in_ok-entry.field-0 told c.in-Some.entry c.in-Some.is) p state paths was tells due in
    record { q = on.0; now = on.1; same = on.2; ok = tt; err = inl (inl refl) }))

pub returns-then-len-limit-clause-err : goal.returns-then-len-limit-clause-err
returns-then-len-limit-clause-err g c =
    let k = c.entries.invariant.keeps in
    let here : MayDo g.C.Cluster.may_answer c.entries.self.recursive c.entries.self.path (tasks.Give c.in-Some.entry) =
    subst (λ (o : Option PathEntry). MatchOption o (todo_of c.next.new.self ≡ []) (λ entry. MayDo g.C.Cluster.may_answer c.entries.self.recursive c.entries.self.path (tasks.Give entry))) c.in-Some.is c.in_ok-entry.ensures.ok.1 in
    let may : MayDo g.C.Cluster.may_answer c.args.self.now.recursive c.args.self.now.path (tasks.Give c.in-Some.entry) =
    subst (λ (r : Bool). MayDo g.C.Cluster.may_answer r c.args.self.now.path (tasks.Give c.in-Some.entry)) k.2
    (subst (λ (q : List ℕ). MayDo g.C.Cluster.may_answer c.entries.self.recursive q (tasks.Give c.in-Some.entry)) k.1 here) in
    inr (inr (inl (refl, c.in_ok-entry.ensures.ok.2 c.entries.invariant.last, many_more c.args.limit c.entries.found.items c.in-Some.entry (search rules) c.entries.invariant.answered may.0)))

pub entries-preserved : goal.entries-preserved
entries-preserved g c =
    let s = g.C.Cluster.shown c.args.cluster.now in
    let m = g.C.Cluster.shown c.entries.cluster in
    let t = g.C.Cluster.shown c.next.new.cluster in
    let recursive = c.args.self.now.recursive in
    let path = c.args.self.now.path in
    let first = todo_of c.args.self.now in
    let todo = todo_of c.entries.self in
    let rest = todo_of c.next.new.self in
    let found = c.entries.found.items in
    let entry = c.in-Some.entry in
    let k = c.entries.invariant.keeps in
    let here : MayDo g.C.Cluster.may_answer c.entries.self.recursive c.entries.self.path (tasks.Give c.in-Some.entry) =
    subst (λ (o : Option PathEntry). MatchOption o (todo_of c.next.new.self ≡ []) (λ entry. MayDo g.C.Cluster.may_answer c.entries.self.recursive c.entries.self.path (tasks.Give entry))) c.in-Some.is c.in_ok-entry.ensures.ok.1 in
    let may : MayDo g.C.Cluster.may_answer c.args.self.now.recursive c.args.self.now.path (tasks.Give c.in-Some.entry) =
    subst (λ (r : Bool). MayDo g.C.Cluster.may_answer r c.args.self.now.path (tasks.Give c.in-Some.entry)) k.2
    (subst (λ (q : List ℕ). MayDo g.C.Cluster.may_answer c.entries.self.recursive q (tasks.Give c.in-Some.entry)) k.1 here) in
    let next = c.in_ok-entry.ensures in
    let on = c.in_ok-enter.ensures in
    let told = subst (λ (r : Bool). NextTold m t r todo rest c.in_ok-entry.field-0) k.2 next.told in
    let all : AllMayDo g.C.Cluster.may_answer recursive path rest =
    subst (λ (r : Bool). AllMayDo g.C.Cluster.may_answer r path rest) k.2 (subst (λ (q : List ℕ). AllMayDo g.C.Cluster.may_answer c.entries.self.recursive q rest) k.1 next.ok.0) in
    let put : todo_of c.enter.new.self ≡ entered recursive entry rest = on.put ∙ ap (λ (r : Bool). entered r entry rest) (next.keeps.2 ∙ k.2) in
    record {
      client = same_client_trans c.args.namenode.now c.entries.namenode c.next.new.namenode c.entries.invariant.client next.client;
      leaves = leaves_trans s m t c.entries.invariant.leaves next.leaves;
      keeps = (on.keeps.0 ∙ next.keeps.0 ∙ k.0, on.keeps.1 ∙ next.keeps.1 ∙ k.1, on.keeps.2 ∙ next.keeps.2 ∙ k.2);
      may = subst (AllMayDo g.C.Cluster.may_answer recursive path) (sym put) (enter_may entry rest may all);
      last = next.ok.2 c.entries.invariant.last;
      count = search rules;
      answered =
          subst (All (IsListedEntry g.C.Cluster.may_answer recursive path)) (sym c.in_ok-push.ensures.items)
          (All-push (IsListedEntry g.C.Cluster.may_answer recursive path) found entry c.entries.invariant.answered may.0);
      so =
          subst (λ (l : List Task). SoGathered s t recursive first l c.push.new.self.items) (sym put)
          (subst (SoGathered s t recursive first (entered recursive entry rest)) (sym c.in_ok-push.ensures.items)
          (gathered_on s m t recursive first todo found c.entries.invariant.so entry rest
          (some_told s m t recursive first todo rest found c.entries.invariant.so c.in_ok-entry.field-0 told entry c.in-Some.is)));
    }
