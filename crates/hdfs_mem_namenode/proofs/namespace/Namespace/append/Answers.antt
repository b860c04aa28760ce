-- The last block is opened again.
use Rattle.std.proofs.Common.{ℕ, List, [], ◌∷◌, ◌++◌, sym, ◌∙◌, ap, subst}
use Rattle.std.proofs.lemmas.List.Elements.{Contains-push}
use Rattle.std.specs.List.{Contains}
use Rattle.hdfs_mem_namenode.proofs.namespace.Namespace.append.Goals as goal

pub reopen-requires : goal.reopen-requires
reopen-requires c =
    let ends = sym c.as_slice.ensures ∙ c.in-Some.ensures.1 in
    record { file = c.in-Ok.file.now; is = c.in-Ok.ensures.0; has = subst (λ (l : List ℕ). Contains l c.in-Some.id) (sym ends) (Contains-push c.in-Some.ensures.0 c.in-Some.id) }

pub returns-in_ok-reopen-in-Some-clause-opened : goal.returns-in_ok-reopen-in-Some-clause-opened
returns-in_ok-reopen-in-Some-clause-opened c =
    let ends = sym c.as_slice.ensures ∙ c.in-Some.ensures.1 in
    let block = c.in_ok-reopen-in-Some.field-0 in
    let h = c.in_ok-reopen-in-Some.ensures.reopened in (
      c.in-Ok.file.now,
      c.in-Ok.ensures.0,
      c.in_ok-status.ensures,
      (c.in-Some.id, (c.in-Some.ensures.0, ends ∙ ap (λ (n : ℕ). c.in-Some.ensures.0 ++ n ∷ []) (sym h.answered.same_id)), h.answered.same_id, h),
    )
