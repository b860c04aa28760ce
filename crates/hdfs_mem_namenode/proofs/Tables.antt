-- What changes of a block table do to what is looked up.
use Rattle.std.proofs.Common.{◌≡◌, ℕ, Bool, true, false, cond, ◌||◌, eqb, List, [], ◌∷◌, ◌++◌, Option, None, refl, sym, ◌∙◌, ap, arith}
use Rattle.std.proofs.lemmas.Bool.Decides.{nat_tests}
use Rattle.std.proofs.lemmas.List.Folds.{list_any-append}
use Rattle.std.specs.BTreeMap.{is_at}
use Rattle.std.specs.List.{list_any}
use Rattle.std.specs.Ordering.{nat_cmp}
use Rattle.hdfs_cluster.specs.declared.picture.BlockEntry.{BlockEntry}
use Rattle.hdfs_cluster.specs.Effects.{table_without}

pub at-eqb : (k b : ℕ) → is_at (nat_cmp k) b ≡ eqb k b
at-eqb k b = grind (arith, nat_tests)

without_at : (a b : Bool) (o : Option BlockEntry) → cond (a || (b || false)) None o ≡ cond b None (cond a None o)
without_at true true o = refl
without_at true false o = refl
without_at false true o = refl
without_at false false o = refl

-- one block more is taken out
pub table_without-push : (table : ℕ → Option BlockEntry) (ids : List ℕ) (id q : ℕ) → table_without table (ids ++ id ∷ []) q ≡ cond (is_at (nat_cmp id) q) None (table_without table ids q)
table_without-push table ids id q =
    ap (λ (b : Bool). cond b None (table q)) (list_any-append (λ o. eqb o q) ids (id ∷ [])) ∙ without_at (list_any (λ o. eqb o q) ids) (eqb id q) (table q)
    ∙ ap (λ (b : Bool). cond b None (table_without table ids q)) (sym (at-eqb id q))
