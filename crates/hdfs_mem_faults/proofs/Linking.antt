-- The links' count, with the acknowledgements that are still to be bad, against what is planned.
use Rattle.std.proofs.Common.{◌≡◌, ℕ, ◌+◌, ◌≤◌, Bool, true, false, cond, List, Option, Some, is_some, Result, Ok, Err, OnOk, OnErr, refl, sym, ◌∙◌, ap, arith}
use Rattle.std.specs.Map.{lookup}
use Rattle.std.specs.Ordering.{nat_cmp}
use Rattle.std.specs.BTreeMap.{BTreeMap, is_at, get, Updates, IsUnchanged}
use Rattle.hdfs_cluster.specs.declared.store.LinkKind.{LinkKind}
use Rattle.hdfs_cluster.specs.declared.store.LinkKind.TheVariants as link_kinds
use Rattle.hdfs_mem_faults.specs.Calls.{fails_in, one_if}
use Rattle.hdfs_mem_faults.proofs.Failing.{fails-next, is_kind}

-- what is there stays there when something is put in
some_at : {X : Type 0} (b : Bool) (v : X) (o : Option X) → is_some o ≡ true → is_some (cond b (Some v) o) ≡ true
some_at true v o is = refl
some_at false v o is = is

-- what is planned stays planned, whether one more is or not
pub kinds_stay : {A E : Type 0} (r : Result A E) (old new : BTreeMap ℕ LinkKind) (nth k : ℕ) (kind : LinkKind) → OnOk r (Updates nat_cmp old new nth (Some kind)) → OnErr r (IsUnchanged old new) → is_kind old k ≡ true → is_kind new k ≡ true
kinds_stay (Ok a) old new nth k kind ok err is = ap is_some (ok.0 k) ∙ some_at (is_at (nat_cmp nth) k) kind (get nat_cmp old k) is
kinds_stay (Err e) old new nth k kind ok err is = ap (λ (es : List (ℕ × LinkKind)). is_some (lookup (is_at (nat_cmp k)) es)) err ∙ is

-- the bound after one set-up or one transfer more, which has failed once at most
pub bound_next : (kinds : BTreeMap ℕ LinkKind) (set_ups reached was now : ℕ) (kind : Option LinkKind) → was ≤ fails_in (is_kind kinds) set_ups → reached ≡ set_ups + 1 → kind ≡ get nat_cmp kinds reached → now ≤ was + one_if (is_some kind) → now ≤ fails_in (is_kind kinds) reached
bound_next kinds set_ups reached was now kind bound next planned once =
    let here : is_kind kinds (set_ups + 1) ≡ is_some kind = ap (is_kind kinds) (sym next) ∙ ap is_some (sym planned) in
    let more : fails_in (is_kind kinds) reached ≡ fails_in (is_kind kinds) set_ups + one_if (is_some kind) = ap (fails_in (is_kind kinds)) next ∙ fails-next (is_kind kinds) set_ups (is_some kind) here in
    omega (arith, bound, once, more)
