-- The path and what was found below it is taken away.
use Rattle.std.proofs.Common.{◌≡◌, ℕ, false, not, ◌&&◌, eqb, List, [], ◌∷◌, ◌++◌, length, Option, IsSome, inr, refl, sym, ◌∙◌, ap, subst}
use Rattle.std.specs.BTreeMap.{get_by_text}
use Rattle.std.specs.List.{All, Contains, list_any}
use Rattle.std.specs.Str.{bytes_eq}
use Rattle.hdfs_cluster.specs.declared.picture.Entry.{Entry}
use Rattle.hdfs_names.specs.Paths.{root}
use Rattle.hdfs_mem_namenode.specs.Changing.{IsClosed, StandsForKept}
use Rattle.hdfs_mem_namenode.specs.Memory.{table_of}
use Rattle.hdfs_mem_namenode.proofs.Below.{IsInFront}
use Rattle.hdfs_mem_namenode.proofs.Within.{deletes, found_below, keys_closed, keys_not_root, named_path, none_kept, some_kept}
use Rattle.hdfs_mem_namenode.proofs.namespace.Namespace.delete_there.Goals as goal

-- what was found, below the path
fronts_of : (names : List ℕ → Option Entry) (f src : List ℕ) (ks : List (List ℕ)) → f ≡ src ++ 47 ∷ [] → All (IsInFront names f) ks → All (IsInFront names (src ++ 47 ∷ [])) ks
fronts_of names f src ks is h = subst (λ (f : List ℕ). All (IsInFront names f) ks) is h

all_of : (names : List ℕ → Option Entry) (f src : List ℕ) (ks : List (List ℕ)) → f ≡ src ++ 47 ∷ [] → ((x : List ℕ) → IsSome (names (f ++ x)) → Contains ks (f ++ x)) → (x : List ℕ) → IsSome (names ((src ++ 47 ∷ []) ++ x)) → Contains ks ((src ++ 47 ∷ []) ++ x)
all_of names f src ks is h = subst (λ (f : List ℕ). (x : List ℕ) → IsSome (names (f ++ x)) → Contains ks (f ++ x)) is h

pub remove_all-requires-clause-root : goal.remove_all-requires-clause-root
remove_all-requires-clause-root c =
    let old = c.args.self.now in
    let names = get_by_text old.names in
    let src = c.args.src.now in
    let ks = c.in_ok-keys.keys.items in
    let f : c.as_str.result.now ≡ src ++ 47 ∷ [] = c.as_str.ensures.value ∙ c.in_ok-front.ensures in
    subst (λ (l : List (List ℕ)). list_any (bytes_eq root) l ≡ false) (sym (c.as_slice-2.ensures.value ∙ c.in_ok-push_path.ensures))
    (keys_not_root names src ks (fronts_of names c.as_str.result.now src ks f c.in_ok-keys.ensures.front) (all_of names c.as_str.result.now src ks f c.in_ok-keys.ensures.all) c.requires.not_root (named_path names src (old.placed src) c.requires.there))

pub remove_all-requires-clause-closed : goal.remove_all-requires-clause-closed
remove_all-requires-clause-closed c =
    let names = get_by_text c.args.self.now.names in
    let src = c.args.src.now in
    let ks = c.in_ok-keys.keys.items in
    let f : c.as_str.result.now ≡ src ++ 47 ∷ [] = c.as_str.ensures.value ∙ c.in_ok-front.ensures in
    subst (IsClosed names) (sym (c.as_slice-2.ensures.value ∙ c.in_ok-push_path.ensures))
    (keys_closed names src ks (fronts_of names c.as_str.result.now src ks f c.in_ok-keys.ensures.front) (all_of names c.as_str.result.now src ks f c.in_ok-keys.ensures.all))

pub returns-clause-done : goal.returns-clause-done
returns-clause-done c =
    let old = c.args.self.now in
    let names = get_by_text old.names in
    let table = table_of old.table.entries in
    let src = c.args.src.now in
    let ks = c.in_ok-keys.keys.items in
    let f : c.as_str.result.now ≡ src ++ 47 ∷ [] = c.as_str.ensures.value ∙ c.in_ok-front.ensures in
    let keys : c.as_slice-2.result.now ≡ ks ++ src ∷ [] = c.as_slice-2.ensures.value ∙ c.in_ok-push_path.ensures in
    let h = rw keys at c.remove_all.ensures in
    deletes names src ks (fronts_of names c.as_str.result.now src ks f c.in_ok-keys.ensures.front) (all_of names c.as_str.result.now src ks f c.in_ok-keys.ensures.all)
    table (get_by_text c.remove_all.new.self.names) (table_of c.remove_all.new.self.table.entries) h.names h.table c.args.recursive c.requires.there c.requires.not_root
    (none_kept c.args.recursive ks (sym (c.is_kept.ensures ∙ ap (λ (l : List (List ℕ)). not c.args.recursive && not (eqb (length l) 0)) c.as_slice.ensures.value) ∙ c.if-is_kept.false))

pub returns-then-is_kept-clause-excused : goal.returns-then-is_kept-clause-excused
returns-then-is_kept-clause-excused c =
    let names = get_by_text c.args.self.now.names in
    let src = c.args.src.now in
    let ks = c.in_ok-keys.keys.items in
    let f : c.as_str.result.now ≡ src ++ 47 ∷ [] = c.as_str.ensures.value ∙ c.in_ok-front.ensures in
    let kept = some_kept c.args.recursive ks (sym (c.is_kept.ensures ∙ ap (λ (l : List (List ℕ)). not c.args.recursive && not (eqb (length l) 0)) c.as_slice.ensures.value) ∙ c.if-is_kept.true) in
    subst (StandsForKept names src c.args.recursive) (sym c.in_ok-exception.ensures)
    (inr (record { alone = kept.0; below = found_below names src ks (fronts_of names c.as_str.result.now src ks f c.in_ok-keys.ensures.front) (all_of names c.as_str.result.now src ks f c.in_ok-keys.ensures.all) kept.1 }, refl), refl)
