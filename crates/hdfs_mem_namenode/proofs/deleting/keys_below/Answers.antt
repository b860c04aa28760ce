-- Path after path is found, until one doesn't begin so.
use Rattle.std.proofs.Common.{◌≡◌, ◌++◌, ◌∷◌, [], ℕ, true, List, is_some, sym, ◌∙◌, ap, subst}
use Rattle.std.specs.BTreeMap.{get_by_text}
use Rattle.std.specs.String.{string_bytes}
use Rattle.hdfs_cluster.specs.Names.{is_before}
use Rattle.hdfs_mem_namenode.proofs.Below.{Collects, collects_before, collects_more, collects_none}
use Rattle.hdfs_mem_namenode.proofs.Bytes.{zero_behind}
use Rattle.hdfs_mem_namenode.proofs.Keys.{fewer_from}
use Rattle.hdfs_mem_namenode.proofs.deleting.keys_below.Goals as goal

pub loop-path-init : goal.loop-path-init
loop-path-init c =
    let names = get_by_text c.args.names.now in
    let front = c.args.front.now in
    subst (λ (s : List ℕ). Collects names front s c.new-keys.result.items) (sym c.in_ok-start.ensures.ok) (subst (Collects names front front) (sym c.new-keys.ensures.items) (collects_none names front))

pub loop-path-smaller : goal.loop-path-smaller
loop-path-smaller c =
    let h = c.in-Some.ensures in
    let path = c.in-Some.path.now in
    fewer_from c.args.names.now (string_bytes c.loop-path.start) (string_bytes c.push_str.new.self) path (ap is_some h.0) h.1
    (subst (λ (l : List ℕ). is_before path l ≡ true) (sym (c.in_ok-push_str.ensures.bytes ∙ ap (λ (l : List ℕ). l ++ 0 ∷ []) c.in_ok-start-2.ensures.ok)) (zero_behind path))

pub loop-path-preserved : goal.loop-path-preserved
loop-path-preserved c =
    let names = get_by_text c.args.names.now in
    let front = c.args.front.now in
    let h = c.in-Some.ensures in
    let path = c.in-Some.path.now in
    let more = collects_more names front (string_bytes c.loop-path.start) c.loop-path.keys.items c.loop-path.invariant path h.1 h.2 c.in-Some-behind.field-0.now c.in-Some-behind.ensures (ap is_some h.0) in
    subst (λ (s : List ℕ). Collects names front s c.push.new.self.items) (sym (c.in_ok-push_str.ensures.bytes ∙ ap (λ (l : List ℕ). l ++ 0 ∷ []) c.in_ok-start-2.ensures.ok))
    (subst (Collects names front (path ++ 0 ∷ [])) (sym (c.in_ok-push.ensures.items ∙ ap (λ (k : List ℕ). c.loop-path.keys.items ++ k ∷ []) c.in_ok-from_str.ensures)) more)

pub returns-in_default-behind-clause-all : goal.returns-in_default-behind-clause-all
returns-in_default-behind-clause-all c =
    let h = c.in-Some.ensures in
    collects_before (get_by_text c.args.names.now) c.args.front.now (string_bytes c.loop-path.start) c.loop-path.keys.items c.loop-path.invariant c.in-Some.path.now h.1 h.2 c.in_default-behind.ensures
