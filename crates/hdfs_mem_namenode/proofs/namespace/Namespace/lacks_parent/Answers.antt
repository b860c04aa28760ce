-- Nothing stands where no key is.
use Rattle.std.proofs.Common.{◌≡◌, Bool, true, ◌&&◌, not, List, ℕ, Option, Some, None, is_some, is_none, refl, sym, ◌∙◌, ap, rules}
use Rattle.std.specs.BTreeMap.{get_by_text}
use Rattle.std.specs.Option.{option_map}
use Rattle.hdfs_names.specs.Paths.{parent_of}
use Rattle.hdfs_cluster.specs.Picture.{kinds_in}
use Rattle.hdfs_mem_namenode.proofs.namespace.Namespace.lacks_parent.Goals as goal

not_some : {X Y : Type 0} (f : X → Y) (o : Option X) → not (is_some o) ≡ is_none (option_map f o)
not_some f None = refl
not_some f (Some x) = refl

pub returns-then-not-create_parent : goal.returns-then-not-create_parent
returns-then-not-create_parent c =
    let names = get_by_text c.args.self.now.names in
    let made : not c.args.create_parent ≡ true = search rules in
    ap not (c.contains_key.ensures ∙ ap (λ (p : List ℕ). is_some (names p)) c.parent_of.ensures) ∙ not_some _ (names (parent_of c.args.src.now))
    ∙ sym (ap (λ (b : Bool). b && is_none (kinds_in names (parent_of c.args.src.now))) made)
