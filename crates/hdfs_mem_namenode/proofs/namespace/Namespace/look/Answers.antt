-- The first refusal that holds.
use Rattle.std.proofs.Common.{◌≡◌, Bool, cond, Some, None, is_none, refl, sym, ◌∙◌, ap}
use Rattle.std.specs.BTreeMap.{get_by_text}
use Rattle.std.specs.Option.{option_map}
use Rattle.hdfs_cluster.specs.Files.{NotDirectory, Missing}
use Rattle.hdfs_cluster.specs.Picture.{entry_kind, kinds_in}
use Rattle.hdfs_cluster.specs.Refusals.{Lacks}
use Rattle.hdfs_mem_namenode.proofs.namespace.Namespace.look.Goals as goal

pub returns-then-is_below_file : goal.returns-then-is_below_file
returns-then-is_below_file c =
    let k = kinds_in (get_by_text c.args.self.now.names) c.args.src.now in
    (Lacks NotDirectory, ap (λ (b : Bool). cond b (Some (Lacks NotDirectory)) (cond (is_none k) (Some (Lacks Missing)) None)) (sym c.is_below_file.ensures ∙ c.if-is_below_file.true), refl)

pub returns-else-is_below_file : goal.returns-else-is_below_file
returns-else-is_below_file c =
    let k = kinds_in (get_by_text c.args.self.now.names) c.args.src.now in
    let none : k ≡ None = ap (option_map entry_kind) (sym c.in-None.ensures.value) in (
      Lacks Missing,
      ap (λ (b : Bool). cond b (Some (Lacks NotDirectory)) (cond (is_none k) (Some (Lacks Missing)) None)) (sym c.is_below_file.ensures ∙ c.if-is_below_file.false)
          ∙ ap (λ o. cond (is_none o) (Some (Lacks Missing)) None) none,
      refl,
    )
