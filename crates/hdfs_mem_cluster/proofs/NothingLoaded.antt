-- What a line that wasn't loaded leaves.
use Rattle.std.proofs.Common.{◌≡◌, ℕ, List, map, Option, Some, None, IsSome, Result, Ok, Err, OnErr, refl, ap, [], ◌∷◌, ◌++◌, sym, ◌∙◌, subst}
use Rattle.std.specs.BTreeMap.{is_at}
use Rattle.std.specs.Map.{lookup}
use Rattle.std.specs.Ordering.{nat_cmp}
use Rattle.std.specs.Cmp.Lexicographic.{slice_cmp}
use Rattle.std.specs.String.{string_bytes}
use Rattle.hdfs_cluster.specs.declared.mem_settings.MemSettings.{MemSettings}
use Rattle.hdfs_cluster.specs.declared.picture.LastAnswer.{LastAnswer}
use Rattle.hdfs_cluster.specs.Loading.{LoadsAt, LoadsNothing}
use Rattle.std.proofs.lemmas.List.{map-append}
use Rattle.hdfs_mem_faults.specs.declared.fault_plan.FaultPlan.{FaultPlan}
use Rattle.hdfs_mem_faults.specs.Following.{Follows}
use Rattle.hdfs_mem_cluster.specs.Links.{write_at}
use Rattle.hdfs_mem_cluster.specs.declared.loaded.Kept.{Kept}
use Rattle.hdfs_mem_namenode.specs.declared.namespace.Namespace.{Namespace}
use Rattle.hdfs_mem_datanodes.specs.declared.datanodes.Datanodes.{Datanodes}
use Rattle.hdfs_mem_cluster.specs.declared.mem_links.MemLinks.{MemLinks}
use Rattle.hdfs_mem_namenode.specs.Adding.{KeepsBlocks}
use Rattle.hdfs_mem_cluster.specs.Lines.{line_of}
use Rattle.hdfs_mem_namenode.specs.Memory.{table_of}
use Rattle.hdfs_mem_cluster.specs.MemShown.{picture_at, loaded_at}
use Rattle.hdfs_mem_datanodes.specs.Nodes.{held_in, undisturbed_in}
use Rattle.hdfs_mem_cluster.proofs.Agreeing.{agrees_kept}
use Rattle.hdfs_mem_cluster.proofs.Places.{place_same}
use Rattle.hdfs_mem_cluster.proofs.Stills.{shown_at}

-- what holds anyway holds of an error
pub on_err : {T E P : Type 0} (r : Result T E) → P → OnErr r P
on_err (Ok x) p = tt
on_err (Err e) p = p

was_kept : {X : Type 0} (o o' : Option X) → ((x : X) → o ≡ Some x → o' ≡ Some x) → IsSome o → o' ≡ o
was_kept None o' kept some = absurd (cc)
was_kept (Some x) o' kept some = kept x refl

is_kept : {X Y : Type 0} (o : Option X) (y y' : Y) → ((x : X) → o ≡ Some x → y' ≡ y) → IsSome o → y' ≡ y
is_kept None y y' kept some = absurd (cc)
is_kept (Some x) y y' kept some = kept x refl

-- a load keeps the blocks that were there
pub loads_at : (space space' : Namespace) (nodes nodes' : Datanodes) (settings : MemSettings) (s : MemLinks)
    → KeepsBlocks (table_of space.table.entries) (table_of space'.table.entries) (held_in nodes) (held_in nodes')
    → ((d : List ℕ) (b link : ℕ) → undisturbed_in nodes' d b link ≡ undisturbed_in nodes d b link) → LoadsAt (picture_at space nodes settings s) (picture_at space' nodes' settings s)
loads_at space space' nodes nodes' settings s kept links = record {
  active = refl;
  defaults = refl;
  reads = λ link. refl;
  writes = λ link. place_same nodes nodes' links link (write_at s link);
  table = λ id. was_kept (table_of space.table.entries id) (table_of space'.table.entries id) (kept.table id);
  held = λ node id. is_kept (table_of space.table.entries id) (held_in nodes node id) (held_in nodes' node id) (λ entry is. kept.held id entry is node);
}

-- the names and the lines stay, the blocks are kept, and no count rose
pub nothing_loaded : (space space' : Namespace) (settings : MemSettings) (last : LastAnswer) (failures : ℕ) (items items' : List Kept) (faults : FaultPlan) (nodes nodes' : Datanodes) (s : MemLinks) → items' ≡ items → space'.names.entries ≡ space.names.entries
    → KeepsBlocks (table_of space.table.entries) (table_of space'.table.entries) (held_in nodes) (held_in nodes')
    → ((d : List ℕ) (b link : ℕ) → undisturbed_in nodes' d b link ≡ undisturbed_in nodes d b link)
    → LoadsNothing (shown_at space settings last failures (map line_of items) faults nodes s) (shown_at space' settings last failures (map line_of items') faults nodes' s)
nothing_loaded space space' settings last failures items items' faults nodes nodes' s lines names kept links = record {
  rest = record { counts = record { asks = λ i. refl; calls = λ i. refl; links = refl; nodes = λ d. refl }; last = refl; namenodes = refl; reads = λ link. refl; writes = λ link. refl };
  lines = ap (λ (xs : List Kept). loaded_at settings (map line_of xs)) lines;
  picture = loads_at space space' nodes nodes' settings s kept links;
  files = λ state was. agrees_kept (picture_at space nodes settings s) (picture_at space' nodes' settings s) state kept
      (λ q. ap (lookup (is_at (λ k. slice_cmp nat_cmp q (string_bytes k)))) names) was;
}

-- a plan follows the lines that were loaded
pub follows_push : (plan : FaultPlan) (items items' : List Kept) (kept : Kept) → items' ≡ items ++ kept ∷ [] → Follows plan (map line_of items ++ line_of kept ∷ []) → Follows plan (map line_of items')
follows_push plan items items' kept more follows = subst (Follows plan) (sym (ap (map line_of) more ∙ map-append line_of items (kept ∷ []))) follows
