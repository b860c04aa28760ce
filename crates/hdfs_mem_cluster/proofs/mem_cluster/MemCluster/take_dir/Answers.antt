-- The directory stands there with its line.
use Rattle.std.proofs.Common.{◌≡◌, ℕ, List, [], ◌∷◌, ◌++◌, map, Some, refl, sym, ◌∙◌, ap, subst, rules}
use Rattle.std.specs.String.{string_bytes}
use Rattle.std.proofs.lemmas.List.{map-append}
use Rattle.hdfs_cluster.specs.declared.picture.Entry.TheVariants as entries
use Rattle.hdfs_cluster.specs.Files.{Dir}
use Rattle.hdfs_cluster.specs.Loading.{with_new}
use Rattle.hdfs_cluster.specs.Stores.{Agrees}
use Rattle.std.specs.BTreeMap.{get_by_text}
use Rattle.hdfs_mem_namenode.specs.Adding.{KeepsBlocks, Names}
use Rattle.hdfs_mem_cluster.specs.MemShown.{picture_at}
use Rattle.hdfs_mem_namenode.specs.Memory.{table_of}
use Rattle.hdfs_mem_datanodes.specs.Nodes.{held_in}
use Rattle.hdfs_mem_cluster.specs.declared.loaded.Kept.{Kept}
use Rattle.hdfs_mem_cluster.specs.declared.loaded.Kept.TheVariants as keeps
use Rattle.hdfs_mem_cluster.specs.Lines.{line_of}
use Rattle.hdfs_mem_faults.proofs.Following.{other_follows}
use Rattle.hdfs_mem_cluster.proofs.Failing.{unfailed_push}
use Rattle.hdfs_mem_cluster.proofs.Agreeing.{agrees_with_new}
use Rattle.hdfs_mem_cluster.proofs.Cutting.{keeps_refl}
use Rattle.hdfs_mem_cluster.proofs.Lying.{lie_dir}
use Rattle.hdfs_mem_cluster.proofs.NewLying.{loaded_more}
use Rattle.hdfs_mem_cluster.proofs.Stills.{shown_at}
use Rattle.hdfs_mem_cluster.proofs.NothingLoaded.{follows_push, on_err, loads_at, nothing_loaded}
use Rattle.hdfs_mem_cluster.proofs.mem_cluster.MemCluster.take_dir.Goals as goal

pub returns-in_err-add_dir-clause-err : goal.returns-in_err-add_dir-clause-err
returns-in_err-add_dir-clause-err c =
    let m = c.args.self.now in
    let table = table_of m.space.table.entries in
    let kept = subst (λ t. KeepsBlocks table (table_of t.entries) (held_in m.nodes) (held_in m.nodes)) (sym c.add_dir.ensures.table) (keeps_refl table (held_in m.nodes)) in
    on_err c.from_residual-in_err-add_dir.result
    (nothing_loaded m.space c.add_dir.new.self m.config.settings m.last m.calls m.loaded.items c.reserve.new.self.items m.faults m.nodes m.nodes m.links c.reserve.ensures.items c.in_err-add_dir.ensures.err.0 kept (λ d b link. refl))

pub returns-clause-loads : goal.returns-clause-loads
returns-clause-loads c =
    let m = c.args.self.now in
    let space' = c.add_dir.new.self in
    let kept = keeps.Dir c.args.path in
    let items : c.push_reserved.new.self.items ≡ m.loaded.items ++ kept ∷ [] = c.push_reserved.ensures.items ∙ ap (λ (xs : List Kept). xs ++ kept ∷ []) c.reserve.ensures.items in
    let name : string_bytes c.in_ok-name.name ≡ c.args.path = search rules in
    let table = table_of m.space.table.entries in
    let blocks = subst (λ t. KeepsBlocks table (table_of t.entries) (held_in m.nodes) (held_in m.nodes)) (sym c.add_dir.ensures.table) (keeps_refl table (held_in m.nodes)) in
    let p' = picture_at space' m.nodes m.config.settings m.links in
    record {
      rest = record { counts = record { asks = λ i. refl; calls = λ i. refl; links = refl; nodes = λ d. refl }; last = refl; namenodes = refl; reads = λ link. refl; writes = λ link. refl };
      settings = refl;
      lines = ap (map line_of) items ∙ map-append line_of m.loaded.items (kept ∷ []);
      picture = loads_at m.space space' m.nodes m.nodes m.config.settings m.links blocks (λ d b link. refl);
      files = λ state was.
          subst (λ (path : List ℕ). Agrees (Some p') (with_new state path Dir).files) name
          (agrees_with_new (picture_at m.space m.nodes m.config.settings m.links) p' state (string_bytes c.in_ok-name.name) Dir entries.Dir was blocks c.in_ok-add_dir.ensures.ok tt);
      replicas = λ state was lie.
          (let p = picture_at m.space m.nodes m.config.settings m.links in
          let loaded = map line_of m.loaded.items in
          let names = subst (λ (path : List ℕ). Names (get_by_text m.space.names) (get_by_text space'.names) path entries.Dir) name c.in_ok-add_dir.ensures.ok in
          loaded_more (shown_at space' m.config.settings m.last m.calls (map line_of c.push_reserved.new.self.items) m.faults m.nodes m.links) p' (with_new state c.args.path Dir).files m.config.settings.nodes (loaded ++ line_of kept ∷ []) refl
          (ap (map line_of) items ∙ map-append line_of m.loaded.items (kept ∷ [])) refl (lie_dir m.config.settings.nodes loaded p p' blocks state c.args.path names (lie p refl)));
    }

pub invariant_of-self-2 : goal.invariant_of-self-2
invariant_of-self-2 c =
    let m = c.args.self.now in
    let kept = keeps.Dir c.args.path in
    let items : c.push_reserved.new.self.items ≡ m.loaded.items ++ kept ∷ [] = c.push_reserved.ensures.items ∙ ap (λ (xs : List Kept). xs ++ kept ∷ []) c.reserve.ensures.items in
    record { counted = m.counted; unfailed = unfailed_push m.loaded.items c.push_reserved.new.self.items kept m.calls items m.unfailed; earlier = m.earlier; follows = follows_push m.faults m.loaded.items c.push_reserved.new.self.items kept items (other_follows m.faults (map line_of m.loaded.items) (line_of kept) refl m.follows) }
