-- The file is stored with its line, or the blocks that were taken for it belong to no file.
use Rattle.std.proofs.Common.{◌≡◌, ℕ, ◌<◌, ◌^◌, Bool, cond, Option, min, length, List, [], ◌∷◌, ◌++◌, map, Some, refl, sym, ◌∙◌, ap, subst, rules, arith}
use Rattle.std.specs.BTreeMap.{get_by_text}
use Rattle.std.specs.String.{string_bytes}
use Rattle.std.proofs.lemmas.List.{map-append}
use Rattle.hdfs_cluster.specs.declared.picture.Entry.TheVariants as entries
use Rattle.hdfs_cluster.specs.declared.store.Line.TheVariants as lines
use Rattle.hdfs_cluster.specs.Loading.{with_file}
use Rattle.hdfs_cluster.specs.Stores.{Agrees}
use Rattle.hdfs_mem_cluster.specs.Cutting.{IsCut}
use Rattle.std.proofs.lemmas.Slice.Eq.{bytes_eq-Decides}
use Rattle.hdfs_cluster.specs.declared.picture.Entry.{Entry}
use Rattle.hdfs_mem_namenode.specs.Adding.{IsPlace, Names}
use Rattle.hdfs_mem_namenode.specs.Memory.{table_of}
use Rattle.hdfs_mem_cluster.specs.MemShown.{picture_at}
use Rattle.hdfs_mem_datanodes.specs.Nodes.{held_in}
use Rattle.hdfs_mem_datanodes.specs.Uuids.{lowest}
use Rattle.hdfs_mem_cluster.specs.declared.loaded.Kept.{Kept}
use Rattle.hdfs_mem_cluster.specs.declared.loaded.Kept.TheVariants as keeps
use Rattle.hdfs_mem_cluster.specs.Lines.{line_of}
use Rattle.hdfs_mem_faults.proofs.Following.{other_follows}
use Rattle.hdfs_mem_cluster.proofs.Failing.{unfailed_push}
use Rattle.hdfs_mem_cluster.proofs.NothingLoaded.{follows_push, on_err, loads_at, nothing_loaded}
use Rattle.hdfs_mem_cluster.proofs.Lying.{lie_file}
use Rattle.hdfs_mem_cluster.proofs.NewLying.{loaded_more, new_lies}
use Rattle.hdfs_mem_cluster.proofs.Stills.{shown_at}
use Rattle.hdfs_mem_cluster.proofs.Taking.{accepted_numbers, accepted_place}
use Rattle.hdfs_mem_cluster.proofs.mem_cluster.MemCluster.take_file.Goals as goal

-- what is named at a path
named_at : (old new : List ℕ → Option Entry) (path there : List ℕ) (entry : Entry) → path ≡ there → Names old new path entry → new there ≡ Some entry
named_at old new path there entry same names = subst (λ (q : List ℕ). new q ≡ Some entry) same (names path ∙ ap (λ (b : Bool). cond b (Some entry) (old path)) ((bytes_eq-Decides path path).1 refl))

pub store_file-requires-clause-place : goal.store_file-requires-clause-place
store_file-requires-clause-place c =
    let names = get_by_text c.args.self.now.space.names in
    let name : string_bytes c.in_ok-name.name ≡ c.args.path = search rules in
    subst (IsPlace names) (sym name) (accepted_place names c.args.path c.args.attributes (length c.args.bytes) c.requires)

pub store_file-requires-clause-numbers : goal.store_file-requires-clause-numbers
store_file-requires-clause-numbers c =
    let numbers = accepted_numbers (get_by_text c.args.self.now.space.names) c.args.path c.args.attributes (length c.args.bytes) c.requires in
    (numbers.0, numbers.1, subst (λ (bytes : List ℕ). length bytes < 2 ^ 63) (sym c.in_ok-bytes.ensures.1) numbers.2)

pub returns-in_err-store_file-clause-err : goal.returns-in_err-store_file-clause-err
returns-in_err-store_file-clause-err c =
    let m = c.args.self.now in
    on_err c.from_residual-in_err-store_file.result
    (nothing_loaded m.space c.store_file.new.space m.config.settings m.last m.calls m.loaded.items c.reserve.new.self.items m.faults m.nodes c.store_file.new.nodes m.links c.reserve.ensures.items c.in_err-store_file.ensures.err
    c.store_file.ensures.kept
    c.store_file.ensures.links)

pub returns-clause-loads : goal.returns-clause-loads
returns-clause-loads c =
    let m = c.args.self.now in
    let kept = keeps.File c.args.path c.args.attributes c.in_ok-bytes.bytes in
    let items : c.push_reserved.new.self.items ≡ m.loaded.items ++ kept ∷ [] = c.push_reserved.ensures.items ∙ ap (λ (xs : List Kept). xs ++ kept ∷ []) c.reserve.ensures.items in
    let name : string_bytes c.in_ok-name.name ≡ c.args.path = search rules in
    let held : c.in_ok-bytes.held ≡ c.args.bytes = c.in_ok-bytes.ensures.1 in
    let told : c.in_ok-bytes.bytes ≡ c.args.bytes = c.in_ok-bytes.ensures.0 in
    record {
      rest = record { counts = record { asks = λ i. refl; calls = λ i. refl; links = refl; nodes = λ d. refl }; last = refl; namenodes = refl; reads = λ link. refl; writes = λ link. refl };
      settings = refl;
      lines = ap (map line_of) items ∙ map-append line_of m.loaded.items (kept ∷ []) ∙ ap (λ (bytes : List ℕ). map line_of m.loaded.items ++ lines.File c.args.path c.args.attributes bytes ∷ []) told;
      picture = loads_at m.space c.store_file.new.space m.nodes c.store_file.new.nodes m.config.settings m.links c.store_file.ensures.kept c.store_file.ensures.links;
      files = λ state was.
          (let p' = picture_at c.store_file.new.space c.store_file.new.nodes m.config.settings m.links in
          let here = c.in_ok-store_file.ensures.files m.config.settings m.links state was in
          subst (λ (path : List ℕ). Agrees (Some p') (with_file state path (record { bytes = c.args.bytes; attributes = c.args.attributes })).files) name
          (subst (λ (bytes : List ℕ). Agrees (Some p') (with_file state (string_bytes c.in_ok-name.name) (record { bytes = bytes; attributes = c.args.attributes })).files) held here));
      replicas = λ state was lie.
          (let p = picture_at m.space m.nodes m.config.settings m.links in
          let q = picture_at c.store_file.new.space c.store_file.new.nodes m.config.settings m.links in
          let loaded = map line_of m.loaded.items in
          let count = m.config.settings.nodes in
          let stored = c.in_ok-store_file.ensures.cut in
          let old_names = get_by_text m.space.names in
          let names = subst (λ (path : List ℕ). Names old_names (get_by_text c.store_file.new.space.names) path (entries.File stored.0)) name stored.1 in
          let named = named_at old_names (get_by_text c.store_file.new.space.names) c.args.path c.args.path (entries.File stored.0) refl names in
          let cut = subst (λ (n : ℕ). IsCut q.table q.held (lowest (min c.args.attributes.replication n)) c.args.attributes.block_size stored.0.blocks c.args.bytes) m.counted
          (subst (λ (bytes : List ℕ). IsCut q.table q.held (lowest (min c.args.attributes.replication m.nodes.count)) c.args.attributes.block_size stored.0.blocks bytes) held stored.2) in
          let few : count < 2 ^ 64 = omega (arith, m.config.few_nodes) in
          let numbers = accepted_numbers old_names c.args.path c.args.attributes (length c.args.bytes) c.requires in
          let here = new_lies count few loaded q c.args.path c.args.attributes c.args.bytes stored.0 numbers.0 named cut in
          loaded_more (shown_at c.store_file.new.space m.config.settings m.last m.calls (map line_of c.push_reserved.new.self.items) m.faults c.store_file.new.nodes m.links) q
          (with_file state c.args.path (record { bytes = c.args.bytes; attributes = c.args.attributes })).files count (loaded ++ lines.File c.args.path c.args.attributes c.args.bytes ∷ []) refl
          (ap (map line_of) items ∙ map-append line_of m.loaded.items (kept ∷ []) ∙ ap (λ (bytes : List ℕ). loaded ++ lines.File c.args.path c.args.attributes bytes ∷ []) told) refl
          (lie_file count loaded p q c.store_file.ensures.kept state c.args.path c.args.attributes c.args.bytes stored.0 names here (lie p refl)));
    }

pub returns-clause-cut : goal.returns-clause-cut
returns-clause-cut c =
    let name : string_bytes c.in_ok-name.name ≡ c.args.path = search rules in
    let names = get_by_text c.store_file.new.space.names in
    let table = table_of c.store_file.new.space.table.entries in
    let held = held_in c.store_file.new.nodes in
    let size = c.args.attributes.block_size in
    let count = c.store_file.new.nodes.count in
    let nodes = λ (n : ℕ). lowest (min c.args.attributes.replication n) in
    let stored = c.in_ok-store_file.ensures.cut in (
      stored.0,
      named_at (get_by_text c.args.self.now.space.names) names (string_bytes c.in_ok-name.name) c.args.path (entries.File stored.0) name stored.1,
      subst (λ (n : ℕ). IsCut table held (nodes n) size stored.0.blocks c.args.bytes) (sym c.store_file.ensures.rest.count)
          (subst (λ (bytes : List ℕ). IsCut table held (nodes c.args.self.now.nodes.count) size stored.0.blocks bytes) c.in_ok-bytes.ensures.1 stored.2),
    )

pub invariant_of-self-2 : goal.invariant_of-self-2
invariant_of-self-2 c =
    let m = c.args.self.now in
    let kept = keeps.File c.args.path c.args.attributes c.in_ok-bytes.bytes in
    let items : c.push_reserved.new.self.items ≡ m.loaded.items ++ kept ∷ [] = c.push_reserved.ensures.items ∙ ap (λ (xs : List Kept). xs ++ kept ∷ []) c.reserve.ensures.items in
    record { counted = c.store_file.ensures.rest.count ∙ m.counted; unfailed = unfailed_push m.loaded.items c.push_reserved.new.self.items kept m.calls items m.unfailed; earlier = m.earlier; follows = follows_push m.faults m.loaded.items c.push_reserved.new.self.items kept items (other_follows m.faults (map line_of m.loaded.items) (line_of kept) refl m.follows) }
