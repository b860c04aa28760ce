-- What a line with a short replica does, and where it is not taken.
use Rattle.std.proofs.Common.{◌≡◌, ℕ, List, [], ◌∷◌, ◌++◌, map, refl, ◌∙◌, ap}
use Rattle.std.proofs.lemmas.List.{map-append}
use Rattle.hdfs_cluster.specs.declared.mem_settings.MemSettings.{MemSettings}
use Rattle.hdfs_cluster.specs.declared.picture.LastAnswer.{LastAnswer}
use Rattle.hdfs_cluster.specs.declared.store.Line.TheVariants as lines
use Rattle.hdfs_cluster.specs.Loading.{Loads, LoadsNothing}
use Rattle.hdfs_mem_faults.specs.declared.fault_plan.FaultPlan.{FaultPlan}
use Rattle.hdfs_mem_namenode.specs.declared.namespace.Namespace.{Namespace}
use Rattle.hdfs_mem_namenode.specs.Soundness.{sound_from}
use Rattle.hdfs_mem_namenode.proofs.Keys.{texts_at}
use Rattle.hdfs_mem_namenode.specs.Spaces.{space_of}
use Rattle.hdfs_mem_datanodes.specs.declared.datanodes.Datanodes.{Datanodes}
use Rattle.hdfs_mem_datanodes.specs.Nodes.{SameHeld}
use Rattle.hdfs_mem_cluster.specs.declared.loaded.Kept.{Kept}
use Rattle.hdfs_mem_cluster.specs.declared.mem_links.MemLinks.{MemLinks}
use Rattle.hdfs_mem_cluster.specs.declared.loaded.Kept.TheVariants as keeps
use Rattle.hdfs_mem_cluster.specs.Lines.{line_of}
use Rattle.hdfs_mem_cluster.specs.MemShown.{picture_at}
use Rattle.hdfs_mem_cluster.specs.Shortening.{CutsReplica, IsShort}
use Rattle.hdfs_mem_cluster.proofs.Lying.{lie_short}
use Rattle.hdfs_mem_cluster.proofs.NewLying.{loaded_more}
use Rattle.hdfs_mem_cluster.proofs.NothingLoaded.{nothing_loaded}
use Rattle.hdfs_mem_cluster.proofs.ShortCuts.{agrees_short, cuts_at}
use Rattle.hdfs_mem_cluster.proofs.Stills.{shown_at}

module _ (space : Namespace) (settings : MemSettings) (last : LastAnswer) (failures : ℕ) (items items' : List Kept) (faults : FaultPlan) (nodes nodes' : Datanodes) (s : MemLinks) where
  -- nor of what is asked for a line that was not loaded
  pub not_short : items' ≡ items → SameHeld nodes nodes' → LoadsNothing (shown_at space settings last failures (map line_of items) faults nodes s) (shown_at space settings last failures (map line_of items') faults nodes' s)
  not_short lines same =
      nothing_loaded space space settings last failures items items' faults nodes nodes' s lines refl (record { table = λ id entry is. is; held = λ id entry is node. (same node id).bytes }) (λ d b link. (same d b).links link)

  -- the replica is cut with its line
  pub loads_short : (path : List ℕ) (k node len id : ℕ) (uuid : List ℕ) → items' ≡ items ++ keeps.Short path k node len ∷ [] → IsShort (space_of space nodes) path k node len id uuid → CutsReplica nodes uuid id len nodes'
      → Loads (shown_at space settings last failures (map line_of items) faults nodes s) (lines.Short path k node len) (shown_at space settings last failures (map line_of items') faults nodes' s)
  loads_short path k node len id uuid more short cuts =
      let p = picture_at space nodes settings s in
      let q = picture_at space nodes' settings s in
      let loaded = map line_of items in
      let more_lines = ap (map line_of) more ∙ map-append line_of items (keeps.Short path k node len ∷ []) in
      record {
        rest = record { counts = record { asks = λ i. refl; calls = λ i. refl; links = refl; nodes = λ d. refl }; last = refl; namenodes = refl; reads = λ link. refl; writes = λ link. refl };
        settings = refl;
        lines = more_lines;
        picture = cuts_at space nodes nodes' settings s uuid id len cuts;
        files = λ state was. agrees_short p q id len uuid cuts.held short.entry short.listed node short.can (λ b. refl) (λ path. refl) state.files was;
        replicas = λ state was lie.
            loaded_more (shown_at space settings last failures (map line_of items') faults nodes' s) q state.files settings.nodes (loaded ++ lines.Short path k node len ∷ []) refl more_lines refl
            (lie_short settings.nodes loaded p q path k node len id uuid (sound_from p space.sized space.apart (texts_at space.names)) short cuts.held (λ b. refl) (λ x. refl) state.files (lie p refl));
      }
