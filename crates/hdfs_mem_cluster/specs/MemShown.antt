-- What the cluster in memory shows.
use Rattle.std.specs.Prelude.{◌≡◌, ℕ, ◌+◌, ◌-◌, ◌^◌, ◌<◌, ◌==◌, min, nat_lt, Bool, true, not, ◌&&◌, List, length, slice_index, map, Some, is_some, if◌then◌else◌}
use Rattle.std.specs.BTreeMap.{get_by_text}
use Rattle.hdfs_cluster.specs.declared.store.Line.{Line}
use Rattle.hdfs_cluster.specs.declared.mem_settings.MemSettings.{MemSettings}
use Rattle.hdfs_mem_faults.specs.declared.fault_plan.FaultPlan.{FaultPlan}
use Rattle.hdfs_mem_faults.specs.Plans.{ask_faults_of, calls_of, has_node, link_faults_of, node_faults_of}
use Rattle.hdfs_mem_faults.specs.Series.{AsksOf, uuid_of}
use Rattle.hdfs_cluster.specs.Counts.{FaultCounts}
use Rattle.hdfs_cluster.specs.Picture.{Picture}
use Rattle.hdfs_cluster.specs.Shown.{Loaded, Shown}
use Rattle.hdfs_mem_namenode.specs.declared.namespace.Namespace.{Namespace}
use Rattle.hdfs_mem_datanodes.specs.declared.datanodes.Datanodes.{Datanodes}
use Rattle.hdfs_mem_cluster.specs.declared.mem_cluster.MemCluster.{MemCluster}
use Rattle.hdfs_mem_cluster.specs.declared.mem_links.MemLinks.{MemLinks}
use Rattle.hdfs_mem_cluster.specs.declared.counts.Counts.{Counts as SeenCounts}
use Rattle.hdfs_mem_cluster.specs.Lines.{line_of}
use Rattle.hdfs_mem_cluster.specs.Links.{read_at, read_told, read_place, write_at, write_told, write_place}
use Rattle.hdfs_mem_namenode.specs.Memory.{table_of, is_nil}
use Rattle.hdfs_mem_datanodes.specs.Nodes.{node_at, held_in}

-- the picture of these names, blocks, bytes and links
abbrev pub picture_at : Namespace → Datanodes → MemSettings → MemLinks → Picture
picture_at space nodes settings links = record {
  names = λ path. get_by_text space.names path;
  table = λ id. table_of space.table.entries id;
  held = λ node id. held_in nodes node id;
  active = settings.active;
  defaults = settings.defaults;
  reads = λ link. read_place (read_at links link);
  writes = λ link. write_place nodes link (write_at links link);
}

-- what was loaded into a cluster with these settings
abbrev pub loaded_at : MemSettings → List Line → Loaded
loaded_at settings lines = record { settings = Some settings; lines = lines }

-- the picture of the cluster in memory
abbrev pub picture_of : MemCluster → Picture
picture_of m = picture_at m.space m.nodes m.config.settings m.links

-- how often each namenode has failed beside what was planned: only the active one does
abbrev pub failed_calls : MemSettings → ℕ → ℕ → ℕ
failed_calls settings calls i = if i == settings.active then calls else 0

-- how often each namenode has failed in all: as it was planned to, and beside that
abbrev pub namenode_faults : MemSettings → ℕ → FaultPlan → ℕ → ℕ
namenode_faults settings calls plan i =
    if nat_lt i settings.namenodes then min (ask_faults_of plan i + failed_calls settings calls i) (2 ^ 64 - 1) else 0

-- the counts of a cluster with this plan, whose active namenode has failed so often beside it
abbrev pub counts_at : MemSettings → ℕ → FaultPlan → FaultCounts
counts_at settings calls plan = record {
  asks = λ i. calls_of plan (AsksOf i);
  calls = namenode_faults settings calls plan;
  links = link_faults_of plan;
  nodes = λ d. node_faults_of plan d;
}

-- what the cluster in memory shows: always its picture too
abbrev pub shown_of : MemCluster → Shown
shown_of m = record {
  picture = Some (picture_of m);
  counts = counts_at m.config.settings m.calls m.faults;
  last = m.last;
  namenodes = m.config.settings.namenodes;
  reads = λ link. read_told (read_at m.links link);
  writes = λ link. write_told (write_at m.links link);
  loaded = loaded_at m.config.settings (map line_of m.loaded.items);
}

-- nothing was loaded, and there never was more than the root
abbrev pub is_fresh_of : MemCluster → Bool
is_fresh_of m = is_nil (shown_of m).loaded.lines && not m.space.grown

-- it is one of the cluster's datanodes
pub record HasNode (m : MemCluster) (node : List ℕ) : Type 0 where
  pub there : is_some (node_at m.nodes node) ≡ true
  pub counted : has_node m.faults node ≡ true

-- how many datanodes it has
abbrev pub nodes_of : MemCluster → ℕ
nodes_of m = m.nodes.count

-- its datanodes are still there
abbrev pub HasNodesOf : MemCluster → MemCluster → Type 0
HasNodesOf old new = (d : List ℕ) → HasNode old d → HasNode new d

-- the counts of each namenode and each datanode, by their numbers
pub record Sees (m : MemCluster) (seen : SeenCounts) : Type 0 where
  pub namenodes : length seen.calls ≡ (shown_of m).namenodes
  pub calls : (i : ℕ) → slice_index seen.calls i ≡ (shown_of m).counts.calls i
  pub links : seen.links ≡ (shown_of m).counts.links
  pub datanodes : length seen.nodes ≡ nodes_of m
  pub nodes : (k : ℕ) → k < nodes_of m → slice_index seen.nodes k ≡ (shown_of m).counts.nodes (uuid_of k)
