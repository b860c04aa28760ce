-- A plan that is that of some lines.
use Rattle.std.specs.Prelude.{◌≡◌, ℕ, ◌<◌, true, List, Some}
use Rattle.hdfs_cluster.specs.declared.store.AskKind.{AskKind}
use Rattle.hdfs_cluster.specs.declared.store.Line.{Line}
use Rattle.hdfs_cluster.specs.declared.store.LinkKind.{LinkKind}
use Rattle.hdfs_cluster.specs.declared.store.ReadKind.{ReadKind}
use Rattle.hdfs_mem_faults.specs.declared.fault_plan.FaultPlan.{FaultPlan}
use Rattle.hdfs_mem_faults.specs.Plans.{ask_kind, calls_of, fails_at, has_series, kind_at, packet_kind}
use Rattle.hdfs_mem_faults.specs.Series.{Series, ask_kind_of, kind_of, packet_kind_of, plans}

-- What is planned is planned by a line, a set-up, a packet or an ask as the first line of it says; and what a line plans of a call that is
-- still to come, of an object that is there, is planned.
pub record Follows (plan : FaultPlan) (loaded : List Line) : Type 0 where
  pub planned : (s : Series) (nth : ℕ) → fails_at plan s nth ≡ true → plans loaded s nth ≡ true
  pub kinds : (nth : ℕ) (kind : LinkKind) → kind_at plan nth ≡ Some kind → kind_of loaded nth ≡ Some kind
  pub packets : (d : List ℕ) (nth : ℕ) (kind : ReadKind) → packet_kind plan d nth ≡ Some kind → packet_kind_of loaded d nth ≡ Some kind
  pub asks : (i nth : ℕ) (kind : AskKind) → ask_kind plan i nth ≡ Some kind → ask_kind_of loaded i nth ≡ Some kind
  pub acts : (s : Series) (nth : ℕ) → has_series plan s ≡ true → calls_of plan s < nth → plans loaded s nth ≡ true
      → fails_at plan s nth ≡ true
