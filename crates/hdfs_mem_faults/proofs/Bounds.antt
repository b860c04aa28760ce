-- No namenode has failed more often than lines are faults of it, nor have the links; and no datanode has, together with these, more often than
-- lines are faults of either.
use Rattle.std.proofs.Common.{◌≡◌, ℕ, ◌+◌, ◌*◌, ◌^◌, ◌≤◌, Bool, true, false, ◌&&◌, eqb, List, [], ◌∷◌, Option, Some, None, is_some, refl, arith}
use Rattle.std.proofs.lemmas.Bool.{or_parts}
use Rattle.std.proofs.lemmas.List.Sums.{sum_by-cons}
use Rattle.std.specs.List.{list_any}
use Rattle.hdfs_cluster.specs.declared.store.AskKind.{AskKind}
use Rattle.hdfs_cluster.specs.declared.store.Line.{Line}
use Rattle.hdfs_cluster.specs.declared.store.Line.TheVariants as lines
use Rattle.hdfs_cluster.specs.declared.store.FaultLine.TheVariants as faults
use Rattle.hdfs_cluster.specs.declared.store.ReadKind.TheVariants as read_kinds
use Rattle.hdfs_mem_faults.specs.declared.fault_plan.FaultPlan.{FaultPlan}
use Rattle.hdfs_mem_faults.specs.declared.links.Links.{Links}
use Rattle.hdfs_mem_faults.specs.declared.node_plan.NodeCall.{NodeCall}
use Rattle.hdfs_mem_faults.specs.declared.node_plan.NodeCall.TheVariants as calls
use Rattle.hdfs_mem_faults.specs.declared.node_plan.NodePlan.{NodePlan}
use Rattle.hdfs_mem_faults.specs.declared.tally.Tally.{Tally}
use Rattle.hdfs_mem_faults.specs.Asks.{ask_kind_at, asks_at, failed_asks}
use Rattle.hdfs_mem_faults.specs.Calls.{fails_in, one_if}
use Rattle.hdfs_mem_faults.specs.Following.{Follows}
use Rattle.hdfs_mem_faults.specs.Linking.{firsts_in}
use Rattle.hdfs_mem_faults.specs.NodePlans.{failed_in, node_at, planned_in}
use Rattle.hdfs_mem_faults.specs.Plans.{ask_faults_of, fails_at, link_faults_of, node_faults_of}
use Rattle.hdfs_mem_faults.specs.Series.{Series, SetUps, AsksOf, CallsOf, acks_of, ask_fault_count, is_fault, is_fault_at, is_of, link_fault_count, node_fault_count, nth_of, of_fault, opens_of, plans, reads_of, same_series, sends_to, series_fault_count, series_of}
use Rattle.hdfs_mem_faults.specs.Tallies.{is_planned}
use Rattle.hdfs_mem_faults.proofs.Lines.{none_is}
use Rattle.hdfs_mem_faults.proofs.Failing.{fails-len, fails-more, fails-never, fails-only, fails-or}

-- a line makes one call of its series fail, and none of another
fails-line : (s : Series) (line : Line) (n : ℕ) → fails_in (λ k. of_fault (is_fault_at s k) line) n ≤ one_if (of_fault (λ fault. same_series (series_of fault) s) line)
fails-line s (lines.Dir path) n = omega (arith, fails-never n)
fails-line s (lines.File path attributes bytes) n = omega (arith, fails-never n)
fails-line s (lines.Short path block node len) n = omega (arith, fails-never n)
fails-line s (lines.Fault fault) n = by_test (same_series (series_of fault) s)
  where
    by_test : (b : Bool) → fails_in (λ k. b && eqb (nth_of fault) k) n ≤ one_if b
    by_test true = fails-only (nth_of fault) n
    by_test false = omega (arith, fails-never n)

-- no more calls of a series fail by the lines than lines are faults of it
pub fails-lines : (s : Series) (loaded : List Line) (n : ℕ) → fails_in (plans loaded s) n ≤ series_fault_count loaded s
fails-lines s [] n = omega (arith, fails-never n)
fails-lines s (line ∷ loaded) n =
    let parts : fails_in (plans (line ∷ loaded) s) n ≤ fails_in (λ k. of_fault (is_fault_at s k) line) n + fails_in (plans loaded s) n = fails-or (λ k. of_fault (is_fault_at s k) line) (plans loaded s) n in
    let counts : series_fault_count (line ∷ loaded) s ≡ one_if (of_fault (λ fault. same_series (series_of fault) s) line) + series_fault_count loaded s = sum_by-cons (λ l. one_if (of_fault (λ fault. same_series (series_of fault) s) l)) line loaded in
    omega (arith, parts, counts, fails-line s line n, fails-lines s loaded n)

-- whether a line is a fault of a series
abbrev is_of_series : Series → Line → Bool
is_of_series s line = of_fault (λ fault. same_series (series_of fault) s) line

-- whether it is a fault of a datanode
abbrev is_of_node : List ℕ → Line → Bool
is_of_node d line = of_fault (λ fault. is_of d (series_of fault)) line

-- a fault of a datanode is of one of its four series
one_series : (d : List ℕ) (line : Line) → one_if (is_of_series (acks_of d) line) + one_if (is_of_series (sends_to d) line) + one_if (is_of_series (reads_of d) line) + one_if (is_of_series (opens_of d) line) ≤ one_if (is_of_node d line)
one_series d (lines.Dir path) = omega arith
one_series d (lines.File path attributes bytes) = omega arith
one_series d (lines.Short path block node len) = omega arith
one_series d (lines.Fault (faults.Ask i n kind)) = omega arith
one_series d (lines.Fault (faults.Link n kind)) = omega arith
one_series d (lines.Fault (faults.AckOf node n)) = omega arith
one_series d (lines.Fault (faults.SendTo node n)) = omega arith
one_series d (lines.Fault (faults.ReadOf node n read_kinds.Broken)) = omega arith
one_series d (lines.Fault (faults.ReadOf node n read_kinds.Damaged)) = omega arith
one_series d (lines.Fault (faults.ReadOf node n read_kinds.Gap)) = omega arith
one_series d (lines.Fault (faults.ReadOf node n read_kinds.Refused)) = omega arith

-- the faults of its four series are among the faults of a datanode
four_series : (d : List ℕ) (loaded : List Line) → series_fault_count loaded (acks_of d) + series_fault_count loaded (sends_to d) + series_fault_count loaded (reads_of d) + series_fault_count loaded (opens_of d) ≤ node_fault_count loaded d
four_series d [] = omega arith
four_series d (line ∷ loaded) =
    let first = sum_by-cons (λ l. one_if (is_of_series (acks_of d) l)) line loaded in
    let second = sum_by-cons (λ l. one_if (is_of_series (sends_to d) l)) line loaded in
    let third = sum_by-cons (λ l. one_if (is_of_series (reads_of d) l)) line loaded in
    let fourth = sum_by-cons (λ l. one_if (is_of_series (opens_of d) l)) line loaded in
    let node = sum_by-cons (λ l. one_if (is_of_node d l)) line loaded in
    omega (arith, first, second, third, fourth, node, one_series d line, four_series d loaded)

-- a tally whose numbers are planned by lines has failed no more often than lines are faults of its series
tally_le : {K : Type 0} (tally : Tally K) (s : Series) (loaded : List Line) → ((k : ℕ) → is_planned tally k ≡ true → plans loaded s k ≡ true) → tally.failed ≤ series_fault_count loaded s
tally_le tally s loaded planned =
    omega (arith, tally.counted, fails-more (is_planned tally) (plans loaded s) tally.calls planned, fails-lines s loaded tally.calls)

-- the same of a datanode, which may not be there
node_le : (d : List ℕ) (loaded : List Line) (o : Option NodePlan) → ((call : NodeCall) (k : ℕ) → planned_in o call k ≡ true → plans loaded (CallsOf call d) k ≡ true) → failed_in o ≤ node_fault_count loaded d
node_le d loaded None planned = omega arith
node_le d loaded (Some node) planned =
    let acks = tally_le node.acks (acks_of d) loaded (planned calls.Ack) in
    let sends = tally_le node.sends (sends_to d) loaded (planned calls.Send) in
    let reads = tally_le node.reads (reads_of d) loaded (planned calls.Read) in
    let opens = tally_le node.opens (opens_of d) loaded (planned calls.Open) in
    omega (arith, acks, sends, reads, opens, four_series d loaded)

-- set-ups have failed no more often than lines are faults of them, whether that was put down to the links or to a datanode
set_ups-le : (plan : FaultPlan) (loaded : List Line) → Follows plan loaded → (d : List ℕ) → link_faults_of plan + firsts_in plan.links d ≤ link_fault_count loaded
set_ups-le plan loaded follows d =
    omega (arith, plan.links.counted d, fails-more (fails_at plan SetUps) (plans loaded SetUps) plan.links.set_ups (follows.planned SetUps), fails-lines SetUps loaded plan.links.set_ups)

-- THE LAW for datanodes: none has failed, together with the links, more often than lines are faults of it or of set-ups
pub node_faults-le : (plan : FaultPlan) (loaded : List Line) → Follows plan loaded → (d : List ℕ) → node_faults_of plan d + link_faults_of plan ≤ node_fault_count loaded d + link_fault_count loaded
node_faults-le plan loaded follows d =
    omega (arith, node_le d loaded (node_at plan.nodes d) (λ call k. follows.planned (CallsOf call d) k), set_ups-le plan loaded follows d)

-- THE LAW for links: they have failed no more often than lines are faults of set-ups
pub link_faults-le : (plan : FaultPlan) (loaded : List Line) → Follows plan loaded → link_faults_of plan ≤ link_fault_count loaded
link_faults-le plan loaded follows = omega (arith, set_ups-le plan loaded follows [])

-- the same of a namenode, which may have no tally
asks_le : (i : ℕ) (loaded : List Line) (o : Option (Tally AskKind)) → ((k : ℕ) → is_some (ask_kind_at o k) ≡ true → plans loaded (AsksOf i) k ≡ true) → failed_asks o ≤ ask_fault_count loaded i
asks_le i loaded None planned = omega arith
asks_le i loaded (Some tally) planned = tally_le tally (AsksOf i) loaded planned

-- THE LAW for namenodes: none has failed as planned more often than lines are faults of its asks
pub ask_faults-le : (plan : FaultPlan) (loaded : List Line) → Follows plan loaded → (i : ℕ) → ask_faults_of plan i ≤ ask_fault_count loaded i
ask_faults-le plan loaded follows i = asks_le i loaded (asks_at plan.asks i) (follows.planned (AsksOf i))

-- a line that is no fault is none of a series
no_fault_of : (s : Series) (line : Line) → is_fault line ≡ false → one_if (is_of_series s line) ≡ 0
no_fault_of s (lines.Dir path) none = refl
no_fault_of s (lines.File path attributes bytes) none = refl
no_fault_of s (lines.Short path block node len) none = refl
no_fault_of s (lines.Fault fault) none = none_is none

-- where no line is a fault, none is one of a series
pub no_faults : (loaded : List Line) (s : Series) → list_any is_fault loaded ≡ false → series_fault_count loaded s ≡ 0
no_faults [] s none = refl
no_faults (line ∷ loaded) s none =
    let parts = or_parts (is_fault line) (list_any is_fault loaded) none in
    let counts : series_fault_count (line ∷ loaded) s ≡ one_if (is_of_series s line) + series_fault_count loaded s = sum_by-cons (λ l. one_if (is_of_series s l)) line loaded in
    omega (arith, counts, no_fault_of s line parts.0, no_faults loaded s parts.1)

-- a tally fails seldom
pub failed_few : {K : Type 0} (tally : Tally K) → tally.failed ≤ 2 ^ 60
failed_few tally = omega (arith, tally.counted, fails-len tally.planned tally.calls, tally.few)

-- so does a datanode
pub node_few : (o : Option NodePlan) → failed_in o ≤ 4 * 2 ^ 60
node_few None = omega arith
node_few (Some node) = omega (arith, failed_few node.acks, failed_few node.sends, failed_few node.reads, failed_few node.opens)

-- and set-ups whose failure is put down to it
pub firsts_few : (links : Links) (d : List ℕ) → firsts_in links d ≤ 2 ^ 60
firsts_few links d = omega (arith, links.counted d, fails-len links.kinds links.set_ups, links.few)
