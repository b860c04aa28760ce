-- Which packets of reads are counted, and how they fail.
use Rattle.std.proofs.Common.{◌≡◌, ◌≢◌, ℕ, ◌+◌, ◌^◌, nat_lt, cond, Bool, true, false, ◌&&◌, List, [], ◌∷◌, map, Option, Some, None, is_some, IfSome, Result, Ok, Err, refl, sym, ◌∙◌, ap, subst, unwrap_or}
use Rattle.std.proofs.lemmas.Bool.{false≢true}
use Rattle.std.specs.Option.{option_or}
use Rattle.hdfs_wire.specs.declared.checksums.ChecksumInfo.{ChecksumInfo}
use Rattle.hdfs_wire.specs.declared.read_packet.ReadPacket.{ReadPacket}
use Rattle.hdfs_cluster.specs.declared.asks.LinkFault.{LinkFault}
use Rattle.hdfs_cluster.specs.declared.asks.LinkFault.TheVariants as link_faults
use Rattle.hdfs_cluster.specs.declared.picture.OpenRead.{OpenRead}
use Rattle.hdfs_cluster.specs.declared.picture.ReadPlace.{ReadPlace}
use Rattle.hdfs_cluster.specs.declared.store.FaultLine.{FaultLine}
use Rattle.hdfs_cluster.specs.declared.store.FaultLine.TheVariants as lines_of
use Rattle.hdfs_cluster.specs.declared.store.Line.{Line}
use Rattle.hdfs_cluster.specs.declared.store.Line.TheVariants as lines
use Rattle.hdfs_cluster.specs.declared.store.ReadKind.{ReadKind}
use Rattle.hdfs_cluster.specs.declared.store.ReadKind.TheVariants as read_kinds
use Rattle.hdfs_mem_faults.specs.declared.fault_plan.FaultPlan.{FaultPlan}
use Rattle.hdfs_mem_faults.specs.declared.node_plan.NodeCall.TheVariants as calls
use Rattle.hdfs_mem_faults.specs.Calls.{next_fails}
use Rattle.hdfs_mem_faults.specs.Following.{Follows}
use Rattle.hdfs_mem_faults.specs.Plans.{Counts, calls_of, fails_at, packet_kind}
use Rattle.hdfs_mem_faults.specs.Series.{is_fault_at, opens_of, packet_kind_of, packet_kind_of_line, reads_of}
use Rattle.hdfs_mem_faults.proofs.Following.{counts_follows, next_packet_follows, read_fails}
use Rattle.hdfs_mem_cluster.specs.declared.mem_cluster.MemCluster.{MemCluster}
use Rattle.hdfs_mem_cluster.specs.declared.read_link.MemRead.{MemRead}
use Rattle.hdfs_mem_cluster.specs.Coming.{ComesTo, IsGiven}
use Rattle.hdfs_mem_cluster.specs.Counting.{AsksPacket}
use Rattle.hdfs_mem_cluster.specs.Failures.{is_counted}
use Rattle.hdfs_mem_cluster.specs.Lines.{line_of}
use Rattle.hdfs_mem_cluster.specs.Links.{CountsPacket, GivesOn, NeverRefuses, next_of, node_of, read_at, read_place, read_told}
use Rattle.hdfs_mem_cluster.proofs.Counting.{calls_node, calls_nothing}
use Rattle.hdfs_mem_cluster.proofs.Slices.{comes_given}
use Rattle.hdfs_mem_datanodes.specs.Nodes.{SameNodes}

-- ---- no packet is planned to be refused

abbrev refused : Option ReadKind
refused = Some read_kinds.Refused

under_test : (b : Bool) (o : Option ReadKind) → o ≢ refused → cond b o None ≢ refused
under_test true o apart is = apart is
under_test false o apart is = cc

fault_never : (d : List ℕ) (nth : ℕ) (fault : FaultLine) → packet_kind_of_line d nth (lines.Fault fault) ≢ refused
fault_never d nth (lines_of.Ask i n kind) = under_test (is_fault_at (reads_of d) nth (lines_of.Ask i n kind)) None (λ is. (cc))
fault_never d nth (lines_of.Link n kind) = under_test (is_fault_at (reads_of d) nth (lines_of.Link n kind)) None (λ is. (cc))
fault_never d nth (lines_of.AckOf node n) = under_test (is_fault_at (reads_of d) nth (lines_of.AckOf node n)) None (λ is. (cc))
fault_never d nth (lines_of.SendTo node n) = under_test (is_fault_at (reads_of d) nth (lines_of.SendTo node n)) None (λ is. (cc))
fault_never d nth (lines_of.ReadOf node n read_kinds.Broken) = under_test (is_fault_at (reads_of d) nth (lines_of.ReadOf node n read_kinds.Broken)) (Some read_kinds.Broken) (λ is. (cc))
fault_never d nth (lines_of.ReadOf node n read_kinds.Damaged) = under_test (is_fault_at (reads_of d) nth (lines_of.ReadOf node n read_kinds.Damaged)) (Some read_kinds.Damaged) (λ is. (cc))
fault_never d nth (lines_of.ReadOf node n read_kinds.Gap) = under_test (is_fault_at (reads_of d) nth (lines_of.ReadOf node n read_kinds.Gap)) (Some read_kinds.Gap) (λ is. (cc))
fault_never d nth (lines_of.ReadOf node n read_kinds.Refused) = λ is. (cc)

line_never : (d : List ℕ) (nth : ℕ) (line : Line) → packet_kind_of_line d nth line ≢ refused
line_never d nth (lines.Dir path) = λ is. (cc)
line_never d nth (lines.File path attributes bytes) = λ is. (cc)
line_never d nth (lines.Short path block node len) = λ is. (cc)
line_never d nth (lines.Fault fault) = fault_never d nth fault

first_never : (a b : Option ReadKind) → a ≢ refused → b ≢ refused → option_or a b ≢ refused
first_never None b first second = second
first_never (Some kind) b first second = first

lines_never : (loaded : List Line) (d : List ℕ) (nth : ℕ) → packet_kind_of loaded d nth ≢ refused
lines_never [] d nth = λ is. (cc)
lines_never (line ∷ loaded) d nth = first_never (packet_kind_of_line d nth line) (packet_kind_of loaded d nth) (line_never d nth line) (lines_never loaded d nth)

-- by a plan that follows lines
pub never_refuses : (plan : FaultPlan) (loaded : List Line) → Follows plan loaded → NeverRefuses plan
never_refuses plan loaded follows d nth is = lines_never loaded d nth (follows.packets d nth read_kinds.Refused is)

-- ---- what is counted

both_tests : (b : Bool) (o : Option ReadKind) → (b && is_some o) ≡ is_some (cond b o None)
both_tests true o = refl
both_tests false o = refl

-- the next packet fails exactly where it is planned how
fails_as : (plan : FaultPlan) (d : List ℕ) → next_fails (fails_at plan (reads_of d)) (calls_of plan (reads_of d)) ≡ is_some (next_of plan d)
fails_as plan d =
    let n = calls_of plan (reads_of d) + 1 in
    ap (λ (b : Bool). nat_lt n (2 ^ 64) && b) (read_fails plan d n) ∙ both_tests (nat_lt n (2 ^ 64)) (packet_kind plan d n)

pub counted_packet : (old new : FaultPlan) (d : List ℕ) → CountsPacket old d new → Counts old (reads_of d) (is_some (next_of old d)) new
counted_packet old new d counts = subst (λ (b : Bool). Counts old (reads_of d) b new) (counts.1.as_planned ∙ fails_as old d) counts.1

-- an opening that was asked for fails as it was said to
pub counted_opening : (old new : FaultPlan) (u d : List ℕ) (said fails b : Bool) → u ≡ d → said ≡ next_fails (fails_at old (opens_of u)) (calls_of old (opens_of u)) → said ≡ b → Counts old (opens_of u) fails new
    → Counts old (opens_of d) b new
counted_opening old new u d said fails b same says is counts =
    subst (λ (x : List ℕ). Counts old (opens_of x) b new) same (subst (λ (x : Bool). Counts old (opens_of u) x new) (counts.as_planned ∙ sym says ∙ is) counts)

-- ---- what a packet that was asked for counts

module _ (m m' : MemCluster) (link : ℕ) (v w : MemRead) (was : read_at m.links link ≡ Some v) (rest : SameNodes m.nodes m'.nodes) where
  abbrev kind : Option ReadKind
  kind = next_of m.faults (node_of v)

  place_is : (read : ReadPlace) → read_place (read_at m.links link) ≡ Some read → v.place ≡ read
  place_is read is = ap (λ (o : Option ReadPlace). unwrap_or o v.place) (sym (ap read_place was) ∙ is)

  -- there was memory
  counted : (result : Result ReadPacket LinkFault) → is_counted result ≡ true → CountsPacket m.faults (node_of v) m'.faults → ComesTo v.told.checksums kind v.place result → AsksPacket m link v.told result m'
  counted result sure counts comes = record {
    kind = kind;
    planned = λ can counts. next_packet_follows m.faults (map line_of m.loaded.items) (node_of v) m.follows can.there can.room;
    call = calls_node m m' calls.Read (node_of v) (is_counted result) (is_some kind) rest (counted_packet m.faults m'.faults (node_of v) counts) sure;
    comes = λ read is. subst (λ (place : ReadPlace). ComesTo v.told.checksums kind place result) (place_is read is) comes;
  }

  asks_packet : (result : Result ReadPacket LinkFault) → GivesOn m.faults m'.faults v w result → AsksPacket m link v.told result m'
  asks_packet (Ok packet) h = counted (Ok packet) refl h.1 (subst (λ (info : Option ChecksumInfo). IsGiven info kind v.place packet) (sym v.sums) (comes_given v.chunk v.some_chunk v.place packet kind h.0.comes))
  asks_packet (Err link_faults.NoMemory) h = record {
    kind = None;
    planned = λ can counts. absurd (false≢true counts);
    call = calls_nothing m m' calls.Read (node_of v) false false rest h.1 refl refl;
    comes = λ read is. tt;
  }
  asks_packet (Err link_faults.Broken) h = counted (Err link_faults.Broken) refl h.2 h.1
  asks_packet (Err link_faults.Refused) h = absurd h

  pub asks_told : (result : Result ReadPacket LinkFault) → GivesOn m.faults m'.faults v w result → IfSome (read_told (read_at m.links link)) (λ told. AsksPacket m link told result m')
  asks_told result h = subst (λ (o : Option OpenRead). IfSome o (λ told. AsksPacket m link told result m')) (sym (ap read_told was)) (asks_packet result h)

-- a plan goes on following
pub gives_follow : (faults faults' : FaultPlan) (loaded : List Line) (v w : MemRead) (result : Result ReadPacket LinkFault) → GivesOn faults faults' v w result → Follows faults loaded → Follows faults' loaded
gives_follow faults faults' loaded v w (Ok packet) h was = counts_follows faults faults' loaded (reads_of (node_of v)) h.1.0 h.1.1 was
gives_follow faults faults' loaded v w (Err link_faults.NoMemory) h was = subst (λ (plan : FaultPlan). Follows plan loaded) (sym h.1) was
gives_follow faults faults' loaded v w (Err link_faults.Broken) h was = counts_follows faults faults' loaded (reads_of (node_of v)) h.2.0 h.2.1 was
gives_follow faults faults' loaded v w (Err link_faults.Refused) h was = absurd h
