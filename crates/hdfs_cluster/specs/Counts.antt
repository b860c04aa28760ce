-- How often namenodes were asked, and how often the outside has failed. A count never falls, and one that stands at its last value counts
-- as risen.
use Rattle.std.specs.Prelude.{◌≡◌, ℕ, zero, suc, ◌+◌, ◌-◌, ◌^◌, ◌<◌, ◌≤◌, min, List}

-- the counts of a cluster
pub record FaultCounts : Type 0 where
  -- how often each namenode was asked, by its number
  pub asks : ℕ → ℕ
  -- how often each namenode has failed
  pub calls : ℕ → ℕ
  -- how often the write links have, together
  pub links : ℕ
  -- how often each datanode has, by its uuid
  pub nodes : List ℕ → ℕ

-- a count rose, or stands at its last value
abbrev pub Rose : ℕ → ℕ → Type 0
Rose before now = min (before + 1) (2 ^ 64 - 1) ≤ now

-- it has risen twice, or stands at its type's end
abbrev pub RoseTwice : ℕ → ℕ → Type 0
RoseTwice before now = min (before + 2) (2 ^ 64 - 1) ≤ now

-- no count fell
pub record NeverFall (before now : FaultCounts) : Type 0 where
  pub asks : (i : ℕ) → before.asks i ≤ now.asks i
  pub calls : (i : ℕ) → before.calls i ≤ now.calls i
  pub links : before.links ≤ now.links
  pub nodes : (d : List ℕ) → before.nodes d ≤ now.nodes d

-- namenodes below this number have failed so many times, one time behind another
abbrev pub CallsRoseTimes : ℕ → ℕ → FaultCounts → FaultCounts → Type 0
CallsRoseTimes namenodes zero before now = NeverFall before now
CallsRoseTimes namenodes (suc times) before now =
    (between : FaultCounts) × CallsRoseTimes namenodes times before between × NeverFall between now
    × ((i : ℕ) × (i < namenodes) × Rose (between.calls i) (now.calls i))

-- datanodes have failed so many times, one time behind another
abbrev pub NodesRoseTimes : ℕ → FaultCounts → FaultCounts → Type 0
NodesRoseTimes zero before now = NeverFall before now
NodesRoseTimes (suc times) before now =
    (between : FaultCounts) × NodesRoseTimes times before between × NeverFall between now
    × ((node : List ℕ) × Rose (between.nodes node) (now.nodes node))

-- each count is what it was
pub record SameCounts (before now : FaultCounts) : Type 0 where
  pub asks : (i : ℕ) → now.asks i ≡ before.asks i
  pub calls : (i : ℕ) → now.calls i ≡ before.calls i
  pub links : now.links ≡ before.links
  pub nodes : (d : List ℕ) → now.nodes d ≡ before.nodes d

-- no count of so many namenodes, of the links or of a datanode rose
pub record NoneRose (namenodes : ℕ) (before now : FaultCounts) : Type 0 where
  pub calls : (i : ℕ) → i < namenodes → Rose (before.calls i) (now.calls i) → ⊥
  pub links : Rose before.links now.links → ⊥
  pub nodes : (d : List ℕ) → Rose (before.nodes d) (now.nodes d) → ⊥
