-- How many bytes the blocks of a file give of a range.
use Rattle.std.proofs.Common.{◌≡◌, ℕ, ◌+◌, ◌-◌, ◌<◌, ◌≤◌, ◌^◌, min, max, List, [], ◌∷◌, subst, arith}
use Rattle.hdfs_cluster.specs.declared.messages.LocatedBlock.{LocatedBlock}
use Rattle.hdfs_cluster.specs.Namenode.{Follow}

-- what is left of a file: blocks from an offset on to its end, and as many bytes as those before gave
pub record Counted (total : ℕ) (rest : List LocatedBlock) (start end before now : ℕ) : Type 0 where
  pub at : ℕ
  pub follow : Follow at total rest
  pub count : now ≡ before + (min end at - start)

-- a file ends behind the start of its blocks
follow_within : (at total : ℕ) (blocks : List LocatedBlock) → Follow at total blocks → at ≤ total
follow_within at total [] follow = omega arith
follow_within at total (block ∷ blocks) follow =
    let rest = follow_within (at + block.b.num_bytes) total blocks follow.1 in omega arith

pub counted_start : (total : ℕ) (blocks : List LocatedBlock) (start end before : ℕ) → Follow 0 total blocks → Counted total blocks start end before before
counted_start total blocks start end before follow = record { at = 0; follow = follow; count = omega arith }

more : (at n start end before now now' : ℕ) → start ≤ end → now ≡ before + (min end at - start) → now' ≡ now + (min end (at + n) - max start at)
    → now' ≡ before + (min end (at + n) - start)
more at n start end before now now' within so_far joined = omega arith

pub counted_next : (total : ℕ) (block : LocatedBlock) (rest : List LocatedBlock) (start end before now now' : ℕ) → total < 2 ^ 64 → start ≤ end
    → Counted total (block ∷ rest) start end before now
    → (block.offset + block.b.num_bytes < 2 ^ 64 → now' ≡ now + (min end (block.offset + block.b.num_bytes) - max start block.offset))
    → Counted total rest start end before now'
counted_next total block rest start end before now now' low within counted gives =
    let at = counted.follow.0 in
    let inside = follow_within (counted.at + block.b.num_bytes) total rest counted.follow.1 in
    let given = gives (omega (arith, at, inside, low)) in
    record {
      at = counted.at + block.b.num_bytes;
      follow = counted.follow.1;
      count = more counted.at block.b.num_bytes start end before now now' within counted.count
          (subst (λ (o : ℕ). now' ≡ now + (min end (o + block.b.num_bytes) - max start o)) at given);
    }

pub counted_end : (total start end before now : ℕ) → end ≤ total → Counted total [] start end before now → now ≡ before + (end - start)
counted_end total start end before now within counted =
    let is = counted.follow in
    let count = counted.count in
    omega (arith, is, count)
