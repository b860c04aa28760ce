-- The block in which a range begins, and those before it.
use Rattle.std.proofs.Common.{◌≡◌, inl, inr, ℕ, zero, suc, ◌+◌, ◌-◌, ◌<◌, ◌≤◌, nat_le, true, false, min, max, List, [], ◌∷◌, ◌++◌, length, drop, get_or, Option, Some, sym, ◌∙◌, ap, subst, arith}
use Rattle.std.proofs.lemmas.Bool.Decides.{nat_tests}
use Rattle.std.proofs.lemmas.List.{append-nil}
use Rattle.std.specs.List.Sorted.{IsPartitionPoint, IsPartitionedBy}
use Rattle.hdfs_cluster.specs.declared.messages.LocatedBlock.{LocatedBlock}
use Rattle.hdfs_cluster.specs.declared.picture.BlockEntry.{BlockEntry}
use Rattle.hdfs_cluster.specs.Namenode.{Follow, LocatesBlocks}
use Rattle.hdfs_cluster.specs.Picture.{Picture}
use Rattle.hdfs_cluster.specs.Shown.{Shown}
use Rattle.hdfs_cluster.proofs.Frames.{only_reads_refl}
use Rattle.hdfs_cluster.specs.Reading.{range_of}
use Rattle.hdfs_file_reader.specs.Ranges.{BeginsBy}
use Rattle.hdfs_file_reader.proofs.Counting.{Counted, counted_start}
use Rattle.hdfs_file_reader.proofs.Parts.{Left, left_next, none_to_read}

-- ---- blocks that follow one another

-- none begins before the first one
begins_behind : (at total : ℕ) (blocks : List LocatedBlock) → Follow at total blocks → (k : ℕ) (d : LocatedBlock) → k < length blocks
    → at ≤ (get_or blocks k d).offset
begins_behind at total [] follow k d low = absurd (omega (arith, low))
begins_behind at total (block ∷ blocks) follow zero d low = let first = follow.0 in omega (arith, first)
begins_behind at total (block ∷ blocks) follow (suc k) d low =
    let rest = begins_behind (at + block.b.num_bytes) total blocks follow.1 k d (omega (arith, low)) in
    omega (arith, rest)

-- nor before one that stands in front of it
rises : (at total : ℕ) (blocks : List LocatedBlock) → Follow at total blocks → (i j : ℕ) (d : LocatedBlock) → i ≤ j → j < length blocks
    → (get_or blocks i d).offset ≤ (get_or blocks j d).offset
rises at total [] follow i j d before low = absurd (omega (arith, low))
rises at total (block ∷ blocks) follow zero j d before low =
    let first = follow.0 in
    let rest = begins_behind at total (block ∷ blocks) follow j d low in
    omega (arith, first, rest)
rises at total (block ∷ blocks) follow (suc i) zero d before low = absurd (omega (arith, before))
rises at total (block ∷ blocks) follow (suc i) (suc j) d before low =
    rises (at + block.b.num_bytes) total blocks follow.1 i j d (omega (arith, before)) (omega (arith, low))

-- so those that begin at an offset or before stand in front of the others
pub in_order : (total : ℕ) (blocks : List LocatedBlock) (start : ℕ) → Follow 0 total blocks → IsPartitionedBy (λ block. nat_le block.offset start) blocks
in_order total blocks start follow i j d before low is =
    let up = rises 0 total blocks follow i j d before low in
    grind (arith, nat_tests, up, is)

-- and the last one of them is looked for
pub begins_by : (blocks : List LocatedBlock) (start : ℕ) (k r : ℕ) → k ≤ length blocks
    → IsPartitionPoint (λ block. nat_le block.offset start ≡ true) (λ block. nat_le block.offset start ≡ false) blocks k → r ≡ k - 1 → BeginsBy start blocks r
begins_by blocks start zero r low point is = inl is
begins_by blocks start (suc k) r low point is =
    let same : r ≡ k = omega (arith, is) in
    inr (
      omega (arith, same, low),
      λ d.
          (let there = point.0 k d (omega arith) (omega arith) in
          subst (λ (i : ℕ). (get_or blocks i d).offset ≤ start) (sym same) (grind (arith, nat_tests, there))),
    )

-- the blocks from one on follow one another as well
follow_at : (at total : ℕ) (blocks : List LocatedBlock) → Follow at total blocks → (k : ℕ) → k < length blocks
    → (x : ℕ) × Follow x total (drop k blocks) × ((d : LocatedBlock) → (get_or blocks k d).offset ≡ x)
follow_at at total [] follow k low = absurd (omega (arith, low))
follow_at at total (block ∷ blocks) follow zero low = (at, follow, λ d. follow.0)
follow_at at total (block ∷ blocks) follow (suc k) low = follow_at (at + block.b.num_bytes) total blocks follow.1 k (omega (arith, low))

-- ---- what is so of a range from the block on in which it begins

-- those before it gave no byte
pub counted_from : (total : ℕ) (blocks : List LocatedBlock) (start end before : ℕ) → Follow 0 total blocks → (k : ℕ) → BeginsBy start blocks k
    → Counted total (drop k blocks) start end before before
counted_from total blocks start end before follow k (inl none) =
    subst (λ (i : ℕ). Counted total (drop i blocks) start end before before) (sym none) (counted_start total blocks start end before follow)
counted_from total [] start end before follow k (inr there) = absurd (let low = there.0 in omega (arith, low))
counted_from total (block ∷ blocks) start end before follow k (inr there) =
    let to = follow_at 0 total (block ∷ blocks) follow k there.0 in
    let begins = there.1 block in
    let is = to.2 block in
    record { at = to.0; follow = to.1; count = omega (arith, begins, is) }

-- and their bytes lie before it
follow_located : (table : ℕ → Option BlockEntry) (at total : ℕ) (ids : List ℕ) (blocks : List LocatedBlock) → LocatesBlocks table at total ids blocks
    → Follow at total blocks
follow_located table at total [] [] located = located
follow_located table at total [] (block ∷ blocks) located = absurd located
follow_located table at total (id ∷ ids) [] located = absurd located
follow_located table at total (id ∷ ids) (block ∷ blocks) located =
    (located.0.2.offset, follow_located table (at + block.b.num_bytes) total ids blocks located.1)

pub located_follow : (table : ℕ → Option BlockEntry) (total : ℕ) (ids : List ℕ) (blocks : List LocatedBlock) → LocatesBlocks table 0 total ids blocks
    → Follow 0 total blocks
located_follow table total ids blocks located = follow_located table 0 total ids blocks located

module _ (s : Shown) (p : Picture) (told : s.picture ≡ Some p) (ids : List ℕ) (total : ℕ) (content : List ℕ) (offset end : ℕ) (out0 out : List ℕ)
    (range : offset ≤ end) where
  left_skip : (block : LocatedBlock) (rest : List LocatedBlock) → Left p ids total content (block ∷ rest) offset end out0 out
      → block.offset + block.b.num_bytes ≤ offset → Left p ids total content rest offset end out0 out
  left_skip block rest left before =
      left_next s s p told (only_reads_refl s) ids total content block rest offset end out0 out left out range
      (λ g holds long.
      (let none : min end (block.offset + length g) - max offset block.offset ≡ 0 = omega (arith, before, long) in
      sym (ap (λ (l : List ℕ). out ++ l) (none_to_read g (offset - block.offset) (min end (block.offset + length g) - max offset block.offset) none)
      ∙ append-nil out)))

  left_at : (blocks : List LocatedBlock) → Left p ids total content blocks offset end out0 out → (k : ℕ) (d : LocatedBlock) → k < length blocks
      → (get_or blocks k d).offset ≤ offset → Left p ids total content (drop k blocks) offset end out0 out
  left_at [] left k d low begins = absurd (omega (arith, low))
  left_at (block ∷ blocks) left zero d low begins = left
  left_at (block ∷ blocks) left (suc k) d low begins =
      let follow = follow_located p.table left.at total left.others (block ∷ blocks) left.located in
      let first = follow.0 in
      let next = begins_behind (left.at + block.b.num_bytes) total blocks follow.1 k d (omega (arith, low)) in
      left_at blocks (left_skip block blocks left (omega (arith, first, next, begins))) k d (omega (arith, low)) begins

  pub left_from : (blocks : List LocatedBlock) → Left p ids total content blocks offset end out0 out → (k : ℕ) → BeginsBy offset blocks k
      → Left p ids total content (drop k blocks) offset end out0 out
  left_from blocks left k (inl none) = subst (λ (i : ℕ). Left p ids total content (drop i blocks) offset end out0 out) (sym none) left
  left_from [] left k (inr there) = absurd (let low = there.0 in omega (arith, low))
  left_from (block ∷ blocks) left k (inr there) = left_at (block ∷ blocks) left k block there.0 (there.1 block)

-- ---- and from a block on that begins behind it

-- all bytes of the range were given
pub left_past : (p : Picture) (ids : List ℕ) (total : ℕ) (content : List ℕ) (block : LocatedBlock) (rest : List LocatedBlock) (offset end : ℕ)
    (out0 out : List ℕ) → Left p ids total content (block ∷ rest) offset end out0 out → end ≤ block.offset
    → out ≡ out0 ++ range_of content offset (end - offset)
left_past p ids total content block rest offset end out0 out left past =
    let first = (follow_located p.table left.at total left.others (block ∷ rest) left.located).0 in
    let all : min end left.at - offset ≡ end - offset = omega (arith, first, past) in
    left.so_far ∙ ap (λ (k : ℕ). out0 ++ range_of content offset k) all
