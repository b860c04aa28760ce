-- How the blocks of an answer are made one after another.
use Rattle.std.proofs.Common.{◌≡◌, ℕ, ◌+◌, ◌<◌, ◌≤◌, ◌^◌, List, [], ◌∷◌, ◌++◌, length, drop, get_or, Option, Some, sym, ◌∙◌, ap, subst, arith}
use Rattle.std.proofs.lemmas.List.{drop_more}
use Rattle.hdfs_cluster.specs.declared.picture.BlockEntry.{BlockEntry}
use Rattle.hdfs_cluster.specs.declared.messages.LocatedBlock.{LocatedBlock}
use Rattle.hdfs_cluster.specs.Listing.{total}
use Rattle.std.specs.List.{All}
use Rattle.std.proofs.lemmas.List.Elements.{All-cons, All-nil}
use Rattle.hdfs_mem_namenode.specs.Soundness.{total_first}
use Rattle.hdfs_cluster.specs.Namenode.{LocatesBlock, LocatesBlocks, Follow}

pub LocatesBlocks-push : (table : ℕ → Option BlockEntry) (at end id : ℕ) (ids : List ℕ) (blocks : List LocatedBlock) (entry : BlockEntry) (block : LocatedBlock)
    → LocatesBlocks table at end ids blocks → table id ≡ Some entry → LocatesBlock entry end id block → LocatesBlocks table at (end + block.b.num_bytes) (ids ++ id ∷ []) (blocks ++ block ∷ [])
LocatesBlocks-push table at end id [] [] entry block so_far is here =
    ((entry, is, subst (λ (n : ℕ). LocatesBlock entry n id block) so_far here), ap (λ (n : ℕ). n + block.b.num_bytes) so_far)
LocatesBlocks-push table at end id (i ∷ ids) (b ∷ blocks) entry block so_far is here =
    (so_far.0, LocatesBlocks-push table (at + b.b.num_bytes) end id ids blocks entry block so_far.1 is here)
LocatesBlocks-push table at end id [] (b ∷ blocks) entry block so_far is here = absurd so_far
LocatesBlocks-push table at end id (i ∷ ids) [] entry block so_far is here = absurd so_far

-- what is left of the lengths, one block on
pub total_next : (table : ℕ → Option BlockEntry) (ids : List ℕ) (i at : ℕ) → i < length ids → (rest : ℕ) × (total table (drop i ids) ≡ Some rest) × (at + rest < 2 ^ 63)
    → (entry : BlockEntry) × (table (get_or ids i 0) ≡ Some entry) × (rest : ℕ) × (total table (drop (i + 1) ids) ≡ Some rest) × (at + entry.length + rest < 2 ^ 63)
total_next table ids i at within left =
    let first = total_first (table (get_or ids i 0)) (total table (drop (i + 1) ids)) left.0 (sym (ap (total table) (drop_more ids i 0 within)) ∙ left.1) in
    (first.0, first.1, first.2, first.3, omega (arith, first.4, left.2))

pub Follow_from-LocatesBlocks : (table : ℕ → Option BlockEntry) (at end : ℕ) (ids : List ℕ) (blocks : List LocatedBlock) → LocatesBlocks table at end ids blocks → Follow at end blocks
Follow_from-LocatesBlocks table at end [] [] h = h
Follow_from-LocatesBlocks table at end (id ∷ ids) (b ∷ blocks) h = (h.0.2.offset, Follow_from-LocatesBlocks table (at + b.b.num_bytes) end ids blocks h.1)
Follow_from-LocatesBlocks table at end [] (b ∷ blocks) h = absurd h
Follow_from-LocatesBlocks table at end (id ∷ ids) [] h = absurd h

-- blocks that stand one behind another end at the end, or before it
follow-le : (at end : ℕ) (blocks : List LocatedBlock) → Follow at end blocks → at ≤ end
follow-le at end [] h = omega (arith, h)
follow-le at end (b ∷ blocks) h = omega (arith, follow-le (at + b.b.num_bytes) end blocks h.1)

pub all_within : (at end : ℕ) (blocks : List LocatedBlock) → Follow at end blocks → end < 2 ^ 63 → All (λ block. block.offset + block.b.num_bytes < 2 ^ 63) blocks
all_within at end [] h below = All-nil (λ block. block.offset + block.b.num_bytes < 2 ^ 63)
all_within at end (b ∷ blocks) h below =
    All-cons (λ block. block.offset + block.b.num_bytes < 2 ^ 63) b blocks (omega (arith, h.0, follow-le (at + b.b.num_bytes) end blocks h.1)) (all_within (at + b.b.num_bytes) end blocks h.1 below)
