-- A new reader over a told picture.
use Rattle.std.proofs.Common.{◌≡◌, ℕ, ◌<◌, ◌≤◌, List, length, Option, Some, None, sym, subst, arith}
use Rattle.hdfs_cluster.specs.Picture.{Picture}
use Rattle.hdfs_cluster.specs.Shown.{Shown}
use Rattle.hdfs_cluster.specs.Stores.{HoldsPrefix}
use Rattle.hdfs_cluster.proofs.Frames.{never_fall_refl}
use Rattle.hdfs_block_reader.specs.Blocks.{node_at, node_count}
use Rattle.hdfs_block_reader.specs.Reader.{block_of, end_of, link_of, tried_of, ShowsBlock, Over, before_link}
use Rattle.hdfs_block_reader.specs.declared.block_read.BlockRead.{BlockRead}

-- a reader without a link finds its block shown where each listed node holds a prefix of its bytes
pub shows_new : (shown : Shown) (reader : BlockRead) (bytes : List ℕ) (picture : Picture) → link_of reader ≡ None → shown.picture ≡ Some picture → end_of reader ≤ length bytes
    → ((k : ℕ) → k < node_count (block_of reader) → HoldsPrefix (λ node. picture.held node (block_of reader).b.block_id) bytes (node_at (block_of reader) k)) → ShowsBlock shown reader bytes
shows_new shown reader bytes picture idle told within prefixes = record {
  picture = picture;
  told = told;
  within = within;
  prefixes = prefixes;
  placed = λ link is. absurd (cc (idle, is));
}

-- and a new one has given nothing up
pub over_new : (shown : Shown) (reader : BlockRead) (bytes : List ℕ) → link_of reader ≡ None → tried_of reader ≡ 0 → ShowsBlock shown reader bytes → Over shown.counts shown reader bytes
over_new shown reader bytes idle new shows = record {
  shows = shows;
  since = never_fall_refl shown.counts;
  opened = subst (λ (link : Option ℕ). shown.counts.nodes (node_at reader.block (tried_of reader)) ≤ before_link shown link (shown.counts.nodes (node_at reader.block (tried_of reader)))) (sym idle) (omega arith);
  blamed = λ k lt. absurd (omega (arith, lt, new));
}
