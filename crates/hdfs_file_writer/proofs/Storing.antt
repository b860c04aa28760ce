-- Blocks that stay store what they stored, and one block more stores what it has behind them.
use Rattle.std.proofs.Common.{◌≡◌, ℕ, suc, List, [], ◌∷◌, ◌++◌, length, take, drop, refl, sym, ◌∙◌, subst, Some, arith}
use Rattle.std.proofs.lemmas.List.{length-append, take-append-le, drop-append-le, drop_all}
use Rattle.std.specs.Prelude.{Contains, slice_index_or}
use Rattle.hdfs_cluster.specs.declared.picture.BlockEntry.{BlockEntry}
use Rattle.hdfs_cluster.specs.Picture.{Picture}
use Rattle.hdfs_cluster.specs.Stores.{StoresBlock, StoresBlocks}
use Rattle.hdfs_block_reader.proofs.Prefixes.{take_whole}
use Rattle.hdfs_file_writer.specs.OnlyFiles.{KeepsBlocks}

-- a block that stays is stored still
pub block_stays : (p q : Picture) (id : ℕ) (entry : BlockEntry) (bytes : List ℕ) → ((node : List ℕ) → q.held node id ≡ p.held node id) → StoresBlock p id entry bytes → StoresBlock q id entry bytes
block_stays p q id entry bytes same s = record {
  length = s.length;
  prefixes = λ k d lt. subst (λ (b : List ℕ). b ≡ take (length b) bytes) (sym (same (slice_index_or entry.nodes k d))) (s.prefixes k d lt);
  whole = (s.whole.0, s.whole.1, s.whole.2, s.whole.3, same s.whole.1 ∙ s.whole.4);
}

pub contains_head : (id : ℕ) (ids : List ℕ) → Contains (id ∷ ids) id
contains_head id ids = (0, omega arith, refl)

pub contains_later : (id other : ℕ) (ids : List ℕ) → Contains ids other → Contains (id ∷ ids) other
contains_later id other ids h = (suc h.0, omega (arith, h.1), h.2)

-- blocks that stay store what they stored
pub stores_keeps : (p q : Picture) (ids bytes : List ℕ) → KeepsBlocks p q ids → StoresBlocks p ids bytes → StoresBlocks q ids bytes
stores_keeps p q [] bytes keeps s = s
stores_keeps p q (id ∷ ids) bytes keeps s =
    let here = keeps id (contains_head id ids) in (
      s.0,
      here.0 ∙ s.1,
      s.2,
      block_stays p q id s.0 (take s.0.length bytes) here.1 s.3,
      stores_keeps p q ids (drop s.0.length bytes) (λ other is. keeps other (contains_later id other ids is)) s.4,
    )

pub all_taken : (b : List ℕ) (n : ℕ) → length b ≡ n → take n b ≡ b
all_taken b n same = take_whole n b (omega (arith, same))

pub none_left : (b : List ℕ) (n : ℕ) → length b ≡ n → drop n b ≡ []
none_left b n same = drop_all n b (omega (arith, same))

-- one block more
pub stores_push : (p : Picture) (ids bytes : List ℕ) (id : ℕ) (entry : BlockEntry) (rest : List ℕ) → StoresBlocks p ids bytes → p.table id ≡ Some entry → StoresBlock p id entry rest → StoresBlocks p (ids ++ id ∷ []) (bytes ++ rest)
stores_push p [] bytes id entry rest s is here =
    subst (λ (b : List ℕ). StoresBlocks p (id ∷ []) (b ++ rest)) (sym s) (
      entry,
      is,
      omega (arith, here.length),
      subst (λ (b : List ℕ). StoresBlock p id entry b) (sym (all_taken rest entry.length here.length)) here,
      none_left rest entry.length here.length,
    )
stores_push p (first ∷ ids) bytes id entry rest s is here = (
  s.0,
  s.1,
  omega (arith, s.2, length-append bytes rest),
  subst (λ (b : List ℕ). StoresBlock p first s.0 b) (sym (take-append-le s.0.length bytes rest s.2)) s.3,
  subst (λ (b : List ℕ). StoresBlocks p (ids ++ id ∷ []) b) (sym (drop-append-le s.0.length bytes rest s.2)) (stores_push p ids (drop s.0.length bytes) id entry rest s.4 is here),
)
