-- What a picture says of the blocks of files stays where the files stay.
use Rattle.std.proofs.Common.{◌≡◌, ℕ, ◌+◌, List, [], ◌∷◌, length, take, drop, get_or, sym, ◌∙◌, ap, subst, inl, inr, ⊎_elim}
use Rattle.std.proofs.lemmas.List.Elements.{All-weaker}
use Rattle.hdfs_cluster.specs.declared.picture.BlockEntry.{BlockEntry}
use Rattle.hdfs_cluster.specs.Counts.{FaultCounts}
use Rattle.hdfs_cluster.specs.Picture.{Picture, SameFiles}
use Rattle.hdfs_cluster.specs.declared.messages.LocatedBlock.{LocatedBlock}
use Rattle.hdfs_cluster.specs.Namenode.{LocatesBlocks}
use Rattle.hdfs_cluster.specs.Stores.{StoresBlocks, StoresBlock, HoldsPrefix}
use Rattle.hdfs_cluster.specs.Lost.{LiesAt, AllFailed, ByteLost}

module _ (p q : Picture) (same : SameFiles p q) where
  pub stores_block : (id : ℕ) (entry : BlockEntry) (bytes : List ℕ) → StoresBlock p id entry bytes → StoresBlock q id entry bytes
  stores_block id entry bytes h = record {
    length = h.length;
    prefixes = All-weaker (HoldsPrefix (λ node. p.held node id) bytes) (HoldsPrefix (λ node. q.held node id) bytes) (λ node was. subst (λ (l : List ℕ). l ≡ take (length l) bytes) (sym (same.held node id)) was) entry.nodes h.prefixes;
    whole = (h.whole.0, h.whole.1, h.whole.2, h.whole.3, same.held h.whole.1 id ∙ h.whole.4);
  }

  pub stores_blocks : (ids bytes : List ℕ) → StoresBlocks p ids bytes → StoresBlocks q ids bytes
  stores_blocks [] bytes h = h
  stores_blocks (id ∷ ids) bytes h = (h.0, same.table id ∙ h.1, h.2, stores_block id h.0 (take h.0.length bytes) h.3, stores_blocks ids (drop h.0.length bytes) h.4)

  pub locates_blocks : (at total : ℕ) (ids : List ℕ) (blocks : List LocatedBlock) → LocatesBlocks p.table at total ids blocks → LocatesBlocks q.table at total ids blocks
  locates_blocks at total [] [] h = h
  locates_blocks at total (id ∷ ids) (block ∷ blocks) h = ((h.0.0, same.table id ∙ h.0.1, h.0.2), locates_blocks (at + block.b.num_bytes) total ids blocks h.1)
  locates_blocks at total [] (block ∷ blocks) h = absurd h
  locates_blocks at total (id ∷ ids) [] h = absurd h

  pub lies_at : (from : ℕ) (ids : List ℕ) (id at : ℕ) → LiesAt p.table from ids id at → LiesAt q.table from ids id at
  lies_at from [] id at h = absurd h
  lies_at from (first ∷ ids) id at h =
      ⊎_elim (λ here. inl here) (λ rest. inr (rest.0, same.table first ∙ rest.1, lies_at (from + rest.0.length) ids id at rest.2)) h

  pub all_failed : (old new : FaultCounts) (id : ℕ) (entry : BlockEntry) → AllFailed old new p id entry → AllFailed old new q id entry
  all_failed old new id entry h = λ k below whole. h k below (ap length (sym (same.held (get_or entry.nodes k []) id)) ∙ whole)

  -- a byte that is lost is lost in the picture that comes later
  pub byte_lost : (ids : List ℕ) (from end : ℕ) (old new : FaultCounts) (byte : ℕ) → ByteLost p ids from end (AllFailed old new p) byte → ByteLost q ids from end (AllFailed old new q) byte
  byte_lost ids from end old new byte h = record {
    id = h.id;
    at = h.at;
    lies = lies_at 0 ids h.id h.at h.lies;
    entry = h.entry;
    is = same.table h.id ∙ h.is;
    behind = h.behind;
    before = h.before;
    inside = h.inside;
    all_failed = all_failed old new h.id h.entry h.all_failed;
  }
