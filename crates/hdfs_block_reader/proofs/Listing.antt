-- The list of locations that were given up.
use Rattle.std.proofs.Common.{◌≡◌, inl, inr, ⊎_elim, ℕ, zero, suc, ◌+◌, ◌<◌, ◌≤◌, List, length, sym, ◌∙◌, ap, subst, arith, below_more}
use Rattle.hdfs_cluster.specs.declared.messages.LocatedBlock.{LocatedBlock}
use Rattle.hdfs_cluster.specs.Counts.{FaultCounts, NeverFall}
use Rattle.hdfs_cluster.specs.Picture.{Picture, SameFiles}
use Rattle.hdfs_cluster.proofs.Frames.{rose_since, never_fall_refl, never_fall_trans}
use Rattle.hdfs_block_reader.specs.Blocks.{node_at, IsToBlame}
use Rattle.hdfs_block_reader.specs.Reader.{Stage, GaveUp}

-- who is to blame is so from an earlier count on, and later
pub blame_later : (picture : Picture) (block : LocatedBlock) (bytes : List ℕ) (k before before' : ℕ) (now now' : FaultCounts) → before ≤ before' → NeverFall now now' → IsToBlame picture block bytes k before' now → IsToBlame picture block bytes k before now'
blame_later picture block bytes k before before' now now' earlier later was =
    ⊎_elim (λ rose. inl (rose_since before before' (now.nodes (node_at block k)) (now'.nodes (node_at block k)) earlier rose (later.nodes (node_at block k)))) (λ short. inr short) was

-- and in a picture with the same held bytes
pub blame_before : (p q : Picture) (block : LocatedBlock) (bytes : List ℕ) (k before : ℕ) (now : FaultCounts) → SameFiles p q → IsToBlame q block bytes k before now → IsToBlame p block bytes k before now
blame_before p q block bytes k before now same was =
    ⊎_elim (λ rose. inl rose) (λ short. inr (omega (arith, short, ap length (same.held (node_at block k) block.b.block_id)))) was

-- and the other way round
pub blame_after : (p q : Picture) (block : LocatedBlock) (bytes : List ℕ) (k before : ℕ) (now : FaultCounts) → SameFiles p q → IsToBlame p block bytes k before now → IsToBlame q block bytes k before now
blame_after p q block bytes k before now same was =
    ⊎_elim (λ rose. inl rose) (λ short. inr (omega (arith, short, ap length (same.held (node_at block k) block.b.block_id)))) was

-- a list of one picture is that of a picture before it with the same held bytes
pub gave_up_before : (p q : Picture) (block : LocatedBlock) (bytes : List ℕ) (n : ℕ) (a b : Stage) → SameFiles p q → GaveUp q block bytes n a b → GaveUp p block bytes n a b
gave_up_before p q block bytes zero a b same f = f
gave_up_before p q block bytes (suc n) a b same f =
    (f.0, f.1, blame_before p q block bytes a.tried a.before f.0 same f.2, gave_up_before p q block bytes n (record { tried = a.tried + 1; before = f.0.nodes (node_at block (a.tried + 1)); counts = f.0 }) b same f.3)

module _ (picture : Picture) (block : LocatedBlock) (bytes : List ℕ) where
  -- a list may be said to begin earlier
  pub gave_up_from : (n : ℕ) (a b c : Stage) → b.tried ≡ a.tried → a.before ≤ b.before → NeverFall a.counts b.counts → GaveUp picture block bytes n b c → GaveUp picture block bytes n a c
  gave_up_from zero a b c tried before counts g = (g.0 ∙ tried, omega (arith, before, g.1), never_fall_trans a.counts b.counts c.counts counts g.2)
  gave_up_from (suc n) a b c tried before counts g = (
    g.0,
    never_fall_trans a.counts b.counts g.0 counts g.1,
    subst (λ (k : ℕ). IsToBlame picture block bytes k a.before g.0) tried (blame_later picture block bytes b.tried a.before b.before g.0 g.0 before (never_fall_refl g.0) g.2),
    subst (λ (k : ℕ). GaveUp picture block bytes n (record { tried = k + 1; before = g.0.nodes (node_at block (k + 1)); counts = g.0 }) c) tried g.3,
  )

  -- two lists one behind the other are one
  pub gave_up_trans : (n m : ℕ) (a b c : Stage) → GaveUp picture block bytes n a b → GaveUp picture block bytes m b c → (k : ℕ) × GaveUp picture block bytes k a c
  gave_up_trans zero m a b c f g = (m, gave_up_from m a b c f.0 f.1 f.2 g)
  gave_up_trans (suc n) m a b c f g =
      let rest = gave_up_trans n m (record { tried = a.tried + 1; before = f.0.nodes (node_at block (a.tried + 1)); counts = f.0 }) b c f.3 g in
      (suc rest.0, (f.0, f.1, f.2, rest.1))

  module _ (start : FaultCounts) where
    -- the link is still one that was opened since the start
    pub gave_up_opened : (n : ℕ) (a b : Stage) → NeverFall start a.counts → start.nodes (node_at block a.tried) ≤ a.before → GaveUp picture block bytes n a b → start.nodes (node_at block b.tried) ≤ b.before
    gave_up_opened zero a b since opened f =
        subst (λ (k : ℕ). start.nodes (node_at block k) ≤ b.before) (sym f.0) (let e : start.nodes (node_at block a.tried) ≤ b.before = omega (arith, opened, f.1) in e)
    gave_up_opened (suc n) a b since opened f =
        let later = never_fall_trans start a.counts f.0 since f.1 in
        gave_up_opened n (record { tried = a.tried + 1; before = f.0.nodes (node_at block (a.tried + 1)); counts = f.0 }) b later (later.nodes (node_at block (a.tried + 1))) f.3

    -- each location that was given up is to blame since the start
    pub gave_up_blamed : (n : ℕ) (a b : Stage) → NeverFall start a.counts → start.nodes (node_at block a.tried) ≤ a.before
        → ((k : ℕ) → k < a.tried → IsToBlame picture block bytes k (start.nodes (node_at block k)) a.counts) → GaveUp picture block bytes n a b
        → (k : ℕ) → k < b.tried → IsToBlame picture block bytes k (start.nodes (node_at block k)) b.counts
    gave_up_blamed zero a b since opened blamed f k lt =
        blame_later picture block bytes k (start.nodes (node_at block k)) (start.nodes (node_at block k)) a.counts b.counts (omega arith) f.2 (blamed k (omega (arith, lt, f.0)))
    gave_up_blamed (suc n) a b since opened blamed f k lt =
        let later = never_fall_trans start a.counts f.0 since f.1 in
        let same : NeverFall f.0 f.0 = never_fall_refl f.0 in
        let here = blame_later picture block bytes a.tried (start.nodes (node_at block a.tried)) a.before f.0 f.0 opened same f.2 in
        let below = λ (j : ℕ) (le : j < a.tried). blame_later picture block bytes j (start.nodes (node_at block j)) (start.nodes (node_at block j)) a.counts f.0 (omega arith) f.1 (blamed j le) in
        gave_up_blamed n (record { tried = a.tried + 1; before = f.0.nodes (node_at block (a.tried + 1)); counts = f.0 }) b later (later.nodes (node_at block (a.tried + 1)))
        (below_more (λ (j : ℕ). IsToBlame picture block bytes j (start.nodes (node_at block j)) f.0) a.tried below here) f.3 k lt
