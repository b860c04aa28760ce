-- What calls make of the blocks of a file that are done.
use Rattle.std.proofs.Common.{◌≡◌, ◌≢◌, ⊎_elim, ℕ, ◌+◌, ◌<◌, ◌≤◌, List, [], ◌∷◌, ◌++◌, length, Option, Some, None, IsSome, refl, sym, ◌∙◌, ap, subst, arith}
use Rattle.std.proofs.lemmas.List.{length-append, get_or-append-add, get_or_append_left, get_or_default}
use Rattle.std.specs.Prelude.{All, Contains, slice_index_or}
use Rattle.hdfs_cluster.specs.declared.messages.Block.{Block}
use Rattle.hdfs_cluster.specs.declared.messages.DatanodeInfo.{DatanodeInfo}
use Rattle.hdfs_cluster.specs.declared.messages.LocatedBlock.{LocatedBlock}
use Rattle.hdfs_cluster.specs.declared.picture.FileEntry.{FileEntry}
use Rattle.hdfs_cluster.specs.Effects.{of_length, with_length, with_block, blocks_at, AddsNew, AddsBlock}
use Rattle.hdfs_cluster.specs.Picture.{Picture}
use Rattle.hdfs_cluster.specs.Sound.{IsSound, IsFileAt}
use Rattle.hdfs_block_reader.specs.Carrying.{HoldsWhole}
use Rattle.hdfs_file_writer.specs.Tails.{tail_length, IsFull, TailCarries, FileCarries}
use Rattle.hdfs_file_writer.specs.declared.tails.Tail.{Tail}
use Rattle.hdfs_file_writer.specs.declared.tails.Tail.TheVariants.{Done}
use Rattle.hdfs_file_writer.specs.WholeBlocks.{StaysWhole, ClosesWhole}
use Rattle.hdfs_cluster.specs.WholeBlocks.{IsWhole, IsOfSize, IsUpTo, AllBehind, AllBetween}
use Rattle.hdfs_file_writer.specs.Writers.{tail_done}
use Rattle.hdfs_file_writer.proofs.Adding as adding
use Rattle.hdfs_file_writer.proofs.Others.{is_listed}
use Rattle.hdfs_file_writer.proofs.Placing.{at_id, some_none}

-- a block stays, and so does what datanodes hold of it
abbrev pub IsKept : Picture → Picture → ℕ → Type 0
IsKept p q id = (q.table id ≡ p.table id) × ((node : List ℕ) → q.held node id ≡ p.held node id)

-- one that stays is whole still
pub whole_kept : (p q : Picture) (id : ℕ) → IsKept p q id → IsWhole p id → IsWhole q id
whole_kept p q id kept w = record {
  entry = w.entry;
  is = kept.0 ∙ w.is;
  whole = λ k d lt. ap (λ (b : List ℕ). length b) (kept.1 (slice_index_or w.entry.nodes k d)) ∙ w.whole k d lt;
}

-- and of the same size
pub size_kept : (p q : Picture) (size id : ℕ) → IsKept p q id → IsOfSize p size id → IsOfSize q size id
size_kept p q size id kept s = record { entry = s.entry; is = kept.0 ∙ s.is; just = s.just }

pub up_to_kept : (p q : Picture) (size id : ℕ) → IsKept p q id → IsUpTo p size id → IsUpTo q size id
up_to_kept p q size id kept s = record { entry = s.entry; is = kept.0 ∙ s.is; most = s.most }

-- the blocks before the last stay
pub stays_kept : (size : ℕ) (p q : Picture) (blocks blocks' : List ℕ) (tail : Tail) → blocks' ≡ blocks
    → ((k : ℕ) → k + 1 < length blocks → IsKept p q (slice_index_or blocks k 0)) → StaysWhole size p blocks tail q blocks'
stays_kept size p q blocks blocks' tail same kept = subst (StaysWhole size p blocks tail q) (sym same) (record {
  whole = λ from all k least lt. whole_kept p q (slice_index_or blocks k 0) (kept k lt) (all k least lt);
  full = λ within from all k least lt. size_kept p q size (slice_index_or blocks k 0) (kept k lt) (all k least lt);
})

-- Behind the blocks that a file had there is none between them and the last: of a created file that is so from the first one on.
pub none_between : (P : ℕ → Type 0) (blocks : List ℕ) (from : ℕ) → length blocks ≤ from + 1 → AllBetween P from blocks
none_between P blocks from few k least lt = absurd (omega (arith, few, least, lt))

-- nothing was done
pub stays_unchanged : (size : ℕ) (p : Picture) (blocks : List ℕ) (tail : Tail) → StaysWhole size p blocks tail p blocks
stays_unchanged size p blocks tail = record { whole = λ from all. all; full = λ within from all. all }

-- one call behind another
pub stays_trans : (size : ℕ) (p q r : Picture) (blocks blocks' blocks'' : List ℕ) (tail tail' : Tail) → (tail_length tail ≤ size → tail_length tail' ≤ size)
    → StaysWhole size p blocks tail q blocks' → StaysWhole size q blocks' tail' r blocks'' → StaysWhole size p blocks tail r blocks''
stays_trans size p q r blocks blocks' blocks'' tail tail' short one two = record {
  whole = λ from all. two.whole from (one.whole from all);
  full = λ within from all. two.full (short within) from (one.full within from all);
}

-- a close behind another call
pub closes_trans : (size : ℕ) (p q r : Picture) (blocks blocks' blocks'' : List ℕ) (tail tail' : Tail) → (tail_length tail ≤ size → tail_length tail' ≤ size)
    → StaysWhole size p blocks tail q blocks' → ClosesWhole size q blocks' tail' r blocks'' → ClosesWhole size p blocks tail r blocks''
closes_trans size p q r blocks blocks' blocks'' tail tail' short one two = record {
  whole = λ from all. two.whole from (one.whole from all);
  full = λ within from all. two.full (short within) from (one.full within from all);
  last = λ within. two.last (short within);
}

-- what was closed stays
pub closes_kept : (size : ℕ) (p q r : Picture) (blocks blocks' : List ℕ) (tail : Tail) → ((id : ℕ) → IsKept q r id)
    → ClosesWhole size p blocks tail q blocks' → ClosesWhole size p blocks tail r blocks'
closes_kept size p q r blocks blocks' tail kept one = record {
  whole = λ from all k least lt. whole_kept q r (slice_index_or blocks' k 0) (kept (slice_index_or blocks' k 0)) (one.whole from all k least lt);
  full = λ within from all k least lt.
      size_kept q r size (slice_index_or blocks' k 0) (kept (slice_index_or blocks' k 0)) (one.full within from all k least lt);
  last = λ within k at. up_to_kept q r size (slice_index_or blocks' k 0) (kept (slice_index_or blocks' k 0)) (one.last within k at);
}

-- the last of these blocks, by its place
last_at : (blocks front : List ℕ) (id : ℕ) → blocks ≡ front ++ id ∷ [] → (k : ℕ) → k + 1 ≡ length blocks → slice_index_or blocks k 0 ≡ id
last_at blocks front id ends k at =
    let same : k ≡ length front + 0 = omega (arith, at, ap length ends, length-append front (id ∷ [])) in
    ap (λ (l : List ℕ). slice_index_or l k 0) ends ∙ ap (λ (i : ℕ). slice_index_or (front ++ id ∷ []) i 0) same
    ∙ get_or-append-add front (id ∷ []) 0 0

-- all are so where the last one is, and those before it were
pub behind_last : (P Q : ℕ → Type 0) (blocks front : List ℕ) (id : ℕ) → blocks ≡ front ++ id ∷ []
    → ((k : ℕ) → k + 1 < length blocks → P (slice_index_or blocks k 0) → Q (slice_index_or blocks k 0)) → Q id
    → (from : ℕ) → AllBetween P from blocks → AllBehind Q from blocks
behind_last P Q blocks front id ends kept own from all k least lt = ⊎_elim
    (λ at. subst Q (sym (last_at blocks front id ends k at.0)) own)
    (λ apart. (let before : k + 1 < length blocks = omega (arith, apart.0, lt) in kept k before (all k least before)))
    (at_id {X = ℕ} (k + 1) (length blocks) 0 0)

-- all but the last are so where all before it are
pub before_new : (Q : ℕ → Type 0) (blocks : List ℕ) (id from : ℕ) → AllBehind Q from blocks → AllBetween Q from (blocks ++ id ∷ [])
before_new Q blocks id from all k least lt =
    let before : k < length blocks = omega (arith, lt, length-append blocks (id ∷ [])) in
    subst Q (sym (get_or_append_left blocks (id ∷ []) 0 k before)) (all k least before)

-- no block before the last is the last
pub before_last : (p : Picture) → IsSound p → (path : List ℕ) (file : FileEntry) → IsFileAt p path file → (front : List ℕ) (id : ℕ)
    → file.blocks ≡ front ++ id ∷ [] → (k : ℕ) → k + 1 < length file.blocks → slice_index_or file.blocks k 0 ≢ id
before_last p sound path file is front id ends k lt =
    let other = slice_index_or file.blocks k 0 in
    let before : k < length front = omega (arith, lt, ap length ends, length-append front (id ∷ [])) in
    let at : other ≡ slice_index_or front k 0 = ap (λ (l : List ℕ). slice_index_or l k 0) ends ∙ get_or_append_left front (id ∷ []) 0 k before in
    adding.not_twice p sound path file is front id ends other (k, before, get_or_default front k other 0 before ∙ sym at)

-- a block at a place of the file is one of its blocks
block_at : (blocks : List ℕ) (k : ℕ) → k < length blocks → Contains blocks (slice_index_or blocks k 0)
block_at blocks k lt = (k, lt, get_or_default blocks k (slice_index_or blocks k 0) 0 lt)

-- the last block gets its length, and datanodes hold what they held
module _ (p q : Picture) (sound : IsSound p) (path : List ℕ) (file : FileEntry) (is : IsFileAt p path file) (block : Block) (bytes : List ℕ)
    (tail : TailCarries p path file.blocks (Done block) bytes)
    (table : (other : ℕ) → Contains file.blocks other → q.table other ≡ with_length p.table (Some block) other)
    (held : (node : List ℕ) (other : ℕ) → q.held node other ≡ p.held node other) where
  abbrev last : HoldsWhole p block.block_id block.num_bytes tail.2.0 tail.0
  last = tail.2.1

  own_table : q.table block.block_id ≡ Some (of_length block.num_bytes last.entry)
  own_table =
      table block.block_id (adding.has_last p q sound path file is bytes block tail)
      ∙ adding.length_own p q sound path file is bytes block tail

  kept_before : (k : ℕ) → k + 1 < length file.blocks → IsKept p q (slice_index_or file.blocks k 0)
  kept_before k lt = (
    table (slice_index_or file.blocks k 0) (block_at file.blocks k (omega (arith, lt)))
        ∙ adding.length_other p q sound path file is bytes block tail (slice_index_or file.blocks k 0)
        (before_last p sound path file is tail.1.front block.block_id tail.1.ends k lt),
    λ node. held node (slice_index_or file.blocks k 0),
  )

  last_whole : IsWhole q block.block_id
  last_whole =
      let all : All (λ node. p.held node block.block_id ≡ tail.0) last.entry.nodes =
      subst (λ (ns : List (List ℕ)). All (λ node. p.held node block.block_id ≡ tail.0) ns) (sym last.same_listed) last.whole in record {
        entry = of_length block.num_bytes last.entry;
        is = own_table;
        whole = λ k d lt.
            ap (λ (b : List ℕ). length b) (held (slice_index_or last.entry.nodes k d) block.block_id ∙ all k d lt) ∙ last.stores.length;
      }

  -- then all are whole
  pub all_whole : (from : ℕ) → AllBetween (IsWhole p) from file.blocks → AllBehind (IsWhole q) from file.blocks
  all_whole = behind_last (IsWhole p) (IsWhole q) file.blocks tail.1.front block.block_id tail.1.ends
      (λ k lt whole. whole_kept p q (slice_index_or file.blocks k 0) (kept_before k lt) whole) last_whole

  -- and those before the last stay
  pub done_stays : (size : ℕ) (done : Tail) → StaysWhole size p file.blocks done q file.blocks
  done_stays size done = stays_kept size p q file.blocks file.blocks done refl kept_before

  -- all are of the size that the last one has
  pub all_full : (size : ℕ) → block.num_bytes ≡ size → (from : ℕ) → AllBetween (IsOfSize p size) from file.blocks
      → AllBehind (IsOfSize q size) from file.blocks
  all_full size just = behind_last (IsOfSize p size) (IsOfSize q size) file.blocks tail.1.front block.block_id tail.1.ends
      (λ k lt full. size_kept p q size (slice_index_or file.blocks k 0) (kept_before k lt) full)
      (record { entry = of_length block.num_bytes last.entry; is = own_table; just = just })

  -- with the last block the file is whole
  pub all_closed : (size : ℕ) → ClosesWhole size p file.blocks (Done block) q file.blocks
  all_closed size = record {
    whole = all_whole;
    full = (stays_kept size p q file.blocks file.blocks (Done block) refl kept_before).full;
    last = λ within k at.
        subst (IsUpTo q size) (sym (last_at file.blocks tail.1.front block.block_id tail.1.ends k at))
        (record { entry = of_length block.num_bytes last.entry; is = own_table; most = within });
  }

-- the table has for the old blocks what it had, with the length of the last one
pub old_table : (p q : Picture) (path : List ℕ) (file : FileEntry) (previous : Option Block) {excludes : List DatanodeInfo} (found : LocatedBlock)
    (added : AddsNew path file previous excludes found p q) (other : ℕ) → IsSome (p.table other) → q.table other ≡ with_length p.table previous other
old_table p q path file previous found added other some =
    added.changes.table other
    ∙ ⊎_elim
    (λ here. absurd (some_none (p.table other) some (ap p.table (sym here.0) ∙ added.fresh.absent)))
    (λ apart. apart.1)
    (at_id added.id other (Some added.entry) (with_length p.table previous other))

-- the first block of a file has none before it
stays_first : (size : ℕ) (p q : Picture) (blocks : List ℕ) (tail : Tail) (id : ℕ) → blocks ≡ [] → StaysWhole size p blocks tail q (blocks ++ id ∷ [])
stays_first size p q blocks tail id none =
    let one : length (blocks ++ id ∷ []) ≡ 1 = ap (λ (l : List ℕ). length (l ++ id ∷ [])) none in record {
      whole = λ from all k least lt. absurd (omega (arith, lt, one));
      full = λ within from all k least lt. absurd (omega (arith, lt, one));
    }

-- a file without blocks is whole
pub closes_none : (size : ℕ) (p q : Picture) (blocks : List ℕ) (tail : Tail) → blocks ≡ [] → ClosesWhole size p blocks tail q blocks
closes_none size p q blocks tail none =
    let no : length blocks ≡ 0 = ap (λ (l : List ℕ). length l) none in record {
      whole = λ from all k least lt. absurd (omega (arith, lt, no));
      full = λ within from all k least lt. absurd (omega (arith, lt, no));
      last = λ within k at. absurd (omega (arith, at, no));
    }

-- a new block stands behind full ones
stays_behind : (p q : Picture) (sound : IsSound p) (path : List ℕ) (file : FileEntry) (is : IsFileAt p path file) (block : Block) (bytes : List ℕ)
    (tail : TailCarries p path file.blocks (Done block) bytes) {excludes : List DatanodeInfo} (found : LocatedBlock)
    (added : AddsNew path file (Some block) excludes found p q) (size : ℕ) → size ≤ block.num_bytes
    → StaysWhole size p file.blocks (Done block) q (file.blocks ++ added.id ∷ [])
stays_behind p q sound path file is block bytes tail found added size full =
    let table : (other : ℕ) → Contains file.blocks other → q.table other ≡ with_length p.table (Some block) other =
    λ other there. old_table p q path file (Some block) found added other (is_listed p sound path file other is there) in record {
      whole = λ from all. before_new (IsWhole q) file.blocks added.id from
          (all_whole p q sound path file is block bytes tail table added.changes.bytes.held from all);
      full = λ within from all. before_new (IsOfSize q size) file.blocks added.id from
          (all_full p q sound path file is block bytes tail table added.changes.bytes.held size (omega (arith, full, within)) from all);
    }

-- the blocks of a file that has one more
grown_blocks : (p q : Picture) (path : List ℕ) (file : FileEntry) (previous : Option Block) {excludes : List DatanodeInfo} (found : LocatedBlock)
    (added : AddsNew path file previous excludes found p q) → blocks_at (q.names path) ≡ file.blocks ++ added.id ∷ []
grown_blocks p q path file previous found added =
    ap blocks_at (adding.named_after p q path (record file { blocks = file.blocks ++ added.id ∷ [] })
    (with_block (with_length p.table previous) added.id added.entry) added.changes)

-- a block more of a file
pub stays_grown : (p q : Picture) → IsSound p → (path : List ℕ) (last : Option Block) (bytes : List ℕ) (c : FileCarries p path (tail_done last) bytes)
    {excludes : List DatanodeInfo} (found : LocatedBlock) → AddsBlock path c.file last excludes found p q → (size : ℕ) → IsFull size (tail_done last)
    → StaysWhole size p c.file.blocks (tail_done last) q (blocks_at (q.names path))
stays_grown p q sound path None bytes c found adds size full =
    let new = adding.first_new p q sound path c.file c.named c.carries.0 found adds in
    subst (StaysWhole size p c.file.blocks (tail_done None) q) (sym (grown_blocks p q path c.file None found new))
    (stays_first size p q c.file.blocks (tail_done None) new.id c.carries.0)
stays_grown p q sound path (Some block) bytes c found adds size full =
    let new = adding.behind_new p q sound path c.file c.named bytes block c.carries found adds in
    subst (StaysWhole size p c.file.blocks (tail_done (Some block)) q) (sym (grown_blocks p q path c.file (Some block) found new))
    (stays_behind p q sound path c.file c.named block bytes c.carries found new size full)
