-- What a writer of a file carries over the calls of the writer of its last block, and what the blocks of a file take up, step by step.
use Rattle.std.proofs.Common.{◌≡◌, ℕ, List, ◌++◌, sym, ◌∙◌, ap, subst, append_assoc, suc, ◌+◌, ◌-◌, ◌*◌, ◌<◌, ◌≤◌, [], ◌∷◌, length, Option, Some, None, arith}
use Rattle.std.specs.Prelude.{Contains, slice_index_or}
use Rattle.hdfs_cluster.specs.declared.picture.FileEntry.{FileEntry}
use Rattle.hdfs_cluster.specs.Effects.{blocks_at}
use Rattle.hdfs_cluster.specs.Picture.{Picture}
use Rattle.hdfs_cluster.specs.Sound.{IsSound, IsFileAt}
use Rattle.hdfs_block_reader.specs.Carrying.{HoldsWhole}
use Rattle.hdfs_rebuild.specs.Between.{OnlyBlockOf}
use Rattle.hdfs_block_writer.specs.BlockWriters.{Carries, length_of}
use Rattle.hdfs_block_writer.specs.OpenPipelines.{KeepsBlock, id_of}
use Rattle.hdfs_block_writer.specs.declared.block_writer.BlockWriter.{BlockWriter}
use Rattle.hdfs_file_writer.specs.OnlyFiles.{OnlyFile, SameFile}
use Rattle.hdfs_file_writer.specs.Tails.{StoresFront, FileCarries, last_of, tail_length, IsFull, taken_up, FillsBlocks, TailCarries}
use Rattle.hdfs_file_writer.specs.declared.tails.Tail.{Tail}
use Rattle.hdfs_file_writer.specs.declared.tails.Tail.TheVariants.{Done, Going, Reopened}
use Rattle.hdfs_file_writer.specs.WholeBlocks.{StaysWhole}
use Rattle.hdfs_file_writer.proofs.Adding.{not_twice}
use Rattle.hdfs_file_writer.proofs.Placing.{contains_last}
use Rattle.hdfs_file_writer.proofs.Storing.{stores_keeps}
use Rattle.hdfs_file_writer.proofs.LastBlocks.{tail_is_done}
use Rattle.hdfs_file_writer.proofs.Touching.{only_file_block, same_file_block}
use Rattle.hdfs_file_writer.proofs.WholeBlocks.{before_last, stays_kept}
use Rattle.std.proofs.Math.Nat.{suc-mul}
use Rattle.std.proofs.lemmas.List.{length-append}
use Rattle.hdfs_cluster.specs.declared.messages.Block.{Block}
use Rattle.hdfs_cluster.specs.declared.messages.LocatedBlock.{LocatedBlock}
use Rattle.hdfs_file_writer.specs.declared.file_writer.FileWriter.{FileWriter}
use Rattle.hdfs_file_writer.specs.Writers.{tail_done, tail_of, IsBetweenBlocks}

-- how the last block stands between blocks
pub tail_between : (w : FileWriter) → IsBetweenBlocks w → tail_of w ≡ tail_done (last_of w.tail)
tail_between w between = tail_is_done w.tail between.none between.done

-- the same blocks take up the same
pub fills_same : (size : ℕ) (blocks blocks' : List ℕ) (tail tail' : Tail) → blocks' ≡ blocks → tail_length tail' ≡ tail_length tail
    → FillsBlocks size blocks tail [] blocks' tail'
fills_same size blocks blocks' tail tail' same long within =
    let one : taken_up size blocks' tail' ≡ taken_up size blocks tail' = ap (λ (l : List ℕ). taken_up size l tail') same in
    let two : taken_up size blocks tail' ≡ taken_up size blocks tail = ap (λ (n : ℕ). (length blocks - 1) * size + n) long in
    (omega (arith, long, within), omega (arith, one, two))

-- the last block has these bytes more
pub fills_more : (size : ℕ) (blocks blocks' : List ℕ) (tail tail' : Tail) (more : List ℕ) → blocks' ≡ blocks
    → tail_length tail' ≡ tail_length tail + length more → tail_length tail' ≤ size → FillsBlocks size blocks tail more blocks' tail'
fills_more size blocks blocks' tail tail' more same long within before =
    let front = (length blocks - 1) * size in
    let one : taken_up size blocks' tail' ≡ taken_up size blocks tail' = ap (λ (l : List ℕ). taken_up size l tail') same in
    let two : taken_up size blocks tail' ≡ front + (tail_length tail + length more) = ap (λ (n : ℕ). front + n) long in
    (within, omega (arith, one, two))

-- one call behind another
pub fills_trans : (size : ℕ) (blocks blocks' blocks'' : List ℕ) (tail tail' tail'' : Tail) (one two : List ℕ)
    → FillsBlocks size blocks tail one blocks' tail' → FillsBlocks size blocks' tail' two blocks'' tail''
    → FillsBlocks size blocks tail (one ++ two) blocks'' tail''
fills_trans size blocks blocks' blocks'' tail tail' tail'' one two first then within =
    let f = first within in
    let t = then f.0 in
    (t.0, omega (arith, f.1, t.1, length-append one two))

-- the first block of a file takes up nothing while it is empty
first_taken : (size n n' t : ℕ) → n ≡ 0 → n' ≡ n + 1 → t ≡ 0 → (n' - 1) * size + t ≡ (n - 1) * size
first_taken size n n' t none longer empty =
    let same : n' - 1 ≡ n - 1 = omega arith in
    let one : (n' - 1) * size ≡ (n - 1) * size = ap (λ (k : ℕ). k * size) same in
    omega (arith, one, empty)

-- nor does one behind a full one
next_taken : (size n n' t t' : ℕ) → 0 < n → n' ≡ n + 1 → t ≡ size → t' ≡ 0 → (n' - 1) * size + t' ≡ (n - 1) * size + t
next_taken size n n' t t' some longer full empty =
    let more : n' - 1 ≡ suc (n - 1) = omega arith in
    let one : (n' - 1) * size ≡ (n - 1) * size + size = ap (λ (k : ℕ). k * size) more ∙ suc-mul (n - 1) size in
    omega (arith, one, full, empty)

-- an empty block was begun behind full ones, or is the first of its file
pub fills_grown : (p : Picture) (path : List ℕ) (size : ℕ) (blocks blocks' : List ℕ) (last : Option Block) (bytes : List ℕ) (tail' : Tail)
    → TailCarries p path blocks (tail_done last) bytes → IsFull size (tail_done last) → length blocks' ≡ length blocks + 1 → tail_length tail' ≡ 0
    → FillsBlocks size blocks (tail_done last) [] blocks' tail'
fills_grown p path size blocks blocks' None bytes tail' c full longer empty within =
    let taken = first_taken size (length blocks) (length blocks') (tail_length tail') (ap length c.0) longer empty in
    (omega (arith, empty), omega (arith, taken))
fills_grown p path size blocks blocks' (Some block) bytes tail' c full longer empty within =
    let some : 0 < length blocks = omega (arith, ap length c.1.ends, length-append c.1.front (block.block_id ∷ [])) in
    let just : block.num_bytes ≡ size = omega (arith, full, within) in
    let taken = next_taken size (length blocks) (length blocks') block.num_bytes (tail_length tail') some longer just empty in
    (omega (arith, empty), omega (arith, taken))

-- a full block that isn't gone on with is full still
pub settled_full : (size : ℕ) (w w' : FileWriter) (found : LocatedBlock) → w.tail ≡ Reopened found → w'.tail ≡ Done found.b
    → IsFull size (tail_of w) → IsFull size (tail_of w')
settled_full size w w' found reopened done full = subst (IsFull size) (sym done) (subst (IsFull size) reopened full)

-- so is one that was ended, and has this name
pub ended_full : (size : ℕ) (w w' : FileWriter) (block : BlockWriter) (named : Block) → w.tail ≡ Going block → w'.tail ≡ Done named
    → named.num_bytes ≡ length_of block → IsFull size (tail_of w) → IsFull size (tail_of w')
ended_full size w w' block named going done long full =
    subst (IsFull size) (sym done) (subst (λ (n : ℕ). size ≤ n) (sym long) (subst (IsFull size) going full))

-- the blocks before the last stay stored where the last one alone is touched
front_kept : (p q : Picture) → IsSound p → (path : List ℕ) (file : FileEntry) → IsFileAt p path file → (id : ℕ) (bytes rest : List ℕ) → OnlyBlockOf id p q → StoresFront p file.blocks id bytes rest → StoresFront q file.blocks id bytes rest
front_kept p q sound path file is id bytes rest only s = record {
  front = s.front;
  ends = s.ends;
  before = s.before;
  cut = s.cut;
  stored = stores_keeps p q s.front s.before
      (λ other there.
      (let apart = not_twice p sound path file is s.front id s.ends other there in
      (only.table other apart, λ node. only.held node other apart))) s.stored;
}

-- behind more bytes of the last block
front_more : (p : Picture) (blocks : List ℕ) (id : ℕ) (bytes rest more : List ℕ) → StoresFront p blocks id bytes rest → StoresFront p blocks id (bytes ++ more) (rest ++ more)
front_more p blocks id bytes rest more s = record {
  front = s.front;
  ends = s.ends;
  before = s.before;
  cut = ap (λ (b : List ℕ). b ++ more) s.cut ∙ append_assoc s.before rest more;
  stored = s.stored;
}

module _ (p : Picture) (sound : IsSound p) (path : List ℕ) (block : BlockWriter) (bytes : List ℕ) (c : FileCarries p path (Going block) bytes) where
  abbrev id : ℕ
  id = id_of c.carries.1.pipe

  -- the block is one of the file's
  pub own_block : Contains c.file.blocks id
  own_block = subst (λ (l : List ℕ). Contains l id) (sym c.carries.3.ends) (contains_last c.carries.3.front id)

  pub touches_own : (q : Picture) → IsSound q → OnlyBlockOf id p q → OnlyFile path p q × SameFile path p q
  touches_own q sound' only = (only_file_block path c.file id p q sound' c.named own_block only, same_file_block path id p q only)

  -- more bytes were taken
  pub going_more : (q : Picture) (block' : BlockWriter) (more : List ℕ) (on : Carries q block' (c.carries.0 ++ more))
      → KeepsBlock c.carries.1.pipe.plan on.pipe.plan → OnlyBlockOf id p q → FileCarries q path (Going block') (bytes ++ more)
  going_more q block' more on keeps only = record {
    file = c.file;
    named = only.names path ∙ c.named;
    being_written = c.being_written;
    carries = (
      c.carries.0 ++ more,
      on,
      keeps.src ∙ c.carries.2,
      subst (λ (i : ℕ). StoresFront q c.file.blocks i (bytes ++ more) (c.carries.0 ++ more)) (sym keeps.id)
          (front_more q c.file.blocks id bytes c.carries.0 more (front_kept p q sound path c.file c.named id bytes c.carries.0 only c.carries.3)),
    );
  }

  -- the block was ended
  pub going_ended : (q : Picture) (named : Block) (nodes : List (List ℕ)) → named.block_id ≡ id → OnlyBlockOf id p q
      → HoldsWhole q id named.num_bytes nodes c.carries.0 → FileCarries q path (Done named) bytes
  going_ended q named nodes same only whole = record {
    file = c.file;
    named = only.names path ∙ c.named;
    being_written = c.being_written;
    carries = (
      c.carries.0,
      subst (λ (i : ℕ). StoresFront q c.file.blocks i bytes c.carries.0) (sym same)
          (front_kept p q sound path c.file c.named id bytes c.carries.0 only c.carries.3),
      (nodes, subst (λ (i : ℕ). HoldsWhole q i named.num_bytes nodes c.carries.0) (sym same) whole),
    );
  }

  -- the blocks before it stay whole
  pub going_whole : (q : Picture) → OnlyBlockOf id p q → (size : ℕ) (tail : Tail)
      → StaysWhole size p (blocks_at (p.names path)) tail q (blocks_at (q.names path))
  going_whole q only size tail =
      let same : blocks_at (p.names path) ≡ c.file.blocks = ap blocks_at c.named in
      subst (λ (l : List ℕ). StaysWhole size p l tail q (blocks_at (q.names path))) (sym same)
      (stays_kept size p q c.file.blocks (blocks_at (q.names path)) tail (ap blocks_at (only.names path) ∙ same)
      (λ k lt.
      (let apart = before_last p sound path c.file c.named c.carries.3.front id c.carries.3.ends k lt in
      (only.table (slice_index_or c.file.blocks k 0) apart, λ node. only.held node (slice_index_or c.file.blocks k 0) apart))))
