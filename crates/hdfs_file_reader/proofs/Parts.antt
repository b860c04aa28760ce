-- A range of a file from the parts that its blocks give.
use Rattle.std.proofs.Common.{◌≡◌, ◌⊎◌, inl, inr, ⊎_elim, ℕ, ◌+◌, ◌-◌, ◌<◌, ◌≤◌, min, max, List, [], ◌∷◌, ◌++◌, length, take, drop, get_or, Some, refl, sym, ◌∙◌, ap, subst, arith, append_assoc}
use Rattle.std.proofs.lemmas.Bool.{cases_lt}
use Rattle.std.proofs.lemmas.List.{append-nil, length-map, drop-drop, length-drop, length-take}
use Rattle.hdfs_cluster.specs.declared.messages.LocatedBlock.{LocatedBlock}
use Rattle.hdfs_cluster.specs.declared.picture.BlockEntry.{BlockEntry}
use Rattle.hdfs_cluster.specs.declared.errors.HdfsError.{HdfsError}
use Rattle.hdfs_cluster.specs.declared.errors.HdfsError.TheVariants as errors
use Rattle.hdfs_cluster.specs.declared.errors.TransferFault.TheVariants as transfer
use Rattle.hdfs_cluster.specs.Counts.{Rose}
use Rattle.hdfs_cluster.specs.Picture.{Picture, SameFiles}
use Rattle.hdfs_cluster.specs.Namenode.{LocatesBlock, LocatesBlocks}
use Rattle.hdfs_cluster.specs.Shown.{Shown, OnlyReads}
use Rattle.hdfs_cluster.specs.Reading.{range_of}
use Rattle.hdfs_cluster.specs.Stores.{StoresBlock, StoresBlocks, HoldsPrefix}
use Rattle.hdfs_cluster.specs.Lost.{LiesAt, AllFailed, ByteLost}
use Rattle.hdfs_cluster.proofs.Frames.{told_after, rose_since}
use Rattle.hdfs_block_reader.specs.Blocks.{node_at, node_count}
use Rattle.hdfs_block_reader.specs.Reader.{AllBlamed, IsRead}
use Rattle.hdfs_block_reader.proofs.Ranges.{range_of-range}
use Rattle.hdfs_file_reader.specs.Ranges.{HoldsBlock, FailsAt, LiesIn, part_of}
use Rattle.hdfs_file_reader.proofs.Pieces.{range_of-append}

pub none_to_read : (bytes : List ℕ) (from count : ℕ) → count ≡ 0 → range_of bytes from count ≡ []
none_to_read bytes from count is = ap (range_of bytes from) is

-- The part of one more block is joined to the range that the blocks before it gave.
module _ (content g out0 out out' : List ℕ) (at n offset end : ℕ) (range : offset ≤ end) (slice : g ≡ range_of content at n) (long : length g ≡ n) (so_far : out ≡ out0 ++ range_of content offset (min end at - offset)) (joined : out' ≡ out ++ part_of g at offset end) where
  same_range : min end at - offset ≡ min end (at + n) - offset → min end (at + length g) - max offset at ≡ 0 → out' ≡ out0 ++ range_of content offset (min end (at + n) - offset)
  same_range same none =
      joined ∙ ap (λ (l : List ℕ). out ++ l) (none_to_read g (offset - at) (min end (at + length g) - max offset at) none) ∙ append-nil out ∙ so_far ∙ ap (λ (k : ℕ). out0 ++ range_of content offset k) same

  more_range : (w c : ℕ) → w ≡ max offset at → min end (at + length g) - max offset at ≡ c → w - at + c ≤ n → (offset ≤ at × (min end at ≡ at) × (at + c ≡ min end (at + n))) ⊎ ((at < offset) × (min end at - offset ≡ 0) × (c ≡ min end (at + n) - offset)) → out' ≡ out0 ++ range_of content offset (min end (at + n) - offset)
  more_range w c is count fits cases =
      let behind : at ≤ w = omega arith in
      let from : offset - at ≡ w - at = omega arith in
      let part : part_of g at offset end ≡ range_of content w c =
      ap (λ (k : ℕ). range_of g k (min end (at + length g) - max offset at)) from ∙ ap (range_of g (w - at)) count ∙ ap (λ (b : List ℕ). range_of b (w - at) c) slice ∙ range_of-range content at n w c behind fits in
      let all : out' ≡ out0 ++ (range_of content offset (min end at - offset) ++ range_of content w c) =
      joined ∙ ap (λ (l : List ℕ). out ++ l) part ∙ ap (λ (l : List ℕ). l ++ range_of content w c) so_far ∙ append_assoc out0 (range_of content offset (min end at - offset)) (range_of content w c) in
      all ∙ ap (λ (l : List ℕ). out0 ++ l) (⊎_elim
      (λ h. (let w_is : w ≡ at = omega (arith, h.0, is) in
      ap (λ (k : ℕ). range_of content offset (k - offset) ++ range_of content w c) h.1 ∙ ap (λ (x : ℕ). range_of content offset (at - offset) ++ range_of content x c) w_is ∙ range_of-append content offset at c h.0 ∙ ap (λ (k : ℕ). range_of content offset (k - offset)) h.2))
      (λ h. (let w_is : w ≡ offset = omega (arith, h.0, is) in
      ap (λ (k : ℕ). range_of content offset k ++ range_of content w c) h.1 ∙ ap (λ (x : ℕ). range_of content x c) w_is ∙ ap (range_of content offset) h.2))
      cases)

  part_join : out' ≡ out0 ++ range_of content offset (min end (at + n) - offset)
  part_join =
      ⊎_elim
      (λ before. ⊎_elim
      (λ inside. ⊎_elim
      (λ offset_in. more_range offset (min end (at + n) - offset) (omega (arith, offset_in)) (omega (arith, offset_in, long)) (omega (arith, offset_in, inside)) (inr (offset_in, omega (arith, offset_in), refl)))
      (λ at_in. more_range at (min end (at + n) - at) (omega (arith, at_in)) (omega (arith, at_in, long)) (omega (arith, at_in, inside)) (inl (at_in, omega (arith, before), omega (arith, before, at_in))))
      (cases_lt at offset))
      (λ past. same_range (omega (arith, past)) (omega (arith, past, long)))
      (cases_lt offset (at + n)))
      (λ done. same_range (omega (arith, done)) (omega (arith, done, long)))
      (cases_lt at end)

-- the first of some located blocks, which store these bytes
record First (p : Picture) (ids : List ℕ) (at total : ℕ) (block : LocatedBlock) (blocks : List LocatedBlock) (bytes : List ℕ) : Type 0 where
  id : ℕ
  others : List ℕ
  are : ids ≡ id ∷ others
  entry : BlockEntry
  is : p.table id ≡ Some entry
  locates : LocatesBlock entry at id block
  fits : entry.length ≤ length bytes
  stores : StoresBlock p id entry (take entry.length bytes)
  rest_located : LocatesBlocks p.table (at + block.b.num_bytes) total others blocks
  rest_stored : StoresBlocks p others (drop entry.length bytes)

first_of : (p : Picture) (ids : List ℕ) (at total : ℕ) (block : LocatedBlock) (blocks : List LocatedBlock) (bytes : List ℕ) → LocatesBlocks p.table at total ids (block ∷ blocks) → StoresBlocks p ids bytes → First p ids at total block blocks bytes
first_of p [] at total block blocks bytes located stored = absurd located
first_of p (id ∷ others) at total block blocks bytes located stored =
    let same : stored.0 ≡ located.0.0 = cc (stored.1, located.0.1) in
    record {
      id = id;
      others = others;
      are = refl;
      entry = stored.0;
      is = stored.1;
      locates = subst (λ (e : BlockEntry). LocatesBlock e at id block) (sym same) located.0.2;
      fits = stored.2;
      stores = stored.3;
      rest_located = located.1;
      rest_stored = stored.4;
    }

-- What is left of a file: blocks from an offset on that store its rest, and what was read before it.
pub record Left (p : Picture) (ids : List ℕ) (total : ℕ) (content : List ℕ) (rest : List LocatedBlock) (offset end : ℕ) (out0 out : List ℕ) : Type 0 where
  pub at : ℕ
  pub others : List ℕ
  pub located : LocatesBlocks p.table at total others rest
  pub stored : StoresBlocks p others (drop at content)
  pub lies : (id x : ℕ) → LiesAt p.table at others id x → LiesAt p.table 0 ids id x
  pub within : at ≤ length content
  pub so_far : out ≡ out0 ++ range_of content offset (min end at - offset)

pub left_start : (p : Picture) (ids : List ℕ) (total : ℕ) (content : List ℕ) (blocks : List LocatedBlock) (offset end : ℕ) (out : List ℕ) → LocatesBlocks p.table 0 total ids blocks → StoresBlocks p ids content → Left p ids total content blocks offset end out out
left_start p ids total content blocks offset end out located stored = record {
  at = 0;
  others = ids;
  located = located;
  stored = stored;
  lies = λ id x h. h;
  within = omega arith;
  so_far = sym (ap (λ (l : List ℕ). out ++ l) (none_to_read content offset (min end 0 - offset) (omega arith)) ∙ append-nil out);
}

pub left_end : (p : Picture) (ids : List ℕ) (total : ℕ) (content : List ℕ) (offset end : ℕ) (out0 out : List ℕ) → end ≤ length content → Left p ids total content [] offset end out0 out → out ≡ out0 ++ range_of content offset (end - offset)
left_end p ids total content offset end out0 out within left =
    let empty = nothing_left left.others left.located left.stored in
    let all : min end left.at - offset ≡ end - offset = omega (arith, within, ap length empty, length-drop left.at content) in
    left.so_far ∙ ap (λ (k : ℕ). out0 ++ range_of content offset k) all
  where
    nothing_left : (is : List ℕ) → LocatesBlocks p.table left.at total is [] → StoresBlocks p is (drop left.at content) → drop left.at content ≡ []
    nothing_left [] located stored = stored
    nothing_left (i ∷ is) located stored = absurd located

-- The first block of what is left, at a time from the start on which only reads were made.
module _ (start now : Shown) (p : Picture) (told : start.picture ≡ Some p) (only : OnlyReads start now) (ids : List ℕ) (total : ℕ) (content : List ℕ) (block : LocatedBlock) (rest : List LocatedBlock) (offset end : ℕ) (out0 out : List ℕ)
    (left : Left p ids total content (block ∷ rest) offset end out0 out) where
  first : First p left.others left.at total block rest (drop left.at content)
  first = first_of p left.others left.at total block rest (drop left.at content) left.located left.stored

  abbrev bytes_of_first : List ℕ
  bytes_of_first = take first.entry.length (drop left.at content)

  there : (q : Picture) × (now.picture ≡ Some q) × SameFiles p q
  there = told_after SameFiles start.picture now.picture p only.files told

  node_is : (k : ℕ) → node_at block k ≡ get_or first.entry.nodes k []
  node_is k = ap (λ (ns : List (List ℕ)). get_or ns k []) first.locates.nodes

  count_is : length first.entry.nodes ≡ node_count block
  count_is = sym (ap length first.locates.nodes) ∙ length-map block.locs (λ d. d.id.datanode_uuid)

  -- what a node holds of it, in a picture with the same files
  held_is : (q : Picture) (k : ℕ) → SameFiles p q → q.held (node_at block k) block.b.block_id ≡ p.held (get_or first.entry.nodes k []) first.id
  held_is q k same = same.held (node_at block k) block.b.block_id ∙ ap (λ (x : ℕ). p.held (node_at block k) x) first.locates.same_id ∙ ap (λ (d : List ℕ). p.held d first.id) (node_is k)

  holds_first : HoldsBlock now block bytes_of_first
  holds_first = record {
    picture = there.0;
    told = there.1;
    prefixes = λ k lt.
        let here : HoldsPrefix (λ n. p.held n first.id) bytes_of_first (get_or first.entry.nodes k []) = first.stores.prefixes k [] (omega (arith, lt, count_is)) in
        subst (λ (l : List ℕ). l ≡ take (length l) bytes_of_first) (sym (held_is there.0 k there.2)) here;
  }

  first_long : length bytes_of_first ≡ first.entry.length
  first_long = omega (arith, length-take first.entry.length (drop left.at content), first.fits)

  num_is : block.b.num_bytes ≡ first.entry.length
  num_is = first.locates.length

  pub left_next : (out' : List ℕ) → offset ≤ end → ((g : List ℕ) → HoldsBlock now block g → length g ≡ block.b.num_bytes → out' ≡ out ++ part_of g block.offset offset end) → Left p ids total content rest offset end out0 out'
  left_next out' range gives =
      let joined : out' ≡ out ++ part_of bytes_of_first left.at offset end =
      subst (λ (a : ℕ). out' ≡ out ++ part_of bytes_of_first a offset end) first.locates.offset (gives bytes_of_first holds_first (omega (arith, first_long, num_is))) in
      record {
        at = left.at + first.entry.length;
        others = first.others;
        located = subst (λ (k : ℕ). LocatesBlocks p.table (left.at + k) total first.others rest) num_is first.rest_located;
        stored = subst (StoresBlocks p first.others) (drop-drop first.entry.length left.at content) first.rest_stored;
        lies = λ id x h. left.lies id x (subst (λ (l : List ℕ). LiesAt p.table left.at l id x) (sym first.are) (inr (first.entry, first.is, h)));
        within = omega (arith, first.fits, length-drop left.at content, left.within);
        so_far = part_join content bytes_of_first out0 out out' left.at first.entry.length offset end range refl first_long left.so_far joined;
      }

  -- a byte that its nodes did not give is lost
  first_lost : (new : Shown) (byte : ℕ) → OnlyReads now new → LiesIn block offset end byte → ((g : List ℕ) → HoldsBlock now block g → length g ≡ block.b.num_bytes → AllBlamed now.counts new block g) → ByteLost p ids offset end (AllFailed start.counts new.counts p) byte
  first_lost new byte only' lies blames =
      let blamed = blames bytes_of_first holds_first (omega (arith, first_long, num_is)) in
      let after = told_after SameFiles now.picture new.picture there.0 only'.files there.1 in
      let offset_is = first.locates.offset in
      record {
        id = first.id;
        at = left.at;
        lies = left.lies first.id left.at (subst (λ (l : List ℕ). LiesAt p.table left.at l first.id left.at) (sym first.are) (inl (refl, refl)));
        entry = first.entry;
        is = first.is;
        behind = omega (arith, lies.behind, offset_is);
        before = omega (arith, lies.before, offset_is);
        inside = omega (arith, lies.inside, num_is);
        all_failed = λ k below whole.
            (let held : after.0.held (node_at block k) block.b.block_id ≡ p.held (get_or first.entry.nodes k []) first.id = after.2.held (node_at block k) block.b.block_id ∙ held_is there.0 k there.2 in
            ⊎_elim
            (λ rose. subst (λ (d : List ℕ). Rose (start.counts.nodes d) (new.counts.nodes d)) (node_is k)
            (rose_since (start.counts.nodes (node_at block k)) (now.counts.nodes (node_at block k)) (new.counts.nodes (node_at block k)) (new.counts.nodes (node_at block k)) (only.later.counts.nodes (node_at block k)) rose (omega arith)))
            (λ short. absurd (omega (arith, short, ap length held, whole, first_long)))
            (blamed after.0 after.1 k (omega (arith, below, count_is))));
      }

  pub fails_first : (new : Shown) (e : HdfsError) → OnlyReads now new → FailsAt (LiesIn block offset end) e → (IsRead e → (g : List ℕ) → HoldsBlock now block g → length g ≡ block.b.num_bytes → AllBlamed now.counts new block g) → FailsAt (ByteLost p ids offset end (AllFailed start.counts new.counts p)) e
  fails_first new errors.NoMemory only' lies blames = tt
  fails_first new (errors.DataTransferError (transfer.Read byte)) only' lies blames = first_lost new byte only' lies (blames (λ same. absurd (cc)))
  fails_first new e only' lies blames = absurd lies
