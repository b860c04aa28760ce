-- What the asks of a writer of a file do to what it carries.
use Rattle.std.proofs.Common.{◌≡◌, ◌≢◌, ⊎_elim, ℕ, ◌+◌, ◌<◌, List, [], ◌∷◌, ◌++◌, length, take, Option, Some, None, refl, sym, ◌∙◌, ap, subst, arith}
use Rattle.std.proofs.lemmas.List.{append-nil, length-append, get_or-append-add, get_or_append_left, get_or_default}
use Rattle.std.specs.Prelude.{Contains, slice_index_or, IsSome, option_map}
use Rattle.hdfs_cluster.specs.declared.messages.Block.{Block}
use Rattle.hdfs_cluster.specs.declared.messages.DatanodeInfo.{DatanodeInfo}
use Rattle.hdfs_cluster.specs.declared.messages.LocatedBlock.{LocatedBlock}
use Rattle.hdfs_cluster.specs.declared.picture.BlockEntry.{BlockEntry}
use Rattle.hdfs_cluster.specs.declared.picture.Entry.TheVariants as entries
use Rattle.hdfs_cluster.specs.declared.picture.FileEntry.{FileEntry}
use Rattle.hdfs_cluster.specs.Effects.{Changes, of_length, with_length, with_block, with_entry, IsLast, IsRetried, AddsNew, AddsBlock}
use Rattle.hdfs_cluster.specs.Picture.{Picture}
use Rattle.hdfs_cluster.specs.Sending.{uuids}
use Rattle.hdfs_cluster.specs.Sound.{IsSound, IsFileAt, IsBlockAt}
use Rattle.hdfs_cluster.specs.Stores.{StoresBlocks}
use Rattle.hdfs_block_reader.specs.Carrying.{HoldsWhole}
use Rattle.hdfs_file_writer.specs.Tails.{StoresFront, TailCarries}
use Rattle.hdfs_file_writer.specs.declared.tails.Tail.TheVariants.{Done}
use Rattle.hdfs_file_writer.proofs.Others.{is_listed}
use Rattle.hdfs_file_writer.proofs.Placing.{at_path, at_id, some_none, push_same, contains_last, contains_left}
use Rattle.hdfs_file_writer.proofs.Storing.{block_stays, stores_keeps, stores_push}

-- no block stands before itself in a file
pub not_twice : (p : Picture) → IsSound p → (path : List ℕ) (file : FileEntry) → IsFileAt p path file → (front : List ℕ) (id : ℕ) → file.blocks ≡ front ++ id ∷ [] → (other : ℕ) → Contains front other → other ≢ id
not_twice p sound path file is front id ends other there same =
    let long : length file.blocks ≡ length front + 1 = ap length ends ∙ length-append front (id ∷ []) in
    let early : IsBlockAt p path there.0 id = record {
      file = file;
      named = is;
      below = omega (arith, there.1, long);
      is = ap (λ (l : List ℕ). slice_index_or l there.0 0) ends ∙ get_or_append_left front (id ∷ []) 0 there.0 there.1 ∙ get_or_default front there.0 0 other there.1 ∙ there.2 ∙ same;
    } in
    let late : IsBlockAt p path (length front) id = record {
      file = file;
      named = is;
      below = omega (arith, long);
      is = ap (λ (l : List ℕ). slice_index_or l (length front) 0) ends ∙ ap (λ (i : ℕ). slice_index_or (front ++ id ∷ []) i 0) (omega arith) ∙ get_or-append-add front (id ∷ []) 0 0;
    } in
    absurd (omega (arith, there.1, (sound.once path path there.0 (length front) id early late).1))

-- the file as it is named in a picture with an entry at its path
pub named_after : (p q : Picture) (path : List ℕ) (file : FileEntry) (table : ℕ → Option BlockEntry) → Changes p q (with_entry p.names path file) table → IsFileAt q path file
named_after p q path file table changes =
    changes.names path ∙ ⊎_elim (λ here. here.1) (λ away. absurd (away.0 refl)) (at_path path path (Some (entries.File file)) (p.names path))

-- a file whose blocks store its bytes has a new one behind them, which stores none
module _ (p q : Picture) (sound : IsSound p) (path : List ℕ) (file : FileEntry) (is : IsFileAt p path file) (previous : Option Block) (bytes : List ℕ) {excludes : List DatanodeInfo} (found : LocatedBlock) (added : AddsNew path file previous excludes found p q)
    (stored : ((other : ℕ) → Contains file.blocks other → q.table other ≡ with_length p.table previous other) → StoresBlocks q file.blocks bytes) where
  abbrev pub grown_file : FileEntry
  grown_file = record file { blocks = file.blocks ++ added.id ∷ [] }

  -- a block that is listed isn't the new one
  pub not_new : (other : ℕ) → IsSome (p.table other) → added.id ≢ other
  not_new other listed same = some_none (p.table added.id) (subst (λ (i : ℕ). IsSome (p.table i)) (sym same) listed) added.fresh.absent

  old_table : (other : ℕ) → IsSome (p.table other) → q.table other ≡ with_length p.table previous other
  old_table other listed = added.changes.table other ∙ ⊎_elim (λ here. absurd (not_new other listed here.0)) (λ away. away.1) (at_id added.id other (Some added.entry) (with_length p.table previous other))

  new_held : (k : ℕ) (d : List ℕ) → k < length added.entry.nodes → q.held (slice_index_or added.entry.nodes k d) added.id ≡ []
  new_held k d lt = added.changes.bytes.held (slice_index_or added.entry.nodes k d) added.id ∙ added.fresh.bare k d lt

  new_whole : HoldsWhole q added.id 0 added.entry.nodes []
  new_whole = record {
    entry = added.entry;
    is = added.changes.table added.id ∙ ⊎_elim (λ here. here.1) (λ away. absurd (away.0 refl)) (at_id added.id added.id (Some added.entry) (with_length p.table previous added.id));
    stores = record {
      length = refl;
      prefixes = λ k d lt. new_held k d lt ∙ ap (λ (b : List ℕ). take (length b) []) (sym (new_held k d lt));
      whole = (0, slice_index_or added.entry.nodes 0 [], added.fresh.some, get_or_default added.entry.nodes 0 (slice_index_or added.entry.nodes 0 []) [] added.fresh.some, new_held 0 [] added.fresh.some);
    };
    whole = new_held;
    some = added.fresh.some;
    same_listed = refl;
  }

  pub grown_named : IsFileAt q path grown_file
  grown_named = named_after p q path grown_file (with_block (with_length p.table previous) added.id added.entry) added.changes

  pub grown_front : StoresFront q grown_file.blocks added.id bytes []
  grown_front = record {
    front = file.blocks;
    ends = refl;
    before = bytes;
    cut = sym (append-nil bytes);
    stored = stored (λ other there. old_table other (is_listed p sound path file other is there));
  }

  -- the datanodes that are answered hold the new block, which is listed on them
  pub new_located : HoldsWhole q found.b.block_id 0 (uuids found.locs) []
  new_located = subst (λ (i : ℕ). HoldsWhole q i 0 (uuids found.locs) []) (sym added.answered.same_id) (subst (λ (ns : List (List ℕ)). HoldsWhole q added.id 0 ns []) (sym added.answered.nodes) new_whole)

  pub new_front : StoresFront q grown_file.blocks found.b.block_id bytes []
  new_front = subst (λ (i : ℕ). StoresFront q grown_file.blocks i bytes []) (sym added.answered.same_id) grown_front

-- the first block of a file
module _ (p q : Picture) (sound : IsSound p) (path : List ℕ) (file : FileEntry) (is : IsFileAt p path file) (none : file.blocks ≡ []) where
  pub first_retried : (last : ℕ) → IsRetried p.table file.blocks None last → ⊥
  first_retried last again = absurd (omega (arith, ap length (sym again.last ∙ none), length-append again.front (last ∷ [])))

  -- is a new one
  pub first_new : {excludes : List DatanodeInfo} (found : LocatedBlock) → AddsBlock path file None excludes found p q → AddsNew path file None excludes found p q
  first_new found adds = ⊎_elim (λ again. absurd (first_retried again.id again.retried)) (λ added. added) adds

  pub first_stored : (bytes : List ℕ) → bytes ≡ [] → ((other : ℕ) → Contains file.blocks other → q.table other ≡ with_length p.table None other) → StoresBlocks q file.blocks bytes
  first_stored bytes empty table = subst (λ (ids : List ℕ). StoresBlocks q ids bytes) (sym none) empty

-- a block behind the last one, and the end of a file
module _ (p q : Picture) (sound : IsSound p) (path : List ℕ) (file : FileEntry) (is : IsFileAt p path file) (bytes : List ℕ) (block : Block)
    (tail : TailCarries p path file.blocks (Done block) bytes) where
  abbrev id : ℕ
  id = block.block_id

  abbrev whole : HoldsWhole p id block.num_bytes tail.2.0 tail.0
  whole = tail.2.1

  apart_front : (other : ℕ) → Contains tail.1.front other → other ≢ id
  apart_front other there = not_twice p sound path file is tail.1.front id tail.1.ends other there

  pub length_other : (other : ℕ) → other ≢ id → with_length p.table (Some block) other ≡ p.table other
  length_other other apart = ⊎_elim (λ here. absurd (apart (sym here.0))) (λ away. away.1) (at_id id other (option_map (of_length block.num_bytes) (p.table other)) (p.table other))

  pub length_own : with_length p.table (Some block) id ≡ Some (of_length block.num_bytes whole.entry)
  length_own = ⊎_elim
      (λ here. here.1 ∙ ap (option_map (of_length block.num_bytes)) whole.is)
      (λ away. absurd (away.0 refl))
      (at_id id id (option_map (of_length block.num_bytes) (p.table id)) (p.table id))

  -- it is one of the file's, and its last one
  pub has_last : Contains file.blocks id
  has_last = subst (λ (l : List ℕ). Contains l id) (sym tail.1.ends) (contains_last tail.1.front id)

  -- with the length set, all blocks so far store all bytes so far
  pub all_stored : ((other : ℕ) → Contains file.blocks other → q.table other ≡ with_length p.table (Some block) other) → ((node : List ℕ) (other : ℕ) → q.held node other ≡ p.held node other) → StoresBlocks q file.blocks bytes
  all_stored table held =
      let stored : StoresBlocks q tail.1.front tail.1.before = stores_keeps p q tail.1.front tail.1.before
      (λ other there. (
        table other (subst (λ (l : List ℕ). Contains l other) (sym tail.1.ends) (contains_left tail.1.front (id ∷ []) other there)) ∙ length_other other (apart_front other there),
        λ node. held node other,
      )) tail.1.stored in
      subst (λ (l : List ℕ). StoresBlocks q l bytes) (sym tail.1.ends)
      (subst (StoresBlocks q (tail.1.front ++ id ∷ [])) (sym tail.1.cut)
      (stores_push q tail.1.front tail.1.before id (of_length block.num_bytes whole.entry) tail.0 stored (table id has_last ∙ length_own)
      (block_stays p q id (of_length block.num_bytes whole.entry) tail.0 (λ node. held node id) whole.stores)))

  -- the length of no other file's block is set
  pub length_away : (other : ℕ) → (Contains file.blocks other → ⊥) → with_length p.table (Some block) other ≡ p.table other
  length_away other away = length_other other (λ same. away (subst (Contains file.blocks) (sym same) has_last))

  pub ends_in_last : IsLast file.blocks (Some block)
  ends_in_last = (tail.1.front, tail.1.ends)

  -- the last block isn't given again: what is named is the last one itself
  pub never_again : (last : ℕ) → IsRetried p.table file.blocks (Some block) last → ⊥
  never_again last again =
      let same : last ≡ id = push_same file.blocks again.front tail.1.front last id again.last tail.1.ends in
      let there : Contains again.front id = subst (λ (l : List ℕ). Contains l id) (sym again.behind.1) (contains_last again.behind.0 id) in
      not_twice p sound path file is again.front last again.last id there (sym same)

  pub behind_new : {excludes : List DatanodeInfo} (found : LocatedBlock) → AddsBlock path file (Some block) excludes found p q
      → AddsNew path file (Some block) excludes found p q
  behind_new found adds = ⊎_elim (λ again. absurd (never_again again.id again.retried)) (λ added. added) adds
