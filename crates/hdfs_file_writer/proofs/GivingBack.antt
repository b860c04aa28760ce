-- A block that was added and is given up again leaves nothing but that the block before it has its length in the block table.
use Rattle.std.proofs.Common.{◌≡◌, ◌≢◌, ◌⊎◌, ⊎_elim, inl, inr, ℕ, ◌==◌, Bool, true, false, cond, ◌||◌, List, [], ◌∷◌, ◌++◌, length, Option, Some, None, refl, sym, ◌∙◌, ap, subst, arith}
use Rattle.std.proofs.lemmas.Bool.Decides.{nat_tests}
use Rattle.std.proofs.lemmas.List.{append_cancel_right}
use Rattle.std.specs.Prelude.{Contains, option_map}
use Rattle.hdfs_cluster.specs.declared.asks.Answer.{Answer}
use Rattle.hdfs_cluster.specs.declared.asks.Answer.TheVariants as answers
use Rattle.hdfs_cluster.specs.Asks.{abandon_block_ask}
use Rattle.hdfs_cluster.specs.declared.messages.Block.{Block}
use Rattle.hdfs_cluster.specs.declared.messages.DatanodeInfo.{DatanodeInfo}
use Rattle.hdfs_cluster.specs.declared.messages.LocatedBlock.{LocatedBlock}
use Rattle.hdfs_cluster.specs.declared.picture.BlockEntry.{BlockEntry}
use Rattle.hdfs_cluster.specs.declared.picture.Entry.{Entry}
use Rattle.hdfs_cluster.specs.declared.picture.Entry.TheVariants as entries
use Rattle.hdfs_cluster.specs.declared.picture.FileEntry.{FileEntry}
use Rattle.hdfs_cluster.specs.Effects.{Abandons, AddsBlock, AddsNew, Changes, GivesUp, IsEmptyLast, blocks_at, of_length, table_without, with_block, with_entry, with_length}
use Rattle.hdfs_cluster.specs.Namenode.{Row}
use Rattle.hdfs_cluster.specs.Picture.{Picture, SameButActive}
use Rattle.hdfs_cluster.specs.Repeating.{Repeats}
use Rattle.hdfs_cluster.specs.Sound.{IsFileAt, IsSound}
use Rattle.hdfs_cluster.proofs.GivingUp.{give_up_repeats}
use Rattle.hdfs_cluster.proofs.Repeating.{here_text, keeps_trans, same_keeps}
use Rattle.hdfs_block_reader.specs.Carrying.{HoldsWhole}
use Rattle.hdfs_file_writer.specs.OnlyFiles.{OnlyFile, SameFile}
use Rattle.hdfs_file_writer.specs.Tails.{FileCarries, TailCarries}
use Rattle.hdfs_file_writer.specs.declared.tails.Tail.{Tail}
use Rattle.hdfs_file_writer.specs.declared.tails.Tail.TheVariants.{Done}
use Rattle.hdfs_file_writer.specs.WholeBlocks.{StaysWhole}
use Rattle.hdfs_file_writer.specs.Writers.{tail_done}
use Rattle.hdfs_file_writer.proofs.Adding as adding
use Rattle.hdfs_file_writer.proofs.Placing.{at_id, at_path, contains_last}
use Rattle.hdfs_file_writer.proofs.Storing.{block_stays, stores_keeps}
use Rattle.hdfs_file_writer.proofs.Touching.{only_file_length}
use Rattle.hdfs_file_writer.proofs.WholeBlocks.{done_stays, stays_kept}

-- behind a block that is done, one more is a new one
pub adds_new : (p q : Picture) → IsSound p → (path : List ℕ) (last : Option Block) (bytes : List ℕ) (c : FileCarries p path (tail_done last) bytes)
    {excludes : List DatanodeInfo} (found : LocatedBlock) → AddsBlock path c.file last excludes found p q → AddsNew path c.file last excludes found p q
adds_new p q sound path None bytes c found adds = adding.first_new p q sound path c.file c.named c.carries.0 found adds
adds_new p q sound path (Some block) bytes c found adds =
    adding.behind_new p q sound path c.file c.named bytes block c.carries found adds

-- the names with a file at a path, at another one
entry_away : (names : List ℕ → Option Entry) (path other : List ℕ) (file : FileEntry) → other ≢ path → with_entry names path file other ≡ names other
entry_away names path other file apart =
    ⊎_elim (λ here. absurd (apart (sym here.0))) (λ away. away.1) (at_path path other (Some (entries.File file)) (names other))

-- what stands in the table without one block: none at its id, and what stood there at another
without_one : (table : ℕ → Option BlockEntry) (gone id : ℕ)
    → ((gone ≡ id) × (table_without table (gone ∷ []) id ≡ None)) ⊎ ((gone ≢ id) × (table_without table (gone ∷ []) id ≡ table id))
without_one table gone id = by_test (gone == id) refl
  where
    by_test : (t : Bool) → (gone == id) ≡ t
        → ((gone ≡ id) × (cond (t || false) None (table id) ≡ None)) ⊎ ((gone ≢ id) × (cond (t || false) None (table id) ≡ table id))
    by_test true is = inl (grind (arith, nat_tests, is), refl)
    by_test false is = inr (grind (arith, nat_tests, is), refl)

-- what isn't listed gets no length
length_absent : (table : ℕ → Option BlockEntry) (last : Option Block) (id : ℕ) → table id ≡ None → with_length table last id ≡ None
length_absent table None id none = none
length_absent table (Some block) id none =
    ⊎_elim (λ here. here.1 ∙ ap (option_map (of_length block.num_bytes)) none) (λ away. away.1 ∙ none)
    (at_id block.block_id id (option_map (of_length block.num_bytes) (table id)) (table id))

-- One more block of the file, whose pipeline wasn't set up.
module _ (p q r : Picture) (sound : IsSound p) (path : List ℕ) (last : Option Block) (bytes : List ℕ) (c : FileCarries p path (tail_done last) bytes)
    {excludes : List DatanodeInfo} (found : LocatedBlock) (added : AddsNew path c.file last excludes found p q) (same : SameButActive q r) where
  abbrev grown : FileEntry
  grown = record c.file { blocks = c.file.blocks ++ added.id ∷ [] }

  grown_at : IsFileAt r path grown
  grown_at =
      same.files.names path
      ∙ adding.named_after p q path grown (with_block (with_length p.table last) added.id added.entry) added.changes

  ends_in_it : grown.blocks ≡ c.file.blocks ++ found.b.block_id ∷ []
  ends_in_it = ap (λ (id : ℕ). c.file.blocks ++ id ∷ []) (sym added.answered.same_id)

  listed : r.table found.b.block_id ≡ Some added.entry
  listed =
      ap r.table added.answered.same_id ∙ same.files.table added.id ∙ added.changes.table added.id
      ∙ ⊎_elim (λ here. here.1) (λ away. absurd (away.0 refl))
      (at_id added.id added.id (Some added.entry) (with_length p.table last added.id))

  empty_last : IsEmptyLast r.table grown.blocks found.b
  empty_last = record { front = c.file.blocks; last = ends_in_it; entry = added.entry; is = listed; empty = added.fresh.empty }

  -- It may be given up, more than once.
  pub may_give_up : IsSound r → (client : List ℕ) (id : Option ℕ) → Repeats (abandon_block_ask found.b path client id) r
  may_give_up sound' client id =
      give_up_repeats found.b path client id r grown grown_at c.being_written empty_last
      (λ front ends has. adding.not_twice r sound' path grown grown_at front found.b.block_id ends found.b.block_id has refl)

  module _ (s : Picture) where
    has_it : Contains grown.blocks found.b.block_id
    has_it = subst (λ (l : List ℕ). Contains l found.b.block_id) (sym ends_in_it) (contains_last c.file.blocks found.b.block_id)

    gone_by : Abandons path grown found.b r s → GivesUp path grown found.b r s
    gone_by (inl given) = given
    gone_by (inr kept) = absurd (kept.0 has_it)

    is_grown : (file : FileEntry) → IsFileAt r path file → file ≡ grown
    is_grown file at = cc (at, grown_at)

    -- then it is gone
    pub given_up : (client : List ℕ) (id : Option ℕ) (answer : Answer) → Row r (abandon_block_ask found.b path client id) answer s
        → GivesUp path grown found.b r s
    given_up client id answers.AbandonBlock row =
        gone_by (subst (λ (file : FileEntry). Abandons path file found.b r s) (is_grown row.0 row.1) row.3)
    given_up client id answer row = absurd row

    module _ (given : GivesUp path grown found.b r s) where
      front_same : given.gone.front ≡ c.file.blocks
      front_same = append_cancel_right given.gone.front c.file.blocks (found.b.block_id ∷ []) (sym given.gone.last ∙ ends_in_it)

      abbrev shorter : FileEntry
      shorter = record grown { blocks = given.gone.front }

      is_file : shorter ≡ c.file
      is_file = ap (λ (l : List ℕ). record c.file { blocks = l }) front_same

      name_here : s.names path ≡ with_entry p.names path c.file path
      name_here =
          given.changes.names path ∙ here_text path (Some (entries.File shorter)) (r.names path)
          ∙ ap (λ (f : FileEntry). Some (entries.File f)) is_file ∙ sym (here_text path (Some (entries.File c.file)) (p.names path))

      name_away : (other : List ℕ) → other ≢ path → s.names other ≡ with_entry p.names path c.file other
      name_away other apart =
          given.changes.names other ∙ entry_away r.names path other shorter apart ∙ same.files.names other ∙ added.changes.names other
          ∙ entry_away p.names path other grown apart ∙ sym (entry_away p.names path other c.file apart)

      names_back : (other : List ℕ) → s.names other ≡ with_entry p.names path c.file other
      names_back other =
          ⊎_elim (λ here. subst (λ (o : List ℕ). s.names o ≡ with_entry p.names path c.file o) here.0 name_here)
          (λ away. name_away other away.0) (at_path path other (p.names path) (p.names path))

      entry_there : (other : ℕ) → found.b.block_id ≢ other → r.table other ≡ with_length p.table last other
      entry_there other apart =
          same.files.table other ∙ added.changes.table other
          ∙ ⊎_elim (λ here. absurd (apart (added.answered.same_id ∙ here.0))) (λ away. away.1)
          (at_id added.id other (Some added.entry) (with_length p.table last other))

      table_back : (other : ℕ) → s.table other ≡ with_length p.table last other
      table_back other =
          given.changes.table other
          ∙ ⊎_elim
          (λ here. here.1 ∙ sym (length_absent p.table last other (ap p.table (sym here.0 ∙ added.answered.same_id) ∙ added.fresh.absent)))
          (λ away. away.1 ∙ entry_there other away.0)
          (without_one r.table found.b.block_id other)

      -- and all is what it was but for that length
      pub given_back : Changes p s (with_entry p.names path c.file) (with_length p.table last)
      given_back = record {
        names = names_back;
        table = table_back;
        bytes = keeps_trans p r s (keeps_trans p q r added.changes.bytes (same_keeps q r same)) given.changes.bytes;
      }

-- A file whose last block that is done has its length in the block table is carried as it was.
module _ (p q : Picture) (sound : IsSound p) (path : List ℕ) (file : FileEntry) (is : IsFileAt p path file) (block : Block) (bytes : List ℕ)
    (tail : TailCarries p path file.blocks (Done block) bytes)
    (changes : Changes p q (with_entry p.names path file) (with_length p.table (Some block))) where
  abbrev whole : HoldsWhole p block.block_id block.num_bytes tail.2.0 tail.0
  whole = tail.2.1

  kept_front : (other : ℕ) → Contains tail.1.front other → q.table other ≡ p.table other
  kept_front other there =
      changes.table other
      ∙ adding.length_other p q sound path file is bytes block tail other
      (adding.not_twice p sound path file is tail.1.front block.block_id tail.1.ends other there)

  pub tail_back : TailCarries q path file.blocks (Done block) bytes
  tail_back = (
    tail.0,
    record {
      front = tail.1.front;
      ends = tail.1.ends;
      before = tail.1.before;
      cut = tail.1.cut;
      stored = stores_keeps p q tail.1.front tail.1.before
          (λ other there. (kept_front other there, λ node. changes.bytes.held node other)) tail.1.stored;
    },
    (
      tail.2.0,
      record {
        entry = of_length block.num_bytes whole.entry;
        is =
            changes.table block.block_id
            ∙ adding.length_own p q sound path file is bytes block tail;
        stores = block_stays p q block.block_id (of_length block.num_bytes whole.entry) tail.0
            (λ node. changes.bytes.held node block.block_id) whole.stores;
        whole = λ k d lt. changes.bytes.held _ block.block_id ∙ whole.whole k d lt;
        some = whole.some;
        same_listed = whole.same_listed;
      },
    ),
  )

-- lengths are set of no other file's blocks
lengths_away : (p : Picture) → IsSound p → (path : List ℕ) (last : Option Block) (bytes : List ℕ) (c : FileCarries p path (tail_done last) bytes)
    (other : ℕ) → (Contains c.file.blocks other → ⊥) → with_length p.table last other ≡ p.table other
lengths_away p sound path None bytes c other away = refl
lengths_away p sound path (Some block) bytes c other away =
    adding.length_away p p sound path c.file c.named bytes block c.carries other away

module _ (p q : Picture) (sound : IsSound p) (path : List ℕ) where
  pub back_only : (last : Option Block) (bytes : List ℕ) (c : FileCarries p path (tail_done last) bytes)
      → Changes p q (with_entry p.names path c.file) (with_length p.table last) → OnlyFile path p q
  back_only last bytes c changes =
      only_file_length p q path c.file c.named last (lengths_away p sound path last bytes c) c.file refl changes

  pub back_named : (file : FileEntry) (table : ℕ → Option BlockEntry) → Changes p q (with_entry p.names path file) table → IsFileAt q path file
  back_named file table changes = adding.named_after p q path file table changes

  pub back_same : (file : FileEntry) (table : ℕ → Option BlockEntry) → IsFileAt p path file → Changes p q (with_entry p.names path file) table
      → SameFile path p q
  back_same file table is changes file' is' =
      let same : file ≡ file' = cc (is, is') in
      subst (λ (f : FileEntry). (blocks : List ℕ) × IsFileAt q path (record f { blocks = blocks })) same
      (file.blocks, back_named file table changes)

  pub back_carries : (last : Option Block) (bytes : List ℕ) (c : FileCarries p path (tail_done last) bytes)
      → Changes p q (with_entry p.names path c.file) (with_length p.table last) → FileCarries q path (tail_done last) bytes
  back_carries None bytes c changes =
      record { file = c.file; named = back_named c.file p.table changes; being_written = c.being_written; carries = c.carries }
  back_carries (Some block) bytes c changes = record {
    file = c.file;
    named = back_named c.file (with_length p.table (Some block)) changes;
    being_written = c.being_written;
    carries = tail_back p q sound path c.file c.named block bytes c.carries changes;
  }

  back_stays : (last : Option Block) (bytes : List ℕ) (c : FileCarries p path (tail_done last) bytes)
      → Changes p q (with_entry p.names path c.file) (with_length p.table last) → (size : ℕ) (tail : Tail)
      → StaysWhole size p c.file.blocks tail q c.file.blocks
  back_stays None bytes c changes size tail =
      stays_kept size p q c.file.blocks c.file.blocks tail refl (λ k lt. absurd (omega (arith, lt, ap (λ (l : List ℕ). length l) c.carries.0)))
  back_stays (Some block) bytes c changes size tail =
      done_stays p q sound path c.file c.named block bytes c.carries (λ other there. changes.table other) changes.bytes.held size tail

  pub back_whole : (last : Option Block) (bytes : List ℕ) (c : FileCarries p path (tail_done last) bytes)
      → Changes p q (with_entry p.names path c.file) (with_length p.table last) → (size : ℕ) (tail : Tail)
      → StaysWhole size p (blocks_at (p.names path)) tail q (blocks_at (q.names path))
  back_whole last bytes c changes size tail =
      subst (λ (l : List ℕ). StaysWhole size p l tail q (blocks_at (q.names path))) (sym (ap blocks_at c.named))
      (subst (StaysWhole size p c.file.blocks tail q) (sym (ap blocks_at (back_named c.file (with_length p.table last) changes)))
      (back_stays last bytes c changes size tail))

  pub back_blocks : (file : FileEntry) (table : ℕ → Option BlockEntry) → IsFileAt p path file → Changes p q (with_entry p.names path file) table
      → blocks_at (q.names path) ≡ blocks_at (p.names path)
  back_blocks file table is changes = ap blocks_at (back_named file table changes ∙ sym is)
