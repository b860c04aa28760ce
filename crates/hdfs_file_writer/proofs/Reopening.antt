-- A file that is opened to be gone on with is carried with the bytes that it stored.
use Rattle.std.proofs.Common.{take-append-drop, ◌≡◌, ⊎_elim, ℕ, ◌<◌, true, List, [], ◌∷◌, ◌++◌, length, take, drop, Option, Some, None, refl, sym, ◌∙◌, ap, subst, arith, append_assoc}
use Rattle.std.proofs.lemmas.List.{append-nil, length-map, length-append, length-take-le, take-append-le, drop-append-le, get_or_default}
use Rattle.std.specs.Prelude.{Contains, slice_index_or}
use Rattle.hdfs_cluster.specs.declared.messages.LocatedBlock.{LocatedBlock}
use Rattle.hdfs_cluster.specs.declared.picture.BlockEntry.{BlockEntry}
use Rattle.hdfs_cluster.specs.declared.picture.FileEntry.{FileEntry}
use Rattle.hdfs_cluster.specs.Effects.{Opens, Reopens, with_block}
use Rattle.hdfs_cluster.specs.Picture.{Picture}
use Rattle.hdfs_cluster.specs.Sending.{uuids}
use Rattle.hdfs_cluster.specs.Sound.{IsSound, IsFileAt}
use Rattle.hdfs_cluster.specs.Stores.{HoldsPrefix, StoresBlock, StoresBlocks}
use Rattle.hdfs_block_reader.specs.Carrying.{HoldsWhole}
use Rattle.hdfs_file_writer.specs.Tails.{FileCarries}
use Rattle.hdfs_file_writer.specs.Writers.{tail_opened}
use Rattle.hdfs_file_writer.proofs.Adding.{not_twice, named_after}
use Rattle.hdfs_file_writer.proofs.Placing.{at_id}
use Rattle.hdfs_file_writer.proofs.Storing.{stores_keeps, all_taken, none_left}

-- the last of the blocks that store bytes stores the last of them
pub record LastStored (p : Picture) (front : List ℕ) (id : ℕ) (bytes : List ℕ) : Type 0 where
  pub before : List ℕ
  pub rest : List ℕ
  pub cut : bytes ≡ before ++ rest
  pub stored : StoresBlocks p front before
  pub entry : BlockEntry
  pub is : p.table id ≡ Some entry
  pub stores : StoresBlock p id entry rest

last_stored : (p : Picture) (front : List ℕ) (id : ℕ) (bytes : List ℕ) → StoresBlocks p (front ++ id ∷ []) bytes → LastStored p front id bytes
last_stored p [] id bytes s = record {
  before = [];
  rest = take s.0.length bytes;
  cut = sym (take-append-drop s.0.length bytes) ∙ ap (λ (l : List ℕ). take s.0.length bytes ++ l) s.4 ∙ append-nil (take s.0.length bytes);
  stored = refl;
  entry = s.0;
  is = s.1;
  stores = s.3;
}
last_stored p (first ∷ front) id bytes s =
    let n = s.0.length in
    let here = take n bytes in
    let long : length here ≡ n = length-take-le n bytes s.2 in
    let behind = last_stored p front id (drop n bytes) s.4 in
    let begins : take n (here ++ behind.before) ≡ here = take-append-le n here behind.before (omega (arith, long)) ∙ all_taken here n long in
    let ends : drop n (here ++ behind.before) ≡ behind.before =
    drop-append-le n here behind.before (omega (arith, long)) ∙ ap (λ (l : List ℕ). l ++ behind.before) (none_left here n long) in
    record {
      before = here ++ behind.before;
      rest = behind.rest;
      cut = sym (take-append-drop n bytes) ∙ ap (λ (l : List ℕ). here ++ l) behind.cut ∙ sym (append_assoc here behind.before behind.rest);
      stored = (
        s.0,
        s.1,
        omega (arith, length-append here behind.before, long),
        subst (StoresBlock p first s.0) (sym begins) s.3,
        subst (StoresBlocks p front) (sym ends) behind.stored,
      );
      entry = behind.entry;
      is = behind.is;
      stores = behind.stores;
    }

same_entry : (o : Option BlockEntry) (e f : BlockEntry) → o ≡ Some e → o ≡ Some f → e ≡ f
same_entry o e f one other = cc (one, other)

-- the block that is gone on with is held whole by those that are named for it
module _ (p q : Picture) (id : ℕ) (block : LocatedBlock) (entry entry' : BlockEntry) (rest : List ℕ) (again : Reopens p id block entry entry') (stores : StoresBlock p id entry rest)
    (held : (node : List ℕ) (other : ℕ) → q.held node other ≡ p.held node other) (table : q.table id ≡ Some entry') where
  held_before : (k : ℕ) (d : List ℕ) (lt : k < length (uuids block.locs)) → p.held (slice_index_or (uuids block.locs) k d) id ≡ rest
  held_before k d lt =
      let node = slice_index_or (uuids block.locs) k d in
      let listed = again.listed k d lt in
      let prefix : HoldsPrefix (λ n. p.held n id) rest node =
      subst (HoldsPrefix (λ n. p.held n id) rest) listed.2 (stores.prefixes listed.0 node listed.1) in
      prefix ∙ all_taken rest (length (p.held node id)) (stores.length ∙ sym (again.whole k d lt))

  held_whole : (k : ℕ) (d : List ℕ) → k < length (uuids block.locs) → q.held (slice_index_or (uuids block.locs) k d) id ≡ rest
  held_whole k d lt = held (slice_index_or (uuids block.locs) k d) id ∙ held_before k d lt

  some_nodes : 0 < length (uuids block.locs)
  some_nodes = omega (arith, again.some, length-map block.locs (λ node. node.id.datanode_uuid))

  nodes_now : entry'.nodes ≡ uuids block.locs
  nodes_now = ap (λ (e : BlockEntry). e.nodes) again.now

  prefixes_now : (k : ℕ) (d : List ℕ) → k < length (uuids block.locs) → HoldsPrefix (λ n. q.held n id) rest (slice_index_or (uuids block.locs) k d)
  prefixes_now k d lt =
      held_whole k d lt ∙ sym (all_taken rest (length (q.held (slice_index_or (uuids block.locs) k d) id)) (ap length (sym (held_whole k d lt))))

  pub reopened_whole : HoldsWhole q id block.b.num_bytes (uuids block.locs) rest
  reopened_whole = record {
    entry = entry';
    is = table;
    stores = subst (λ (e : BlockEntry). StoresBlock q id (record e { length = block.b.num_bytes }) rest) (sym again.now) (record {
      length = stores.length ∙ sym again.same_length;
      prefixes = prefixes_now;
      whole = (0, slice_index_or (uuids block.locs) 0 [], some_nodes, get_or_default (uuids block.locs) 0 (slice_index_or (uuids block.locs) 0 []) [] some_nodes, held_whole 0 [] some_nodes);
    });
    whole = held_whole;
    some = some_nodes;
    same_listed = nodes_now;
  }

-- a file that was just opened to be gone on with has the bytes that it stored while it was closed
pub opened_carries : (p q : Picture) → IsSound p → (path bytes : List ℕ) (file : FileEntry) → IsFileAt p path file → StoresBlocks p file.blocks bytes → (block : Option LocatedBlock) → Opens path file block p q
    → FileCarries q path (tail_opened block None) bytes
opened_carries p q sound path bytes file is stored None opens = record {
  file = record file { is_open = true };
  named = named_after p q path (record file { is_open = true }) p.table opens.1;
  being_written = refl;
  carries = (opens.0, subst (λ (ids : List ℕ). StoresBlocks p ids bytes) opens.0 stored);
}
opened_carries p q sound path bytes file is stored (Some block) opens =
    let front = opens.0 in
    let id = opens.1 in
    let entry' = opens.3 in
    let ends = opens.4 in
    let again = opens.5 in
    let changes = opens.6 in
    let last = last_stored p front id bytes (subst (λ (ids : List ℕ). StoresBlocks p ids bytes) ends stored) in
    let same : last.entry ≡ opens.2 = same_entry (p.table id) last.entry opens.2 last.is again.is in
    let stores : StoresBlock p id opens.2 last.rest = subst (λ (e : BlockEntry). StoresBlock p id e last.rest) same last.stores in
    let table : q.table id ≡ Some entry' = changes.table id ∙ ⊎_elim (λ here. here.1) (λ away. absurd (away.0 refl)) (at_id id id (Some entry') (p.table id)) in
    let other_table : (other : ℕ) → Contains front other → q.table other ≡ p.table other =
    λ other there. changes.table other ∙ ⊎_elim
    (λ here. absurd (not_twice p sound path file is front id ends other there (sym here.0)))
    (λ away. away.1)
    (at_id id other (Some entry') (p.table other)) in
    record {
      file = record file { is_open = true };
      named = named_after p q path (record file { is_open = true }) (with_block p.table id entry') changes;
      being_written = refl;
      carries = (
        last.rest,
        record {
          front = front;
          ends = ends ∙ ap (λ (i : ℕ). front ++ i ∷ []) (sym again.same_id);
          before = last.before;
          cut = last.cut;
          stored = stores_keeps p q front last.before (λ other there. (other_table other there, λ node. changes.bytes.held node other)) last.stored;
        },
        subst (λ (i : ℕ). HoldsWhole q i block.b.num_bytes (uuids block.locs) last.rest) (sym again.same_id)
            (reopened_whole p q id block opens.2 entry' last.rest again stores changes.bytes.held table),
      );
    }
