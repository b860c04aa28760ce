-- A file that gets a block more, and one that is closed.
use Rattle.std.proofs.Common.{◌≡◌, ⊎_elim, ℕ, ◌+◌, true, false, Bool, List, [], ◌∷◌, ◌++◌, length, Option, Some, None, refl, sym, ◌∙◌, ap, subst, arith}
use Rattle.std.proofs.lemmas.List.{length-append}
use Rattle.std.specs.List.{list_any}
use Rattle.std.specs.Prelude.{Contains, IsSome, cond, unwrap_or}
use Rattle.std.specs.Str.{bytes_eq}
use Rattle.hdfs_names.specs.Paths.{ancestors}
use Rattle.hdfs_cluster.specs.Asks.{add_block_ask}
use Rattle.hdfs_cluster.specs.declared.messages.Block.{Block}
use Rattle.hdfs_cluster.specs.declared.messages.DatanodeInfo.{DatanodeInfo}
use Rattle.hdfs_cluster.specs.declared.messages.LocatedBlock.{LocatedBlock}
use Rattle.hdfs_cluster.specs.declared.picture.Entry.{Entry}
use Rattle.hdfs_cluster.specs.declared.picture.Entry.TheVariants as entries
use Rattle.hdfs_cluster.specs.declared.picture.FileEntry.{FileEntry}
use Rattle.hdfs_cluster.specs.Effects.{Changes, Creates, AddsBlock, HasBlock, IsLast, IsRetried, ClosesIf, Completes, blocks_at, with_entry, with_length}
use Rattle.hdfs_cluster.specs.Files.{File}
use Rattle.hdfs_cluster.specs.Picture.{Picture}
use Rattle.hdfs_cluster.specs.Sending.{uuids}
use Rattle.hdfs_cluster.specs.Sound.{IsSound, IsFileAt}
use Rattle.hdfs_cluster.specs.Stores.{AgreesAt, StoresBlocks}
use Rattle.hdfs_cluster.specs.Repeating.{Repeats}
use Rattle.hdfs_cluster.proofs.Repeating.{add_repeats}
use Rattle.hdfs_block_reader.specs.Carrying.{HoldsWhole}
use Rattle.hdfs_file_writer.specs.OnlyFiles.{OnlyFile, SameFile}
use Rattle.hdfs_file_writer.specs.Tails.{StoresFront, FileCarries}
use Rattle.hdfs_file_writer.specs.declared.tails.Tail.TheVariants.{Bare}
use Rattle.hdfs_file_writer.specs.WholeBlocks.{ClosesWhole}
use Rattle.hdfs_file_writer.specs.Writers.{tail_done}
use Rattle.hdfs_file_writer.proofs.Adding as adding
use Rattle.hdfs_file_writer.proofs.Others.{is_listed}
use Rattle.hdfs_file_writer.proofs.Placing.{at_path}
use Rattle.hdfs_file_writer.proofs.Touching as touching
use Rattle.hdfs_file_writer.proofs.WholeBlocks.{closes_none, all_closed}

-- the file is open, its blocks but the last, which is this new one, store its bytes, and the datanodes that are named hold the
-- new one, which is empty
pub record Grown (p : Picture) (path bytes : List ℕ) (found : LocatedBlock) (q : Picture) : Type 0 where
  pub file : FileEntry
  pub named : IsFileAt q path file
  pub being_written : file.is_open ≡ true
  pub front : StoresFront q file.blocks found.b.block_id bytes []
  pub whole : HoldsWhole q found.b.block_id 0 (uuids found.locs) []
  pub longer : length (blocks_at (q.names path)) ≡ length (blocks_at (p.names path)) + 1
  pub only : OnlyFile path p q
  pub same : SameFile path p q

-- the last block that is done is one of the file's, and its last one
pub last_of_carried : (p : Picture) (path : List ℕ) (last : Option Block) (bytes : List ℕ) (c : FileCarries p path (tail_done last) bytes) → IsSound p → HasBlock c.file.blocks last × IsLast c.file.blocks last
last_of_carried p path None bytes c sound = (tt, c.carries.0)
last_of_carried p path (Some block) bytes c sound =
    (adding.has_last p p sound path c.file c.named bytes block c.carries, adding.ends_in_last p p sound path c.file c.named bytes block c.carries)

-- its last block isn't given again
never_retried : (p : Picture) → IsSound p → (path : List ℕ) (last : Option Block) (bytes : List ℕ) (c : FileCarries p path (tail_done last) bytes)
    → (id : ℕ) → IsRetried p.table c.file.blocks last id → ⊥
never_retried p sound path None bytes c = adding.first_retried p p sound path c.file c.named c.carries.0
never_retried p sound path (Some block) bytes c =
    adding.never_again p p sound path c.file c.named bytes block c.carries

-- the block table has it
last_listed : (p : Picture) → IsSound p → (path : List ℕ) (last : Option Block) (bytes : List ℕ) (c : FileCarries p path (tail_done last) bytes)
    → (b : Block) → last ≡ Some b → IsSome (p.table b.block_id)
last_listed p sound path None bytes c b is = absurd (cc is)
last_listed p sound path (Some block) bytes c b is =
    let same : block ≡ b = cc is in
    subst (λ (x : Block). IsSome (p.table x.block_id)) same
    (is_listed p sound path c.file block.block_id c.named (last_of_carried p path (Some block) bytes c sound).0)

-- a block behind it may be asked for again
pub adding_repeats : (p : Picture) → IsSound p → (path : List ℕ) (last : Option Block) (bytes : List ℕ) → FileCarries p path (tail_done last) bytes
    → (client : List ℕ) (excludes : List DatanodeInfo) (id : Option ℕ) → Repeats (add_block_ask path client last excludes id) p
adding_repeats p sound path last bytes c client excludes id =
    add_repeats path client last excludes id p c.file c.named c.being_written (last_of_carried p path last bytes c sound).1
    (never_retried p sound path last bytes c) (last_listed p sound path last bytes c)

-- the file has one block more
longer_by : (p q : Picture) (path : List ℕ) (file file' : FileEntry) (id : ℕ) → IsFileAt p path file → IsFileAt q path file'
    → file'.blocks ≡ file.blocks ++ id ∷ [] → length (blocks_at (q.names path)) ≡ length (blocks_at (p.names path)) + 1
longer_by p q path file file' id named named' more =
    let before : length (blocks_at (p.names path)) ≡ length file.blocks = ap (λ (e : Option Entry). length (blocks_at e)) named in
    let after : length (blocks_at (q.names path)) ≡ length file'.blocks = ap (λ (e : Option Entry). length (blocks_at e)) named' in
    omega (arith, before, after, ap length more, length-append file.blocks (id ∷ []))

-- a block more
pub grows : (p q : Picture) → IsSound p → (path : List ℕ) (last : Option Block) (bytes : List ℕ) (c : FileCarries p path (tail_done last) bytes) {excludes : List DatanodeInfo} (found : LocatedBlock)
    → AddsBlock path c.file last excludes found p q → Grown p path bytes found q
grows p q sound path None bytes c found adds =
    let new = adding.first_new p q sound path c.file c.named c.carries.0 found adds in
    let stored = adding.first_stored p q sound path c.file c.named c.carries.0 bytes c.carries.1 in record {
      file = adding.grown_file p q sound path c.file c.named None bytes found new stored;
      named = adding.grown_named p q sound path c.file c.named None bytes found new stored;
      being_written = c.being_written;
      front = adding.new_front p q sound path c.file c.named None bytes found new stored;
      whole = adding.new_located p q sound path c.file c.named None bytes found new stored;
      longer = longer_by p q path c.file (adding.grown_file p q sound path c.file c.named None bytes found new stored) new.id c.named
          (adding.grown_named p q sound path c.file c.named None bytes found new stored) refl;
      only = touching.only_file_added p q path c.file c.named None (λ other away. refl) found new;
      same = touching.same_file_added p q path c.file c.named None (λ other away. refl) found new;
    }
grows p q sound path (Some block) bytes c found adds =
    let new = adding.behind_new p q sound path c.file c.named bytes block c.carries found adds in
    let lengths = adding.length_away p q sound path c.file c.named bytes block c.carries in
    let stored : ((other : ℕ) → Contains c.file.blocks other → q.table other ≡ with_length p.table (Some block) other) → StoresBlocks q c.file.blocks bytes =
    λ table. adding.all_stored p q sound path c.file c.named bytes block c.carries table new.changes.bytes.held in record {
      file = adding.grown_file p q sound path c.file c.named (Some block) bytes found new stored;
      named = adding.grown_named p q sound path c.file c.named (Some block) bytes found new stored;
      being_written = c.being_written;
      front = adding.new_front p q sound path c.file c.named (Some block) bytes found new stored;
      whole = adding.new_located p q sound path c.file c.named (Some block) bytes found new stored;
      longer = longer_by p q path c.file (adding.grown_file p q sound path c.file c.named (Some block) bytes found new stored) new.id c.named
          (adding.grown_named p q sound path c.file c.named (Some block) bytes found new stored) refl;
      only = touching.only_file_added p q path c.file c.named (Some block) lengths found new;
      same = touching.same_file_added p q path c.file c.named (Some block) lengths found new;
    }

-- a closed file as it was written, with its blocks whole, and all else as it was
pub record IsClosedAs (p : Picture) (path bytes : List ℕ) (last : Option Block) (file : FileEntry) (q : Picture) : Type 0 where
  pub only : OnlyFile path p q
  pub ends : IsLast file.blocks last
  pub named : IsFileAt q path (record file { is_open = false })
  pub stores : StoresBlocks q file.blocks bytes
  pub done : (size : ℕ) → ClosesWhole size p file.blocks (tail_done last) q file.blocks

-- it agrees with a file of its attributes and bytes
pub closed_agrees : (p q : Picture) (path bytes : List ℕ) (last : Option Block) (file : FileEntry) → IsClosedAs p path bytes last file q → AgreesAt q (q.names path) (Some (File (record { bytes = bytes; attributes = file.attributes })))
closed_agrees p q path bytes last file closed =
    subst (λ (e : Option Entry). AgreesAt q e (Some (File (record { bytes = bytes; attributes = file.attributes })))) (sym closed.named) (refl, refl, closed.stores)

-- the file is closed
pub closes : (p q : Picture) → IsSound p → (path : List ℕ) (last : Option Block) (bytes : List ℕ) (c : FileCarries p path (tail_done last) bytes) → Completes path c.file last p q → IsClosedAs p path bytes last c.file q
closes p q sound path None bytes c done =
    let changes : Changes p q (with_entry p.names path (record c.file { is_open = false })) (with_length p.table None) = subst (λ (b : Bool). ClosesIf b path c.file None p q) c.being_written done.1 in record {
      only = touching.only_file_length p q path c.file c.named None (λ other away. refl) (record c.file { is_open = false }) refl changes;
      ends = done.0;
      named = adding.named_after p q path (record c.file { is_open = false }) (with_length p.table None) changes;
      stores = adding.first_stored p q sound path c.file c.named c.carries.0 bytes c.carries.1 (λ other there. changes.table other);
      done = λ size. closes_none size p q c.file.blocks (tail_done None) c.carries.0;
    }
closes p q sound path (Some block) bytes c done =
    let changes : Changes p q (with_entry p.names path (record c.file { is_open = false })) (with_length p.table (Some block)) = subst (λ (b : Bool). ClosesIf b path c.file (Some block) p q) c.being_written done.1 in record {
      only = touching.only_file_length p q path c.file c.named (Some block) (adding.length_away p q sound path c.file c.named bytes block c.carries) (record c.file { is_open = false }) refl changes;
      ends = done.0;
      named = adding.named_after p q path (record c.file { is_open = false }) (with_length p.table (Some block)) changes;
      stores = adding.all_stored p q sound path c.file c.named bytes block c.carries (λ other there. changes.table other) changes.bytes.held;
      done = all_closed p q sound path c.file c.named block bytes c.carries (λ other there. changes.table other) changes.bytes.held;
    }

-- a file that was just created has no block and no bytes
pub created_carries : (p q : Picture) (path : List ℕ) (file : FileEntry) → Creates path file p q → FileCarries q path Bare []
created_carries p q path file created = record {
  file = file;
  named = created.changes.names path ∙ ⊎_elim (λ here. here.1) (λ away. absurd (away.0 refl))
      (at_path path path (Some (entries.File file)) (cond (list_any (bytes_eq path) (ancestors path)) (Some (unwrap_or (p.names path) entries.Dir)) (p.names path)));
  being_written = created.is_open;
  carries = (created.none, refl);
}
