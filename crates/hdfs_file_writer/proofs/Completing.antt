-- A namenode is asked until it says that a file is closed.
use Rattle.std.proofs.Common.{◌≡◌, ◌⊎◌, ⊎_elim, inl, inr, ℕ, true, false, List, Option, Some, None, refl, sym, ◌∙◌, subst}
use Rattle.std.specs.Prelude.{Contains, IsSome, Ok, Err, slice_index_or}
use Rattle.hdfs_cluster.specs.declared.asks.Answer.TheVariants as answers
use Rattle.hdfs_cluster.specs.declared.asks.Ask.{Ask}
use Rattle.hdfs_cluster.specs.Asks.{complete_ask}
use Rattle.hdfs_cluster.specs.declared.errors.HdfsError.{HdfsError}
use Rattle.hdfs_cluster.specs.declared.errors.HdfsError.TheVariants as errors
use Rattle.hdfs_cluster.specs.declared.messages.Block.{Block}
use Rattle.hdfs_cluster.specs.declared.picture.Entry.{Entry}
use Rattle.hdfs_cluster.specs.declared.picture.FileEntry.{FileEntry}
use Rattle.hdfs_cluster.specs.Effects.{Changes, Completes, blocks_at}
use Rattle.hdfs_cluster.specs.Picture.{Picture, SameFiles, SameButActive}
use Rattle.hdfs_cluster.specs.Sound.{IsSound, IsFileAt}
use Rattle.hdfs_cluster.specs.Repeating.{Repeats}
use Rattle.hdfs_cluster.proofs.Repeating.{complete_repeats}
use Rattle.hdfs_namenode.specs.Relaying.{RelaysTold}
use Rattle.hdfs_block_reader.specs.Carrying.{HoldsWhole}
use Rattle.hdfs_file_writer.specs.OnlyFiles.{KeepsBlocks, OnlyFile}
use Rattle.hdfs_file_writer.specs.Tails.{StoresFront, FileCarries}
use Rattle.hdfs_file_writer.specs.WholeBlocks.{ClosesWhole}
use Rattle.hdfs_file_writer.specs.Writers.{tail_done}
use Rattle.hdfs_file_writer.proofs.Telling.{completed, not_completed, not_answered, complete_rose}
use Rattle.hdfs_file_writer.proofs.Growing.{IsClosedAs, closes, last_of_carried}
use Rattle.hdfs_file_writer.proofs.Moving.{only_file_trans}
use Rattle.hdfs_file_writer.proofs.Storing.{block_stays, stores_keeps}
use Rattle.hdfs_file_writer.proofs.Touching.{only_file_active}
use Rattle.hdfs_file_writer.proofs.WholeBlocks.{IsKept, stays_kept, closes_trans, closes_kept}

keeps_same : (p q : Picture) (ids : List ℕ) → SameFiles p q → KeepsBlocks p q ids
keeps_same p q ids same id there = (same.table id, λ node. same.held node id)

-- the same files store the same
pub front_same : (p q : Picture) (blocks : List ℕ) (last : ℕ) (bytes rest : List ℕ) → SameFiles p q → StoresFront p blocks last bytes rest → StoresFront q blocks last bytes rest
front_same p q blocks last bytes rest same s = record { front = s.front; ends = s.ends; before = s.before; cut = s.cut; stored = stores_keeps p q s.front s.before (keeps_same p q s.front same) s.stored }

whole_same : (p q : Picture) (id n : ℕ) (nodes : List (List ℕ)) (bytes : List ℕ) → SameFiles p q → HoldsWhole p id n nodes bytes → HoldsWhole q id n nodes bytes
whole_same p q id n nodes bytes same w = record {
  entry = w.entry;
  is = same.table id ∙ w.is;
  stores = block_stays p q id (record w.entry { length = n }) bytes (λ node. same.held node id) w.stores;
  whole = λ k d lt. same.held (slice_index_or nodes k d) id ∙ w.whole k d lt;
  some = w.some;
  same_listed = w.same_listed;
}

pub carries_same : (p q : Picture) (path : List ℕ) (last : Option Block) (bytes : List ℕ) → SameFiles p q → FileCarries p path (tail_done last) bytes → FileCarries q path (tail_done last) bytes
carries_same p q path None bytes same c = record { file = c.file; named = same.names path ∙ c.named; being_written = c.being_written; carries = c.carries }
carries_same p q path (Some block) bytes same c = record {
  file = c.file;
  named = same.names path ∙ c.named;
  being_written = c.being_written;
  carries = (c.carries.0, front_same p q c.file.blocks block.block_id bytes c.carries.0 same c.carries.1, (c.carries.2.0, whole_same p q block.block_id block.num_bytes c.carries.2.0 c.carries.0 same c.carries.2.1));
}

same_file_kept : (p q : Picture) (path : List ℕ) (last : Option Block) (bytes : List ℕ) (same : SameFiles p q) (c : FileCarries p path (tail_done last) bytes) → (carries_same p q path last bytes same c).file ≡ c.file
unfolding carries_same
same_file_kept p q path None bytes same c = refl
same_file_kept p q path (Some block) bytes same c = refl

-- the file is still being written, and no block has changed
pub record IsStill (p : Picture) (path bytes : List ℕ) (last : Option Block) (file : FileEntry) (q : Picture) : Type 0 where
  pub kept : (id : ℕ) → IsKept p q id
  pub only : OnlyFile path p q
  pub carried : FileCarries q path (tail_done last) bytes
  pub same : carried.file ≡ file

-- it is closed, or not yet
abbrev pub IsAsked : Picture → List ℕ → List ℕ → Option Block → FileEntry → Picture → Type 0
IsAsked p path bytes last file q = IsStill p path bytes last file q ⊎ IsClosedAs p path bytes last file q

only_unchanged : (path : List ℕ) (q r : Picture) → Changes q r q.names q.table → OnlyFile path q r
only_unchanged path q r changes = record {
  names = λ other apart. changes.names other;
  blocks = λ id some away. (changes.table id, λ node. changes.bytes.held node id);
  writes = λ link place told some away. changes.bytes.writes link ∙ told;
  grown = λ id there some. subst (λ (e : Option Entry). Contains (blocks_at e) id) (changes.names path) there;
  listed = λ id some. subst IsSome (sym (changes.table id)) some;
  reads = changes.bytes.reads;
  defaults = changes.bytes.defaults;
}

-- a close of what stayed until then
closes_from : (p q r : Picture) (blocks : List ℕ) (last : Option Block) → ((id : ℕ) → IsKept p q id) → (size : ℕ)
    → ClosesWhole size q blocks (tail_done last) r blocks → ClosesWhole size p blocks (tail_done last) r blocks
closes_from p q r blocks last kept size closed =
    closes_trans size p q r blocks blocks blocks (tail_done last) (tail_done last) (λ within. within)
    (stays_kept size p q blocks blocks (tail_done last) refl (λ k lt. kept (slice_index_or blocks k 0))) closed

module _ (p : Picture) (path bytes : List ℕ) (last : Option Block) (file : FileEntry) (q r : Picture) (sound : IsSound q) where
  from_still : (still : IsStill p path bytes last file q) → Completes path still.carried.file last q r → IsClosedAs p path bytes last file r
  from_still still done =
      let closed = closes q r sound path last bytes still.carried done in
      subst (λ (f : FileEntry). IsClosedAs p path bytes last f r) still.same (record {
        only = only_file_trans path p q r still.only closed.only;
        ends = closed.ends;
        named = closed.named;
        stores = closed.stores;
        done = λ size. closes_from p q r still.carried.file.blocks last still.kept size (closed.done size);
      })

  from_closed : IsClosedAs p path bytes last file q → Completes path (record file { is_open = false }) last q r → IsClosedAs p path bytes last file r
  from_closed closed done =
      let changes : Changes q r q.names q.table = done.1 in record {
        only = only_file_trans path p q r closed.only (only_unchanged path q r changes);
        ends = closed.ends;
        named = changes.names path ∙ closed.named;
        stores = stores_keeps q r file.blocks bytes (λ id there. (changes.table id, λ node. changes.bytes.held node id)) closed.stores;
        done = λ size. closes_kept size p q r file.blocks file.blocks (tail_done last) (λ id. (changes.table id, λ node. changes.bytes.held node id)) (closed.done size);
      }

  still_active : SameButActive q r → IsStill p path bytes last file q → IsStill p path bytes last file r
  still_active same still = record {
    kept = λ id. (same.files.table id ∙ (still.kept id).0, λ node. same.files.held node id ∙ (still.kept id).1 node);
    only = only_file_trans path p q r still.only (only_file_active path q r same);
    carried = carries_same q r path last bytes same.files still.carried;
    same = same_file_kept q r path last bytes same.files still.carried ∙ still.same;
  }

  closed_active : SameButActive q r → IsClosedAs p path bytes last file q → IsClosedAs p path bytes last file r
  closed_active same closed = record {
    only = only_file_trans path p q r closed.only (only_file_active path q r same);
    ends = closed.ends;
    named = same.files.names path ∙ closed.named;
    stores = stores_keeps q r file.blocks bytes (keeps_same q r file.blocks same.files) closed.stores;
    done = λ size. closes_kept size p q r file.blocks file.blocks (tail_done last) (λ id. (same.files.table id, λ node. same.files.held node id)) (closed.done size);
  }

-- nothing changed but the file
pub only_asked : (p : Picture) (path bytes : List ℕ) (last : Option Block) (file : FileEntry) (q : Picture) → IsAsked p path bytes last file q → OnlyFile path p q
only_asked p path bytes last file q (inl still) = still.only
only_asked p path bytes last file q (inr closed) = closed.only

module _ (risen : Type 0) (p : Picture) (path bytes : List ℕ) (last : Option Block) (file : FileEntry) (client : List ℕ) (id : Option ℕ) (q : Picture) (sound : IsSound q) where
  abbrev completing : Ask
  completing = complete_ask path client last id

  -- whether it is closed or not, the namenode may be asked again
  pub complete_again : IsAsked p path bytes last file q → Repeats completing q
  complete_again (inl still) =
      complete_repeats path client last id q still.carried.file still.carried.named (last_of_carried q path last bytes still.carried sound).1
  complete_again (inr closed) = complete_repeats path client last id q (record file { is_open = false }) closed.named closed.ends

  still_then : (r : Picture) → IsStill p path bytes last file q → SameButActive q r ⊎ Completes path file last q r → IsAsked p path bytes last file r
  still_then r still done = ⊎_elim
      (λ same. inl (still_active p path bytes last file q r sound same still))
      (λ closes. inr (from_still p path bytes last file q r sound still (subst (λ (f : FileEntry). Completes path f last q r) (sym still.same) closes)))
      done

  closed_then : (r : Picture) → IsClosedAs p path bytes last file q → SameButActive q r ⊎ Completes path (record file { is_open = false }) last q r → IsAsked p path bytes last file r
  closed_then r closed done = ⊎_elim
      (λ same. inr (closed_active p path bytes last file q r sound same closed))
      (λ closes. inr (from_closed p path bytes last file q r sound closed closes))
      done

  file_still : (still : IsStill p path bytes last file q) → IsFileAt q path file
  file_still still = subst (IsFileAt q path) still.same still.carried.named

  -- true says that it is closed
  pub says_closed : (r : Picture) → IsAsked p path bytes last file q → RelaysTold risen q completing (Ok (answers.Complete true)) r → IsClosedAs p path bytes last file r
  says_closed r (inl still) told =
      from_still p path bytes last file q r sound still
      (completed risen path client last id q still.carried.file still.carried.named r told)
  says_closed r (inr closed) told =
      from_closed p path bytes last file q r sound closed (completed risen path client last id q (record file { is_open = false }) closed.named r told)

  -- false says that a namenode has failed
  pub says_not : (r : Picture) → IsAsked p path bytes last file q → RelaysTold risen q completing (Ok (answers.Complete false)) r → risen × IsAsked p path bytes last file r
  says_not r (inl still) told =
      let one = not_completed risen path client last id q file (file_still still) r told in
      (one.0, still_then r still one.1)
  says_not r (inr closed) told =
      let one = not_completed risen path client last id q (record file { is_open = false }) closed.named r told in
      (one.0, closed_then r closed one.1)

  -- an error leaves all but the file
  pub says_nothing : (r : Picture) (error : HdfsError) → IsAsked p path bytes last file q → RelaysTold risen q completing (Err error) r → OnlyFile path p r
  says_nothing r error (inl still) told =
      only_asked p path bytes last file r (still_then r still (not_answered risen path client last id q file (file_still still) r error told))
  says_nothing r error (inr closed) told =
      only_asked p path bytes last file r
      (closed_then r closed (not_answered risen path client last id q (record file { is_open = false }) closed.named r error told))

  -- and comes, but for want of memory, only where a namenode has failed
  pub says_rose : (r : Picture) (error : HdfsError) → (error ≡ errors.NoMemory → ⊥) → IsAsked p path bytes last file q → RelaysTold risen q completing (Err error) r → risen
  says_rose r error some (inl still) told = complete_rose risen path client last id q file (file_still still) r error some told
  says_rose r error some (inr closed) told = complete_rose risen path client last id q (record file { is_open = false }) closed.named r error some told
