-- What a writer of one file leaves of the others.
use Rattle.std.proofs.Common.{◌≡◌, ◌≢◌, ℕ, List, [], ◌∷◌, Option, Some, None, refl, sym, ◌∙◌, ap, subst, arith}
use Rattle.std.proofs.lemmas.List.{get_or_default}
use Rattle.std.specs.Prelude.{Contains, slice_index_or, IsSome}
use Rattle.hdfs_cluster.specs.declared.picture.Entry.{Entry}
use Rattle.hdfs_cluster.specs.declared.picture.Entry.TheVariants as entries
use Rattle.hdfs_cluster.specs.declared.picture.FileEntry.{FileEntry}
use Rattle.hdfs_cluster.specs.Effects.{blocks_at}
use Rattle.hdfs_cluster.specs.Files.{Node, Dir, File, Writing}
use Rattle.hdfs_cluster.specs.Picture.{Picture}
use Rattle.hdfs_cluster.specs.Shown.{Shown}
use Rattle.hdfs_cluster.specs.Sound.{IsSound, IsFileAt, IsBlockAt}
use Rattle.hdfs_cluster.specs.Stores.{AgreesAt}
use Rattle.hdfs_cluster.specs.Sending.{WritePlace, uuids}
use Rattle.hdfs_block_reader.specs.Carrying.{HoldsWhole}
use Rattle.hdfs_block_writer.specs.BlockWriters.{safe_of}
use Rattle.hdfs_block_writer.specs.OpenPipelines.{id_of}
use Rattle.hdfs_file_writer.specs.declared.file_writer.FileWriter.{FileWriter}
use Rattle.hdfs_file_writer.specs.OnlyFiles.{KeepsBlocks, OnlyFile}
use Rattle.hdfs_file_writer.specs.Tails.{StoresFront, TailCarries, FileCarries}
use Rattle.hdfs_file_writer.specs.declared.tails.Tail.{Tail}
use Rattle.hdfs_file_writer.specs.declared.tails.Tail.TheVariants.{Bare, Done, Reopened, Going}
use Rattle.hdfs_file_writer.specs.Writers.{link_by, link_of, Stands}
use Rattle.hdfs_file_writer.proofs.Beside.{still_stands, has_stays}
use Rattle.hdfs_file_writer.proofs.Placing.{contains_last, contains_left}
use Rattle.hdfs_file_writer.proofs.Storing.{block_stays, stores_keeps}

-- a block that a file contains stands at some place of it
pub block_at : (p : Picture) (path : List ℕ) (file : FileEntry) (id : ℕ) → IsFileAt p path file → (there : Contains file.blocks id) → IsBlockAt p path there.0 id
block_at p path file id is there = record { file = file; named = is; below = there.1; is = get_or_default file.blocks there.0 0 id there.1 ∙ there.2 }

-- and it is listed
pub is_listed : (p : Picture) → IsSound p → (path : List ℕ) (file : FileEntry) (id : ℕ) → IsFileAt p path file → Contains file.blocks id → IsSome (p.table id)
is_listed p sound path file id is there = subst (λ (i : ℕ). IsSome (p.table i)) there.2 (sound.listed path file is there.0 id there.1)

-- the blocks of two files are apart
pub apart_blocks : (p : Picture) → IsSound p → (path other : List ℕ) (mine file : FileEntry) (id : ℕ) → other ≢ path → IsFileAt p path mine → IsFileAt p other file → Contains mine.blocks id → Contains file.blocks id → ⊥
apart_blocks p sound path other mine file id apart is is' here there =
    apart (sound.once other path there.0 here.0 id (block_at p other file id is' there) (block_at p path mine id is here)).0

-- a block of another file isn't one of the file's at this path
pub elsewhere : (p : Picture) → IsSound p → (path other : List ℕ) (file : FileEntry) → other ≢ path → IsFileAt p other file → (id : ℕ) → Contains file.blocks id → Contains (blocks_at (p.names path)) id → ⊥
elsewhere p sound path other file apart is id there here = by_entry (p.names path) refl here
  where
    by_entry : (e : Option Entry) → p.names path ≡ e → Contains (blocks_at e) id → ⊥
    by_entry None named h = absurd (omega (arith, h.1))
    by_entry (Some entries.Dir) named h = absurd (omega (arith, h.1))
    by_entry (Some (entries.File mine)) named h = apart_blocks p sound path other mine file id apart named is h there

-- a file whose name and blocks stay, and the write links that have them, is carried as it was
module _ (p q : Picture) (path : List ℕ) (file : FileEntry) (same_name : q.names path ≡ p.names path) (keeps : KeepsBlocks p q file.blocks)
    (writes : (link : ℕ) (place : WritePlace) → p.writes link ≡ Some place → Contains file.blocks place.block → q.writes link ≡ Some place) where
  front_stays : (last : ℕ) (bytes rest : List ℕ) → StoresFront p file.blocks last bytes rest → StoresFront q file.blocks last bytes rest
  front_stays last bytes rest s = record {
    front = s.front;
    ends = s.ends;
    before = s.before;
    cut = s.cut;
    stored = stores_keeps p q s.front s.before (λ id there. keeps id (subst (λ (l : List ℕ). Contains l id) (sym s.ends) (contains_left s.front (last ∷ []) id there))) s.stored;
  }

  whole_stays : (id n : ℕ) (nodes : List (List ℕ)) (bytes : List ℕ) → Contains file.blocks id → HoldsWhole p id n nodes bytes → HoldsWhole q id n nodes bytes
  whole_stays id n nodes bytes there whole = record {
    entry = whole.entry;
    is = (keeps id there).0 ∙ whole.is;
    stores = block_stays p q id (record whole.entry { length = n }) bytes (keeps id there).1 whole.stores;
    whole = λ k d lt. (keeps id there).1 (slice_index_or nodes k d) ∙ whole.whole k d lt;
    some = whole.some;
    same_listed = whole.same_listed;
  }

  is_last : (last : ℕ) (bytes rest : List ℕ) → StoresFront p file.blocks last bytes rest → Contains file.blocks last
  is_last last bytes rest s = subst (λ (l : List ℕ). Contains l last) (sym s.ends) (contains_last s.front last)

  pub tail_stays : (tail : Tail) (bytes : List ℕ) → TailCarries p path file.blocks tail bytes → TailCarries q path file.blocks tail bytes
  tail_stays Bare bytes t = t
  tail_stays (Done block) bytes t =
      let id = block.block_id in
      (t.0, front_stays id bytes t.0 t.1, (t.2.0, whole_stays id block.num_bytes t.2.0 t.0 (is_last id bytes t.0 t.1) t.2.1))
  tail_stays (Reopened located) bytes t =
      let id = located.b.block_id in
      (t.0, front_stays id bytes t.0 t.1, whole_stays id located.b.num_bytes (uuids located.locs) t.0 (is_last id bytes t.0 t.1) t.2)
  tail_stays (Going writer) bytes t =
      let held = t.1 in
      let id = id_of held.pipe in
      let there = is_last id bytes t.0 t.3 in
      let on = held.has.on in
      let link = writes held.pipe.link on.place on.told (subst (Contains file.blocks) (sym on.block) there) in
      let named : q.names held.pipe.plan.src ≡ p.names held.pipe.plan.src = ap q.names t.2 ∙ same_name ∙ sym (ap p.names t.2) in (
        t.0,
        record {
          pipe = held.pipe;
          is = held.is;
          counted = held.counted;
          kept = held.kept;
          has = has_stays p q held.pipe [] (safe_of writer held.pipe) t.0 held.has named link (keeps id there).0 (keeps id there).1;
        },
        t.2,
        front_stays id bytes t.0 t.3,
      )

module _ (path : List ℕ) (p q : Picture) (sound : IsSound p) (only : OnlyFile path p q) where
  -- the blocks of another file stay
  pub others_keep : (other : List ℕ) (file : FileEntry) → other ≢ path → IsFileAt p other file → KeepsBlocks p q file.blocks
  others_keep other file apart is id there =
      only.blocks id (is_listed p sound other file id is there) (elsewhere p sound path other file apart is id there)

  agrees_by : (other : List ℕ) (e : Option Entry) (node : Option Node) → other ≢ path → p.names other ≡ e → AgreesAt p e node → AgreesAt q e node
  agrees_by other None None apart is h = tt
  agrees_by other None (Some node) apart is h = absurd h
  agrees_by other (Some entries.Dir) None apart is h = absurd h
  agrees_by other (Some entries.Dir) (Some Dir) apart is h = tt
  agrees_by other (Some entries.Dir) (Some (File content)) apart is h = absurd h
  agrees_by other (Some entries.Dir) (Some (Writing content)) apart is h = absurd h
  agrees_by other (Some (entries.File file)) None apart is h = absurd h
  agrees_by other (Some (entries.File file)) (Some Dir) apart is h = absurd h
  agrees_by other (Some (entries.File file)) (Some (File content)) apart is h = (h.0, h.1, stores_keeps p q file.blocks content.bytes (others_keep other file apart is) h.2)
  agrees_by other (Some (entries.File file)) (Some (Writing content)) apart is h = h

  -- what agrees at another path agrees still
  pub agrees_others : (other : List ℕ) (node : Option Node) → other ≢ path → AgreesAt p (p.names other) node → AgreesAt q (q.names other) node
  agrees_others other node apart h = subst (λ (e : Option Entry). AgreesAt q e node) (sym (only.names other apart)) (agrees_by other (p.names other) node apart refl h)

  others_link : (other : List ℕ) (file : FileEntry) → other ≢ path → IsFileAt p other file → (link : ℕ) (place : WritePlace) → p.writes link ≡ Some place → Contains file.blocks place.block → q.writes link ≡ Some place
  others_link other file apart is link place told there =
      only.writes link place told (is_listed p sound other file place.block is there) (elsewhere p sound path other file apart is place.block there)

  -- what the writer of another file carries it carries still
  pub carries_others : (other : List ℕ) (tail : Tail) (bytes : List ℕ) → other ≢ path → FileCarries p other tail bytes → FileCarries q other tail bytes
  carries_others other tail bytes apart c = record {
    file = c.file;
    named = only.names other apart ∙ c.named;
    being_written = c.being_written;
    carries = tail_stays p q other c.file (only.names other apart) (others_keep other c.file apart c.named) (others_link other c.file apart c.named) tail bytes c.carries;
  }

-- A writer stands still where its link stayed.
pub stands_beside : (a b : Shown) (w : FileWriter) → ((link : ℕ) → link_of w ≡ Some link → b.writes link ≡ a.writes link) → Stands a w → Stands b w
stands_beside a b w stays stands = record {
  packets = stands.packets;
  going = λ block is.
      (let going = stands.going block is in
      record {
        limited = going.limited;
        stands = still_stands a b block (λ link named. stays link (ap link_by is ∙ named)) going.stands;
        size = going.size;
        chunk = going.chunk;
        packet_size = going.packet_size;
        settings = going.settings;
        plain = going.plain;
        plan = going.plan;
      });
  is_open = stands.is_open;
  idle = stands.idle;
  reopened = stands.reopened;
  done = stands.done;
}
