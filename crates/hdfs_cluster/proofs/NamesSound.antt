-- What asks about names do leaves a sound picture sound: each file that is left is where it was, with the same blocks.
use Rattle.std.proofs.Common.{◌≡◌, ℕ, Bool, true, false, cond, List, Option, Some, None, IsSome, refl, sym, ◌∙◌, ap, subst, arith}
use Rattle.std.proofs.lemmas.Bool.{false≢true}
use Rattle.std.proofs.lemmas.List.{get_or_default}
use Rattle.std.proofs.lemmas.List.Elements.{All-contains, All-contains_itself, All-weaker}
use Rattle.std.specs.List.{All, Contains, list_any}
use Rattle.std.specs.Prelude.{IsUtf8, unwrap_or}
use Rattle.std.specs.Str.{bytes_eq}
use Rattle.hdfs_cluster.specs.declared.asks.Ask.TheVariants as asks
use Rattle.hdfs_cluster.specs.declared.asks.Answer.{Answer}
use Rattle.hdfs_cluster.specs.declared.asks.Answer.TheVariants as answers
use Rattle.hdfs_cluster.specs.declared.picture.Entry.{Entry}
use Rattle.hdfs_cluster.specs.declared.picture.Entry.TheVariants as entries
use Rattle.hdfs_cluster.specs.declared.picture.FileEntry.{FileEntry}
use Rattle.hdfs_cluster.specs.Deleting.{DeletesFrom, IsBlockWithin}
use Rattle.hdfs_cluster.specs.Effects.{Changes, blocks_at}
use Rattle.hdfs_cluster.specs.Namenode.{Row}
use Rattle.hdfs_cluster.specs.Names.{is_within}
use Rattle.hdfs_cluster.specs.Picture.{Picture, SameButActive}
use Rattle.hdfs_cluster.specs.Refusals.{with_parents}
use Rattle.hdfs_cluster.specs.Sound.{IsBlockAt, IsFileAt, IsSound}
use Rattle.hdfs_names.specs.Paths.{ancestors}

module _ (p q : Picture) (sound : IsSound p) where
  -- files that are where they were, and whose blocks are still in the table
  left_sound : ((path : List ℕ) (file : FileEntry) → IsFileAt q path file → IsFileAt p path file)
      → ((path : List ℕ) (file : FileEntry) → IsFileAt q path file → All (λ id. IsSome (q.table id)) file.blocks)
      → ((path : List ℕ) → IsSome (q.names path) → IsUtf8 path) → IsSound q
  left_sound was listed texts = record {
    texts = texts;
    listed = listed;
    once = λ path other k n id here there. sound.once path other k n id (back path k id here) (back other n id there);
  }
    where
      back : (path : List ℕ) (k id : ℕ) → IsBlockAt q path k id → IsBlockAt p path k id
      back path k id is = record { file = is.file; named = was path is.file is.named; below = is.below; is = is.is }

  -- nothing changes
  pub same_sound : SameButActive p q → IsSound q
  same_sound same = left_sound was (λ path file is.
      All-weaker (λ id. IsSome (p.table id)) (λ id. IsSome (q.table id)) (λ id there. subst IsSome (sym (same.files.table id)) there) file.blocks
      (sound.listed path file (was path file is)))
      (λ path some. sound.texts path (subst IsSome (same.files.names path) some))
    where
      was : (path : List ℕ) (file : FileEntry) → IsFileAt q path file → IsFileAt p path file
      was path file is = sym (same.files.names path) ∙ is

  file_at : (b1 b2 : Bool) (o : Option Entry) (file : FileEntry) → cond b1 (Some entries.Dir) (cond b2 (Some (unwrap_or o entries.Dir)) o) ≡ Some (entries.File file)
      → o ≡ Some (entries.File file)
  file_at true b2 o file is = absurd (cc is)
  file_at false true None file is = absurd (cc is)
  file_at false true (Some entry) file is = is
  file_at false false o file is = is

  -- directories come in, at paths that are text
  pub made_sound : (src : List ℕ) → Changes p q (with_parents p.names entries.Dir src entries.Dir) p.table
      → ((path : List ℕ) → IsSome (q.names path) → IsUtf8 path) → IsSound q
  made_sound src made texts = left_sound was (λ path file is.
      All-weaker (λ id. IsSome (p.table id)) (λ id. IsSome (q.table id)) (λ id there. subst IsSome (sym (made.table id)) there) file.blocks
      (sound.listed path file (was path file is))) texts
    where
      was : (path : List ℕ) (file : FileEntry) → IsFileAt q path file → IsFileAt p path file
      was path file is = file_at (bytes_eq src path) (list_any (bytes_eq path) (ancestors src)) (p.names path) file (sym (made.names path) ∙ is)

  left_at : (b : Bool) (o : Option Entry) (file : FileEntry) → cond b None o ≡ Some (entries.File file) → (b ≡ false) × (o ≡ Some (entries.File file))
  left_at true o file is = absurd (cc is)
  left_at false o file is = (refl, is)

  some_left : (b : Bool) (o : Option Entry) → IsSome (cond b None o) → IsSome o
  some_left true o some = absurd (false≢true some)
  some_left false o some = some

  -- one of the blocks of what stands at a path is that of a file there
  of_file : (o : Option Entry) (id : ℕ) → Contains (blocks_at o) id → (file : FileEntry) × (o ≡ Some (entries.File file)) × Contains file.blocks id
  of_file None id has = absurd (omega (arith, has.1))
  of_file (Some entries.Dir) id has = absurd (omega (arith, has.1))
  of_file (Some (entries.File file)) id has = (file, refl, has)

  block_at : (path : List ℕ) (file : FileEntry) → IsFileAt p path file → (id : ℕ) → (has : Contains file.blocks id) → IsBlockAt p path has.0 id
  block_at path file is id has = record { file = file; named = is; below = has.1; is = get_or_default file.blocks has.0 0 id has.1 ∙ has.2 }

  -- what stands at a path and below it goes
  module _ (src : List ℕ) (recursive : Bool) (gone : DeletesFrom p.names p.table src recursive q.names q.table) where
    stood : (path : List ℕ) (file : FileEntry) → IsFileAt q path file → (is_within src path ≡ false) × IsFileAt p path file
    stood path file is = left_at (is_within src path) (p.names path) file (sym (gone.named path) ∙ is)

    -- a block of a file that is left is none of those that go
    not_within : (path : List ℕ) (file : FileEntry) → IsFileAt q path file → (id : ℕ) → Contains file.blocks id → IsBlockWithin p.names src id → ⊥
    not_within path file is id has within =
        let was = stood path file is in
        let other = of_file (p.names within.path) id within.has in
        let same = sound.once path within.path has.0 other.2.0 id (block_at path file was.1 id has) (block_at within.path other.0 other.1 id other.2) in
        false≢true (sym was.0 ∙ ap (is_within src) same.0 ∙ within.within)

    pub deleted_sound : IsSound q
    deleted_sound = left_sound (λ path file is. (stood path file is).1) (λ path file is.
        All-weaker (Contains file.blocks) (λ id. IsSome (q.table id))
        (λ id has. subst IsSome (sym (gone.stay id (not_within path file is id has)))
        (All-contains (λ id. IsSome (p.table id)) file.blocks id (sound.listed path file (stood path file is).1) has))
        file.blocks (All-contains_itself file.blocks))
        (λ path some. sound.texts path (some_left (is_within src path) (p.names path) (subst IsSome (gone.named path) some)))

-- what is answered to an ask about names
pub info_sound : (src : List ℕ) (p q : Picture) (answer : Answer) → IsSound p → Row p (asks.GetFileInfo src) answer q → IsSound q
info_sound src p q (answers.GetFileInfo status) sound row = same_sound p q sound row.1
info_sound src p q answer sound row = absurd row

pub listing_sound : (src from : List ℕ) (located : Bool) (p q : Picture) (answer : Answer) → IsSound p → Row p (asks.GetListing src from located) answer q → IsSound q
listing_sound src from located p q (answers.GetListing page) sound row = same_sound p q sound row.1
listing_sound src from located p q answer sound row = absurd row

pub mkdirs_sound : (src : List ℕ) (masked : ℕ) (parents : Bool) (p q : Picture) (answer : Answer) → IsSound p → Row p (asks.Mkdirs src masked parents) answer q
    → ((path : List ℕ) → IsSome (q.names path) → IsUtf8 path) → IsSound q
mkdirs_sound src masked parents p q (answers.Mkdirs true) sound row texts = made_sound p q sound src row.1 texts
mkdirs_sound src masked parents p q (answers.Mkdirs false) sound row texts = absurd row
mkdirs_sound src masked parents p q answer sound row texts = absurd row

pub delete_sound : (src : List ℕ) (recursive : Bool) (p q : Picture) (answer : Answer) → IsSound p → Row p (asks.Delete src recursive) answer q → IsSound q
delete_sound src recursive p q (answers.Delete true) sound row = deleted_sound p q sound src recursive row.0
delete_sound src recursive p q (answers.Delete false) sound row = same_sound p q sound row.1
delete_sound src recursive p q answer sound row = absurd row
