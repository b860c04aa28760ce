-- A deletion leaves a picture that agrees with the files without what was deleted, and a tree.
use Rattle.std.proofs.Common.{◌≡◌, ℕ, zero, suc, ◌<◌, Bool, true, false, cond, ◌||◌, List, [], ◌∷◌, length, take, drop, Option, Some, None, IsSome, refl, sym, ◌∙◌, ap, subst, arith}
use Rattle.std.proofs.lemmas.Bool.{false≢true}
use Rattle.std.specs.Prelude.{Contains, slice_index_or, if◌then◌else◌}
use Rattle.hdfs_cluster.specs.Deleting.{DeletesFrom, IsBlockWithin}
use Rattle.hdfs_cluster.specs.Effects.{KeepsBytes, blocks_at}
use Rattle.hdfs_cluster.specs.Files.{Files, Node, Dir, File, Writing}
use Rattle.hdfs_cluster.specs.Names.{is_within}
use Rattle.hdfs_cluster.specs.Picture.{Picture}
use Rattle.hdfs_cluster.specs.Sound.{IsSound, IsFileAt, IsBlockAt}
use Rattle.hdfs_cluster.specs.Stores.{Agrees, AgreesAt, StoresBlock, StoresBlocks}
use Rattle.hdfs_cluster.specs.declared.picture.BlockEntry.{BlockEntry}
use Rattle.hdfs_cluster.specs.declared.picture.Entry.{Entry}
use Rattle.hdfs_cluster.specs.declared.picture.Entry.TheVariants as entries
use Rattle.hdfs_cluster.specs.declared.picture.FileEntry.{FileEntry}
use Rattle.hdfs_model.specs.Steps.{files_without}

contains_head : (id : ℕ) (ids : List ℕ) → Contains (id ∷ ids) id
contains_head id ids = (0, omega arith, refl)

contains_later : (id other : ℕ) (ids : List ℕ) → Contains ids other → Contains (id ∷ ids) other
contains_later id other ids h = (suc h.0, omega (arith, h.1), h.2)

same_default : (xs : List ℕ) (k d e : ℕ) → k < length xs → slice_index_or xs k d ≡ slice_index_or xs k e
same_default [] k d e lt = absurd (omega (arith, lt))
same_default (x ∷ xs) zero d e lt = refl
same_default (x ∷ xs) (suc k) d e lt = same_default xs k d e (omega (arith, lt))

block_at : (p : Picture) (path : List ℕ) (file : FileEntry) (id : ℕ) → IsFileAt p path file → (there : Contains file.blocks id) → IsBlockAt p path there.0 id
block_at p path file id named there = record { file = file; named = named; below = there.1; is = same_default file.blocks there.0 0 id there.1 ∙ there.2 }

-- a block of what stands at a path is one of a file there
file_with : (p : Picture) (path : List ℕ) (id : ℕ) (e : Option Entry) → p.names path ≡ e → Contains (blocks_at e) id → (file : FileEntry) × IsFileAt p path file × Contains file.blocks id
file_with p path id None is has = absurd (omega (arith, has.1))
file_with p path id (Some entries.Dir) is has = absurd (omega (arith, has.1))
file_with p path id (Some (entries.File file)) is has = (file, is, has)

module _ (p q : Picture) (sound : IsSound p) (src : List ℕ) (recursive : Bool) (d : DeletesFrom p.names p.table src recursive q.names q.table) (keeps_bytes : KeepsBytes p q) where
  -- a block of a file elsewhere stays
  pub stays : (path : List ℕ) (file : FileEntry) (id : ℕ) → is_within src path ≡ false → IsFileAt p path file → Contains file.blocks id → q.table id ≡ p.table id
  stays path file id away named there = d.stay id none
    where
      none : IsBlockWithin p.names src id → ⊥
      none has =
          let at = file_with p has.path id (p.names has.path) refl has.has in
          let once = sound.once path has.path there.0 at.2.0 id (block_at p path file id named there) (block_at p has.path at.0 id at.1 at.2) in
          false≢true (sym away ∙ ap (is_within src) once.0 ∙ has.within)

  block_stays : (id : ℕ) (entry : BlockEntry) (bytes : List ℕ) → StoresBlock p id entry bytes → StoresBlock q id entry bytes
  block_stays id entry bytes s = record {
    length = s.length;
    prefixes = λ k d' lt. subst (λ (b : List ℕ). b ≡ take (length b) bytes) (sym (keeps_bytes.held (slice_index_or entry.nodes k d') id)) (s.prefixes k d' lt);
    whole = (s.whole.0, s.whole.1, s.whole.2, s.whole.3, keeps_bytes.held s.whole.1 id ∙ s.whole.4);
  }

  stores : (ids bytes : List ℕ) → ((id : ℕ) → Contains ids id → q.table id ≡ p.table id) → StoresBlocks p ids bytes → StoresBlocks q ids bytes
  stores [] bytes keeps s = s
  stores (id ∷ ids) bytes keeps s = (
    s.0,
    keeps id (contains_head id ids) ∙ s.1,
    s.2,
    block_stays id s.0 (take s.0.length bytes) s.3,
    stores ids (drop s.0.length bytes) (λ other is. keeps other (contains_later id other ids is)) s.4,
  )

  elsewhere : (path : List ℕ) (e : Option Entry) (node : Option Node) → is_within src path ≡ false → p.names path ≡ e → AgreesAt p e node → AgreesAt q e node
  elsewhere path None None away is h = tt
  elsewhere path None (Some node) away is h = absurd h
  elsewhere path (Some entries.Dir) None away is h = absurd h
  elsewhere path (Some entries.Dir) (Some Dir) away is h = tt
  elsewhere path (Some entries.Dir) (Some (File c)) away is h = absurd h
  elsewhere path (Some entries.Dir) (Some (Writing c)) away is h = absurd h
  elsewhere path (Some (entries.File f)) None away is h = absurd h
  elsewhere path (Some (entries.File f)) (Some Dir) away is h = absurd h
  elsewhere path (Some (entries.File f)) (Some (File c)) away is h = (h.0, h.1, stores f.blocks c.bytes (λ id there. stays path f id away is there) h.2)
  elsewhere path (Some (entries.File f)) (Some (Writing c)) away is h = h

  at_path : (files : Files) (path : List ℕ) (b : Bool) → is_within src path ≡ b → AgreesAt p (p.names path) (files path)
      → AgreesAt q (if b then None else p.names path) (if b then None else files path)
  at_path files path true is h = tt
  at_path files path false is h = elsewhere path (p.names path) (files path) is refl h

  pub delete_agrees : (files : Files) → Agrees (Some p) files → Agrees (Some q) (files_without files src)
  delete_agrees files agrees path =
      subst (λ (e : Option Entry). AgreesAt q e (files_without files src path)) (sym (d.named path)) (at_path files path (is_within src path) refl (agrees path))
