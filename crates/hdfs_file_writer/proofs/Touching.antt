-- What touches one file alone.
use Rattle.std.proofs.Common.{◌≡◌, ◌≢◌, ⊎_elim, ℕ, zero, suc, List, [], ◌∷◌, ◌++◌, Option, Some, None, IsSome, refl, sym, ◌∙◌, ap, subst, arith}
use Rattle.std.specs.Prelude.{Contains, option_map}
use Rattle.hdfs_cluster.specs.declared.messages.Block.{Block}
use Rattle.hdfs_cluster.specs.declared.messages.DatanodeInfo.{DatanodeInfo}
use Rattle.hdfs_cluster.specs.declared.messages.LocatedBlock.{LocatedBlock}
use Rattle.hdfs_cluster.specs.declared.picture.BlockEntry.{BlockEntry}
use Rattle.hdfs_cluster.specs.declared.picture.Entry.{Entry}
use Rattle.hdfs_cluster.specs.declared.picture.Entry.TheVariants as entries
use Rattle.hdfs_cluster.specs.declared.picture.FileEntry.{FileEntry}
use Rattle.hdfs_cluster.specs.Effects.{Changes, of_length, with_length, with_block, with_entry, blocks_at, AddsNew}
use Rattle.hdfs_cluster.specs.Picture.{Picture, SameButActive}
use Rattle.hdfs_cluster.specs.Sound.{IsSound, IsFileAt}
use Rattle.hdfs_rebuild.specs.Between.{OnlyBlockOf}
use Rattle.hdfs_file_writer.specs.OnlyFiles.{OnlyFile, SameFile}
use Rattle.hdfs_file_writer.proofs.Adding.{named_after}
use Rattle.hdfs_file_writer.proofs.Others.{is_listed}
use Rattle.hdfs_file_writer.proofs.Placing.{at_path, at_id, some_none}

at_file : (p : Picture) (path : List ℕ) (file : FileEntry) (id : ℕ) → IsFileAt p path file → Contains file.blocks id → Contains (blocks_at (p.names path)) id
at_file p path file id is there = subst (λ (e : Option Entry). Contains (blocks_at e) id) (sym is) there

of_file : (p : Picture) (path : List ℕ) (file : FileEntry) (id : ℕ) → IsFileAt p path file → Contains (blocks_at (p.names path)) id → Contains file.blocks id
of_file p path file id is there = subst (λ (e : Option Entry). Contains (blocks_at e) id) is there

-- one block of the file
pub only_file_block : (path : List ℕ) (file : FileEntry) (id : ℕ) (p q : Picture) → IsSound q → IsFileAt p path file → Contains file.blocks id → OnlyBlockOf id p q → OnlyFile path p q
only_file_block path file id p q sound is there only = record {
  names = λ other apart. only.names other;
  blocks = λ other some away. (only.table other (mine other away), λ node. only.held node other (mine other away));
  writes = λ link place told some away. only.writes link place told (mine place.block away);
  grown = λ other at some. subst (λ (e : Option Entry). Contains (blocks_at e) other) (only.names path) at;
  listed = λ other some. ⊎_elim
      (λ own. subst (λ (i : ℕ). IsSome (q.table i)) (sym own.0) (is_listed q sound path file id (only.names path ∙ is) there))
      (λ apart. subst IsSome (sym (only.table other apart.0)) some)
      (at_id other id (p.table other) (p.table other));
  reads = only.reads;
  defaults = only.defaults;
}
  where
    mine : (other : ℕ) → (Contains (blocks_at (p.names path)) other → ⊥) → other ≢ id
    mine other away same = away (at_file p path file other is (subst (Contains file.blocks) (sym same) there))

pub same_file_block : (path : List ℕ) (id : ℕ) (p q : Picture) → OnlyBlockOf id p q → SameFile path p q
same_file_block path id p q only file is = (file.blocks, only.names path ∙ is)

-- which namenode is active
pub only_file_active : (path : List ℕ) (p q : Picture) → SameButActive p q → OnlyFile path p q
only_file_active path p q same = record {
  names = λ other apart. same.files.names other;
  blocks = λ id some away. (same.files.table id, λ node. same.files.held node id);
  writes = λ link place told some away. same.writes link ∙ told;
  grown = λ id there some. subst (λ (e : Option Entry). Contains (blocks_at e) id) (same.files.names path) there;
  listed = λ id some. subst IsSome (sym (same.files.table id)) some;
  reads = same.reads;
  defaults = same.files.defaults;
}

some_length : (n : ℕ) (o : Option BlockEntry) → IsSome o → IsSome (option_map (of_length n) o)
some_length n None some = some
some_length n (Some entry) some = refl

-- a table in which lengths are set lists what was listed
pub length_listed : (table : ℕ → Option BlockEntry) (previous : Option Block) (id : ℕ) → IsSome (table id) → IsSome (with_length table previous id)
length_listed table None id some = some
length_listed table (Some block) id some = ⊎_elim
    (λ here. subst IsSome (sym here.1) (some_length block.num_bytes (table id) some))
    (λ away. subst IsSome (sym away.1) some)
    (at_id block.block_id id (option_map (of_length block.num_bytes) (table id)) (table id))

module _ (p q : Picture) (path : List ℕ) (file : FileEntry) (is : IsFileAt p path file) (previous : Option Block)
    (lengths : (other : ℕ) → (Contains file.blocks other → ⊥) → with_length p.table previous other ≡ p.table other) where
  -- the file's entry, and the length of its last block
  pub only_file_length : (file' : FileEntry) → file'.blocks ≡ file.blocks → Changes p q (with_entry p.names path file') (with_length p.table previous) → OnlyFile path p q
  only_file_length file' same changes = record {
    names = λ other apart. changes.names other ∙ ⊎_elim (λ here. absurd (apart (sym here.0))) (λ away. away.1) (at_path path other (Some (entries.File file')) (p.names other));
    blocks = λ other some away. (changes.table other ∙ lengths other (λ there. away (at_file p path file other is there)), λ node. changes.bytes.held node other);
    writes = λ link place told some away. changes.bytes.writes link ∙ told;
    grown = λ other there some. at_file p path file other is (subst (λ (l : List ℕ). Contains l other) same (of_file q path file' other (named_after p q path file' (with_length p.table previous) changes) there));
    listed = λ other some. subst IsSome (sym (changes.table other)) (length_listed p.table previous other some);
    reads = changes.bytes.reads;
    defaults = changes.bytes.defaults;
  }

  -- a new block behind the others
  module _ {excludes : List DatanodeInfo} (found : LocatedBlock) (added : AddsNew path file previous excludes found p q) where
    abbrev grown_file : FileEntry
    grown_file = record file { blocks = file.blocks ++ added.id ∷ [] }

    gone : (other : ℕ) → IsSome (p.table other) → added.id ≢ other
    gone other some same = some_none (p.table other) some (ap p.table (sym same) ∙ added.fresh.absent)

    old_table : (other : ℕ) → IsSome (p.table other) → q.table other ≡ with_length p.table previous other
    old_table other some = added.changes.table other ∙ ⊎_elim (λ here. absurd (gone other some here.0)) (λ apart. apart.1) (at_id added.id other (Some added.entry) (with_length p.table previous other))

    old_one : (blocks : List ℕ) (other : ℕ) → Contains (blocks ++ added.id ∷ []) other → IsSome (p.table other) → Contains blocks other
    old_one [] other (zero, lt, at) some = absurd (gone other some at)
    old_one [] other (suc k, lt, at) some = absurd (omega (arith, lt))
    old_one (b ∷ blocks) other (zero, lt, at) some = (0, omega arith, at)
    old_one (b ∷ blocks) other (suc k, lt, at) some = (let h = old_one blocks other (k, omega (arith, lt), at) some in (suc h.0, omega (arith, h.1), h.2))

    pub only_file_added : OnlyFile path p q
    only_file_added = record {
      names = λ other apart. added.changes.names other ∙ ⊎_elim (λ here. absurd (apart (sym here.0))) (λ away. away.1) (at_path path other (Some (entries.File grown_file)) (p.names other));
      blocks = λ other some away. (old_table other some ∙ lengths other (λ there. away (at_file p path file other is there)), λ node. added.changes.bytes.held node other);
      writes = λ link place told some away. added.changes.bytes.writes link ∙ told;
      grown = λ other there some. at_file p path file other is (old_one file.blocks other (of_file q path grown_file other (named_after p q path grown_file (with_block (with_length p.table previous) added.id added.entry) added.changes) there) some);
      listed = λ other some. subst IsSome (sym (old_table other some)) (length_listed p.table previous other some);
      reads = added.changes.bytes.reads;
      defaults = added.changes.bytes.defaults;
    }

    pub same_file_added : SameFile path p q
    same_file_added file' is' =
        let same : file ≡ file' = cc (is, is') in
        subst (λ (f : FileEntry). (blocks : List ℕ) × IsFileAt q path (record f { blocks = blocks })) same (grown_file.blocks, named_after p q path grown_file (with_block (with_length p.table previous) added.id added.entry) added.changes)
