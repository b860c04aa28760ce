-- That all blocks of a file are in the table, where a block is added.
use Rattle.std.proofs.Common.{◌≡◌, ◌≢◌, ℕ, true, List, [], ◌∷◌, Option, Some, None, refl, ◌∙◌, ap}
use Rattle.hdfs_cluster.specs.declared.picture.BlockEntry.{BlockEntry}
use Rattle.hdfs_cluster.specs.declared.picture.Entry.{Entry}
use Rattle.hdfs_cluster.specs.declared.picture.Entry.TheVariants as entries
use Rattle.hdfs_cluster.specs.Listing.{total, plus_length}
use Rattle.hdfs_mem_namenode.specs.Adding.{Keeps}
use Rattle.hdfs_mem_namenode.specs.Memory.{is_length, is_sized}

module _ (t t' : ℕ → Option BlockEntry) (kept : Keeps t t') where
  plus_kept : (first first' : Option BlockEntry) (rest rest' : Option ℕ) (n : ℕ) → ((entry : BlockEntry) → first ≡ Some entry → first' ≡ Some entry) → ((m : ℕ) → rest ≡ Some m → rest' ≡ Some m) → plus_length first rest ≡ Some n → plus_length first' rest' ≡ Some n
  plus_kept (Some entry) first' (Some m) rest' n same there is = ap (λ (o : Option BlockEntry). plus_length o rest') (same entry refl) ∙ ap (plus_length (Some entry)) (there m refl) ∙ is
  plus_kept (Some entry) first' None rest' n same there is = absurd (cc)
  plus_kept None first' rest rest' n same there is = absurd (cc)

  pub total_kept : (ids : List ℕ) (n : ℕ) → total t ids ≡ Some n → total t' ids ≡ Some n
  total_kept [] n is = is
  total_kept (id ∷ ids) n is = plus_kept (t id) (t' id) (total t ids) (total t' ids) n (kept id) (total_kept ids) is

  length_kept : (o o' : Option ℕ) → ((n : ℕ) → o ≡ Some n → o' ≡ Some n) → is_length o ≡ true → is_length o' ≡ true
  length_kept (Some n) o' same is = ap is_length (same n refl) ∙ is
  length_kept None o' same is = absurd (cc)

  pub sized_kept : (o : Option Entry) → is_sized t o ≡ true → is_sized t' o ≡ true
  sized_kept None is = refl
  sized_kept (Some entries.Dir) is = refl
  sized_kept (Some (entries.File file)) is = length_kept (total t file.blocks) (total t' file.blocks) (total_kept file.blocks) is

-- a block at an id that had none leaves those that were there
pub keeps_others : (t t' : ℕ → Option BlockEntry) (new : ℕ) → t new ≡ None → ((other : ℕ) → other ≢ new → t' other ≡ t other) → Keeps t t'
keeps_others t t' new absent others id entry is =
    let apart : id ≢ new = λ same. (let none : t id ≡ None = ap t same ∙ absent in absurd (cc (none, is))) in
    others id apart ∙ is
