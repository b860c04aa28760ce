-- That the picture of a cluster in memory is sound.
use Rattle.std.proofs.Common.{◌≡◌, ℕ, ◌+◌, ◌<◌, ◌^◌, true, eqb, ltb, List, [], ◌∷◌, length, get_or, Option, Some, None, is_some, IsSome, refl, ◌∙◌, ap, subst, arith}
use Rattle.std.proofs.lemmas.Bool.{ltb-true, eqb-true}
use Rattle.std.proofs.lemmas.Bool.Decides.{nat_tests}
use Rattle.std.proofs.lemmas.List.Elements.{All-cons, All-nil}
use Rattle.std.proofs.lemmas.Slice.Eq.{bytes_eq-Decides}
use Rattle.std.specs.List.{All}
use Rattle.std.specs.Prelude.{IsUtf8}
use Rattle.std.specs.Str.{bytes_eq}
use Rattle.hdfs_cluster.specs.declared.picture.BlockEntry.{BlockEntry}
use Rattle.hdfs_cluster.specs.declared.picture.Entry.{Entry}
use Rattle.hdfs_cluster.specs.declared.picture.Entry.TheVariants as entries
use Rattle.hdfs_cluster.specs.Effects.{blocks_at}
use Rattle.hdfs_cluster.specs.Listing.{total, plus_length}
use Rattle.hdfs_cluster.specs.Picture.{Picture}
use Rattle.hdfs_cluster.specs.Sound.{IsBlockAt, IsSound}
use Rattle.hdfs_cluster.proofs.Loads.{and_parts}
use Rattle.hdfs_mem_namenode.specs.Memory.{is_kth, is_kth_at, AreApart, is_sized, is_length}

pub kth_test : (ids : List ℕ) (k id : ℕ) → k < length ids → get_or ids k 0 ≡ id → is_kth ids k id ≡ true
kth_test ids k id below is = grind (arith, nat_tests)

pub kth_parts : (ids : List ℕ) (k id : ℕ) → is_kth ids k id ≡ true → (k < length ids) × (get_or ids k 0 ≡ id)
kth_parts ids k id is =
    let both = and_parts (ltb k (length ids)) (eqb (get_or ids k 0) id) is in
    (ltb-true k (length ids) both.0, eqb-true (get_or ids k 0) id both.1)

-- what the total says of the first block
pub total_first : (first : Option BlockEntry) (rest : Option ℕ) (n : ℕ) → plus_length first rest ≡ Some n
    → (entry : BlockEntry) × (first ≡ Some entry) × (m : ℕ) × (rest ≡ Some m) × (n ≡ entry.length + m)
total_first (Some entry) (Some m) n is = (entry, refl, m, refl, cc)
total_first (Some entry) None n is = absurd (cc)
total_first None rest n is = absurd (cc)

pub total_known : (t : Option ℕ) → is_length t ≡ true → (n : ℕ) × (t ≡ Some n) × (n < 2 ^ 63)
total_known None is = absurd (cc)
total_known (Some n) is = (n, refl, ltb-true n (2 ^ 63) is)

total_listed : (table : ℕ → Option BlockEntry) (ids : List ℕ) (n : ℕ) → total table ids ≡ Some n → All (λ id. IsSome (table id)) ids
total_listed table [] n is = All-nil (λ id. IsSome (table id))
total_listed table (id ∷ ids) n is =
    let first = total_first (table id) (total table ids) n is in
    All-cons (λ id. IsSome (table id)) id ids (ap is_some first.1) (total_listed table ids first.2 first.3)

pub all_listed : (table : ℕ → Option BlockEntry) (ids : List ℕ) → is_length (total table ids) ≡ true → All (λ id. IsSome (table id)) ids
all_listed table ids is = let known = total_known (total table ids) is in total_listed table ids known.0 known.1

pub sized_listed : (table : ℕ → Option BlockEntry) (o : Option Entry) → is_sized table o ≡ true → All (λ id. IsSome (table id)) (blocks_at o)
sized_listed table None is = All-nil (λ id. IsSome (table id))
sized_listed table (Some entries.Dir) is = All-nil (λ id. IsSome (table id))
sized_listed table (Some (entries.File file)) is = all_listed table file.blocks is

-- each block of a file is in the table, and at one place, and names are text
pub sound_from : (p : Picture) → ((path : List ℕ) → is_sized p.table (p.names path) ≡ true) → AreApart p.names
    → ((path : List ℕ) → IsSome (p.names path) → IsUtf8 path) → IsSound p
sound_from p sized apart texts = record {
  texts = texts;
  listed = λ path file named. subst (λ (o : Option Entry). All (λ id. IsSome (p.table id)) (blocks_at o)) named (sized_listed p.table (p.names path) (sized path));
  once = λ path other k n id here there.
      (let both = and_parts (bytes_eq path other) (eqb k n) (apart path other k n id (kth path k id here) (kth other n id there)) in
      ((bytes_eq-Decides path other).0 both.0, eqb-true k n both.1));
}
  where
    kth : (path : List ℕ) (k id : ℕ) → IsBlockAt p path k id → is_kth_at p.names path k id ≡ true
    kth path k id is = ap (λ (o : Option Entry). is_kth (blocks_at o) k id) is.named ∙ kth_test is.file.blocks k id is.below is.is
