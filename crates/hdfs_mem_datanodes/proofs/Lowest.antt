-- The lowest-numbered datanodes, one more of them at a time.
use Rattle.std.proofs.Common.{◌≡◌, ◌≢◌, ℕ, ◌+◌, ◌<◌, zero, suc, Bool, true, false, List, [], ◌∷◌, ◌++◌, length, All, refl, sym, ◌∙◌, ap, subst, arith, length-append}
use Rattle.std.proofs.lemmas.List.Elements.{All-push}
use Rattle.std.proofs.lemmas.Slice.Eq.{bytes_eq-Decides}
use Rattle.std.specs.Str.{bytes_eq}
use Rattle.hdfs_mem_faults.specs.Series.{uuid_of}
use Rattle.hdfs_mem_datanodes.specs.declared.datanodes.Datanodes.{Datanodes}
use Rattle.hdfs_mem_datanodes.specs.Nodes.{held_in, node_at, replica_in}
use Rattle.hdfs_mem_datanodes.specs.Replicas.{held_by}
use Rattle.hdfs_mem_datanodes.specs.Uuids.{lowest}

pub lowest_more : (n : ℕ) → lowest (n + 1) ≡ lowest n ++ uuid_of n ∷ []
lowest_more n = let next : n + 1 ≡ suc n = omega arith in ap lowest next

-- there is one, unless none is wanted
pub lowest_some : (n : ℕ) → 0 < n → 0 < length (lowest n)
lowest_some zero some = absurd (omega (arith, some))
lowest_some (suc n) some = omega (arith, length-append (lowest n) (uuid_of n ∷ []))

-- what holds of so many and of the next holds of one more
pub lowest_all : (P : List ℕ → Type 0) (n : ℕ) → All P (lowest n) → P (uuid_of n) → All P (lowest (n + 1))
lowest_all P n all next = subst (All P) (sym (lowest_more n)) (All-push P (lowest n) (uuid_of n) all next)

-- where one datanode comes to hold the bytes, those that held them still do
pub still_held : (old new : Datanodes) (uuid : List ℕ) (block : ℕ) (bytes : List ℕ) → held_in new uuid block ≡ bytes → ((d : List ℕ) → d ≢ uuid → node_at new d ≡ node_at old d) → (d : List ℕ) → held_in old d block ≡ bytes → held_in new d block ≡ bytes
still_held old new uuid block bytes here others d was = by_test (bytes_eq d uuid) (bytes_eq-Decides d uuid).0 (bytes_eq-Decides d uuid).1
  where
    by_test : (t : Bool) → (t ≡ true → d ≡ uuid) → (d ≡ uuid → t ≡ true) → held_in new d block ≡ bytes
    by_test true same test = subst (λ (u : List ℕ). held_in new u block ≡ bytes) (sym (same refl)) here
    by_test false same test = ap (λ o. held_by (replica_in o block)) (others d (λ is. (let no : false ≡ true = test is in absurd (cc)))) ∙ was
