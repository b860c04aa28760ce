-- What datanodes of a transfer were given so far.
use Rattle.std.proofs.Common.{◌≡◌, ⊎_elim, inl, inr, ℕ, Bool, true, false, ◌&&◌, ◌||◌, eqb, List, [], ◌∷◌, take, Option, zero, suc, refl, ◌∙◌, ap}
use Rattle.std.proofs.lemmas.Slice.Eq.{bytes_eq-Decides}
use Rattle.std.specs.Str.{bytes_eq}
use Rattle.hdfs_cluster.specs.declared.messages.DatanodeInfo.{DatanodeInfo}
use Rattle.hdfs_mem_datanodes.specs.declared.replica.Replica.{Replica}
use Rattle.hdfs_mem_datanodes.specs.Nodes.{is_named, is_on}
use Rattle.hdfs_mem_datanodes.specs.Replicas.{IsGiven, MayBeGiven, SameReplica}

-- what is not seen to change twice is not seen to change
pub same_replica_trans : (a b c : Option Replica) → SameReplica a b → SameReplica b c → SameReplica a c
same_replica_trans a b c f g = record { bytes = g.bytes ∙ f.bytes; links = λ link. g.links link ∙ f.links link }

-- what was given stays so where nothing is seen to change
pub given_kept : (given : List ℕ) (o n : Option Replica) → SameReplica o n → IsGiven given o → IsGiven given n
given_kept given o n same was = record { bytes = same.bytes ∙ was.bytes; links = λ link. same.links link ∙ was.links link }

-- so does what may have been
pub may_be_kept : (given : List ℕ) (a o n : Option Replica) → SameReplica o n → MayBeGiven given a o → MayBeGiven given a n
may_be_kept given a o n same was = ⊎_elim (λ kept. inl (same_replica_trans a o n kept same)) (λ is. inr (given_kept given o n same is)) was

-- a datanode is this one, or another
pub node_cases : (P : Type 0) (d uuid : List ℕ) → (d ≡ uuid → P) → ((d ≡ uuid → ⊥) → P) → P
node_cases P d uuid here apart = by_test (bytes_eq d uuid) (bytes_eq-Decides d uuid).0 (bytes_eq-Decides d uuid).1
  where
    by_test : (t : Bool) → (t ≡ true → d ≡ uuid) → (d ≡ uuid → t ≡ true) → P
    by_test true same test = here (same refl)
    by_test false same test = apart (λ is. (let no : false ≡ true = test is in absurd (cc)))

-- neither of two tests is true where one of them isn't
pub neither : (s t : Bool) → (s || t) ≡ false → (s ≡ false) × (t ≡ false)
neither true t none = absurd (cc)
neither false t none = (refl, none)

-- what none of these datanodes is, none of the first of them is
pub take_named : (locs : List DatanodeInfo) (i : ℕ) (d : List ℕ) → is_named locs d ≡ false → is_named (take i locs) d ≡ false
take_named locs zero d none = refl
take_named [] (suc i) d none = refl
take_named (node ∷ locs) (suc i) d none =
    let parts = neither (bytes_eq d node.id.datanode_uuid) (is_named locs d) none in
    ap (λ (b : Bool). b || is_named (take i locs) d) parts.0 ∙ take_named locs i d parts.1

-- the same of replicas on them
pub take_on : (locs : List DatanodeInfo) (i block : ℕ) (d : List ℕ) (b : ℕ) → is_on locs block d b ≡ false → is_on (take i locs) block d b ≡ false
take_on locs i block d b none = by_test (is_named locs d) (eqb block b) refl none
  where
    by_test : (s t : Bool) → is_named locs d ≡ s → (s && t) ≡ false → (is_named (take i locs) d && t) ≡ false
    by_test true true named none = absurd (cc)
    by_test true false named none = and_false (is_named (take i locs) d)
      where
        and_false : (a : Bool) → (a && false) ≡ false
        and_false true = refl
        and_false false = refl
    by_test false t named none = ap (λ (s : Bool). s && t) (take_named locs i d named)

-- a replica that isn't on the first datanodes and the next one is on neither
pub on_parts : (s u t : Bool) → ((s || u) && t) ≡ false → ((s && t) ≡ false) × ((u && t) ≡ false)
on_parts true u true none = absurd (cc)
on_parts true true false none = (refl, refl)
on_parts true false false none = (refl, refl)
on_parts false u t none = (refl, none)
