-- That no block stands at two places, and that each is in the table.
use Rattle.std.proofs.Common.{◌≡◌, ℕ, ◌+◌, Bool, true, false, cond, ◌&&◌, eqb, List, [], ◌∷◌, ◌++◌, get_or, Option, Some, None, is_some, IsSome, refl, sym, ◌∙◌, ap, subst, arith}
use Rattle.std.proofs.lemmas.Bool.{false≢true, eq-eqb}
use Rattle.std.proofs.lemmas.Slice.Eq.{bytes_eq-Decides}
use Rattle.std.specs.Str.{bytes_eq}
use Rattle.hdfs_cluster.specs.declared.picture.BlockEntry.{BlockEntry}
use Rattle.hdfs_cluster.specs.declared.picture.Entry.{Entry}
use Rattle.hdfs_cluster.specs.Effects.{blocks_at}
use Rattle.hdfs_cluster.specs.Listing.{total, plus_length}
use Rattle.hdfs_mem_namenode.specs.Adding.{AreNew}
use Rattle.hdfs_mem_namenode.specs.Memory.{is_kth, is_kth_at, AreApart, is_sized}
use Rattle.hdfs_mem_namenode.specs.Soundness.{kth_parts, sized_listed, total_first}

pub no_kth : (k id : ℕ) → is_kth [] k id ≡ true → ⊥
no_kth k id is = let parts = kth_parts [] k id is in omega (arith, parts.0)

pub kth_one : (only k id : ℕ) → is_kth (only ∷ []) k id ≡ true → (k ≡ 0) × (id ≡ only)
kth_one only k id is =
    let parts = kth_parts (only ∷ []) k id is in
    let first : k ≡ 0 = omega (arith, parts.0) in
    (first, sym parts.1 ∙ ap (λ (n : ℕ). get_or (only ∷ []) n 0) first)

-- a block that a file has is in the table
pub kth_listed : (table : ℕ → Option BlockEntry) (o : Option Entry) (k id : ℕ) → is_sized table o ≡ true → is_kth (blocks_at o) k id ≡ true → IsSome (table id)
kth_listed table o k id sized is =
    let parts = kth_parts (blocks_at o) k id is in
    subst (λ (b : ℕ). IsSome (table b)) parts.1 (sized_listed table o sized k 0 parts.0)

pub kth_absent : (table : ℕ → Option BlockEntry) (o : Option Entry) (k id : ℕ) → is_sized table o ≡ true → table id ≡ None → is_kth (blocks_at o) k id ≡ true → ⊥
kth_absent table o k id sized absent is = false≢true (sym (ap is_some absent) ∙ kth_listed table o k id sized is)

-- no blocks are new
pub no_new_block : (names : List ℕ → Option Entry) → AreNew names []
no_new_block names = record {
  unused = λ path k n id here there. no_kth k id here;
  distinct = λ k n id here there. absurd (no_kth k id here);
}

apart_test : (path other : List ℕ) (k n : ℕ) → path ≡ other → k ≡ n → (bytes_eq path other && eqb k n) ≡ true
apart_test path other k n same is = ap (λ (b : Bool). b && eqb k n) ((bytes_eq-Decides path other).1 same) ∙ eq-eqb k n is

-- names with fewer blocks
pub apart_fewer : (names names' : List ℕ → Option Entry) → ((path : List ℕ) (k id : ℕ) → is_kth_at names' path k id ≡ true → is_kth_at names path k id ≡ true) → AreApart names → AreApart names'
apart_fewer names names' was apart path other k n id here there = apart path other k n id (was path k id here) (was other n id there)

-- names with these blocks at one path
module _ (names names' : List ℕ → Option Entry) (at : List ℕ) (ids : List ℕ) (now : (q : List ℕ) → blocks_at (names' q) ≡ cond (bytes_eq at q) ids (blocks_at (names q))) (apart : AreApart names)
    (unused : (q : List ℕ) (k n id : ℕ) → (at ≡ q → ⊥) → is_kth ids k id ≡ true → is_kth_at names q n id ≡ true → ⊥) (distinct : (k n id : ℕ) → is_kth ids k id ≡ true → is_kth ids n id ≡ true → k ≡ n) where
  by_tests : (path other : List ℕ) (k n id : ℕ) (b c : Bool) → bytes_eq at path ≡ b → bytes_eq at other ≡ c
      → is_kth (cond b ids (blocks_at (names path))) k id ≡ true → is_kth (cond c ids (blocks_at (names other))) n id ≡ true → (bytes_eq path other && eqb k n) ≡ true
  by_tests path other k n id true true is is' here there =
      apart_test path other k n (sym ((bytes_eq-Decides at path).0 is) ∙ (bytes_eq-Decides at other).0 is') (distinct k n id here there)
  by_tests path other k n id true false is is' here there = absurd (unused other k n id (λ same. false≢true (sym is' ∙ (bytes_eq-Decides at other).1 same)) here there)
  by_tests path other k n id false true is is' here there = absurd (unused path n k id (λ same. false≢true (sym is ∙ (bytes_eq-Decides at path).1 same)) there here)
  by_tests path other k n id false false is is' here there = apart path other k n id here there

  pub apart_with : AreApart names'
  apart_with path other k n id here there =
      by_tests path other k n id (bytes_eq at path) (bytes_eq at other) refl refl
      (ap (λ (l : List ℕ). is_kth l k id) (sym (now path)) ∙ here) (ap (λ (l : List ℕ). is_kth l n id) (sym (now other)) ∙ there)

-- one block more
pub total-push : (table : ℕ → Option BlockEntry) (ids : List ℕ) (id n : ℕ) (entry : BlockEntry) → total table ids ≡ Some n → table id ≡ Some entry → total table (ids ++ id ∷ []) ≡ Some (n + entry.length)
total-push table [] id n entry so_far is =
    let zero : 0 ≡ n = cc in
    let sum : entry.length + 0 ≡ n + entry.length = omega arith in
    ap (λ (o : Option BlockEntry). plus_length o (Some 0)) is ∙ ap Some sum
total-push table (first ∷ ids) id n entry so_far is =
    let parts = total_first (table first) (total table ids) n so_far in
    let sum : parts.0.length + (parts.2 + entry.length) ≡ n + entry.length = omega (arith, parts.4) in
    ap (λ (o : Option BlockEntry). plus_length o (total table (ids ++ id ∷ []))) parts.1
    ∙ ap (plus_length (Some parts.0)) (total-push table ids id parts.2 entry parts.3 is) ∙ ap Some sum
