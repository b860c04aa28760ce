-- The attributes of a file are in their limits where the sizes of its writer are.
use Rattle.std.proofs.Common.{◌≡◌, ◌⊎◌, inl, inr, ⊎_elim, ℕ, ◌^◌, ◌<◌, ◌≤◌, nat_le, nat_lt, true, false, ◌&&◌, sym, ◌∙◌, ap, ap₂, arith}
use Rattle.std.proofs.lemmas.Bool.{and_parts, and_from, cases_Bool, false≢true}
use Rattle.std.proofs.lemmas.Bool.Decides.{nat_tests}
use Rattle.hdfs_cluster.specs.declared.attributes.Attributes.{Attributes}
use Rattle.hdfs_cluster.specs.Limits.{are_attributes, is_replication, is_block_size}
use Rattle.hdfs_file_writer.specs.Writers.{AreLimited}
use Rattle.hdfs_file_writer.specs.declared.sizes.WriteSizes.{WriteSizes}

-- what the test of a replication says
replication_from : (n : ℕ) → is_replication n ≡ true → (1 ≤ n) × (n ≤ 65535)
replication_from n is = let both = and_parts (nat_le 1 n) (nat_le n 65535) is in (grind (arith, nat_tests, both), grind (arith, nat_tests, both))

-- and when it holds
replication_in : (n : ℕ) → (1 ≤ n) × (n ≤ 65535) → is_replication n ≡ true
replication_in n is = and_from (nat_le 1 n) (nat_le n 65535) (grind (arith, nat_tests, is)) (grind (arith, nat_tests, is))

-- the same of a block size
block_size_from : (n : ℕ) → is_block_size n ≡ true → (0 < n) × (n < 2 ^ 63)
block_size_from n is = let both = and_parts (nat_le 1 n) (nat_lt n (2 ^ 63)) is in (grind (arith, nat_tests, both), grind (arith, nat_tests, both))

-- and when that holds
block_size_in : (n : ℕ) → 0 < n → n < 2 ^ 63 → is_block_size n ≡ true
block_size_in n some below = and_from (nat_le 1 n) (nat_lt n (2 ^ 63)) (grind (arith, nat_tests, some)) (grind (arith, nat_tests, below))

module _ (sizes : WriteSizes) (attributes : Attributes) (replication : sizes.replication ≡ attributes.replication) (block_size : sizes.block_size ≡ attributes.block_size) where
  -- a file whose writer has such sizes has such attributes
  pub attributes_in : AreLimited sizes → are_attributes attributes ≡ true
  attributes_in limited =
      ap₂ (λ (r b : ℕ). is_replication r && is_block_size b) (sym replication) (sym block_size)
      ∙ and_from (is_replication sizes.replication) (is_block_size sizes.block_size) (replication_in sizes.replication limited.replication) (block_size_in sizes.block_size limited.block limited.below)

  -- and if it hasn't, the file hasn't
  pub attributes_out : (AreLimited sizes → ⊥) → are_attributes attributes ≡ false
  attributes_out out =
      ⊎_elim
      (λ is. absurd (let both = and_parts (is_replication attributes.replication) (is_block_size attributes.block_size) is in
      let r = replication_from sizes.replication (ap is_replication replication ∙ both.0) in
      let b = block_size_from sizes.block_size (ap is_block_size block_size ∙ both.1) in
      out (record { block = b.0; below = b.1; replication = r })))
      (λ isnt. isnt)
      (cases_Bool (are_attributes attributes))

-- sizes are in their limits, or they aren't
pub limited_cases : (sizes : WriteSizes) → AreLimited sizes ⊎ (AreLimited sizes → ⊥)
limited_cases sizes =
    ⊎_elim
    (λ is. (let both = and_parts (is_replication sizes.replication) (is_block_size sizes.block_size) is in
    let b = block_size_from sizes.block_size both.1 in
    inl (record { block = b.0; below = b.1; replication = replication_from sizes.replication both.0 })))
    (λ isnt. inr (λ limited. false≢true (sym isnt ∙ and_from (is_replication sizes.replication) (is_block_size sizes.block_size)
    (replication_in sizes.replication limited.replication) (block_size_in sizes.block_size limited.block limited.below))))
    (cases_Bool (is_replication sizes.replication && is_block_size sizes.block_size))
