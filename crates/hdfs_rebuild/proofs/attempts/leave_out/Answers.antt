-- The goals of leave_out.
use Rattle.std.proofs.Common.{◌≡◌, inl, inr, ℕ, ◌+◌, ◌<◌, ◌≤◌, false, ◌==◌, List, [], ◌∷◌, length, refl, sym, ap, subst, arith}
use Rattle.std.specs.List.{list_any}
use Rattle.std.proofs.lemmas.Bool.{cases_Bool}
use Rattle.std.proofs.lemmas.Bool.Decides.{nat_tests}
use Rattle.hdfs_cluster.specs.declared.messages.DatanodeInfo.{DatanodeInfo}
use Rattle.hdfs_cluster.specs.declared.messages.LocatedBlock.{LocatedBlock}
use Rattle.hdfs_cluster.specs.Namenode.{IsToWrite}
use Rattle.hdfs_rebuild.specs.Plans.{without, block_without}
use Rattle.hdfs_rebuild.proofs.attempts.leave_out.Goals as goal

-- As many are left of two lists that are as long.
same_length : {A B : Type 0} (at : ℕ) (places : List ℕ) (xs : List A) (ys : List B) → length xs ≡ length ys
    → length (without at places xs) ≡ length (without at places ys)
same_length at places [] [] same = refl
same_length at places [] (y ∷ ys) same = absurd (omega (arith, same))
same_length at places (x ∷ xs) [] same = absurd (omega (arith, same))
same_length at places (x ∷ xs) (y ∷ ys) same =
    let rest = same_length (at + 1) places xs ys (omega (arith, same)) in
    elim (cases_Bool (list_any (λ place. place == at) places)) [
      | inl gone ↦ rw gone rest
      | inr stays ↦ rw stays (omega (arith, rest))
    ]

no_longer : {A : Type 0} (at : ℕ) (places : List ℕ) (xs : List A) → length (without at places xs) ≤ length xs
no_longer at places [] = omega arith
no_longer at places (x ∷ xs) =
    let rest = no_longer (at + 1) places xs in
    elim (cases_Bool (list_any (λ place. place == at) places)) [
      | inl gone ↦ rw gone (omega (arith, rest))
      | inr stays ↦ rw stays (omega (arith, rest))
    ]

-- A block with fewer datanodes can be written still, where some are left.
some_left : (block : LocatedBlock) (failed : List ℕ) → IsToWrite block → 0 < length (without 0 failed block.locs) → IsToWrite (block_without failed block)
some_left block failed fine some = record {
  some = some;
  few = omega (arith, fine.few, no_longer 0 failed block.locs);
  types = same_length 0 failed block.storage_types block.locs fine.types;
  ids = same_length 0 failed block.storage_ids block.locs fine.ids;
  below = fine.below;
}

some_where : (n : ℕ) → false ≡ (n == 0) → 0 < n
some_where n is = grind (arith, nat_tests)

pub returns-clause-ok : goal.returns-clause-ok
returns-clause-ok c =
    let is : c.in_ok-block.block ≡ block_without c.args.failed.now c.args.plan.block = c.in_ok-block.ensures in
    let some : 0 < length (without 0 c.args.failed.now c.args.plan.block.locs) =
    omega (arith, ap (λ (b : LocatedBlock). length b.locs) is, some_where (length c.as_slice.result.now) c.if-is_empty.ensures, ap (λ (locs : List DatanodeInfo). length locs) c.as_slice.ensures) in
    record {
      is = ap (λ (b : LocatedBlock). record c.args.plan { block = b; rebuilds = c.args.plan.rebuilds + 1 }) is;
      within = omega (arith, c.requires.rebuilds, c.if-plan-settings.false);
      block = subst IsToWrite (sym is) (some_left c.args.plan.block c.args.failed.now c.requires.block some);
    }
