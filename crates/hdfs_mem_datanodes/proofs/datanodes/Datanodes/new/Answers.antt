-- Each datanode is new, and `dn0` is the first of them.
use Rattle.std.proofs.Common.{◌≡◌, ◌⊎◌, ⊎_elim, inl, inr, ℕ, ◌<◌, zero, suc, List, ◌∷◌, Some, refl, sym, ◌∙◌, ap, subst, arith}
use Rattle.std.proofs.lemmas.Bool.{cases_eq}
use Rattle.std.proofs.lemmas.Fmt.{decimal_digit}
use Rattle.std.proofs.lemmas.Map.Text.{btree_map_updates_text}
use Rattle.std.specs.Map.{lookup}
use Rattle.std.specs.Ordering.{nat_cmp}
use Rattle.std.specs.Cmp.Lexicographic.{slice_cmp}
use Rattle.std.specs.BTreeMap.{is_at, get_by_text}
use Rattle.std.specs.String.{string_bytes}
use Rattle.hdfs_mem_datanodes.specs.Replicas.{held_by}
use Rattle.hdfs_mem_faults.specs.Series.{uuid_of}
use Rattle.hdfs_mem_datanodes.specs.Uuids.{first_node}
use Rattle.hdfs_mem_datanodes.proofs.Nodes.{IsNew, update_all, update_some, update_here}
use Rattle.hdfs_mem_datanodes.proofs.datanodes.Datanodes.new.Goals as goal

zero_or_more : (n : ℕ) → (n ≡ 0) ⊎ (0 < n)
zero_or_more zero = inl refl
zero_or_more (suc n) = inr (omega arith)

first_uuid : (number : ℕ) → number ≡ 0 → uuid_of number ≡ first_node
first_uuid number is = ap uuid_of is ∙ ap (λ (ds : List ℕ). 100 ∷ 110 ∷ ds) (decimal_digit 0 (omega arith))

pub loop-number-init : goal.loop-number-init
loop-number-init c = record {
  are_new = λ d. subst IsNew (sym (ap (lookup (is_at (λ k. slice_cmp nat_cmp d (string_bytes k)))) c.new-by_uuid.ensures.empty)) (λ block. refl);
  first = λ below. absurd (omega arith);
  numbered = λ k below. absurd (omega (arith, below));
}

pub loop-number-preserved : goal.loop-number-preserved
loop-number-preserved c =
    let w = c.new.result in
    let look = get_by_text c.loop-number.by_uuid in
    let after = get_by_text c.insert.new.self in
    let key = string_bytes c.in_ok-uuid.field-0 in
    let updates = btree_map_updates_text key c.loop-number.by_uuid c.insert.new.self (Some w) c.in_ok-insert.ensures.updates in
    record {
      are_new = update_all look after key w updates (λ d o. IsNew o) c.new.ensures c.loop-number.invariant.are_new;
      first = λ below. ⊎_elim
          (λ none. update_here look after key w updates first_node (c.in_ok-uuid.ensures ∙ first_uuid c.loop-number.number none))
          (λ more. update_some look after key w updates first_node (c.loop-number.invariant.first more))
          (zero_or_more c.loop-number.number);
      numbered = λ k below. ⊎_elim
          (λ same. update_here look after key w updates (uuid_of k) (c.in_ok-uuid.ensures ∙ ap uuid_of (sym same)))
          (λ apart. update_some look after key w updates (uuid_of k) (c.loop-number.invariant.numbered k (omega (arith, below, apart))))
          (cases_eq k c.loop-number.number);
    }

pub invariant_of-result : goal.invariant_of-result
invariant_of-result c = record { some = omega arith; first = c.loop-number.invariant.first (omega arith); numbered = λ k below. c.loop-number.invariant.numbered k (omega (arith, below)) }

pub returns-clause-held : goal.returns-clause-held
returns-clause-held c = λ d. λ block. ap held_by (c.loop-number.invariant.are_new d block)
