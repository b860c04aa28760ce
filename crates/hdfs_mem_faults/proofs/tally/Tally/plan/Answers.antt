-- A number that was not reached yet counts nothing.
use Rattle.std.proofs.Common.{◌≡◌, ◌≢◌, ℕ, ◌^◌, ◌<◌, false, List, Some, is_some, Result, Ok, Err, OnOk, OnErr, sym, ◌∙◌, ap, arith}
use Rattle.std.proofs.lemmas.Bool.Decides.{nat_tests}
use Rattle.std.specs.Map.{lookup}
use Rattle.std.specs.Ordering.{nat_cmp}
use Rattle.std.specs.BTreeMap.{BTreeMap, btree_map_len, is_at, Updates, IsUnchanged}
use Rattle.hdfs_mem_faults.proofs.Failing.{fails-same, few_stay, is_kind}
use Rattle.hdfs_mem_faults.proofs.tally.Tally.plan.Goals as goal

-- another number is not looked up
is_at_other : (k b : ℕ) → b ≢ k → is_at (nat_cmp k) b ≡ false
is_at_other k b apart = grind (arith, nat_tests)

-- the other numbers stay, whether this one was put in or not
others_stay : {A E K : Type 0} (r : Result A E) (old new : BTreeMap ℕ K) (nth k : ℕ) (kind : K) → OnOk r (Updates nat_cmp old new nth (Some kind)) → OnErr r (IsUnchanged old new) → k ≢ nth → is_kind new k ≡ is_kind old k
others_stay (Ok a) old new nth k kind ok err apart = ap is_some (ok.2 k (is_at_other nth k apart))
others_stay {A} {E} {K} (Err e) old new nth k kind ok err apart = ap (λ (es : List (ℕ × K)). is_some (lookup (is_at (nat_cmp k)) es)) err

pub invariant_of-self : goal.invariant_of-self
invariant_of-self g c =
    let old = c.args.self.now in
    let below : btree_map_len old.planned < 2 ^ 60 = omega (arith, c.if-len-ge-MOST.false, c.len.ensures.len) in
    record {
      counted = old.counted ∙ sym (fails-same (is_kind old.planned) (is_kind c.insert.new.self) old.calls
          (λ k le. others_stay c.insert.result old.planned c.insert.new.self c.args.nth k c.args.kind c.insert.ensures.updates c.insert.ensures.err (omega arith)));
      few = few_stay c.insert.result old.planned c.insert.new.self (2 ^ 60) c.insert.ensures.len c.insert.ensures.err below;
    }
