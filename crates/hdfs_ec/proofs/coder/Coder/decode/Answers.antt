use Rattle.std.proofs.Common.{ℕ, ◌+◌, ◌<◌, ◌≤◌, List, length, take, All, inl, inr, sym, ap, subst, ◌∙◌, arith}
use Rattle.std.specs.List.Sorted.{IsStrictlyIncreasing}
use Rattle.std.proofs.lemmas.Bool.{eqb-true, eqb-false}
use Rattle.hdfs_ec.specs.Coding.{Code, empty_places}
use Rattle.hdfs_ec.specs.Places.{IsRestored, ArePut}
use Rattle.hdfs_ec.specs.declared.fault.EcFault.TheVariants.{ErasureCodingError}
use Rattle.hdfs_ec.proofs.Occupancy.{held_count}
use Rattle.hdfs_ec.proofs.Filling.{missing_rise, missing_within, all_held, not_all_held, data_as_it_is, filled_as_it_is, data_is_put, filled_is_put}
use Rattle.hdfs_ec.proofs.coder.Coder.decode.Goals as goal

pub returns-then-is_empty-clause-restored : goal.returns-then-is_empty-clause-restored
returns-then-is_empty-clause-restored c = λ originals data_shards hold.
    let code = c.args.self.now in
    let places = c.args.shards.now in
    let same = ap (λ (v : Code). v.units) c.self.view_is in
    let is = c.in_ok-missing.ensures ∙ ap (λ (n : ℕ). empty_places (take n places)) same in
    let missing = c.in_ok-missing.missing.items in
    let few : code.units ≤ code.units + code.parity = omega arith in
    let ok = c.in_ok-missing.missing.ok in
    let none = eqb-true _ _ (sym c.if-is_empty.ensures) in
    data_as_it_is code.units (code.units + code.parity) places c.requires.count few missing is originals data_shards hold (omega arith)

pub returns-then-is_empty-clause-filled : goal.returns-then-is_empty-clause-filled
returns-then-is_empty-clause-filled c =
    let code = c.args.self.now in
    let places = c.args.shards.now in
    let same = ap (λ (v : Code). v.units) c.self.view_is in
    let is = c.in_ok-missing.ensures ∙ ap (λ (n : ℕ). empty_places (take n places)) same in
    let missing = c.in_ok-missing.missing.items in
    let few : code.units ≤ code.units + code.parity = omega arith in
    let ok = c.in_ok-missing.missing.ok in
    let none = eqb-true _ _ (sym c.if-is_empty.ensures) in
    filled_as_it_is code.units (code.units + code.parity) places c.requires.count few missing is (omega arith)

pub returns-then-is_empty-clause-enough : goal.returns-then-is_empty-clause-enough
returns-then-is_empty-clause-enough c =
    let code = c.args.self.now in
    let places = c.args.shards.now in
    let same = ap (λ (v : Code). v.units) c.self.view_is in
    let is = c.in_ok-missing.ensures ∙ ap (λ (n : ℕ). empty_places (take n places)) same in
    let missing = c.in_ok-missing.missing.items in
    let few : code.units ≤ code.units + code.parity = omega arith in
    let ok = c.in_ok-missing.missing.ok in
    let none = eqb-true _ _ (sym c.if-is_empty.ensures) in
    inl (all_held code.units (code.units + code.parity) places c.requires.count few missing is (omega arith))

pub returns-then-len-self-clause-refused : goal.returns-then-len-self-clause-refused
returns-then-len-self-clause-refused c =
    let code = c.args.self.now in
    let places = c.args.shards.now in
    let same = ap (λ (v : Code). v.units) c.self.view_is in
    let is = c.in_ok-missing.ensures ∙ ap (λ (n : ℕ). empty_places (take n places)) same in
    let missing = c.in_ok-missing.missing.items in
    let few : code.units ≤ code.units + code.parity = omega arith in
    let ok = c.in_ok-missing.missing.ok in
    let some = eqb-false _ _ (sym c.if-is_empty.ensures) in
    let held_ok = c.in_ok-held.held.ok in
    let size = ap length c.in_ok-held.ensures in
    let count = held_count 0 places in
    let len = c.len.ensures in
    let lt = c.if-len-self.true in
    let all = ap (λ (xs : List ℕ). ErasureCodingError (record { missing = xs })) c.in_ok-missing-2.ensures in
    inr (all, not_all_held code.units (code.units + code.parity) places c.requires.count few missing is (omega arith), omega arith)

pub restore-requires-clause-missing : goal.restore-requires-clause-missing
restore-requires-clause-missing c =
    let code = c.args.self.now in
    let places = c.args.shards.now in
    let same = ap (λ (v : Code). v.units) c.self.view_is in
    let is = c.in_ok-missing.ensures ∙ ap (λ (n : ℕ). empty_places (take n places)) same in
    c.deref-2.ensures.value ∙ is

pub put-requires-clause-rising : goal.put-requires-clause-rising
put-requires-clause-rising c =
    let code = c.args.self.now in
    let places = c.args.shards.now in
    let same = ap (λ (v : Code). v.units) c.self.view_is in
    let is = c.in_ok-missing.ensures ∙ ap (λ (n : ℕ). empty_places (take n places)) same in
    let missing = c.in_ok-missing.missing.items in
    let few : code.units ≤ code.units + code.parity = omega arith in
    subst IsStrictlyIncreasing (sym c.deref-3.ensures.value) (missing_rise code.units (code.units + code.parity) places c.requires.count few missing is)

pub put-requires-clause-within : goal.put-requires-clause-within
put-requires-clause-within c =
    let code = c.args.self.now in
    let places = c.args.shards.now in
    let same = ap (λ (v : Code). v.units) c.self.view_is in
    let is = c.in_ok-missing.ensures ∙ ap (λ (n : ℕ). empty_places (take n places)) same in
    let missing = c.in_ok-missing.missing.items in
    let few : code.units ≤ code.units + code.parity = omega arith in
    let count = c.requires.count in
    subst (All (λ i. i < length places)) (sym c.deref-3.ensures.value)
    (λ k d lt. let below = missing_within code.units (code.units + code.parity) places c.requires.count few missing is k d lt in omega arith)

pub returns-clause-restored : goal.returns-clause-restored
returns-clause-restored c = λ originals data_shards hold.
    let code = c.args.self.now in
    let places = c.args.shards.now in
    let same = ap (λ (v : Code). v.units) c.self.view_is in
    let is = c.in_ok-missing.ensures ∙ ap (λ (n : ℕ). empty_places (take n places)) same in
    let missing = c.in_ok-missing.missing.items in
    let few : code.units ≤ code.units + code.parity = omega arith in
    let now = c.deref-3.ensures.value in
    let restored = c.in_ok-restored.restored.items in
    let are = subst (λ (xs : List ℕ). IsRestored code.units places xs restored) c.deref-2.ensures.value c.in_ok-restored.ensures in
    let are_put = subst (λ (xs : List ℕ). ArePut (length xs) xs restored places c.put.new.places) now c.put.ensures in
    data_is_put code.units (code.units + code.parity) places c.requires.count few missing is restored c.put.new.places are_put are originals data_shards hold

pub returns-clause-filled : goal.returns-clause-filled
returns-clause-filled c =
    let code = c.args.self.now in
    let places = c.args.shards.now in
    let same = ap (λ (v : Code). v.units) c.self.view_is in
    let is = c.in_ok-missing.ensures ∙ ap (λ (n : ℕ). empty_places (take n places)) same in
    let missing = c.in_ok-missing.missing.items in
    let few : code.units ≤ code.units + code.parity = omega arith in
    let now = c.deref-3.ensures.value in
    let restored = c.in_ok-restored.restored.items in
    let are = subst (λ (xs : List ℕ). IsRestored code.units places xs restored) c.deref-2.ensures.value c.in_ok-restored.ensures in
    let are_put = subst (λ (xs : List ℕ). ArePut (length xs) xs restored places c.put.new.places) now c.put.ensures in
    filled_is_put code.units (code.units + code.parity) places c.requires.count few missing is restored c.put.new.places are_put are

pub returns-clause-enough : goal.returns-clause-enough
returns-clause-enough c =
    let code = c.args.self.now in
    let places = c.args.shards.now in
    let same = ap (λ (v : Code). v.units) c.self.view_is in
    let is = c.in_ok-missing.ensures ∙ ap (λ (n : ℕ). empty_places (take n places)) same in
    let missing = c.in_ok-missing.missing.items in
    let few : code.units ≤ code.units + code.parity = omega arith in
    let held_ok = c.in_ok-held.held.ok in
    let size = ap length c.in_ok-held.ensures in
    let count = held_count 0 places in
    let len = c.len.ensures in
    let le = c.if-len-self.false in
    inr (omega arith)
