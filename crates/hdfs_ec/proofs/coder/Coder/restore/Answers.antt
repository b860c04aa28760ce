use Rattle.std.proofs.Common.{ℕ, ◌-◌, List, length, take, sym, ap, subst, ◌∙◌}
use Rattle.hdfs_field.specs.Slices.{AreEven, AreCombined}
use Rattle.hdfs_ec.specs.Coding.{Code, IsCode}
use Rattle.hdfs_ec.specs.Restoring.{AreSplit, Restores}
use Rattle.hdfs_ec.proofs.Decoding.{shards_size, shards_even, restored_from}
use Rattle.hdfs_ec.proofs.Splitting.{places_split}
use Rattle.hdfs_ec.proofs.coder.Coder.restore.Goals as goal

pub restoring_rows-requires : goal.restoring_rows-requires
restoring_rows-requires c =
    let code = c.args.self.now in
    let places = c.args.shards.now in
    let is_code = subst (λ (v : Code). IsCode v.units v.parity) c.self.view_is c.self.invariant.0 in
    let missing = c.args.missing.now in
    subst (λ (xs : List ℕ). AreSplit code.units code.parity xs (code.units - length missing) missing) (sym c.requires.held)
    (places_split code.units code.parity is_code places c.requires.places c.requires.enough missing c.requires.some c.requires.missing)

pub slice_bounds-mul_shared-end : goal.slice_bounds-mul_shared-end
slice_bounds-mul_shared-end c =
    let code = c.args.self.now in
    let places = c.args.shards.now in
    let is_code = subst (λ (v : Code). IsCode v.units v.parity) c.self.view_is c.self.invariant.0 in
    let same = ap (λ (v : Code). v.units) c.self.view_is in
    let first = ap (λ (n : ℕ). take n c.deref.result.now) same ∙ ap (take code.units) (c.deref.ensures.value ∙ c.in_ok-copies.ensures) in
    same ∙ sym (shards_size code.units code.parity is_code places c.requires.places c.requires.enough) ∙ ap length (sym first)

pub mul_shared-requires : goal.mul_shared-requires
mul_shared-requires c =
    let code = c.args.self.now in
    let places = c.args.shards.now in
    let is_code = subst (λ (v : Code). IsCode v.units v.parity) c.self.view_is c.self.invariant.0 in
    let same = ap (λ (v : Code). v.units) c.self.view_is in
    let first = ap (λ (n : ℕ). take n c.deref.result.now) same ∙ ap (take code.units) (c.deref.ensures.value ∙ c.in_ok-copies.ensures) in
    subst (λ (n : ℕ). AreEven n (take c.self.inside.data_units c.deref.result.now)) (sym c.in_ok-rows.ensures.cols)
    (subst (AreEven code.units) (sym first) (shards_even code.units code.parity is_code places c.requires.places c.requires.enough))

pub returns : goal.returns
returns c =
    let code = c.args.self.now in
    let places = c.args.shards.now in
    let is_code = subst (λ (v : Code). IsCode v.units v.parity) c.self.view_is c.self.invariant.0 in
    let missing = c.args.missing.now in
    let rows = c.in_ok-rows.rows in
    let split = places_split code.units code.parity is_code places c.requires.places c.requires.enough missing c.requires.some c.requires.missing in
    let restores = subst (λ (xs : List ℕ). Restores code.units xs missing rows) c.requires.held c.in_ok-rows.ensures in
    let same = ap (λ (v : Code). v.units) c.self.view_is in
    let first = ap (λ (n : ℕ). take n c.deref.result.now) same ∙ ap (take code.units) (c.deref.ensures.value ∙ c.in_ok-copies.ensures) in
    let products = c.in_ok-mul_shared.field-0.items in
    let combined = subst (λ (xs : List (List ℕ)). AreCombined rows xs products) first c.in_ok-mul_shared.ensures in
    restored_from code.units code.parity is_code places c.requires.places c.requires.enough missing split.lost rows restores products combined
