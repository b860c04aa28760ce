use Rattle.std.proofs.Common.{◌≢◌, ℕ, ◌+◌, ◌≤◌, List, take, inl, inr, refl, sym, ap, ◌∙◌, arith}
use Rattle.std.specs.Prelude.{codes}
use Rattle.std.proofs.lemmas.Bool.{false≢true}
use Rattle.hdfs_ec.specs.declared.fault.EcFault.TheVariants.{UnsupportedErasureCodingPolicy}
use Rattle.hdfs_ec.specs.declared.fault.EcRefusal.TheVariants.{Codec}
use Rattle.hdfs_ec.specs.Coding.{empty_places}
use Rattle.hdfs_ec.proofs.Filling.{all_held, not_all_held, data_as_it_is, filled_as_it_is}
use Rattle.hdfs_ec.proofs.schema.EcSchema.fill.Goals as goal

pub returns-then-are_held-clause-restored : goal.returns-then-are_held-clause-restored
returns-then-are_held-clause-restored c = λ originals data_shards hold.
    let s = c.args.self.now in
    let few : s.data_units ≤ s.data_units + s.parity_units = omega arith in
    data_as_it_is s.data_units (s.data_units + s.parity_units) c.args.stripes.now c.requires.places.count few (empty_places (take s.data_units c.args.stripes.now)) refl
    originals data_shards hold (c.if-are_held.ensures.yes refl)

pub returns-then-are_held-clause-filled : goal.returns-then-are_held-clause-filled
returns-then-are_held-clause-filled c =
    let s = c.args.self.now in
    let few : s.data_units ≤ s.data_units + s.parity_units = omega arith in
    filled_as_it_is s.data_units (s.data_units + s.parity_units) c.args.stripes.now c.requires.places.count few (empty_places (take s.data_units c.args.stripes.now)) refl
    (c.if-are_held.ensures.yes refl)

pub returns-then-are_held-clause-enough : goal.returns-then-are_held-clause-enough
returns-then-are_held-clause-enough c =
    let s = c.args.self.now in
    let few : s.data_units ≤ s.data_units + s.parity_units = omega arith in
    inl (all_held s.data_units (s.data_units + s.parity_units) c.args.stripes.now c.requires.places.count few (empty_places (take s.data_units c.args.stripes.now)) refl
    (c.if-are_held.ensures.yes refl))

pub returns-then-ne-clause-refused : goal.returns-then-ne-clause-refused
returns-then-ne-clause-refused c =
    let s = c.args.self.now in
    let few : s.data_units ≤ s.data_units + s.parity_units = omega arith in
    let missing = not_all_held s.data_units (s.data_units + s.parity_units) c.args.stripes.now c.requires.places.count few (empty_places (take s.data_units c.args.stripes.now)) refl
    (c.if-are_held.ensures.not refl) in
    let other : s.codec_name ≢ codes "rs" = λ e. let same = rw (c.as_str.ensures ∙ e) at c.if-ne.ensures in false≢true (sym same) in
    inr (inl (missing, other, ap (λ (name : List ℕ). UnsupportedErasureCodingPolicy (Codec name)) c.in_ok-name.ensures))
