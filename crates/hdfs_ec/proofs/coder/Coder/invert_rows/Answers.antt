use Rattle.std.proofs.Common.{◌≡◌, ℕ, ◌+◌, ◌<◌, List, length, All, sym, ap, subst, ◌∙◌}
use Rattle.std.specs.List.{Contains}
use Rattle.hdfs_field.specs.declared.gf256.GF256.{GF256}
use Rattle.hdfs_field.specs.Elements.{gf256}
use Rattle.hdfs_ec.specs.Coding.{Code, IsCodingMatrix}
use Rattle.hdfs_field.specs.Matrices.{width, IsSingular, IsInverse, selected_rows}
use Rattle.hdfs_ec.proofs.Choices.{chosen_some, chosen_square, same_inverse}
use Rattle.hdfs_ec.proofs.Independence.{independent}
use Rattle.hdfs_ec.proofs.coder.Coder.invert_rows.Goals as goal

pub select_rows-requires : goal.select_rows-requires
select_rows-requires c =
    let a = c.self.inside in
    let inv = c.self.invariant in
    let numbers = c.args.rows.now in
    let count = c.requires.count ∙ sym (ap (λ (v : Code). v.units) c.self.view_is) in
    let within = subst (λ (v : Code). All (λ r. r < v.units + v.parity) numbers) (sym c.self.view_is) c.requires.within in
    let P : List (List GF256) → Type 0 = λ m. (r : ℕ) × Contains numbers r × (r < length m) in
    subst P (sym c.in_ok-selected.ensures) (chosen_some a.data_units a.parity_units inv.0 a.matrix inv.1 numbers count c.requires.rising within)

pub invert-requires : goal.invert-requires
invert-requires c =
    let a = c.self.inside in
    let inv = c.self.invariant in
    let numbers = c.args.rows.now in
    let count = c.requires.count ∙ sym (ap (λ (v : Code). v.units) c.self.view_is) in
    let within = subst (λ (v : Code). All (λ r. r < v.units + v.parity) numbers) (sym c.self.view_is) c.requires.within in
    let is = c.select_rows.ensures ∙ ap (selected_rows numbers) c.in_ok-selected.ensures in
    subst (λ (m : List (List GF256)). width m ≡ length m) (sym is)
    (chosen_square a.data_units a.parity_units inv.0 a.matrix inv.1 numbers count c.requires.rising within inv.2)

pub unreachable-requires : goal.unreachable-requires
unreachable-requires c =
    let a = c.self.inside in
    let inv = c.self.invariant in
    let numbers = c.args.rows.now in
    let count = c.requires.count ∙ sym (ap (λ (v : Code). v.units) c.self.view_is) in
    let within = subst (λ (v : Code). All (λ r. r < v.units + v.parity) numbers) (sym c.self.view_is) c.requires.within in
    let is = c.select_rows.ensures ∙ ap (selected_rows numbers) c.in_ok-selected.ensures in
    let singular = rw c.in-None.is at c.in_ok-inverse.ensures.none in
    independent a.data_units a.parity_units a.matrix numbers inv.0 inv.1 inv.2 count c.requires.rising within (subst (IsSingular gf256) is singular)

pub returns : goal.returns
returns c = λ coding is_coding.
    let a = c.self.inside in
    let inv = c.self.invariant in
    let numbers = c.args.rows.now in
    let count = c.requires.count ∙ sym (ap (λ (v : Code). v.units) c.self.view_is) in
    let within = subst (λ (v : Code). All (λ r. r < v.units + v.parity) numbers) (sym c.self.view_is) c.requires.within in
    let is_coding' = subst (λ (v : Code). IsCodingMatrix v.units v.parity coding) (sym c.self.view_is) is_coding in
    let is = c.select_rows.ensures ∙ ap (selected_rows numbers) c.in_ok-selected.ensures in
    let inverse = rw c.in-Some.is at c.in_ok-inverse.ensures.some in
    same_inverse a.data_units a.parity_units inv.0 a.matrix coding inv.1 is_coding' numbers count c.requires.rising within c.in-Some.inverse
    (subst (λ (m : List (List GF256)). IsInverse gf256 m c.in-Some.inverse) is inverse)
