use Rattle.std.proofs.Common.{ℕ, ◌<◌, List, length, sym, ap, subst, ◌∙◌}
use Rattle.std.specs.List.{Contains}
use Rattle.hdfs_field.specs.declared.gf256.GF256.{GF256}
use Rattle.hdfs_ec.specs.Coding.{Code}
use Rattle.hdfs_field.specs.Matrices.{selected_rows}
use Rattle.hdfs_ec.specs.Steps.{IsRange, AreParityRows}
use Rattle.hdfs_ec.proofs.Choices.{range_some, parity_rows_are}
use Rattle.hdfs_ec.proofs.coder.Coder.parity_rows.Goals as goal

pub select_rows-requires : goal.select_rows-requires
select_rows-requires c =
    let a = c.self.inside in
    let inv = c.self.invariant in
    let range = subst (IsRange a.data_units a.parity_units) (sym c.deref.ensures.value) c.in_ok-numbers.ensures in
    let P : List (List GF256) → Type 0 = λ m. (r : ℕ) × Contains c.deref.result.now r × (r < length m) in
    subst P (sym c.in_ok-rows.ensures) (range_some a.data_units a.parity_units inv.0 a.matrix inv.1 c.deref.result.now range inv.2)

pub returns : goal.returns
returns c =
    let a = c.self.inside in
    let inv = c.self.invariant in
    let range = subst (IsRange a.data_units a.parity_units) (sym c.deref.ensures.value) c.in_ok-numbers.ensures in
    let is = c.select_rows.ensures ∙ ap (selected_rows c.deref.result.now) c.in_ok-rows.ensures in
    let rows = parity_rows_are a.data_units a.parity_units inv.0 a.matrix inv.1 c.deref.result.now range inv.2 in
    subst (λ (v : Code). AreParityRows v.units v.parity c.select_rows.new.self) c.self.view_is (subst (AreParityRows a.data_units a.parity_units) (sym is) rows)
