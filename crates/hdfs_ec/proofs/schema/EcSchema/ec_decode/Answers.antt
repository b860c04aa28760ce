use Rattle.std.proofs.Common.{ℕ, ◌+◌, ◌*◌, ◌/◌, ◌≤◌, [], List, length, get_or, take, All, Option, sym, ap, subst, ◌∙◌, arith}
use Rattle.std.proofs.lemmas.List.{get_or_read}
use Rattle.hdfs_ec.specs.Striping.{cells}
use Rattle.hdfs_ec.specs.Places.{held_shards}
use Rattle.hdfs_ec.specs.Coding.{AreFilled, HoldShardsOf}
use Rattle.hdfs_ec.proofs.Gathering.{slice_written, gathered_count, gathered_rows, gathered_is}
use Rattle.hdfs_ec.proofs.schema.EcSchema.ec_decode.Goals as goal

pub index-requires : goal.index-requires
index-requires c =
    let s = c.args.self.now in
    let n = s.data_units + s.parity_units in
    let old = c.args.stripes.items in
    let new = c.fill.new.stripes in
    let some = c.requires.schema.code.some_units in
    let few : s.data_units ≤ n = omega arith in
    let filled = subst (λ (xs : List (Option (List ℕ))). AreFilled s.data_units xs new) c.deref_mut.ensures.value c.in_ok-fill.ensures.filled in
    let count = filled.count in
    let ok = c.args.stripes.ok in
    let now = c.deref.ensures.value ∙ slice_written c.args.stripes.len new old count (omega arith) in
    let shares = c.in_ok-shares.ensures ∙ ap (λ (xs : List (Option (List ℕ))). held_shards (take s.data_units xs)) now in
    let size = ap length shares in
    let all = gathered_count s.data_units n old new c.requires.places few filled in
    let shares_ok = c.in_ok-shares.shares.ok in
    omega arith

pub cells_of-requires-clause-long : goal.cells_of-requires-clause-long
cells_of-requires-clause-long c =
    let s = c.args.self.now in
    let n = s.data_units + s.parity_units in
    let old = c.args.stripes.items in
    let new = c.fill.new.stripes in
    let some = c.requires.schema.code.some_units in
    let few : s.data_units ≤ n = omega arith in
    let filled = subst (λ (xs : List (Option (List ℕ))). AreFilled s.data_units xs new) c.deref_mut.ensures.value c.in_ok-fill.ensures.filled in
    let count = filled.count in
    let ok = c.args.stripes.ok in
    let now = c.deref.ensures.value ∙ slice_written c.args.stripes.len new old count (omega arith) in
    let shares = c.in_ok-shares.ensures ∙ ap (λ (xs : List (Option (List ℕ))). held_shards (take s.data_units xs)) now in
    let size = ap length shares in
    let all = gathered_count s.data_units n old new c.requires.places few filled in
    let shares_ok = c.in_ok-shares.shares.ok in
    let first = get_or_read c.in_ok-shares.shares.items 0 c.index.result.now (omega arith) c.index.ensures [] in
    let gathered = c.deref-2.ensures.value ∙ shares in
    let len = c.len.ensures.value ∙ ap length first ∙ ap (λ (xs : List (List ℕ)). length (get_or xs 0 [])) shares in
    subst (λ (xs : List (List ℕ)). All (λ x. c.len.result / s.cell_size * s.cell_size ≤ length x) xs) (sym gathered)
    (subst (λ (k : ℕ). All (λ x. k / s.cell_size * s.cell_size ≤ length x) (held_shards (take s.data_units new))) (sym len)
    (gathered_rows s.data_units n old new c.requires.places few filled s.cell_size (omega arith)))

pub returns-clause-cells : goal.returns-clause-cells
returns-clause-cells c = λ originals data_shards hold.
    let s = c.args.self.now in
    let n = s.data_units + s.parity_units in
    let old = c.args.stripes.items in
    let new = c.fill.new.stripes in
    let some = c.requires.schema.code.some_units in
    let few : s.data_units ≤ n = omega arith in
    let filled = subst (λ (xs : List (Option (List ℕ))). AreFilled s.data_units xs new) c.deref_mut.ensures.value c.in_ok-fill.ensures.filled in
    let count = filled.count in
    let ok = c.args.stripes.ok in
    let now = c.deref.ensures.value ∙ slice_written c.args.stripes.len new old count (omega arith) in
    let shares = c.in_ok-shares.ensures ∙ ap (λ (xs : List (Option (List ℕ))). held_shards (take s.data_units xs)) now in
    let size = ap length shares in
    let all = gathered_count s.data_units n old new c.requires.places few filled in
    let shares_ok = c.in_ok-shares.shares.ok in
    let first = get_or_read c.in_ok-shares.shares.items 0 c.index.result.now (omega arith) c.index.ensures [] in
    let gathered = c.deref-2.ensures.value ∙ shares in
    let len = c.len.ensures.value ∙ ap length first ∙ ap (λ (xs : List (List ℕ)). length (get_or xs 0 [])) shares in
    let hold' = subst (HoldShardsOf originals) (sym c.deref_mut.ensures.value) hold in
    let is = gathered_is s.data_units n old new c.requires.places few filled originals data_shards (c.in_ok-fill.ensures.restored originals data_shards hold') in
    c.in_ok-cells_of.ensures ∙ ap (λ (xs : List (List ℕ)). cells s.cell_size xs (c.len.result / s.cell_size)) (gathered ∙ is)
    ∙ ap (λ (k : ℕ). cells s.cell_size originals (k / s.cell_size)) (len ∙ ap (λ (xs : List (List ℕ)). length (get_or xs 0 [])) is)
