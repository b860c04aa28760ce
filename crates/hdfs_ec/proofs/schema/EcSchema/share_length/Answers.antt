use Rattle.std.proofs.Common.{◌≡◌, ℕ, ◌+◌, ◌*◌, ◌/◌, ◌-◌, ◌%◌, min, sym, ap, ◌∙◌, arith}
use Rattle.hdfs_ec.proofs.ShareLengths.{share_length_is, rows_within}
use Rattle.hdfs_ec.proofs.schema.EcSchema.share_length.Goals as goal

-- the cells of the whole rows are no more than the group
pub overflow_mul-result : goal.overflow_mul-result
overflow_mul-result c =
    let within = rows_within c.args.self.now.cell_size c.args.self.now.data_units c.args.block_size c.requires.schema.code.some_units in
    let small = c.requires.small in
    rw c.row_size-row.ensures (omega arith)

pub returns : goal.returns
returns c =
    let s = c.args.self.now in
    let n = c.args.block_size in
    let row = c.row_size-row.ensures in
    let last : c.min.result ≡ min s.cell_size (n % (s.data_units * s.cell_size) - c.args.share * s.cell_size) =
    c.min.ensures ∙ ap (min s.cell_size) (c.saturating_sub-last.ensures ∙ ap (λ (x : ℕ). n % x - c.args.share * s.cell_size) row) in
    ap (λ (x : ℕ). n / x * s.cell_size + c.min.result) row ∙ ap (λ (x : ℕ). n / (s.data_units * s.cell_size) * s.cell_size + x) last
    ∙ sym (share_length_is s.cell_size s.data_units c.requires.schema.some c.args.share c.requires.share n)
