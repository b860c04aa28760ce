-- Rows 2, 3 and 4 are three of the five rows of the matrix.
use Rattle.std.proofs.Common.{refl, arith}
use Rattle.hdfs_unit_tests.proofs.coding.chosen_rows.Goals as goal

pub select_rows-requires : goal.select_rows-requires
select_rows-requires c =
    let rows = c.in_ok-rows.ensures.coding.rows in
    (2, (0, omega arith, refl), omega arith)
