-- What a matrix ends as, where a reference to one of its entries is returned.
use Rattle.std.specs.Prelude.{ℕ, List}
use Rattle.std.specs.Borrow.{Lends, Fml, RattleType, MutBor}
use Rattle.hdfs_field.specs.contracts.matrix.Matrix.{the_row}
use Rattle.hdfs_field.specs.Matrices.{with_entry}

-- once the borrow r ends, the entry in row i and column c is the last value written through r
abbrev pub lends_entry : (T : RattleType) → MutBor (List (List T.Denot)) → ℕ → ℕ → MutBor T.Denot → Fml
lends_entry T m i c r = Lends (the_row T) T m r (with_entry m.now i c)
