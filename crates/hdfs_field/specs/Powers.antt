-- The powers of x in the field of 256 elements. No public clause cites this module.
use Rattle.std.specs.Prelude.{ℕ, zero, suc}
use Rattle.hdfs_field.specs.Elements.{shifted}

-- x multiplied so often with itself
unfoldable pub power : ℕ → ℕ
power zero = 1
power (suc n) = shifted (power n)
