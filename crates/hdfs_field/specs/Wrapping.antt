-- Whole numbers modulo 2^32.
use Rattle.std.specs.Prelude.{ℕ, ◌+◌, ◌-◌, ◌*◌, ◌%◌, ◌^◌}
use Rattle.std.proofs.Common.{lit<}
use Rattle.std.proofs.Math.Nat.{mod-lt}
use Rattle.hdfs_field.specs.declared.wrap32.Wrap32.{Wrap32}
use Rattle.hdfs_field.specs.Rings.{Operations}

-- the number of these that differs from n by a multiple of 2^32
abbrev pub wrapped : ℕ → Wrap32
wrapped n = record { value = n % 2 ^ 32; in_range = mod-lt n (lit< tt) }

-- the operations of the ring
abbrev pub wrapping : Operations Wrap32
wrapping = record {
  zero = wrapped 0;
  one = wrapped 1;
  sum = λ a b. wrapped (a.value + b.value);
  difference = λ a b. wrapped (a.value + 2 ^ 32 - b.value);
  product = λ a b. wrapped (a.value * b.value);
}
