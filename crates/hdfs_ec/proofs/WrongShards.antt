-- Wrong ways to encode and to decode, which the definitions refuse.
use Rattle.std.specs.Prelude.{◌≡◌, ◌≢◌, ℕ, List, [], ◌∷◌, Some, None}
use Rattle.std.proofs.Common.{inl, inr, refl, arith}
use Rattle.hdfs_ec.specs.declared.fault.EcFault.{EcFault}
use Rattle.hdfs_ec.specs.declared.fault.EcFault.TheVariants.{NoMemory}
use Rattle.hdfs_ec.specs.Coding.{coefficient, held, held_before}
use Rattle.hdfs_ec.specs.Refusals.{RefusesPlaces}
use Rattle.hdfs_ec.specs.Steps.{AreParityRows}
use Rattle.hdfs_field.specs.declared.gf256.GF256.{GF256}
use Rattle.hdfs_field.specs.Elements.{gf256}
use Rattle.hdfs_field.specs.Matrices.{entry}

-- as many shards as there are data shards aren't too few
pub two_are_enough : (shard : List ℕ) (e : EcFault) → e ≢ NoMemory → RefusesPlaces 2 (None ∷ Some shard ∷ Some shard ∷ []) e → ⊥
unfolding held_before
two_are_enough shard e other (inl memory) = absurd (other memory)
two_are_enough shard e other (inr few) =
    let two : held (None ∷ Some shard ∷ Some shard ∷ []) ≡ 2 = refl in
    omega (arith, two, few.2)

-- with two data shards the row of the first parity shard has the number 2: that of a row behind those of the data shards
pub parity_is_behind : (m : List (List GF256)) → AreParityRows 2 1 m → entry gf256 m 0 0 ≡ coefficient 2 0
parity_is_behind m rows = rows.entries 0 0 (omega arith) (omega arith)
