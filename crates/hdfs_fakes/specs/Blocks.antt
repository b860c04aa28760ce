-- Two located blocks.
use Rattle.std.specs.Prelude.{◌≡◌, List, [], ◌∷◌}
use Rattle.hdfs_cluster.specs.declared.messages.LocatedBlock.{LocatedBlock}

-- a list of two, of which this holds
pub record IsPair (blocks : List LocatedBlock) (P Q : LocatedBlock → Type 0) : Type 0 where
  pub first : LocatedBlock
  pub second : LocatedBlock
  pub are : blocks ≡ first ∷ second ∷ []
  pub of_first : P first
  pub of_second : Q second
