-- Wrong ways to leave failed datanodes out of a pipeline of three, which the definition refuses.
use Rattle.std.specs.Prelude.{◌≡◌, ◌≢◌, ℕ, [], ◌∷◌}
use Rattle.std.proofs.Common.{refl}
use Rattle.hdfs_rebuild.specs.Plans.{without}

-- without the first two, the third is left
pub third_is_left : without {T = ℕ} 0 (0 ∷ 1 ∷ []) (7 ∷ 8 ∷ 9 ∷ []) ≡ 9 ∷ []
third_is_left = refl

-- not the second, as where one is taken out after the other and those behind it move up
pub places_dont_move : without {T = ℕ} 0 (0 ∷ 1 ∷ []) (7 ∷ 8 ∷ 9 ∷ []) ≢ 8 ∷ []
places_dont_move same = absurd (cc same)

-- not the one behind a datanode that failed is left out
pub next_is_left : without {T = ℕ} 0 (1 ∷ []) (7 ∷ 8 ∷ 9 ∷ []) ≢ 7 ∷ 8 ∷ []
next_is_left same = absurd (cc same)
