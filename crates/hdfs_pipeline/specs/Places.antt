-- The statuses of an acknowledgement, one for each node, and the places of the nodes that have failed.
use Rattle.std.specs.Prelude.{ℕ, ◌+◌, ◌<◌, Bool, ◌==◌, List, [], ◌∷◌, length, All, if◌then◌else◌}
use Rattle.std.specs.List.{list_all}
use Rattle.std.specs.List.Sorted.{IsStrictlyIncreasing}

-- each status is 0
abbrev pub are_fine : List ℕ → Bool
are_fine statuses = list_all (λ status. status == 0) statuses

-- the places of the statuses that aren't 0, rising, where the first status has this place
abbrev pub failed_from : ℕ → List ℕ → List ℕ
failed_from place [] = []
failed_from place (status ∷ statuses) = if status == 0 then failed_from (place + 1) statuses else place ∷ failed_from (place + 1) statuses

-- the places of failed nodes: there are some, they rise, and each is that of a node
pub record ArePlaces (nodes : ℕ) (places : List ℕ) : Type 0 where
  pub some : 0 < length places
  pub rising : IsStrictlyIncreasing places
  pub within : All (λ place. place < nodes) places
