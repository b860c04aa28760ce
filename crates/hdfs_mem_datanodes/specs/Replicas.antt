-- What a replica shows.
use Rattle.std.specs.Prelude.{◌≡◌, ◌⊎◌, ◌==◌, ℕ, Bool, false, List, [], take, Option, Some, None}
use Rattle.std.specs.List.{list_any}
use Rattle.hdfs_mem_datanodes.specs.declared.replica.Replica.{Replica}
use Rattle.hdfs_mem_datanodes.specs.Pieces.{put_pieces}

-- its bytes: the taken pieces over the base
abbrev pub bytes_of : Replica → List ℕ
bytes_of replica = put_pieces replica.base (take replica.taken replica.pieces.items)

-- its bytes as they are once the piece is taken that is offered
abbrev pub whole_of : Replica → List ℕ
whole_of replica = put_pieces replica.base replica.pieces.items

-- no other link has written to it since this one was opened
abbrev pub is_undisturbed : Replica → ℕ → Bool
is_undisturbed replica link = list_any (λ other. other == link) replica.undisturbed.items

-- the same where there may be no replica, and so no bytes
abbrev pub held_by : Option Replica → List ℕ
held_by None = []
held_by (Some replica) = bytes_of replica

-- the same with the piece that is offered
abbrev pub whole_by : Option Replica → List ℕ
whole_by None = []
whole_by (Some replica) = whole_of replica

-- whether a link is one that no other has disturbed since it was set up
abbrev pub undisturbed_by : Option Replica → ℕ → Bool
undisturbed_by None link = false
undisturbed_by (Some replica) link = is_undisturbed replica link

-- the same links are undisturbed
abbrev pub SameLinksOf : Option Replica → Option Replica → Type 0
SameLinksOf old new = (link : ℕ) → undisturbed_by new link ≡ undisturbed_by old link

-- nothing of it is seen to change
pub record SameReplica (old new : Option Replica) : Type 0 where
  pub bytes : held_by new ≡ held_by old
  pub links : SameLinksOf old new

-- it holds these bytes, and all links are disturbed
pub record IsGiven (given : List ℕ) (replica : Option Replica) : Type 0 where
  pub bytes : held_by replica ≡ given
  pub links : (link : ℕ) → undisturbed_by replica link ≡ false

-- it was given these bytes, or nothing of it is seen to change
abbrev pub MayBeGiven : List ℕ → Option Replica → Option Replica → Type 0
MayBeGiven given old new = SameReplica old new ⊎ IsGiven given new
