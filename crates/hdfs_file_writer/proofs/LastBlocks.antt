-- How the last block of a file stands, by what a writer knows of it.
use Rattle.std.proofs.Common.{◌≡◌, None, refl}
use Rattle.hdfs_file_writer.specs.Tails.{going_of, last_of, reopened_of, HasRoom}
use Rattle.hdfs_file_writer.specs.declared.tails.Tail.{Tail}
use Rattle.hdfs_file_writer.specs.declared.tails.Tail.TheVariants.{Bare, Done, Reopened, Going}
use Rattle.hdfs_file_writer.specs.Writers.{link_by, rebuilds_by, tail_done}

-- where no block is being written, no link is kept
pub no_link : (tail : Tail) → going_of tail ≡ None → link_by tail ≡ None
no_link (Going block) none = absurd (cc none)
no_link tail none = refl

-- and no pipeline was rebuilt
pub no_rebuilds : (tail : Tail) → going_of tail ≡ None → rebuilds_by tail ≡ 0
no_rebuilds (Going block) none = absurd (cc none)
no_rebuilds tail none = refl

-- where none is to be gone on with either, the last one is done, if there is one
pub tail_is_done : (tail : Tail) → going_of tail ≡ None → reopened_of tail ≡ None → tail ≡ tail_done (last_of tail)
tail_is_done Bare none done = refl
tail_is_done (Done block) none done = refl
tail_is_done (Reopened located) none done = absurd (cc done)
tail_is_done (Going block) none done = absurd (cc none)

-- and none has room
pub no_room : (tail : Tail) → going_of tail ≡ None → HasRoom tail → ⊥
no_room (Going block) none room = absurd (cc none)
no_room tail none room = room
