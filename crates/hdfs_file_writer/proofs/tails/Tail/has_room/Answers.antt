use Rattle.std.proofs.Common.{true, false, Bool, not, IsTrue, refl, sym, subst}
use Rattle.std.proofs.lemmas.Bool.{false≢true}
use Rattle.hdfs_file_writer.specs.Tails.{HasRoom}
use Rattle.hdfs_file_writer.proofs.tails.Tail.has_room.Goals as goal

not_both : (b : Bool) → IsTrue (not b) → IsTrue b → ⊥
not_both true never is = false≢true never
not_both false never is = false≢true is

not_is : (b : Bool) → (IsTrue b → ⊥) → IsTrue (not b)
not_is true never = absurd (never refl)
not_is false never = refl

pub returns-in-Going : goal.returns-in-Going
returns-in-Going c = (
  λ room. subst HasRoom (sym c.in-Going.is) (λ same. not_both c.is_full.result room (c.is_full.ensures.1 same)),
  λ room. not_is c.is_full.result (λ full. subst HasRoom c.in-Going.is room (c.is_full.ensures.0 full)),
)
