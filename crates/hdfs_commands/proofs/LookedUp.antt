-- A read whose blocks are looked up, and one that is refused then.
use Rattle.std.proofs.Common.{◌≡◌, inl, inr, ℕ, List, refl, sym, subst}
use Rattle.hdfs_model.specs.declared.commands.Command.TheVariants as commands
use Rattle.hdfs_cluster.specs.declared.errors.HdfsError.{HdfsError}
use Rattle.hdfs_model.specs.Causes.{Tells}
use Rattle.hdfs_model.specs.Owing.{IsNotOwed}
use Rattle.hdfs_cluster.specs.Shown.{SameLinks, SamePlaces, SameReadPlaces, SameReads, Shown}
use Rattle.hdfs_model.proofs.Telling.{ask_can_end}
use Rattle.hdfs_cluster.proofs.Frames.{told_weaker}
use Rattle.hdfs_namenode.specs.Relaying.{TellsAsk}
use Rattle.hdfs_file_reader.specs.Looking.{LooksInVain, TellsLookUp}
use Rattle.hdfs_commands.proofs.Owing.{ask_not_owed}

-- a name is what it is called by
pub vain_called : {called name path : List ℕ} {old new : Shown} {error : HdfsError} → called ≡ name → LooksInVain called path old error new
    → LooksInVain name path old error new
vain_called {called} {name} {path} {old} {new} {error} is = subst (λ (n : List ℕ). LooksInVain n path old error new) is

-- what an error of an ask tells of the read that asked
pub tells_from-TellsAsk : (name : List ℕ) (from len : ℕ) (old new : Shown) (e : HdfsError) → TellsAsk old new e → Tells (commands.Read name from len) old new e
tells_from-TellsAsk name from len old new e tells = (ask_can_end (commands.Read name from len) e tells.0, tells.1)

-- and an error of the look-up
pub tells_looked : (name : List ℕ) (from len : ℕ) (old new : Shown) (e : HdfsError) → TellsLookUp name old e new
    → IsNotOwed e × Tells (commands.Read name from len) old new e
tells_looked name from len old new e (inl missing) =
    subst (λ (x : HdfsError). IsNotOwed x × Tells (commands.Read name from len) old new x) (sym missing.0) (tt, ((refl, tt), (missing.1, tt)))
tells_looked name from len old new e (inr asked) = (ask_not_owed old new e asked, tells_from-TellsAsk name from len old new e asked)

-- links that stay are read links that stay
pub reads_of : (s t : Shown) → SameLinks s t → SameReads s t
reads_of s t links = record { links = links.links; places = told_weaker (SamePlaces s) (SameReadPlaces s) s.picture t.picture (λ p q both. both.0) links.places }
