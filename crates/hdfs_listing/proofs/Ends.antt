-- The last name of some entries, and one of them whose name is no text.
use Rattle.std.proofs.Common.{◌≡◌, ℕ, zero, suc, ◌-◌, ◌<◌, List, [], ◌∷◌, length, Contains, Some, None, refl, arith}
use Rattle.std.specs.Prelude.{slice_get}
use Rattle.hdfs_cluster.specs.declared.messages.FileStatusMsg.{FileStatusMsg}
use Rattle.hdfs_listing.specs.Walking.{last_name}

name_at : (start : List ℕ) (statuses : List FileStatusMsg) (last : FileStatusMsg) (k : ℕ) → length statuses ≡ suc k → Some last ≡ slice_get statuses k → last.path ≡ last_name start statuses
name_at start [] last k many is = absurd (omega (arith, many))
name_at start (status ∷ []) last zero many is = cc
name_at start (status ∷ []) last (suc k) many is = absurd (omega (arith, many))
name_at start (status ∷ (second ∷ rest)) last zero many is = absurd (omega (arith, many))
name_at start (status ∷ (second ∷ rest)) last (suc k) many is = name_at status.path (second ∷ rest) last k (omega (arith, many)) is

pub name_at_end : (start : List ℕ) (statuses : List FileStatusMsg) (last : FileStatusMsg) → Some last ≡ slice_get statuses (length statuses - 1) → 0 < length statuses → last.path ≡ last_name start statuses
name_at_end start statuses last is some = name_at start statuses last (length statuses - 1) (omega (arith, some)) is

pub no_end : (start : List ℕ) (statuses : List FileStatusMsg) → None ≡ slice_get statuses (length statuses - 1) → start ≡ last_name start statuses
no_end start [] none = refl
no_end start (status ∷ rest) none = absurd (within_some (status ∷ rest) (length (status ∷ rest) - 1) (omega arith) none)
  where
    within_some : (statuses : List FileStatusMsg) (k : ℕ) → k < length statuses → None ≡ slice_get statuses k → ⊥
    within_some [] k low none = omega (arith, low)
    within_some (first ∷ others) zero low none = cc (none)
    within_some (first ∷ others) (suc k) low none = within_some others k (omega (arith, low)) none
