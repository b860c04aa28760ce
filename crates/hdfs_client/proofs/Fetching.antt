-- The last name of a page; and errors that are passed on.
use Rattle.std.proofs.Common.{◌≡◌, ℕ, zero, suc, ◌<◌, ◌+◌, ◌-◌, List, [], ◌∷◌, length, refl, ap, subst, sym, arith, Some, None, Result, Ok, Err, IfErr, IsErrAnd, slice_get}
use Rattle.hdfs_cluster.specs.declared.messages.FileStatusMsg.{FileStatusMsg}
use Rattle.hdfs_listing.specs.Walking.{last_name}
use Rattle.hdfs_client.specs.declared.errors.ClientError.{ClientError}

-- what is passed on
pub passed_on : {T : Type 0} (Is : ClientError → Type 0) (error : ClientError) (result : Result T ClientError) → IsErrAnd result (λ e. e ≡ error) → Is error
    → IfErr result Is
passed_on Is error (Ok value) same is = absurd same
passed_on Is error (Err e) same is = subst Is (sym same) is

-- ---- the last name of a page

name_at : (start : List ℕ) (messages : List FileStatusMsg) (last : FileStatusMsg) (k : ℕ) → k + 1 ≡ length messages → Some last ≡ slice_get messages k
    → last.path ≡ last_name start messages
name_at start [] last k many is = absurd (omega arith)
name_at start (message ∷ []) last zero many is =
    let same : last ≡ message = cc in
    ap (λ (m : FileStatusMsg). m.path) same
name_at start (message ∷ (second ∷ messages)) last zero many is = absurd (omega arith)
name_at start (message ∷ messages) last (suc k) many is = name_at message.path messages last k (omega arith) is

pub name_at_end : (start : List ℕ) (listing messages : List FileStatusMsg) (last : FileStatusMsg) → Some last ≡ slice_get listing (length listing - 1)
    → 0 < length listing → listing ≡ messages → last.path ≡ last_name start messages
name_at_end start listing messages last is some same =
    subst (λ (ms : List FileStatusMsg). last.path ≡ last_name start ms) same (name_at start listing last (length listing - 1) (omega arith) is)

within_some : (messages : List FileStatusMsg) (k : ℕ) → k < length messages → None ≡ slice_get messages k → ⊥
within_some [] k low none = omega arith
within_some (message ∷ messages) zero low none = cc
within_some (message ∷ messages) (suc k) low none = within_some messages k (omega arith) none

no_name : (start : List ℕ) (messages : List FileStatusMsg) → None ≡ slice_get messages (length messages - 1) → start ≡ last_name start messages
no_name start [] none = refl
no_name start (message ∷ messages) none = absurd (within_some (message ∷ messages) (length (message ∷ messages) - 1) (omega arith) none)

pub no_name_at_end : (start : List ℕ) (listing messages : List FileStatusMsg) → None ≡ slice_get listing (length listing - 1) → listing ≡ messages
    → start ≡ last_name start messages
no_name_at_end start listing messages none same =
    subst (λ (ms : List FileStatusMsg). start ≡ last_name start ms) same (no_name start listing none)
