-- Reading fields one after the other, as a loop does.
use Rattle.std.proofs.Common.{◌≡◌, ℕ, zero, suc, ◌<◌, ◌≤◌, List, [], ◌∷◌, ◌++◌, length, Result, Ok, Err, refl, sym, ap, ◌∙◌, append_assoc, arith}
use Rattle.std.proofs.lemmas.List.{append-nil}
use Rattle.hdfs_wire.specs.declared.wire_fault.WireFault.{WireFault}
use Rattle.hdfs_wire.specs.declared.field.Field.{Field}
use Rattle.hdfs_wire.specs.Reading.{◌>>=◌, FailsUnlessNoMemory}
use Rattle.hdfs_wire.specs.Fields.{field_at, fields_within, fields_at}
use Rattle.hdfs_wire.proofs.Steps.{fails_on, fails_same}

-- what was read before, and what is still read
abbrev pub with_front : List Field → Result (List Field) WireFault → Result (List Field) WireFault
with_front front read = read >>= λ fs. Ok (front ++ fs)

with_front-nil : (read : Result (List Field) WireFault) → with_front [] read ≡ read
with_front-nil (Ok fs) = refl
with_front-nil (Err e) = refl

regroup : (front : List Field) (f : Field) (read : Result (List Field) WireFault) → with_front front (read >>= λ fs. Ok (f ∷ fs)) ≡ with_front (front ++ f ∷ []) read
regroup front f (Ok fs) = ap (λ (all : List Field). Ok all) (sym (append_assoc front (f ∷ []) fs))
regroup front f (Err e) = refl

-- the fields so far, before those of what is left
pub record Partly (bytes : List ℕ) (found : List Field) (rest : List ℕ) : Type 0 where
  pub count : ℕ
  pub enough : length rest ≤ count
  pub so_far : with_front found (fields_within count rest) ≡ fields_at bytes

pub Partly-none : (bytes : List ℕ) → Partly bytes [] bytes
unfolding fields_at
Partly-none bytes = record { count = length bytes; enough = omega arith; so_far = with_front-nil (fields_within (length bytes) bytes) }

one_more : (found : List Field) (f : Field) (b : ℕ) (rest after : List ℕ) (count : ℕ) → field_at (b ∷ rest) ≡ Ok (f, after)
    → with_front found (fields_within (suc count) (b ∷ rest)) ≡ with_front (found ++ f ∷ []) (fields_within count after)
unfolding fields_within
one_more found f b rest after count e = rw e (regroup found f (fields_within count after))

more_at : (bytes : List ℕ) (found : List Field) (rest : List ℕ) (f : Field) (after : List ℕ) (count : ℕ) → length rest ≤ count → with_front found (fields_within count rest) ≡ fields_at bytes
    → field_at rest ≡ Ok (f, after) → length after < length rest → Partly bytes (found ++ f ∷ []) after
more_at bytes found [] f after count enough so_far e lt = absurd (omega arith)
more_at bytes found (b ∷ rest) f after zero enough so_far e lt = absurd (omega arith)
more_at bytes found (b ∷ rest) f after (suc count) enough so_far e lt =
    record { count = count; enough = omega arith; so_far = sym (one_more found f b rest after count e) ∙ so_far }

pub Partly-more : (bytes : List ℕ) (found : List Field) (rest : List ℕ) (f : Field) (after : List ℕ) → Partly bytes found rest
    → field_at rest ≡ Ok (f, after) → length after < length rest → Partly bytes (found ++ f ∷ []) after
Partly-more bytes found rest f after so e lt = more_at bytes found rest f after so.count so.enough so.so_far e lt

fault_at : (bytes : List ℕ) (found : List Field) (rest : List ℕ) (count : ℕ) (e : WireFault) → 0 < length rest → length rest ≤ count → with_front found (fields_within count rest) ≡ fields_at bytes
    → FailsUnlessNoMemory e (field_at rest) → FailsUnlessNoMemory e (fields_at bytes)
unfolding fields_within
fault_at bytes found [] count e some enough so_far h = absurd (omega arith)
fault_at bytes found (b ∷ rest) zero e some enough so_far h = absurd (omega arith)
fault_at bytes found (b ∷ rest) (suc count) e some enough so_far h =
    fails_same e (with_front found (fields_within (suc count) (b ∷ rest))) (fields_at bytes) so_far
    (fails_on e (fields_within (suc count) (b ∷ rest)) (λ fs. Ok (found ++ fs))
    (fails_on e (field_at (b ∷ rest)) (λ first. fields_within count first.1 >>= λ others. Ok (first.0 ∷ others)) h))

pub Partly-fault : (bytes : List ℕ) (found : List Field) (rest : List ℕ) (e : WireFault) → Partly bytes found rest → 0 < length rest
    → FailsUnlessNoMemory e (field_at rest) → FailsUnlessNoMemory e (fields_at bytes)
Partly-fault bytes found rest e so some h = fault_at bytes found rest so.count e some so.enough so.so_far h

done_at : (bytes : List ℕ) (found : List Field) (rest : List ℕ) (count : ℕ) → length rest ≡ 0 → with_front found (fields_within count rest) ≡ fields_at bytes → fields_at bytes ≡ Ok found
unfolding fields_within
done_at bytes found [] zero none so_far = sym so_far ∙ ap (λ (fs : List Field). Ok fs) (append-nil found)
done_at bytes found [] (suc count) none so_far = sym so_far ∙ ap (λ (fs : List Field). Ok fs) (append-nil found)
done_at bytes found (b ∷ rest) count none so_far = absurd (omega arith)

pub Partly-done : (bytes : List ℕ) (found : List Field) (rest : List ℕ) → Partly bytes found rest → length rest ≡ 0 → fields_at bytes ≡ Ok found
Partly-done bytes found rest so none = done_at bytes found rest so.count none so.so_far
