-- Readings and tests that did not fail.
use Rattle.std.proofs.Common.{◌++◌, length, ◌≡◌, ℕ, suc, ◌+◌, ◌<◌, ◌⊎◌, ◌↔◌, Bool, true, false, cond, List, ◌∷◌, get_or, take, drop, Result, Ok, Err, refl, subst, arith, inl, inr}
use Rattle.std.proofs.lemmas.Bool.{cases_lt}
use Rattle.std.proofs.lemmas.List.{length-take, get_or-drop, get_or-take, get_or_past, drop_at}
use Rattle.hdfs_wire.specs.declared.wire_fault.WireFault.{WireFault}
use Rattle.hdfs_wire.specs.declared.wire_fault.WireFault.TheVariants as faults
use Rattle.hdfs_wire.specs.Reading.{◌>>=◌, Gives, FailsUnlessNoMemory}

-- ---- bytes

abbrev pub IsBytes : List ℕ → Type 0
IsBytes bytes = (i : ℕ) → get_or bytes i 0 < 256

pub IsBytes-drop : (n : ℕ) (bytes : List ℕ) → IsBytes bytes → IsBytes (drop n bytes)
IsBytes-drop n bytes h i = rw get_or-drop (h (n + i))

pub IsBytes-take : (n : ℕ) (bytes : List ℕ) → IsBytes bytes → IsBytes (take n bytes)
IsBytes-take n bytes h i =
    elim (cases_lt i n) [
      | inl lt ↦ rw (get_or-take n bytes i 0 lt) (h i)
      | inr le ↦ rw (get_or_past (take n bytes) i 0 (omega (arith, length-take n bytes))) (omega arith)
    ]

pub IsBytes-rest : (b : ℕ) (bytes : List ℕ) → IsBytes (b ∷ bytes) → IsBytes bytes
IsBytes-rest b bytes h i = h (suc i)

-- ---- readings

-- the value of a reading that did not fail
pub bind_ok : {A B : Type 0} (r : Result A WireFault) (f : A → Result B WireFault) (y : B) → (r >>= f) ≡ Ok y → (x : A) × (r ≡ Ok x) × (f x ≡ Ok y)
bind_ok (Ok x) f y e = (x, refl, e)
bind_ok (Err d) f y e = absurd cc

-- the fault of a reading whose second step doesn't fail
pub bind_err : {A B : Type 0} (r : Result A WireFault) (f : A → B) (d : WireFault) → (r >>= λ x. Ok (f x)) ≡ Err d → r ≡ Err d
bind_err (Ok x) f d e = absurd cc
bind_err (Err c) f d e = cc

-- a test that did not fail
pub guard_ok : {A : Type 0} (b : Bool) (d : WireFault) (x y : A) → cond b (Err d) (Ok x) ≡ Ok y → (b ≡ false) × (x ≡ y)
guard_ok true d x y e = absurd cc
guard_ok false d x y e = (refl, cc)

-- which way a test went
pub chosen : {A : Type 0} (b : Bool) (x y z : A) → cond b x y ≡ z → ((b ≡ true) × (x ≡ z)) ⊎ ((b ≡ false) × (y ≡ z))
chosen true x y z e = inl (refl, e)
chosen false x y z e = inr (refl, e)

abbrev done : {A : Type 0} → A → Result A WireFault
done x = Ok x

pub ok_is : {A : Type 0} (x y : A) → done x ≡ done y → x ≡ y
ok_is x y e = cc

-- the fault is that of the reading
pub gives_err : {X Y : Type 0} (view : X → Y) (r : Result X WireFault) (read : Result Y WireFault) (e : WireFault) → Gives view r read → (r ≡ Err e) ↔ (read ≡ Err e)
gives_err view (Ok x) read e given = ((λ h. absurd cc), (λ h. absurd cc))
gives_err view (Err d) read e given = ((λ h. cc), (λ h. cc))

-- ---- faults that are passed on

-- the fault of a reading is that of what comes after it
pub fails_on : {A B : Type 0} (e : WireFault) (r : Result A WireFault) (f : A → Result B WireFault) → FailsUnlessNoMemory e r → FailsUnlessNoMemory e (r >>= f)
fails_on faults.NoMemory r f h = tt
fails_on faults.Cut r f h = rw h refl
fails_on faults.LongVarint r f h = rw h refl
fails_on faults.BadType r f h = rw h refl
fails_on faults.BadLength r f h = rw h refl
fails_on faults.BadText r f h = rw h refl

pub fails_same : {A : Type 0} (e : WireFault) (r s : Result A WireFault) → r ≡ s → FailsUnlessNoMemory e r → FailsUnlessNoMemory e s
fails_same {A} e r s same h = subst (λ (x : Result A WireFault). FailsUnlessNoMemory e x) same h

pub IsBytes-after : (bytes front rest : List ℕ) → bytes ≡ front ++ rest → IsBytes bytes → IsBytes rest
IsBytes-after bytes front rest parts fits =
    subst IsBytes (drop_at front rest (length front) refl) (IsBytes-drop (length front) (front ++ rest) (subst IsBytes parts fits))
