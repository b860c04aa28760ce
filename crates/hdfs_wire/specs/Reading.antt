-- Reading from left to right, with the first fault that is met.
use Rattle.std.specs.Prelude.{◌≡◌, Result, Ok, Err}
use Rattle.hdfs_wire.specs.declared.wire_fault.WireFault.{WireFault}
use Rattle.hdfs_wire.specs.declared.wire_fault.WireFault.TheVariants as faults

infixl 10 ◌>>=◌
-- a reading, and then another that may use what the first read; the first fault stands for both
abbrev pub ◌>>=◌ : {A B : Type 0} → Result A WireFault → (A → Result B WireFault) → Result B WireFault
(Ok x) >>= f = f x
(Err e) >>= f = Err e

-- what a function returned, seen by view, is what reading gives, its fault too
abbrev pub Gives : {X Y : Type 0} → (X → Y) → Result X WireFault → Result Y WireFault → Type 0
Gives view (Ok x) read = read ≡ Ok (view x)
Gives view (Err e) read = read ≡ Err e

-- a fault is the fault of the reading, unless it is want of memory
abbrev pub FailsUnlessNoMemory : {Y : Type 0} → WireFault → Result Y WireFault → Type 0
FailsUnlessNoMemory faults.NoMemory read = Unit {0}
FailsUnlessNoMemory faults.Cut read = read ≡ Err faults.Cut
FailsUnlessNoMemory faults.LongVarint read = read ≡ Err faults.LongVarint
FailsUnlessNoMemory faults.BadType read = read ≡ Err faults.BadType
FailsUnlessNoMemory faults.BadLength read = read ≡ Err faults.BadLength
FailsUnlessNoMemory faults.BadText read = read ≡ Err faults.BadText

-- what a function returned, seen by view, is what reading gives, unless memory ran out
abbrev pub GivesUnlessNoMemory : {X Y : Type 0} → (X → Y) → Result X WireFault → Result Y WireFault → Type 0
GivesUnlessNoMemory view (Ok x) read = read ≡ Ok (view x)
GivesUnlessNoMemory view (Err e) read = FailsUnlessNoMemory e read
