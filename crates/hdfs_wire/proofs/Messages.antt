-- A message that is read is in the grammar, what is in the grammar is read, and what is written is in the grammar.
use Rattle.std.proofs.Common.{◌≡◌, ℕ, zero, suc, ◌+◌, ◌<◌, ◌≤◌, List, [], ◌∷◌, ◌++◌, length, Result, Ok, Err, refl, sym, ap, subst, ◌∙◌, arith}
use Rattle.std.specs.Prelude.{IfOk}
use Rattle.std.specs.Global.{Vec}
use Rattle.std.specs.List.{AllByRecursion}
use Rattle.std.proofs.lemmas.List.{length-append}
use Rattle.std.proofs.lemmas.List.Concat.{flat_map-cons}
use Rattle.hdfs_wire.specs.declared.wire_fault.WireFault.{WireFault}
use Rattle.hdfs_wire.specs.declared.field.Field.{Field}
use Rattle.hdfs_wire.specs.Reading.{◌>>=◌, GivesUnlessNoMemory}
use Rattle.hdfs_wire.specs.Fields.{field_at, fields_within, fields_at, field_spelling, message_spelling, ReadsMessage, FitsField}
use Rattle.hdfs_wire.proofs.Steps.{IsBytes, IsBytes-after, bind_ok, ok_is}
use Rattle.hdfs_wire.proofs.OneField.{field_takes, field_reads, field_stands, field_some}

fields_take : (count : ℕ) (bytes : List ℕ) (fs : List Field) → IsBytes bytes → fields_within count bytes ≡ Ok fs → ReadsMessage bytes fs
unfolding fields_within
fields_take zero [] fs fits e = subst (ReadsMessage []) (ok_is [] fs e) refl
fields_take (suc count) [] fs fits e = subst (ReadsMessage []) (ok_is [] fs e) refl
fields_take zero (b ∷ bytes) fs fits e = absurd cc
fields_take (suc count) (b ∷ bytes) fs fits e =
    let one = bind_ok (field_at (b ∷ bytes)) (λ first. fields_within count first.1 >>= λ others. Ok (first.0 ∷ others)) fs e in
    let two = bind_ok (fields_within count one.0.1) (λ others. Ok (one.0.0 ∷ others)) fs one.2 in
    let f = field_takes (b ∷ bytes) one.0 fits one.1 in
    let inner = fields_take count one.0.1 two.0 (IsBytes-after (b ∷ bytes) f.front one.0.1 f.parts fits) two.1 in
    subst (ReadsMessage (b ∷ bytes)) (ok_is (one.0.0 ∷ two.0) fs two.2) (f.front, one.0.1, f.parts, f.reads, inner)

one_field : (count : ℕ) (bytes : List ℕ) (f : Field) (after : List ℕ) (fs : List Field) → length bytes ≤ count → 0 < length bytes → length after < length bytes → field_at bytes ≡ Ok (f, after)
    → ((k : ℕ) → length after ≤ k → fields_within k after ≡ Ok fs) → fields_within count bytes ≡ Ok (f ∷ fs)
unfolding fields_within
one_field count [] f after fs enough some less e others = absurd (omega arith)
one_field zero (b ∷ bytes) f after fs enough some less e others = absurd (omega arith)
one_field (suc count) (b ∷ bytes) f after fs enough some less e others = let rest = others count (omega arith) in rw (e, rest) refl

fields_read : (bytes : List ℕ) (fs : List Field) → ReadsMessage bytes fs → (count : ℕ) → length bytes ≤ count → fields_within count bytes ≡ Ok fs
unfolding fields_within
fields_read bytes [] reads count enough = none count bytes reads where
  none : (k : ℕ) (b : List ℕ) → b ≡ [] → fields_within k b ≡ Ok []
  none zero b e = rw e refl
  none (suc k) b e = rw e refl
fields_read bytes (f ∷ fs) reads count enough =
    let front : List ℕ = reads.0 in
    let rest : List ℕ = reads.1 in
    let parts : bytes ≡ front ++ rest = reads.2 in
    let some = field_some front f reads.3 in
    let sizes : length bytes ≡ length front + length rest = ap length parts ∙ length-append front rest in
    let here : field_at bytes ≡ Ok (f, rest) = ap field_at parts ∙ field_reads front f rest reads.3 in
    one_field count bytes f rest fs enough (omega arith) (omega arith) here (fields_read rest fs reads.4)

pub message_takes : (bytes : List ℕ) (fs : List Field) → IsBytes bytes → fields_at bytes ≡ Ok fs → ReadsMessage bytes fs
unfolding fields_at
message_takes bytes fs fits e = fields_take (length bytes) bytes fs fits e

pub message_reads : (bytes : List ℕ) (fs : List Field) → ReadsMessage bytes fs → fields_at bytes ≡ Ok fs
unfolding fields_at
message_reads bytes fs reads = fields_read bytes fs reads (length bytes) (omega arith)

pub is_found : (bytes : List ℕ) (r : Result (Vec Field) WireFault) → IsBytes bytes → GivesUnlessNoMemory (λ v. v.items) r (fields_at bytes) → IfOk r (λ v. ReadsMessage bytes v.items)
unfolding fields_at
is_found bytes (Ok v) fits given = fields_take (length bytes) bytes v.items fits given
is_found bytes (Err e) fits given = tt

pub message_stands : (fs : List Field) → AllByRecursion FitsField fs → ReadsMessage (message_spelling fs) fs
message_stands [] fits = refl
message_stands (f ∷ fs) fits = (field_spelling f, message_spelling fs, flat_map-cons field_spelling f fs, field_stands f fits.0, message_stands fs fits.1)

pub fields_apart : (f g : Field) (x y : List ℕ) → FitsField f → FitsField g → field_spelling f ++ x ≡ field_spelling g ++ y → (f ≡ g) × (x ≡ y)
fields_apart f g x y ff fg e =
    let same : (f, x) ≡ (g, y) = ok_is (f, x) (g, y) (sym (field_reads (field_spelling f) f x (field_stands f ff)) ∙ ap field_at e ∙ field_reads (field_spelling g) g y (field_stands g fg)) in
    (ap (λ (p : Field × List ℕ). p.0) same, ap (λ (p : Field × List ℕ). p.1) same)
