-- A field that is read is in the grammar, what is in the grammar is read, and what is written is in the grammar.
use Rattle.std.proofs.Common.{◌≡◌, ℕ, ◌+◌, ◌*◌, ◌/◌, ◌%◌, ◌^◌, ◌<◌, ◌≤◌, true, false, cond, ltb, leb, eqb, ◌&&◌, List, ◌++◌, length, take, drop, Ok, Err, refl, sym, ap, subst, ◌∙◌, append_assoc, arith, inl, inr}
use Rattle.std.specs.Int.{Width, w32, w64, byte_len, from_le_bytes, to_le_bytes}
use Rattle.std.proofs.lemmas.Bool.{ltb-false, le-ltb, eqb-true, and_parts, leb-true, le-leb}
use Rattle.std.proofs.lemmas.List.{take_at, drop_at, take-append-drop, length-append, length-take}
use Rattle.std.proofs.lemmas.Nat.{le_bytes_4, le_bytes_8, from_le_bytes-to_le_bytes_4, from_le_bytes-to_le_bytes_8}
use Rattle.hdfs_wire.specs.declared.wire_fault.WireFault.TheVariants.{Cut, BadType, BadLength}
use Rattle.hdfs_wire.specs.declared.field.Value.{Value}
use Rattle.hdfs_wire.specs.declared.field.Value.TheVariants.{Varint, Eight, Sized, Four}
use Rattle.hdfs_wire.specs.declared.field.TheConstants.{LAST_FIELD_NUMBER}
use Rattle.hdfs_wire.specs.declared.field.Field.{Field}
use Rattle.hdfs_wire.specs.Reading.{◌>>=◌}
use Rattle.hdfs_wire.specs.Varint.{varint, varint_at, ReadsVarint}
use Rattle.hdfs_wire.specs.Fields.{IsFieldNumber, wire_type, key_of, number_at, sized_at, value_at, field_at, value_spelling, field_spelling, ReadsValue, ReadsField, FitsValue, FitsField}
use Rattle.hdfs_wire.proofs.Steps.{IsBytes, IsBytes-after, IsBytes-take, bind_ok, guard_ok, chosen, ok_is}
use Rattle.hdfs_wire.proofs.Numbers.{Front, Front-reads, varint_takes, varint_reads, varint_stands, reads_some}

-- ---- numbers of fixed width

pub record IsWide (w : Width) (limit : ℕ) : Type 0 where
  pub len : (n : ℕ) → length (to_le_bytes w n) ≡ byte_len w
  pub back : (bytes : List ℕ) → length bytes ≡ byte_len w → IsBytes bytes → to_le_bytes w (from_le_bytes w bytes) ≡ bytes
  pub again : (n : ℕ) → n < limit → from_le_bytes w (to_le_bytes w n) ≡ n
  pub below : (bytes : List ℕ) → IsBytes bytes → from_le_bytes w bytes < limit

pub wide32 : IsWide w32 (2 ^ 32)
wide32 = record {
  len = λ n. refl;
  back = λ bytes len fits. le_bytes_4 bytes _ len fits refl;
  again = λ n lt. from_le_bytes-to_le_bytes_4 n lt;
  below = λ bytes fits. omega (arith, fits 0, fits 1, fits 2, fits 3);
}

pub wide64 : IsWide w64 (2 ^ 64)
wide64 = record {
  len = λ n. refl;
  back = λ bytes len fits. le_bytes_8 bytes _ len fits refl;
  again = λ n lt. from_le_bytes-to_le_bytes_8 n lt;
  below = λ bytes fits. omega (arith, fits 0, fits 1, fits 2, fits 3, fits 4, fits 5, fits 6, fits 7);
}

number_takes : (w : Width) (limit : ℕ) (wide : IsWide w limit) (bytes : List ℕ) (x : ℕ × List ℕ) → IsBytes bytes → number_at w bytes ≡ Ok x → (bytes ≡ to_le_bytes w x.0 ++ x.1) × (x.0 < limit)
number_takes w limit wide bytes x fits e =
    let g = guard_ok (ltb (length bytes) (byte_len w)) Cut (from_le_bytes w (take (byte_len w) bytes), drop (byte_len w) bytes) x e in
    let long : byte_len w ≤ length bytes = ltb-false _ _ g.0 in
    let front : to_le_bytes w (from_le_bytes w (take (byte_len w) bytes)) ≡ take (byte_len w) bytes = wide.back (take (byte_len w) bytes) (omega (arith, length-take (byte_len w) bytes)) (IsBytes-take (byte_len w) bytes fits) in
    subst (λ (y : ℕ × List ℕ). (bytes ≡ to_le_bytes w y.0 ++ y.1) × (y.0 < limit)) g.1
    (sym (ap (λ (t : List ℕ). t ++ drop (byte_len w) bytes) front ∙ take-append-drop (byte_len w) bytes), wide.below (take (byte_len w) bytes) (IsBytes-take (byte_len w) bytes fits))

number_reads : (w : Width) (limit : ℕ) (wide : IsWide w limit) (n : ℕ) (rest : List ℕ) → n < limit → number_at w (to_le_bytes w n ++ rest) ≡ Ok (n, rest)
number_reads w limit wide n rest lt =
    let len = wide.len n in
    let long : ltb (length (to_le_bytes w n ++ rest)) (byte_len w) ≡ false = le-ltb _ _ (omega (arith, length-append (to_le_bytes w n) rest)) in
    rw (long, take_at (to_le_bytes w n) rest (byte_len w) len, drop_at (to_le_bytes w n) rest (byte_len w) len, wide.again n lt) refl

-- ---- a length and that many bytes

record Sizes (bytes : List ℕ) (x : List ℕ × List ℕ) : Type 0 where
  pub len : List ℕ
  pub parts : bytes ≡ (len ++ x.0) ++ x.1
  pub reads : ReadsVarint len (length x.0)

sized_takes : (bytes : List ℕ) (x : List ℕ × List ℕ) → IsBytes bytes → sized_at bytes ≡ Ok x → Sizes bytes x
unfolding sized_at
sized_takes bytes x fits e =
    let b = bind_ok (varint_at bytes) (λ n. cond (ltb (length n.1) n.0) (Err BadLength) (Ok (take n.0 n.1, drop n.0 n.1))) x e in
    let n = b.0 in
    let f = varint_takes bytes n fits b.1 in
    let g = guard_ok (ltb (length n.1) n.0) BadLength (take n.0 n.1, drop n.0 n.1) x b.2 in
    let long : n.0 ≤ length n.1 = ltb-false _ _ g.0 in
    let len : n.0 ≡ length (take n.0 n.1) = omega (arith, length-take n.0 n.1) in
    let made : Sizes bytes (take n.0 n.1, drop n.0 n.1) = record {
      len = f.front;
      parts = f.parts ∙ ap (λ (t : List ℕ). f.front ++ t) (sym (take-append-drop n.0 n.1)) ∙ sym (append_assoc f.front (take n.0 n.1) (drop n.0 n.1));
      reads = subst (ReadsVarint f.front) len (Front-reads bytes n f);
    } in
    subst (Sizes bytes) g.1 made

sized_reads : (len sized rest : List ℕ) → ReadsVarint len (length sized) → sized_at ((len ++ sized) ++ rest) ≡ Ok (sized, rest)
unfolding sized_at
sized_reads len sized rest reads =
    let long : ltb (length (sized ++ rest)) (length sized) ≡ false = le-ltb _ _ (omega (arith, length-append sized rest)) in
    rw (append_assoc len sized rest, varint_reads len (length sized) (sized ++ rest) reads, long, take_at sized rest (length sized) refl, drop_at sized rest (length sized) refl) refl

-- ---- values

-- the value at the front is in the grammar, and has this wire type
record Holds (kind : ℕ) (bytes : List ℕ) (x : Value × List ℕ) : Type 0 where
  pub front : List ℕ
  pub parts : bytes ≡ front ++ x.1
  pub reads : ReadsValue front x.0
  pub kind_is : wire_type x.0 ≡ kind

Holds-varint : (kind : ℕ) (bytes : List ℕ) (x : Value × List ℕ) → kind ≡ 0 → IsBytes bytes → (varint_at bytes >>= λ n. Ok (Varint n.0, n.1)) ≡ Ok x → Holds kind bytes x
Holds-varint kind bytes x is fits e =
    let b = bind_ok (varint_at bytes) (λ n. Ok (Varint n.0, n.1)) x e in
    let f = varint_takes bytes b.0 fits b.1 in
    subst (Holds kind bytes) (ok_is (Varint b.0.0, b.0.1) x b.2) (record { front = f.front; parts = f.parts; reads = Front-reads bytes b.0 f; kind_is = sym is })

Holds-eight : (kind : ℕ) (bytes : List ℕ) (x : Value × List ℕ) → kind ≡ 1 → IsBytes bytes → (number_at w64 bytes >>= λ n. Ok (Eight n.0, n.1)) ≡ Ok x → Holds kind bytes x
Holds-eight kind bytes x is fits e =
    let b = bind_ok (number_at w64 bytes) (λ n. Ok (Eight n.0, n.1)) x e in
    let f = number_takes w64 (2 ^ 64) wide64 bytes b.0 fits b.1 in
    subst (Holds kind bytes) (ok_is (Eight b.0.0, b.0.1) x b.2) (record { front = to_le_bytes w64 b.0.0; parts = f.0; reads = (refl, f.1); kind_is = sym is })

Holds-sized : (kind : ℕ) (bytes : List ℕ) (x : Value × List ℕ) → kind ≡ 2 → IsBytes bytes → (sized_at bytes >>= λ b. Ok (Sized b.0, b.1)) ≡ Ok x → Holds kind bytes x
Holds-sized kind bytes x is fits e =
    let b = bind_ok (sized_at bytes) (λ b. Ok (Sized b.0, b.1)) x e in
    let f = sized_takes bytes b.0 fits b.1 in
    subst (Holds kind bytes) (ok_is (Sized b.0.0, b.0.1) x b.2) (record { front = f.len ++ b.0.0; parts = f.parts; reads = (f.len, f.reads, refl); kind_is = sym is })

Holds-four : (kind : ℕ) (bytes : List ℕ) (x : Value × List ℕ) → kind ≡ 5 → IsBytes bytes → (number_at w32 bytes >>= λ n. Ok (Four n.0, n.1)) ≡ Ok x → Holds kind bytes x
Holds-four kind bytes x is fits e =
    let b = bind_ok (number_at w32 bytes) (λ n. Ok (Four n.0, n.1)) x e in
    let f = number_takes w32 (2 ^ 32) wide32 bytes b.0 fits b.1 in
    subst (Holds kind bytes) (ok_is (Four b.0.0, b.0.1) x b.2) (record { front = to_le_bytes w32 b.0.0; parts = f.0; reads = (refl, f.1); kind_is = sym is })

value_takes : (kind : ℕ) (bytes : List ℕ) (x : Value × List ℕ) → IsBytes bytes → value_at kind bytes ≡ Ok x → Holds kind bytes x
unfolding value_at
value_takes kind bytes x fits e =
    elim (chosen (eqb kind 0) _ _ (Ok x) e) [
      | inl h ↦ Holds-varint kind bytes x (eqb-true _ _ h.0) fits h.1
      | inr h ↦ elim (chosen (eqb kind 1) _ _ (Ok x) h.1) [
        | inl i ↦ Holds-eight kind bytes x (eqb-true _ _ i.0) fits i.1
        | inr i ↦ elim (chosen (eqb kind 2) _ _ (Ok x) i.1) [
          | inl j ↦ Holds-sized kind bytes x (eqb-true _ _ j.0) fits j.1
          | inr j ↦ elim (chosen (eqb kind 5) _ _ (Ok x) j.1) [
            | inl k ↦ Holds-four kind bytes x (eqb-true _ _ k.0) fits k.1
            | inr k ↦ (let no = k.1 in absurd cc)
          ]
        ]
      ]
    ]

value_reads : (front : List ℕ) (v : Value) (rest : List ℕ) → ReadsValue front v → value_at (wire_type v) (front ++ rest) ≡ Ok (v, rest)
unfolding value_at
value_reads front (Varint n) rest reads = rw (varint_reads front n rest reads) refl
value_reads front (Eight n) rest reads = let same = reads.0 in rw (same, number_reads w64 (2 ^ 64) wide64 n rest reads.1) refl
value_reads front (Sized sized) rest reads = let same = reads.2 in rw (same, sized_reads reads.0 sized rest reads.1) refl
value_reads front (Four n) rest reads = let same = reads.0 in rw (same, number_reads w32 (2 ^ 32) wide32 n rest reads.1) refl

pub value_stands : (v : Value) → FitsValue v → ReadsValue (value_spelling v) v
value_stands (Varint n) fits = varint_stands n fits
value_stands (Eight n) fits = (refl, fits)
value_stands (Sized sized) fits = (varint (length sized), varint_stands (length sized) fits, refl)
value_stands (Four n) fits = (refl, fits)

-- ---- fields

pub kind_below : (v : Value) → wire_type v < 8
kind_below (Varint n) = omega arith
kind_below (Eight n) = omega arith
kind_below (Sized b) = omega arith
kind_below (Four n) = omega arith

pub record Begins (bytes : List ℕ) (x : Field × List ℕ) : Type 0 where
  pub front : List ℕ
  pub parts : bytes ≡ front ++ x.1
  pub reads : ReadsField front x.0

begins_from : (bytes front rest : List ℕ) (key : ℕ) (v : Value × List ℕ) → bytes ≡ front ++ rest → ReadsVarint front key → IsFieldNumber (key / 8) → Holds (key % 8) rest v
    → Begins bytes (record { number = key / 8; value = v.0 }, v.1)
begins_from bytes front rest key v parts reads number held =
    let field : Field = record { number = key / 8; value = v.0 } in
    let kind = held.kind_is in
    let key-is : key ≡ key / 8 * 8 + wire_type v.0 = omega arith in
    record {
      front = front ++ held.front;
      parts = parts ∙ ap (λ (t : List ℕ). front ++ t) held.parts ∙ sym (append_assoc front held.front v.1);
      reads = record {
        key = front;
        value = held.front;
        parts = refl;
        number = number;
        key_reads = subst (ReadsVarint front) key-is reads;
        value_reads = held.reads;
      };
    }

chosen_field : (bytes : List ℕ) (key : ℕ × List ℕ) (x : Field × List ℕ) → IsBytes bytes → Front 9 bytes key
    → cond (leb 1 (key.0 / 8) && leb (key.0 / 8) LAST_FIELD_NUMBER) (value_at (key.0 % 8) key.1 >>= λ v. Ok (record { number = key.0 / 8; value = v.0 }, v.1)) (Err BadType) ≡ Ok x
    → Begins bytes x
chosen_field bytes key x fits f e =
    elim (chosen (leb 1 (key.0 / 8) && leb (key.0 / 8) LAST_FIELD_NUMBER) (value_at (key.0 % 8) key.1 >>= λ v. Ok (record { number = key.0 / 8; value = v.0 }, v.1)) (Err BadType) (Ok x) e) [
      | inl h ↦
          let range = and_parts (leb 1 (key.0 / 8)) (leb (key.0 / 8) LAST_FIELD_NUMBER) h.0 in
          let b = bind_ok (value_at (key.0 % 8) key.1) (λ v. Ok (record { number = key.0 / 8; value = v.0 }, v.1)) x h.1 in
          let v = value_takes (key.0 % 8) key.1 b.0 (IsBytes-after bytes f.front key.1 f.parts fits) b.1 in
          let number : IsFieldNumber (key.0 / 8) = (leb-true _ _ range.0, leb-true _ _ range.1) in
          subst (Begins bytes) (ok_is (record { number = key.0 / 8; value = b.0.0 }, b.0.1) x b.2) (begins_from bytes f.front key.1 key.0 b.0 f.parts (Front-reads bytes key f) number v)
      | inr h ↦ (let no = h.1 in absurd cc)
    ]

pub field_takes : (bytes : List ℕ) (x : Field × List ℕ) → IsBytes bytes → field_at bytes ≡ Ok x → Begins bytes x
unfolding field_at
field_takes bytes x fits e =
    let a = bind_ok (varint_at bytes) (λ key. cond (leb 1 (key.0 / 8) && leb (key.0 / 8) LAST_FIELD_NUMBER) (value_at (key.0 % 8) key.1 >>= λ v. Ok (record { number = key.0 / 8; value = v.0 }, v.1)) (Err BadType)) x e in
    chosen_field bytes a.0 x fits (varint_takes bytes a.0 fits a.1) a.2

pub field_reads : (front : List ℕ) (f : Field) (rest : List ℕ) → ReadsField front f → field_at (front ++ rest) ≡ Ok (f, rest)
unfolding field_at
field_reads front f rest reads =
    let kind = kind_below f.value in
    let same = reads.parts in
    let number : key_of f / 8 ≡ f.number = omega arith in
    let low : key_of f % 8 ≡ wire_type f.value = omega arith in
    let least : leb 1 f.number ≡ true = le-leb _ _ reads.number.0 in
    let most : leb f.number LAST_FIELD_NUMBER ≡ true = le-leb _ _ reads.number.1 in
    rw (same, append_assoc reads.key reads.value rest, varint_reads reads.key (key_of f) (reads.value ++ rest) reads.key_reads, number, low, least, most, value_reads reads.value f.value rest reads.value_reads) refl

pub field_stands : (f : Field) → FitsField f → ReadsField (field_spelling f) f
field_stands f fits =
    let kind = kind_below f.value in
    let most = fits.number.1 in
    record {
      key = varint (key_of f);
      value = value_spelling f.value;
      parts = refl;
      number = fits.number;
      key_reads = varint_stands (key_of f) (omega arith);
      value_reads = value_stands f.value fits.value;
    }

pub field_some : (front : List ℕ) (f : Field) → ReadsField front f → 0 < length front
field_some front f reads =
    let some = reads_some reads.key (key_of f) reads.key_reads in
    let same = reads.parts in
    rw (same, length-append) (omega arith)
