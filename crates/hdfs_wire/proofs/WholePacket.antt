-- A packet that is read is in the grammar, and what is in the grammar is read.
use Rattle.std.proofs.Common.{◌≡◌, ℕ, ◌+◌, ◌-◌, ◌^◌, ◌<◌, ◌≤◌, ℤ, pos, negsuc, true, false, cond, ltb, leb, ◌&&◌, ◌||◌, List, ◌++◌, length, take, drop, Result, Ok, Err, refl, sym, ap, subst, ◌∙◌, arith, inl, inr}
use Rattle.std.specs.Prelude.{IfOk}
use Rattle.std.specs.Int.{w16, w32, to_be_bytes, from_be_bytes}
use Rattle.std.proofs.lemmas.Bool.{ltb-false, le-ltb, leb-true, le-leb, and_parts, or_parts}
use Rattle.std.proofs.lemmas.List.{take_at, drop_at, take-append-drop, length-append, length-take, length-drop, drop-drop}
use Rattle.std.proofs.lemmas.Nat.{be_bytes_2, be_bytes_4, from_be_bytes-to_be_bytes_2, from_be_bytes-to_be_bytes_4}
use Rattle.hdfs_wire.specs.declared.wire_fault.WireFault.{WireFault}
use Rattle.hdfs_wire.specs.declared.wire_fault.WireFault.TheVariants.{Cut, BadLength}
use Rattle.hdfs_wire.specs.declared.packet_header.PacketHeader.{PacketHeader}
use Rattle.hdfs_wire.specs.declared.read_packet.ReadPacket.{ReadPacket}
use Rattle.hdfs_wire.specs.Reading.{GivesUnlessNoMemory}
use Rattle.hdfs_wire.specs.Fields.{fields_at}
use Rattle.hdfs_wire.specs.Headers.{header_at, header_from, no_header, ReadsHeader}
use Rattle.hdfs_wire.specs.Packets.{packet_around, ReadsPacket, body_length, header_length, packet_length, is_data_length, data_length, body_of, checksum_length, packet_with, packet_header_at, packet_at}
use Rattle.hdfs_wire.proofs.Steps.{IsBytes, IsBytes-drop, IsBytes-take, bind_ok, chosen, ok_is}
use Rattle.hdfs_wire.proofs.Messages.{message_takes, message_reads}

header_takes : (bytes : List ℕ) (h : PacketHeader) → IsBytes bytes → header_at bytes ≡ Ok h → ReadsHeader bytes h
unfolding header_at
header_takes bytes h fits e =
    let b = bind_ok (fields_at bytes) (λ fs. header_from no_header fs) h e in
    (b.0, message_takes bytes b.0 fits b.1, b.2)

header_reads : (bytes : List ℕ) (h : PacketHeader) → ReadsHeader bytes h → header_at bytes ≡ Ok h
unfolding header_at
header_reads bytes h reads = let e = message_reads bytes reads.0 reads.1 in rw e reads.2

data_is : (most : ℕ) (z : ℤ) → is_data_length most z ≡ true → (z ≡ pos (data_length z)) × (data_length z ≤ most)
data_is most (pos n) e = (refl, leb-true _ _ e)
data_is most (negsuc n) e = absurd cc

-- what the lengths of a packet that was read say
record Lengths (bytes : List ℕ) (h : PacketHeader) : Type 0 where
  pub long : 6 ≤ length bytes
  pub body : 4 ≤ body_length bytes
  pub limit : body_length bytes ≤ 2147483647
  pub whole : length bytes ≡ packet_length bytes
  pub header : header_at (take (header_length bytes) (drop 6 bytes)) ≡ Ok h
  pub sign : h.data_len ≡ pos (data_length h.data_len)
  pub within : data_length h.data_len ≤ body_length bytes - 4

abbrev done : ReadPacket → Result ReadPacket WireFault
done p = Ok p

abbrev read : Result PacketHeader WireFault → Result PacketHeader WireFault
read r = r

refused : (d : WireFault) (h : PacketHeader) → read (Err d) ≡ Ok h → ⊥
refused d h e = absurd cc

lengths_from : (bytes : List ℕ) (g h : PacketHeader) → 6 ≤ length bytes → 4 ≤ body_length bytes → body_length bytes ≤ 2147483647 → packet_length bytes ≤ length bytes
    → header_at (take (header_length bytes) (drop 6 bytes)) ≡ Ok g
    → cond (is_data_length (body_length bytes - 4) g.data_len && leb (length bytes) (packet_length bytes)) (Ok g) (Err BadLength) ≡ Ok h → Lengths bytes h
lengths_from bytes g h long body limit enough header e =
    elim (chosen (is_data_length (body_length bytes - 4) g.data_len && leb (length bytes) (packet_length bytes)) (Ok g) (Err BadLength) (Ok h) e) [
      | inl a ↦
          let both = and_parts (is_data_length (body_length bytes - 4) g.data_len) (leb (length bytes) (packet_length bytes)) a.0 in
          let d = data_is (body_length bytes - 4) g.data_len both.0 in
          let no_more : length bytes ≤ packet_length bytes = leb-true _ _ both.1 in
          let made : Lengths bytes g = record { long = long; body = body; limit = limit; whole = omega arith; header = header; sign = d.0; within = d.1 } in
          subst (Lengths bytes) (ok_is g h a.1) made
      | inr a ↦ absurd (refused BadLength h a.1)
    ]

lengths_of : (bytes : List ℕ) (h : PacketHeader) → packet_header_at bytes ≡ Ok h → Lengths bytes h
unfolding packet_header_at
lengths_of bytes h e =
    elim (chosen (ltb (length bytes) 6) _ _ (Ok h) e) [
      | inl a ↦ absurd (refused Cut h a.1)
      | inr a ↦ elim (chosen (ltb (body_length bytes) 4 || ltb 2147483647 (body_length bytes)) _ _ (Ok h) a.1) [
        | inl b ↦ absurd (refused BadLength h b.1)
        | inr b ↦ elim (chosen (ltb (length bytes) (packet_length bytes)) _ _ (Ok h) b.1) [
          | inl c ↦ absurd (refused Cut h c.1)
          | inr c ↦
              let d = bind_ok (header_at (take (header_length bytes) (drop 6 bytes))) (λ g. cond (is_data_length (body_length bytes - 4) g.data_len && leb (length bytes) (packet_length bytes)) (Ok g) (Err BadLength)) h c.1 in
              lengths_from bytes d.0 h (ltb-false _ _ a.0) (ltb-false _ _ (or_parts _ _ b.0).0) (ltb-false _ _ (or_parts _ _ b.0).1) (ltb-false _ _ c.0) d.1 d.2
        ]
      ]
    ]

two_below : (bytes : List ℕ) → IsBytes bytes → from_be_bytes w16 bytes < 2 ^ 16
two_below bytes fits = omega (arith, fits 0, fits 1)

-- the bytes by their parts
parts_of : (bytes header checksum payload : List ℕ) → IsBytes bytes → 6 ≤ length bytes → header ≡ take (header_length bytes) (drop 6 bytes) → length header ≡ header_length bytes
    → checksum ++ payload ≡ body_of bytes → 4 + length checksum + length payload ≡ body_length bytes → bytes ≡ packet_around header checksum payload
parts_of bytes header checksum payload fits long header_is header_len body_is body_len =
    let front : to_be_bytes w32 (4 + length checksum + length payload) ≡ take 4 bytes = be_bytes_4 (take 4 bytes) (4 + length checksum + length payload) (omega (arith, length-take 4 bytes)) (IsBytes-take 4 bytes fits) body_len in
    let second : to_be_bytes w16 (length header) ≡ take 2 (drop 4 bytes) = be_bytes_2 (take 2 (drop 4 bytes)) (length header) (omega (arith, length-take 2 (drop 4 bytes), length-drop 4 bytes)) (IsBytes-take 2 (drop 4 bytes) (IsBytes-drop 4 bytes fits)) header_len in
    let a : bytes ≡ take 4 bytes ++ drop 4 bytes = sym (take-append-drop 4 bytes) in
    let b : drop 4 bytes ≡ take 2 (drop 4 bytes) ++ drop 6 bytes = sym (take-append-drop 2 (drop 4 bytes)) ∙ ap (λ (t : List ℕ). take 2 (drop 4 bytes) ++ t) (drop-drop 2 4 bytes) in
    let c : drop 6 bytes ≡ take (header_length bytes) (drop 6 bytes) ++ body_of bytes = sym (take-append-drop (header_length bytes) (drop 6 bytes)) ∙ ap (λ (t : List ℕ). take (header_length bytes) (drop 6 bytes) ++ t) (drop-drop (header_length bytes) 6 bytes) in
    let d : drop 6 bytes ≡ header ++ (checksum ++ payload) = c ∙ ap (λ (t : List ℕ). t ++ body_of bytes) (sym header_is) ∙ ap (λ (t : List ℕ). header ++ t) (sym body_is) in
    let e : drop 4 bytes ≡ to_be_bytes w16 (length header) ++ (header ++ (checksum ++ payload)) = b ∙ ap (λ (t : List ℕ). t ++ drop 6 bytes) (sym second) ∙ ap (λ (t : List ℕ). to_be_bytes w16 (length header) ++ t) d in
    a ∙ ap (λ (t : List ℕ). t ++ drop 4 bytes) (sym front) ∙ ap (λ (t : List ℕ). to_be_bytes w32 (4 + length checksum + length payload) ++ t) e

reads_from : (bytes : List ℕ) (h : PacketHeader) → IsBytes bytes → Lengths bytes h → ReadsPacket bytes (packet_with bytes h)
reads_from bytes h fits l =
    let hb : List ℕ = take (header_length bytes) (drop 6 bytes) in
    let cs : List ℕ = take (checksum_length bytes h) (body_of bytes) in
    let pl : List ℕ = drop (checksum_length bytes h) (body_of bytes) in
    let long = l.long in
    let body = l.body in
    let whole = l.whole in
    let within = l.within in
    let limit = l.limit in
    let small : header_length bytes < 2 ^ 16 = two_below (take 2 (drop 4 bytes)) (IsBytes-take 2 (drop 4 bytes) (IsBytes-drop 4 bytes fits)) in
    let hb_len : length hb ≡ header_length bytes = omega (arith, length-take (header_length bytes) (drop 6 bytes), length-drop 6 bytes) in
    let body_len : length (body_of bytes) ≡ body_length bytes - 4 = omega (arith, length-drop (6 + header_length bytes) bytes) in
    let cs_len : length cs ≡ checksum_length bytes h = omega (arith, length-take (checksum_length bytes h) (body_of bytes)) in
    let pl_len : length pl ≡ data_length h.data_len = omega (arith, length-drop (checksum_length bytes h) (body_of bytes)) in
    record {
      header = hb;
      parts = parts_of bytes hb cs pl fits long refl hb_len (take-append-drop (checksum_length bytes h) (body_of bytes)) (omega arith);
      header_reads = header_takes hb h (IsBytes-take (header_length bytes) (drop 6 bytes) (IsBytes-drop 6 bytes fits)) l.header;
      header_fits = omega arith;
      body_fits = omega arith;
      data_is = l.sign ∙ ap pos (sym pl_len);
    }

pub packet_takes : (bytes : List ℕ) (p : ReadPacket) → IsBytes bytes → packet_at bytes ≡ Ok p → ReadsPacket bytes p
unfolding packet_at
packet_takes bytes p fits e =
    let b = bind_ok (packet_header_at bytes) (λ h. Ok (packet_with bytes h)) p e in
    subst (ReadsPacket bytes) (ok_is (packet_with bytes b.0) p b.2) (reads_from bytes b.0 fits (lengths_of bytes b.0 b.1))

pub is_found : (bytes : List ℕ) (r : Result ReadPacket WireFault) → IsBytes bytes → GivesUnlessNoMemory (λ p. p) r (packet_at bytes) → IfOk r (λ p. ReadsPacket bytes p)
is_found bytes (Ok p) fits given = packet_takes bytes p fits given
is_found bytes (Err e) fits given = tt

-- ---- what is in the grammar is read

header_given : (bytes : List ℕ) (h : PacketHeader) → Lengths bytes h → packet_header_at bytes ≡ Ok h
unfolding packet_header_at
header_given bytes h l =
    let a : ltb (length bytes) 6 ≡ false = le-ltb _ _ l.long in
    let b : ltb (body_length bytes) 4 ≡ false = le-ltb _ _ l.body in
    let c : ltb 2147483647 (body_length bytes) ≡ false = le-ltb _ _ l.limit in
    let whole = l.whole in
    let d : ltb (length bytes) (packet_length bytes) ≡ false = le-ltb _ _ (omega arith) in
    let e = l.header in
    let f : is_data_length (body_length bytes - 4) h.data_len ≡ true = ap (is_data_length (body_length bytes - 4)) l.sign ∙ le-leb _ _ l.within in
    let g : leb (length bytes) (packet_length bytes) ≡ true = le-leb _ _ (omega arith) in
    rw (a, b, c, d, e, f, g) refl

packet_given : (bytes checksum payload : List ℕ) (h : PacketHeader) → body_of bytes ≡ checksum ++ payload → checksum_length bytes h ≡ length checksum
    → packet_with bytes h ≡ record { header = h; checksum = checksum; payload = payload }
packet_given bytes checksum payload h body len =
    let front : take (checksum_length bytes h) (body_of bytes) ≡ checksum = ap (take (checksum_length bytes h)) body ∙ take_at checksum payload (checksum_length bytes h) (sym len) in
    let back : drop (checksum_length bytes h) (body_of bytes) ≡ payload = ap (drop (checksum_length bytes h)) body ∙ drop_at checksum payload (checksum_length bytes h) (sym len) in
    rw (front, back) refl

-- the lengths of a packet around these bytes
record Around (bytes header checksum payload : List ℕ) : Type 0 where
  pub body : body_length bytes ≡ 4 + length checksum + length payload
  pub head : header_length bytes ≡ length header
  pub size : length bytes ≡ 6 + length header + length checksum + length payload
  pub behind : drop 6 bytes ≡ header ++ (checksum ++ payload)

around : (header checksum payload : List ℕ) → length header < 2 ^ 16 → 4 + length checksum + length payload < 2 ^ 31 → Around (packet_around header checksum payload) header checksum payload
around header checksum payload hf bf = record {
  body = from_be_bytes-to_be_bytes_4 (4 + length checksum + length payload) (omega arith);
  head = from_be_bytes-to_be_bytes_2 (length header) hf;
  size = omega (arith, length-append header (checksum ++ payload), length-append checksum payload);
  behind = refl;
}

data_from : (z : ℤ) (n : ℕ) → z ≡ pos n → (data_length z ≡ n) × (z ≡ pos (data_length z))
data_from z n e = let d : data_length z ≡ n = ap data_length e in (d, e ∙ ap pos (sym d))

packet_from : (bytes header checksum payload : List ℕ) (h : PacketHeader) → Around bytes header checksum payload → ReadsHeader header h → 4 + length checksum + length payload < 2 ^ 31 → h.data_len ≡ pos (length payload)
    → packet_at bytes ≡ Ok (record { header = h; checksum = checksum; payload = payload })
unfolding packet_at
packet_from bytes header checksum payload h a reads fits is =
    let d = data_from h.data_len (length payload) is in
    let body = a.body in
    let head = a.head in
    let size = a.size in
    let len : data_length h.data_len ≡ length payload = d.0 in
    let hb : take (header_length bytes) (drop 6 bytes) ≡ header = ap (take (header_length bytes)) a.behind ∙ take_at header (checksum ++ payload) (header_length bytes) (sym head) in
    let rest : body_of bytes ≡ checksum ++ payload = sym (drop-drop (header_length bytes) 6 bytes) ∙ ap (drop (header_length bytes)) a.behind ∙ drop_at header (checksum ++ payload) (header_length bytes) (sym head) in
    let lengths : Lengths bytes h = record {
      long = omega arith;
      body = omega arith;
      limit = omega arith;
      whole = omega arith;
      header = ap header_at hb ∙ header_reads header h reads;
      sign = d.1;
      within = omega arith;
    } in
    let given = header_given bytes h lengths in
    let made = packet_given bytes checksum payload h rest (omega arith) in
    rw given (ap done made)

pub packet_reads : (bytes : List ℕ) (p : ReadPacket) → ReadsPacket bytes p → packet_at bytes ≡ Ok p
packet_reads bytes p reads =
    ap packet_at reads.parts ∙ packet_from (packet_around reads.header p.checksum p.payload) reads.header p.checksum p.payload p.header
    (around reads.header p.checksum p.payload reads.header_fits reads.body_fits) reads.header_reads reads.body_fits reads.data_is
