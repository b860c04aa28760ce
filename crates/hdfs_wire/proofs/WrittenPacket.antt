-- A packet that was written: its checksums, its lengths, and that it is read again.
use Rattle.std.proofs.Common.{◌≡◌, ℕ, zero, suc, ◌+◌, ◌-◌, ◌*◌, ◌^◌, ◌<◌, ◌≤◌, ℤ, pos, negsuc, Bool, true, false, List, ◌∷◌, ◌++◌, length, take, drop, Option, Some, None, Result, Ok, refl, sym, ap, subst, ◌∙◌, append_assoc, arith, inl, inr, lit<, lit≤}
use Rattle.std.specs.Int.{w16, w32, w64, to_be_bytes, from_be_bytes, from_bool, cast_signed, cast_unsigned}
use Rattle.std.specs.List.{AllByRecursion}
use Rattle.std.specs.Prelude.{FitsSigned, IfOk}
use Rattle.std.specs.Global.{Vec}
use Rattle.std.proofs.lemmas.Result.{IfOk-weaker}
use Rattle.hdfs_wire.specs.declared.values.NoMemory.{NoMemory}
use Rattle.std.proofs.lemmas.Bool.{cases_lt}
use Rattle.std.proofs.lemmas.List.{append-nil, drop_at, length-append, length-drop, drop-drop, take-append-le, drop-append-le}
use Rattle.std.proofs.lemmas.Nat.{from_be_bytes-to_be_bytes_4, le-div}
use Rattle.std.proofs.lemmas.Int.{to_z-of_z}
use Rattle.hdfs_wire.specs.declared.wire_fault.WireFault.{WireFault}
use Rattle.hdfs_wire.specs.declared.packet_header.PacketHeader.{PacketHeader}
use Rattle.hdfs_wire.specs.declared.read_packet.ReadPacket.{ReadPacket}
use Rattle.hdfs_wire.specs.Crc.{crc32c_of}
use Rattle.hdfs_wire.specs.Checksums.{sum_at, chunk_at, ChunksHold}
use Rattle.hdfs_wire.specs.Packets.{packet_around, ReadsPacket, packet_at}
use Rattle.hdfs_wire.specs.Outgoing.{Outgoing, IsOutgoing, chunk_count, first_sums, checksums, outgoing_spelling, written}
use Rattle.hdfs_wire.specs.Varint.{varint, groups}
use Rattle.hdfs_wire.specs.Fields.{message_spelling, FitsField}
use Rattle.hdfs_wire.specs.declared.field.Value.TheVariants.{Varint, Eight, Four}
use Rattle.hdfs_wire.specs.Headers.{field, sync_fields, header_fields, header_spelling, header_from, with_field, no_header, ReadsHeader}
use Rattle.hdfs_wire.proofs.Apart.{checksum-lt}
use Rattle.hdfs_wire.proofs.Messages.{message_stands}
use Rattle.hdfs_wire.proofs.Stream.{same_parts}
use Rattle.hdfs_wire.proofs.WholePacket.{packet_reads}

-- ---- checksums

pub first_sums-length : (count size : ℕ) (payload : List ℕ) → length (first_sums count size payload) ≡ count * 4
unfolding first_sums
first_sums-length zero size payload = refl
first_sums-length (suc count) size payload =
    let so_far = first_sums-length count size payload in
    let e = length-append (first_sums count size payload) (to_be_bytes w32 (crc32c_of (chunk_at size payload count))) in
    omega arith

pub sums_more : (old out sum rest payload : List ℕ) (size i : ℕ) → out ≡ old ++ first_sums i size payload → rest ≡ drop (i * size) payload → sum ≡ to_be_bytes w32 (crc32c_of (take size rest))
    → out ++ sum ≡ old ++ first_sums (i + 1) size payload
unfolding first_sums
sums_more old out sum rest payload size i so_far here is =
    let plus : i + 1 ≡ suc i = omega arith in
    let chunk : sum ≡ to_be_bytes w32 (crc32c_of (chunk_at size payload i)) = is ∙ ap (λ (r : List ℕ). to_be_bytes w32 (crc32c_of (take size r))) here in
    rw (plus, so_far, chunk) (append_assoc old (first_sums i size payload) (to_be_bytes w32 (crc32c_of (chunk_at size payload i))))

pub rest_more : (rest after payload : List ℕ) (size i : ℕ) → rest ≡ drop (i * size) payload → after ≡ drop size rest → after ≡ drop ((i + 1) * size) payload
rest_more rest after payload size i here is =
    let e : i * size + size ≡ (i + 1) * size = omega arith in
    is ∙ ap (drop size) here ∙ drop-drop size (i * size) payload ∙ ap (λ (n : ℕ). drop n payload) e

pub sums_none : (old payload : List ℕ) (size : ℕ) → old ≡ old ++ first_sums 0 size payload
unfolding first_sums
sums_none old payload size = sym (append-nil old)

-- ---- no packet begins another

abbrev done : ReadPacket → Result ReadPacket WireFault
done p = Ok p

packet_is : (p q : ReadPacket) → done p ≡ done q → p ≡ q
packet_is p q e = cc

cells : (a b c d e f a' b' c' d' e' f' : ℕ) (t t' : List ℕ) → a ∷ b ∷ c ∷ d ∷ e ∷ f ∷ t ≡ a' ∷ b' ∷ c' ∷ d' ∷ e' ∷ f' ∷ t' → (a ≡ a') × (b ≡ b') × (c ≡ c') × (d ≡ d') × (e ≡ e') × (f ≡ f') × (t ≡ t')
cells a b c d e f a' b' c' d' e' f' t t' h = (cc, cc, cc, cc, cc, cc, cc)

around_apart : (ha ca pa hb cb pb x y : List ℕ) → length ha < 2 ^ 16 → length hb < 2 ^ 16 → 4 + length ca + length pa < 2 ^ 31 → 4 + length cb + length pb < 2 ^ 31
    → packet_around ha ca pa ++ x ≡ packet_around hb cb pb ++ y → (packet_around ha ca pa ≡ packet_around hb cb pb) × (x ≡ y)
around_apart ha ca pa hb cb pb x y fa fb ga gb e =
    let c = cells _ _ _ _ _ _ _ _ _ _ _ _ ((ha ++ (ca ++ pa)) ++ x) ((hb ++ (cb ++ pb)) ++ y) e in
    let body : 4 + length ca + length pa ≡ 4 + length cb + length pb = omega (arith, c.0, c.1, c.2, c.3) in
    let head : length ha ≡ length hb = omega (arith, c.4, c.5) in
    let len : length (ha ++ (ca ++ pa)) ≡ length (hb ++ (cb ++ pb)) = omega (arith, length-append ha (ca ++ pa), length-append ca pa, length-append hb (cb ++ pb), length-append cb pb) in
    let parts = same_parts (ha ++ (ca ++ pa)) (hb ++ (cb ++ pb)) x y len c.6 in (
      ap (λ (t : List ℕ). to_be_bytes w32 (4 + length ca + length pa) ++ (to_be_bytes w16 (length ha) ++ t)) parts.0
          ∙ ap (λ (n : ℕ). to_be_bytes w32 n ++ (to_be_bytes w16 (length ha) ++ (hb ++ (cb ++ pb)))) body
          ∙ ap (λ (n : ℕ). to_be_bytes w32 (4 + length cb + length pb) ++ (to_be_bytes w16 n ++ (hb ++ (cb ++ pb)))) head,
      parts.1,
    )

pub packets_apart : (a b x y : List ℕ) (p q : ReadPacket) → ReadsPacket a p → ReadsPacket b q → a ++ x ≡ b ++ y → (p ≡ q) × (x ≡ y)
packets_apart a b x y p q ra rb e =
    let ea = ra.parts in
    let eb = rb.parts in
    let both : packet_around ra.header p.checksum p.payload ++ x ≡ packet_around rb.header q.checksum q.payload ++ y = ap (λ (t : List ℕ). t ++ x) (sym ea) ∙ e ∙ ap (λ (t : List ℕ). t ++ y) eb in
    let parts = around_apart ra.header p.checksum p.payload rb.header q.checksum q.payload x y ra.header_fits rb.header_fits ra.body_fits rb.body_fits both in
    let same : a ≡ b = ea ∙ parts.0 ∙ sym eb in
    let read : done p ≡ done q = sym (packet_reads a p ra) ∙ ap packet_at same ∙ packet_reads b q rb in
    (packet_is p q read, parts.1)

-- ---- the checksums hold

sum_last : (xs : List ℕ) (n count : ℕ) → length xs ≡ count * 4 → n < 2 ^ 32 → sum_at (xs ++ to_be_bytes w32 n) count ≡ n
sum_last xs n count len lt = ap (λ (s : List ℕ). from_be_bytes w32 (take 4 s)) (drop_at xs (to_be_bytes w32 n) (count * 4) len) ∙ from_be_bytes-to_be_bytes_4 n lt

sum_before : (xs ys : List ℕ) (i : ℕ) → i * 4 + 4 ≤ length xs → sum_at (xs ++ ys) i ≡ sum_at xs i
sum_before xs ys i le =
    let left = length-drop (i * 4) xs in
    ap (λ (s : List ℕ). from_be_bytes w32 (take 4 s)) (drop-append-le (i * 4) xs ys (omega arith))
    ∙ ap (from_be_bytes w32) (take-append-le 4 (drop (i * 4) xs) ys (omega arith))

sums_at : (count size : ℕ) (payload : List ℕ) (i : ℕ) → i < count → sum_at (first_sums count size payload) i ≡ crc32c_of (chunk_at size payload i)
unfolding first_sums
sums_at zero size payload i lt = absurd (omega arith)
sums_at (suc count) size payload i lt =
    let len = first_sums-length count size payload in
    elim (cases_lt i count) [
      | inl before ↦ sum_before (first_sums count size payload) (to_be_bytes w32 (crc32c_of (chunk_at size payload count))) i (omega arith) ∙ sums_at count size payload i before
      | inr last ↦
          let same : i ≡ count = omega arith in
          rw same (sum_last (first_sums count size payload) (crc32c_of (chunk_at size payload count)) count len (checksum-lt 0x82f63b78 0x02f63b78 (lit< tt) refl (chunk_at size payload count)))
    ]

pub sums_hold : (size : ℕ) (payload : List ℕ) → 1 ≤ size → ChunksHold 2 size (checksums size payload) payload
sums_hold size payload some i lt =
    let n : ℕ = length payload in
    let next : (i + 1) * size ≤ n + (size - 1) = omega arith in
    let within : i + 1 ≤ chunk_count size n = le-div (i + 1) (n + (size - 1)) size some next in
    let len = first_sums-length (chunk_count size n) size payload in
    (omega arith, sums_at (chunk_count size n) size payload i (omega arith))

-- ---- headers

short_of : (offset seqno len : ℕ) (last : Bool) (sync : Option Bool) → length (message_spelling (field 1 (Eight offset) ∷ field 2 (Eight seqno) ∷ field 3 (Varint (from_bool last)) ∷ field 4 (Four len) ∷ sync_fields sync)) ≤ 27
unfolding varint groups
short_of offset seqno len false None = lit≤ tt
short_of offset seqno len true None = lit≤ tt
short_of offset seqno len false (Some false) = lit≤ tt
short_of offset seqno len true (Some false) = lit≤ tt
short_of offset seqno len false (Some true) = lit≤ tt
short_of offset seqno len true (Some true) = lit≤ tt

pub header_short : (h : PacketHeader) → length (header_spelling h) ≤ 27
header_short h = short_of (cast_unsigned w64 h.offset_in_block) (cast_unsigned w64 h.seqno) (cast_unsigned w32 h.data_len) h.last_packet_in_block h.sync_block

-- a header whose numbers fit
pub record FitsHeader (h : PacketHeader) : Type 0 where
  pub offset : FitsSigned w64 h.offset_in_block
  pub seqno : FitsSigned w64 h.seqno
  pub len : FitsSigned w32 h.data_len

again_of : (offset seqno len : ℤ) (last : Bool) (sync : Option Bool) → cast_signed w64 (cast_unsigned w64 offset) ≡ offset → cast_signed w64 (cast_unsigned w64 seqno) ≡ seqno → cast_signed w32 (cast_unsigned w32 len) ≡ len
    → header_from no_header (header_fields (record { offset_in_block = offset; seqno = seqno; last_packet_in_block = last; data_len = len; sync_block = sync }))
    ≡ Ok (record { offset_in_block = offset; seqno = seqno; last_packet_in_block = last; data_len = len; sync_block = sync })
unfolding header_from with_field
again_of offset seqno len false None fo fs fl = rw (fo, fs, fl) refl
again_of offset seqno len true None fo fs fl = rw (fo, fs, fl) refl
again_of offset seqno len false (Some false) fo fs fl = rw (fo, fs, fl) refl
again_of offset seqno len true (Some false) fo fs fl = rw (fo, fs, fl) refl
again_of offset seqno len false (Some true) fo fs fl = rw (fo, fs, fl) refl
again_of offset seqno len true (Some true) fo fs fl = rw (fo, fs, fl) refl

bool_small : (b : Bool) → from_bool b < 2 ^ 64
bool_small false = lit< tt
bool_small true = lit< tt

small_64 : (z : ℤ) → FitsSigned w64 z → cast_unsigned w64 z < 2 ^ 64
small_64 (pos n) fits = omega (arith, fits.sfits)
small_64 (negsuc n) fits = omega (arith, fits.sfits)

small_32 : (z : ℤ) → FitsSigned w32 z → cast_unsigned w32 z < 2 ^ 32
small_32 (pos n) fits = omega (arith, fits.sfits)
small_32 (negsuc n) fits = omega (arith, fits.sfits)

sync_fits : (sync : Option Bool) → AllByRecursion FitsField (sync_fields sync)
sync_fits None = tt
sync_fits (Some b) = (record { number = (omega arith, omega arith); value = bool_small b }, tt)

fields_fit : (h : PacketHeader) → FitsHeader h → AllByRecursion FitsField (header_fields h)
fields_fit h fits = (
  record { number = (omega arith, omega arith); value = small_64 h.offset_in_block fits.offset },
  (
    record { number = (omega arith, omega arith); value = small_64 h.seqno fits.seqno },
    (
      record { number = (omega arith, omega arith); value = bool_small h.last_packet_in_block },
      (record { number = (omega arith, omega arith); value = small_32 h.data_len fits.len }, sync_fits h.sync_block),
    ),
  ),
)

header_stands : (h : PacketHeader) → FitsHeader h → ReadsHeader (header_spelling h) h
header_stands h fits = (
  header_fields h,
  message_stands (header_fields h) (fields_fit h fits),
  again_of h.offset_in_block h.seqno h.data_len h.last_packet_in_block h.sync_block (to_z-of_z w64 h.offset_in_block fits.offset) (to_z-of_z w64 h.seqno fits.seqno) (to_z-of_z w32 h.data_len fits.len),
)

-- ---- the whole packet

data_fits : (z : ℤ) (n : ℕ) → z ≡ pos n → n < 2 ^ 31 → FitsSigned w32 z
data_fits z n e lt = rw e (record { sfits = lt })

pub outgoing_reads : (p : Outgoing) → IsOutgoing p → FitsSigned w64 p.header.offset_in_block → FitsSigned w64 p.header.seqno → 4 + length (checksums p.chunk p.payload) + length p.payload < 2 ^ 31
    → ReadsPacket (outgoing_spelling p) (written p)
outgoing_reads p is offset seqno fits = record {
  header = header_spelling p.header;
  parts = refl;
  header_reads = header_stands p.header (record { offset = offset; seqno = seqno; len = data_fits p.header.data_len (length p.payload) is.said (omega arith) });
  header_fits = omega (arith, header_short p.header);
  body_fits = fits;
  data_is = is.said;
}

pub text_reads : (p : Outgoing) (r : Result (Vec ℕ) NoMemory) → IsOutgoing p → FitsSigned w64 p.header.offset_in_block × FitsSigned w64 p.header.seqno → 4 + length (checksums p.chunk p.payload) + length p.payload < 2 ^ 31
    → IfOk r (λ v. v.items ≡ outgoing_spelling p) → IfOk r (λ v. ReadsPacket v.items (written p))
text_reads p r is signs fits given =
    IfOk-weaker r (λ v. v.items ≡ outgoing_spelling p) (λ v. ReadsPacket v.items (written p)) (λ v e. subst (λ (t : List ℕ). ReadsPacket t (written p)) (sym e) (outgoing_reads p is signs.0 signs.1 fits)) given
