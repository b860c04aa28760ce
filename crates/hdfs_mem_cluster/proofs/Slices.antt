-- What the packets of a read in memory have: checksums that hold, or a byte by which they don't.
use Rattle.std.proofs.Common.{◌≡◌, ◌≢◌, ◌⊎◌, inl, inr, zero, suc, ℕ, pos, ◌+◌, ◌-◌, ◌*◌, ◌<◌, ◌≤◌, true, false, List, [], ◌∷◌, length, take, drop, Option, Some, None, is_some, refl, sym, ◌∙◌, ap, subst, arith, lit<}
use Rattle.std.proofs.lemmas.List.{length-drop, length-take-le}
use Rattle.hdfs_wire.specs.declared.checksums.ChecksumInfo.{ChecksumInfo}
use Rattle.hdfs_wire.specs.declared.packet_header.PacketHeader.{PacketHeader}
use Rattle.hdfs_wire.specs.declared.read_packet.ReadPacket.{ReadPacket}
use Rattle.hdfs_wire.specs.Checksums.{ChunksHold, IsChecked, SumsHold, sum_at}
use Rattle.hdfs_wire.specs.Crc.{crc32c_of}
use Rattle.hdfs_wire.specs.Outgoing.{checksums}
use Rattle.hdfs_wire.proofs.Apart.{sums_differ}
use Rattle.hdfs_wire.proofs.WrittenPacket.{sums_hold}
use Rattle.hdfs_cluster.specs.declared.picture.ReadPlace.{ReadPlace}
use Rattle.hdfs_cluster.specs.declared.store.ReadKind.{ReadKind}
use Rattle.hdfs_cluster.specs.declared.store.ReadKind.TheVariants as read_kinds
use Rattle.hdfs_cluster.specs.Reading.{IsHonest, IsSlice, placed_at}
use Rattle.hdfs_mem_cluster.specs.Coming.{IsGiven, IsWhole, LeavesOneOut, TellsLast, first_turned}
use Rattle.hdfs_mem_cluster.specs.Slices.{Comes, IsNext, TurnsFirst, crc32c_for}

-- ---- a slice

-- its checksums hold
pub next_checked : (chunk : ℕ) (read : ReadPlace) (packet : ReadPacket) → 1 ≤ chunk → IsNext chunk read packet → IsChecked (Some (crc32c_for chunk)) packet
next_checked chunk read packet some next =
    inr (inr refl, subst (λ (sums : List ℕ). ChunksHold 2 chunk sums packet.payload) (sym next.checksum) (sums_hold chunk packet.payload some))

-- so it is whole
next_whole : (chunk : ℕ) (read : ReadPlace) (packet : ReadPacket) → 1 ≤ chunk → IsNext chunk read packet → IsWhole (Some (crc32c_for chunk)) read packet
next_whole chunk read packet some next = record { slice = next.slice; last = next.last; checked = next_checked chunk read packet some next }

-- it is honest, wherever it begins
slice_honest : (info : Option ChecksumInfo) (read : ReadPlace) (place : ℕ) (packet : ReadPacket) → IsSlice (placed_at read place) packet → IsHonest info read packet
slice_honest info read place packet slice = record {
  bytes = λ checked offset is.
      (let both : pos place ≡ pos offset = sym slice.offset ∙ is in
      let same : place ≡ offset = cc in
      subst (λ (n : ℕ). packet.payload ≡ take (length packet.payload) (drop n read.base)) same slice.bytes);
}

-- ---- one behind another

-- the one before it is left out
pub leaves_out : (read : ReadPlace) (count : ℕ) (packet : ReadPacket) → read.place + count ≤ length read.base → (count ≡ 0 → (read.offset + read.len ≤ read.place) ⊎ (length read.base ≤ read.place))
    → (read.offset + read.len ≤ read.place → count ≡ 0) → IsSlice (placed_at read (read.place + count)) packet → TellsLast packet → LeavesOneOut read packet
leaves_out read count packet within goes_on stops behind last =
    let payload : List ℕ = take count (drop read.place read.base) in
    let size : length payload ≡ count = length-take-le count (drop read.place read.base) (omega (arith, within, length-drop read.place read.base)) in
    record {
      left_out = record {
        header = record { offset_in_block = pos read.place; seqno = pos 0; last_packet_in_block = false; data_len = pos count; sync_block = None };
        checksum = [];
        payload = payload;
      };
      slice = record {
        offset = refl;
        bytes = ap (λ (n : ℕ). take n (drop read.place read.base)) (sym size);
        goes_on = λ none. goes_on (sym size ∙ none);
        stops = λ covered. size ∙ stops covered;
      };
      behind = subst (λ (n : ℕ). IsSlice (placed_at read (read.place + n)) packet) (sym size) behind;
      last = last;
    }

-- ---- a damaged one

length_turned : (bytes : List ℕ) → length (first_turned bytes) ≡ length bytes
length_turned [] = refl
length_turned (byte ∷ rest) = refl

-- a byte differs from the one with all bits turned
turned_apart : (byte : ℕ) → byte < 256 → byte ≢ 255 - byte
turned_apart byte below is = omega arith

-- so the checksum of the first chunk doesn't hold
turned_fails : (chunk byte : ℕ) (rest : List ℕ) → 1 ≤ chunk → byte < 256 → ChunksHold 2 chunk (checksums chunk (byte ∷ rest)) ((255 - byte) ∷ rest) → ⊥
turned_fails zero byte rest some below holds = omega arith
turned_fails (suc k) byte rest some below holds =
    let none : 0 * suc k ≡ 0 = omega arith in
    let sums = checksums (suc k) (byte ∷ rest) in
    let was : sum_at sums 0 ≡ crc32c_of (take (suc k) (drop (0 * suc k) (byte ∷ rest))) = (sums_hold (suc k) (byte ∷ rest) some 0 (omega arith)).1 in
    let is : sum_at sums 0 ≡ crc32c_of (take (suc k) (drop (0 * suc k) ((255 - byte) ∷ rest))) = (holds 0 (omega arith)).1 in
    let true_sum : sum_at sums 0 ≡ crc32c_of (byte ∷ take k rest) = was ∙ ap (λ (n : ℕ). crc32c_of (take (suc k) (drop n (byte ∷ rest)))) none in
    let turned_sum : sum_at sums 0 ≡ crc32c_of ((255 - byte) ∷ take k rest) = is ∙ ap (λ (n : ℕ). crc32c_of (take (suc k) (drop n ((255 - byte) ∷ rest)))) none in
    sums_differ 0x82f63b78 0x02f63b78 (lit< tt) refl [] (take k rest) byte (255 - byte) below (omega arith) (turned_apart byte below) (sym true_sum ∙ turned_sum)

-- and bytes whose checksums hold are none
turned_none : (chunk : ℕ) (bytes base : List ℕ) → 1 ≤ chunk → ((byte : ℕ) (rest : List ℕ) → bytes ≡ byte ∷ rest → byte < 256) → SumsHold 2 chunk (checksums chunk bytes) (first_turned bytes)
    → first_turned bytes ≡ take (length (first_turned bytes)) base
turned_none chunk [] base some small holds = refl
turned_none chunk (byte ∷ rest) base some small (inl none) = absurd (omega (arith, none))
turned_none chunk (byte ∷ rest) base some small (inr holds) = absurd (turned_fails chunk byte rest some (small byte rest refl) holds.1)

damaged_honest : (chunk : ℕ) (read : ReadPlace) (whole packet : ReadPacket) → 1 ≤ chunk → IsNext chunk read whole → TurnsFirst whole packet → IsHonest (Some (crc32c_for chunk)) read packet
damaged_honest chunk read whole packet some next turns = record {
  bytes = λ checked offset is.
      (let sums : packet.checksum ≡ checksums chunk whole.payload = turns.checksum ∙ next.checksum in
      let holds : SumsHold 2 chunk (checksums chunk whole.payload) (first_turned whole.payload) =
      subst (SumsHold 2 chunk (checksums chunk whole.payload)) turns.payload (subst (λ (c : List ℕ). SumsHold 2 chunk c packet.payload) sums checked) in
      subst (λ (bytes : List ℕ). bytes ≡ take (length bytes) (drop offset read.base)) (sym turns.payload) (turned_none chunk whole.payload (drop offset read.base) some turns.byte holds));
}

-- ---- what comes

module _ (chunk : ℕ) (some : 1 ≤ chunk) (read : ReadPlace) (packet : ReadPacket) where
  -- it is given as planned
  pub comes_given : (kind : Option ReadKind) → Comes chunk kind read packet → IsGiven (Some (crc32c_for chunk)) kind read packet
  comes_given None next = next_whole chunk read packet some next
  comes_given (Some read_kinds.Broken) none = none
  comes_given (Some read_kinds.Damaged) turned =
      record { whole = turned.0; is_whole = next_whole chunk read turned.0 some turned.1; header = turned.2.header; checksum = turned.2.checksum; payload = turned.2.payload }
  comes_given (Some read_kinds.Gap) behind = (behind.2, next_checked chunk (placed_at read behind.0) packet some behind.1)
  comes_given (Some read_kinds.Refused) none = none

  -- its header tells its length
  pub comes_told : (kind : Option ReadKind) → Comes chunk kind read packet → packet.header.data_len ≡ pos (length packet.payload)
  comes_told None next = next.told
  comes_told (Some read_kinds.Broken) none = absurd none
  comes_told (Some read_kinds.Damaged) turned =
      ap (λ (h : PacketHeader). h.data_len) turned.2.header ∙ turned.1.told ∙ ap pos (sym (length_turned turned.0.payload) ∙ ap length (sym turned.2.payload))
  comes_told (Some read_kinds.Gap) behind = behind.1.told
  comes_told (Some read_kinds.Refused) none = absurd none

  module _ (Failed : Type 0) where
    -- its checksums hold, where it doesn't fail
    pub comes_checked : (kind : Option ReadKind) → Comes chunk kind read packet → (is_some kind ≡ true → Failed) → IsChecked (Some (crc32c_for chunk)) packet ⊎ Failed
    comes_checked None next failed = inl (next_checked chunk read packet some next)
    comes_checked (Some kind) comes failed = inr (failed refl)

    -- it is the next slice, or an honest one where it fails
    pub comes_slice : (kind : Option ReadKind) → Comes chunk kind read packet → (is_some kind ≡ true → Failed) → IsSlice read packet ⊎ (Failed × IsHonest (Some (crc32c_for chunk)) read packet)
    comes_slice None next failed = inl next.slice
    comes_slice (Some read_kinds.Broken) none failed = absurd none
    comes_slice (Some read_kinds.Damaged) turned failed = inr (failed refl, damaged_honest chunk read turned.0 packet some turned.1 turned.2)
    comes_slice (Some read_kinds.Gap) behind failed = inr (failed refl, slice_honest (Some (crc32c_for chunk)) read behind.0 packet behind.1.slice)
    comes_slice (Some read_kinds.Refused) none failed = absurd none
