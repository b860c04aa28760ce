-- The last packet stands behind those that aren't.
use Rattle.std.proofs.Common.{◌≡◌, ℕ, pos, List, [], ◌∷◌, ◌++◌, length, sym, ◌∙◌, ap, subst, arith, inl, inr}
use Rattle.std.specs.Prelude.{All}
use Rattle.std.proofs.lemmas.Bool.{cases_lt}
use Rattle.std.proofs.lemmas.List.{get_or_append_left, get_or_push, length_push}
use Rattle.std.proofs.lemmas.List.Elements.{All-head, All-tail}
use Rattle.hdfs_wire.specs.Outgoing.{Outgoing}
use Rattle.hdfs_pipeline.specs.Pushed.{IsLastBehind}
use Rattle.hdfs_relay.specs.Packets.{IsByte, IsLast, AreNumbered, AreRelayed}

some_behind : (front rest : List Outgoing) (packet : Outgoing) → [] ≡ front ++ packet ∷ rest → ⊥
some_behind [] rest packet is = cc
some_behind (first ∷ front) rest packet is = cc

-- behind packets of a byte any other may stand
pub last_behind : (bytes : List Outgoing) (end : Outgoing) → All IsByte bytes → IsLastBehind (bytes ++ end ∷ [])
last_behind [] end each [] rest packet is last = cc
last_behind [] end each (first ∷ front) rest packet is last = let tail : [] ≡ front ++ packet ∷ rest = cc in absurd (some_behind front rest packet tail)
last_behind (byte ∷ bytes) end each [] rest packet is last =
    let same : byte ≡ packet = cc in
    let goes_on = (All-head IsByte byte bytes each).goes_on in
    absurd (cc (same, goes_on, last))
last_behind (byte ∷ bytes) end each (first ∷ front) rest packet is last =
    let tail : bytes ++ end ∷ [] ≡ front ++ packet ∷ rest = cc in
    last_behind bytes end (All-tail IsByte byte bytes each) front rest packet tail last

-- the next seqno stands behind the others
pub numbered_more : (packets : List Outgoing) (packet : Outgoing) → AreNumbered packets → packet.header.seqno ≡ pos (length packets) → AreNumbered (packets ++ packet ∷ [])
numbered_more packets packet before is k d within = elim (cases_lt k (length packets)) [
  | inl here ↦ ap (λ (p : Outgoing). p.header.seqno) (get_or_append_left packets (packet ∷ []) d k here) ∙ before k d here
  | inr past ↦
      let more = length_push packets packet in
      let same : length packets ≡ k = omega (arith, past, within, more) in
      ap (λ (p : Outgoing). p.header.seqno) (get_or_push packets packet d k same) ∙ is ∙ ap pos same
]

-- packets of a byte, and the last one
pub relayed : (count : ℕ) (packets bytes : List Outgoing) (end : Outgoing) → packets ≡ bytes ++ end ∷ [] → length bytes ≡ count → All IsByte bytes → IsLast end → AreNumbered bytes → end.header.seqno ≡ pos count → AreRelayed count packets
relayed count packets bytes end whole many each last numbered seqno = record {
  bytes = bytes;
  end = end;
  whole = whole;
  many = many;
  each = each;
  last = last;
  numbered = subst AreNumbered (sym whole) (numbered_more bytes end numbered (seqno ∙ ap pos (sym many)));
}
