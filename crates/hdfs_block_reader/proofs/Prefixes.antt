-- Slices that are put over a prefix of a list make a prefix of it.
use Rattle.std.proofs.Common.{take-append-drop, take-add, ◌≡◌, ◌⊎◌, inl, inr, ⊎_elim, ℕ, suc, zero, ◌+◌, ◌≤◌, max, List, [], ◌∷◌, ◌++◌, length, take, drop, refl, sym, ◌∙◌, ap, subst, arith, append_assoc}
use Rattle.std.proofs.Math.Seq.{drop-append_seam, take-append_seam}
use Rattle.std.proofs.lemmas.List.{append-nil, length-drop, take-take, drop-take, drop-drop, drop_all, length-take-le, length-append, take-append-le}
use Rattle.hdfs_wire.specs.Outgoing.{Outgoing}
use Rattle.hdfs_cluster.specs.Sending.{put, put_packets, offset_of}
use Rattle.hdfs_block_reader.specs.Carrying.{total, joined, AreSlices, FollowFrom}

pub le_cases : (a b : ℕ) → (a ≤ b) ⊎ (b ≤ a)
le_cases zero b = inl (omega arith)
le_cases (suc a) zero = inr (omega arith)
le_cases (suc a) (suc b) = ⊎_elim (λ h. inl (omega (arith, h))) (λ h. inr (omega (arith, h))) (le_cases a b)

module _ (bytes more : List ℕ) (n o : ℕ) (short : n ≤ length bytes) (inside : o ≤ n) (slice : more ≡ take (length more) (drop o bytes)) where
  -- the front and the slice are the first bytes
  front : take o (take n bytes) ++ more ≡ take (o + length more) bytes
  front = ap (λ (l : List ℕ). l ++ more) (take-take o n bytes inside) ∙ ap (λ (l : List ℕ). take o bytes ++ l) slice ∙ sym (take-add o (length more) bytes)

  joins : (rest : List ℕ) → take o (take n bytes) ++ more ++ rest ≡ take (o + length more) bytes ++ rest
  joins rest = ap (λ (l : List ℕ). l ++ rest) front

  longer : n ≤ o + length more → put (take n bytes) o more ≡ take (o + length more) bytes
  longer reach =
      joins (drop (o + length more) (take n bytes))
      ∙ ap (λ (l : List ℕ). take (o + length more) bytes ++ l) (drop_all (o + length more) (take n bytes) (omega (arith, reach, length-take-le n bytes short)))
      ∙ append-nil (take (o + length more) bytes)

  shorter : o + length more ≤ n → put (take n bytes) o more ≡ take n bytes
  shorter reach =
      joins (drop (o + length more) (take n bytes))
      ∙ ap (λ (l : List ℕ). l ++ drop (o + length more) (take n bytes)) (sym (take-take (o + length more) n bytes reach))
      ∙ take-append-drop (o + length more) (take n bytes)

  -- the prefix is as long as the longer of the two
  pub put_prefix : put (take n bytes) o more ≡ take (max n (o + length more)) bytes
  put_prefix = ⊎_elim
      (λ reach. longer reach ∙ ap (λ (k : ℕ). take k bytes) (omega (arith, reach)))
      (λ reach. shorter reach ∙ ap (λ (k : ℕ). take k bytes) (omega (arith, reach)))
      (le_cases n (o + length more))

max_assoc : (n a b : ℕ) → max (max n (a + b)) (a + b) ≡ max n (a + b)
max_assoc n a b = omega arith

-- the same of packets, one behind another
pub put_slices : (bytes : List ℕ) (packets : List Outgoing) (n at : ℕ) → n ≤ length bytes → at ≤ n → AreSlices bytes at packets → put_packets (take n bytes) packets ≡ take (max n (at + total packets)) bytes
put_slices bytes [] n at short inside slices = ap (λ (k : ℕ). take k bytes) (omega (arith, inside))
put_slices bytes (p ∷ packets) n at short inside slices =
    let same : offset_of p.header.offset_in_block ≡ at = ap offset_of slices.0 in
    ap (λ (k : ℕ). put_packets (put (take n bytes) k p.payload) packets) same
    ∙ ap (λ (l : List ℕ). put_packets l packets) (put_prefix bytes p.payload n at short inside slices.2)
    ∙ put_slices bytes packets (max n (at + length p.payload)) (at + length p.payload) (omega (arith, short, slices.1)) (omega arith) slices.3
    ∙ ap (λ (k : ℕ). take k bytes) (omega arith)

-- slices up to a place of the list are slices
pub slices_take : (bytes : List ℕ) (packets : List Outgoing) (k at : ℕ) → AreSlices bytes at packets → AreSlices bytes at (take k packets)
slices_take bytes [] zero at slices = tt
slices_take bytes [] (suc k) at slices = tt
slices_take bytes (p ∷ packets) zero at slices = tt
slices_take bytes (p ∷ packets) (suc k) at slices = (slices.0, slices.1, slices.2, slices_take bytes packets k (at + length p.payload) slices.3)

-- slices end within the list
pub slices_within : (bytes : List ℕ) (packets : List Outgoing) (at : ℕ) → at ≤ length bytes → AreSlices bytes at packets → at + total packets ≤ length bytes
slices_within bytes [] at within slices = omega (arith, within)
slices_within bytes (p ∷ packets) at within slices = omega (arith, slices_within bytes packets (at + length p.payload) slices.1 slices.3)

-- more packets have more bytes
pub total_more : (packets : List Outgoing) (k m : ℕ) → k ≤ m → total (take k packets) ≤ total (take m packets)
total_more [] zero zero less = omega arith
total_more [] zero (suc m) less = omega arith
total_more [] (suc k) zero less = omega arith
total_more [] (suc k) (suc m) less = omega arith
total_more (p ∷ packets) zero m less = omega arith
total_more (p ∷ packets) (suc k) zero less = absurd (omega (arith, less))
total_more (p ∷ packets) (suc k) (suc m) less = omega (arith, total_more packets k m (omega (arith, less)))

drop_of_take : (bytes more : List ℕ) (at n : ℕ) → at + n ≤ length bytes → take n (drop at (bytes ++ more)) ≡ take n (drop at bytes)
drop_of_take bytes more at n within =
    sym (drop-take at n (bytes ++ more)) ∙ ap (drop at) (take-append-le (at + n) bytes more within) ∙ drop-take at n bytes

-- slices of a list are slices of a longer one
pub slices_longer : (bytes more : List ℕ) (packets : List Outgoing) (at : ℕ) → AreSlices bytes at packets → AreSlices (bytes ++ more) at packets
slices_longer bytes more [] at slices = tt
slices_longer bytes more (p ∷ packets) at slices = (
  slices.0,
  omega (arith, slices.1, length-append bytes more),
  slices.2 ∙ sym (drop_of_take bytes more at (length p.payload) slices.1),
  slices_longer bytes more packets (at + length p.payload) slices.3,
)

-- a prefix of a list is one of a longer list
pub prefix_longer : (bytes more xs : List ℕ) → length xs ≤ length bytes → xs ≡ take (length xs) bytes → xs ≡ take (length xs) (bytes ++ more)
prefix_longer bytes more xs short is = is ∙ sym (take-append-le (length xs) bytes more short)

-- as many elements as a list has, or more, are all of it
pub take_whole : (n : ℕ) (bytes : List ℕ) → length bytes ≤ n → take n bytes ≡ bytes
take_whole n bytes h = sym (append-nil (take n bytes)) ∙ ap (λ (l : List ℕ). take n bytes ++ l) (sym (drop_all n bytes h)) ∙ take-append-drop n bytes

-- a list that is its own prefix of another isn't longer
pub prefix_short : (bytes xs : List ℕ) → xs ≡ take (length xs) bytes → length xs ≤ length bytes
prefix_short bytes xs is = ⊎_elim (λ h. h) (λ h. omega (arith, h, ap length (is ∙ take_whole (length xs) bytes h))) (le_cases (length xs) (length bytes))

-- more slices behind
pub slices_join : (bytes : List ℕ) (packets more : List Outgoing) (at : ℕ) → AreSlices bytes at packets → AreSlices bytes (at + total packets) more → AreSlices bytes at (packets ++ more)
slices_join bytes [] more at slices behind = subst (λ (k : ℕ). AreSlices bytes k more) (omega arith) behind
slices_join bytes (q ∷ packets) more at slices behind = (slices.0, slices.1, slices.2, slices_join bytes packets more (at + length q.payload) slices.3 (subst (λ (k : ℕ). AreSlices bytes k more) (omega arith) behind))

-- packets have the bytes of both parts
pub total_join : (packets more : List Outgoing) → total (packets ++ more) ≡ total packets + total more
total_join [] more = omega arith
total_join (q ∷ packets) more = omega (arith, total_join packets more)

-- their payloads, joined, are as long
pub length-joined : (packets : List Outgoing) → length (joined packets) ≡ total packets
length-joined [] = refl
length-joined (p ∷ packets) = omega (arith, length-append p.payload (joined packets), length-joined packets)

-- payloads are joined one behind another
pub joined_join : (packets more : List Outgoing) → joined (packets ++ more) ≡ joined packets ++ joined more
joined_join [] more = refl
joined_join (p ∷ packets) more = ap (λ (l : List ℕ). p.payload ++ l) (joined_join packets more) ∙ sym (append_assoc p.payload (joined packets) (joined more))

-- the bytes of packets are those before a place and those behind it
pub total_cut : (packets : List Outgoing) (k : ℕ) → total packets ≡ total (take k packets) + total (drop k packets)
total_cut [] zero = omega arith
total_cut [] (suc k) = omega arith
total_cut (p ∷ packets) zero = omega arith
total_cut (p ∷ packets) (suc k) = omega (arith, total_cut packets k)

-- the first of some slices are slices
pub slices_front : (bytes : List ℕ) (packets more : List Outgoing) (at : ℕ) → AreSlices bytes at (packets ++ more) → AreSlices bytes at packets
slices_front bytes [] more at slices = tt
slices_front bytes (p ∷ packets) more at slices = (slices.0, slices.1, slices.2, slices_front bytes packets more (at + length p.payload) slices.3)

-- payloads behind others stand behind them in the list
pub joined_behind : (bytes : List ℕ) (front more : List Outgoing) (rest : List ℕ) (at : ℕ) → joined (front ++ more) ++ rest ≡ drop at bytes → joined more ++ rest ≡ drop (at + total front) bytes
joined_behind bytes front more rest at kept =
    let parts : joined front ++ (joined more ++ rest) ≡ drop at bytes = sym (append_assoc (joined front) (joined more) rest) ∙ ap (λ (l : List ℕ). l ++ rest) (sym (joined_join front more)) ∙ kept in
    sym (drop-append_seam (joined front) (joined more ++ rest)) ∙ ap (drop (length (joined front))) parts ∙ drop-drop (length (joined front)) at bytes ∙ ap (λ (k : ℕ). drop (at + k) bytes) (length-joined front)

-- packets that stand one behind another, whose payloads are the list's bytes from there on, are slices
pub slices_from-joined : (bytes : List ℕ) (packets : List Outgoing) (rest : List ℕ) (at : ℕ) → at ≤ length bytes → FollowFrom at packets → joined packets ++ rest ≡ drop at bytes → AreSlices bytes at packets
slices_from-joined bytes [] rest at within follow kept = tt
slices_from-joined bytes (p ∷ packets) rest at within follow kept =
    let parts : p.payload ++ (joined packets ++ rest) ≡ drop at bytes = sym (append_assoc p.payload (joined packets) rest) ∙ kept in
    let short : at + length p.payload ≤ length bytes = omega (arith, ap length parts, length-append p.payload (joined packets ++ rest), length-drop at bytes, within) in (
      follow.0,
      short,
      sym (take-append_seam p.payload (joined packets ++ rest)) ∙ ap (take (length p.payload)) parts,
      slices_from-joined bytes packets rest (at + length p.payload) short follow.1
          (sym (drop-append_seam p.payload (joined packets ++ rest)) ∙ ap (drop (length p.payload)) parts ∙ drop-drop (length p.payload) at bytes),
    )
