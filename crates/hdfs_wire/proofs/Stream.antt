-- Frames at the front of a stream.
use Rattle.std.proofs.Common.{◌≡◌, ℕ, ◌+◌, ◌-◌, ◌≤◌, ◌↔◌, List, [], ◌∷◌, ◌++◌, length, take, drop, Option, Some, None, Result, Ok, Err, refl, sym, ap, subst, ◌∙◌, append_assoc, arith, inl, inr}
use Rattle.std.specs.List.{flat_map, AllByRecursion}
use Rattle.std.specs.Int.{w32, to_be_bytes, from_be_bytes}
use Rattle.std.proofs.lemmas.List.{take-append-drop, take_at, drop_at, length-append, length-take, length-drop, drop-drop}
use Rattle.std.proofs.lemmas.List.Concat.{flat_map-cons}
use Rattle.std.proofs.lemmas.Nat.{from_be_bytes-to_be_bytes_4}
use Rattle.hdfs_wire.specs.declared.wire_fault.WireFault.{WireFault}
use Rattle.hdfs_wire.specs.Frames.{frame, FitsFrame, length_at, HoldsNoFrame, BeginsTooLong, IsFirstLength, Splits}

-- ---- one frame

cells : (p q r s p' q' r' s' : ℕ) (t t' : List ℕ) → p ∷ q ∷ r ∷ s ∷ t ≡ p' ∷ q' ∷ r' ∷ s' ∷ t' → (p ≡ p') × (q ≡ q') × (r ≡ r') × (s ≡ s') × (t ≡ t')
cells p q r s p' q' r' s' t t' e = (cc, cc, cc, cc, cc)

pub same_parts : (a b x y : List ℕ) → length a ≡ length b → a ++ x ≡ b ++ y → (a ≡ b) × (x ≡ y)
same_parts a b x y len e = (
  sym (take_at a x (length a) refl) ∙ ap (take (length a)) e ∙ take_at b y (length a) (sym len),
  sym (drop_at a x (length a) refl) ∙ ap (drop (length a)) e ∙ drop_at b y (length a) (sym len),
)

pub frames_apart : (a b x y : List ℕ) → FitsFrame a → FitsFrame b → frame a ++ x ≡ frame b ++ y → (a ≡ b) × (x ≡ y)
frames_apart a b x y fa fb e =
    let c = cells _ _ _ _ _ _ _ _ (a ++ x) (b ++ y) e in
    same_parts a b x y (omega (arith, c.0, c.1, c.2, c.3)) c.4

length_of_frame : (a x : List ℕ) → length (frame a ++ x) ≡ 4 + length a + length x
length_of_frame a x = let e = length-append a x in omega arith

take_length : (n : ℕ) (bytes : List ℕ) → 4 + n ≤ length bytes → length (take n (drop 4 bytes)) ≡ n
take_length n bytes le = rw (length-take, length-drop) (omega arith)

-- the front is a whole frame
pub whole_frame : (bytes : List ℕ) (n : ℕ) → IsFirstLength bytes (Ok (Some n)) → FitsFrame (take n (drop 4 bytes)) × (bytes ≡ frame (take n (drop 4 bytes)) ++ drop (4 + n) bytes)
whole_frame bytes n is =
    let inner : List ℕ = take n (drop 4 bytes) in
    let len : length inner ≡ n = take_length n bytes is.2 in
    let front : take 4 bytes ≡ to_be_bytes w32 (length inner) = is.0 ∙ ap (to_be_bytes w32) (sym len) in
    let back : drop 4 bytes ≡ inner ++ drop (4 + n) bytes = sym (take-append-drop n (drop 4 bytes)) ∙ ap (λ (t : List ℕ). inner ++ t) (drop-drop n 4 bytes) in
    (omega (arith, is.1), sym (take-append-drop 4 bytes) ∙ ap (λ (t : List ℕ). t ++ drop 4 bytes) front ∙ ap (λ (t : List ℕ). to_be_bytes w32 (length inner) ++ t) back)

-- ---- when no frame is whole

pub begins_known : (bytes inner rest : List ℕ) → FitsFrame inner → bytes ≡ frame inner ++ rest → (4 + length inner ≤ length bytes) × (length_at bytes ≡ length inner)
begins_known bytes inner rest fits e =
    let len = ap length e ∙ length_of_frame inner rest in
    let front : take 4 bytes ≡ to_be_bytes w32 (length inner) = ap (take 4) e in
    (omega arith, ap (from_be_bytes w32) front ∙ from_be_bytes-to_be_bytes_4 (length inner) (omega arith))

pub none_whole : (bytes : List ℕ) → IsFirstLength bytes (Ok None) → HoldsNoFrame bytes × (BeginsTooLong bytes → ⊥)
none_whole bytes (inl short) = ((λ inner rest fits e. (let k = begins_known bytes inner rest fits e in absurd (omega (arith, k.0)))), (λ long. absurd (omega (arith, long.0))))
none_whole bytes (inr part) = (
  (λ inner rest fits e. (let k = begins_known bytes inner rest fits e in absurd (omega (arith, k.0, k.1, part.2)))),
  (λ long. absurd (omega (arith, long.1, part.1))),
)

pub some_whole : (bytes : List ℕ) (n : ℕ) → IsFirstLength bytes (Ok (Some n)) → HoldsNoFrame bytes → ⊥
some_whole bytes n is none = let w = whole_frame bytes n is in none (take n (drop 4 bytes)) (drop (4 + n) bytes) w.0 w.1

-- ---- a stream

cons_same : (a b : List ℕ) (xs ys : List (List ℕ)) → a ≡ b → xs ≡ ys → a ∷ xs ≡ b ∷ ys
cons_same a b xs ys e f = cc

splits_at : (stream : List ℕ) (inners others : List (List ℕ)) (rest left : List ℕ) → AllByRecursion FitsFrame inners → AllByRecursion FitsFrame others → HoldsNoFrame rest → HoldsNoFrame left
    → stream ≡ flat_map frame inners ++ rest → stream ≡ flat_map frame others ++ left → (inners ≡ others) × (rest ≡ left)
splits_at stream [] [] rest left fi fo nr nl e f = (refl, sym e ∙ f)
splits_at stream [] (b ∷ others) rest left fi fo nr nl e f = absurd (nr b (flat_map frame others ++ left) fo.0 (sym e ∙ f ∙ ap (λ (t : List ℕ). t ++ left) (flat_map-cons frame b others) ∙ append_assoc (frame b) (flat_map frame others) left))
splits_at stream (a ∷ inners) [] rest left fi fo nr nl e f = absurd (nl a (flat_map frame inners ++ rest) fi.0 (sym f ∙ e ∙ ap (λ (t : List ℕ). t ++ rest) (flat_map-cons frame a inners) ∙ append_assoc (frame a) (flat_map frame inners) rest))
splits_at stream (a ∷ inners) (b ∷ others) rest left fi fo nr nl e f =
    let x : List ℕ = flat_map frame inners ++ rest in
    let y : List ℕ = flat_map frame others ++ left in
    let ea : stream ≡ frame a ++ x = e ∙ ap (λ (t : List ℕ). t ++ rest) (flat_map-cons frame a inners) ∙ append_assoc (frame a) (flat_map frame inners) rest in
    let fb : stream ≡ frame b ++ y = f ∙ ap (λ (t : List ℕ). t ++ left) (flat_map-cons frame b others) ∙ append_assoc (frame b) (flat_map frame others) left in
    let first = frames_apart a b x y fi.0 fo.0 (sym ea ∙ fb) in
    let others_same = splits_at x inners others rest left fi.1 fo.1 nr nl refl first.1 in
    (cons_same a b inners others first.0 others_same.0, others_same.1)

pub one_way : (stream : List ℕ) (inners others : List (List ℕ)) (rest left : List ℕ) → Splits stream inners rest → Splits stream others left → (inners ≡ others) × (rest ≡ left)
one_way stream inners others rest left s t = splits_at stream inners others rest left s.each t.each s.partial t.partial s.whole t.whole

-- ---- what a reader gives

abbrev pub given : Option (List ℕ) → Result (Option (List ℕ)) WireFault
given o = Ok o

both_same : (P : List ℕ → List ℕ → Type 0) (a b x y : List ℕ) → a ≡ b → x ≡ y → P a x → P b y
both_same P a b x y e f h = subst (P b) f (subst (λ (z : List ℕ). P z x) e h)

pub taken : (old bytes inner new : List ℕ) (o : Option ℕ) (n : ℕ) → bytes ≡ old → IsFirstLength bytes (Ok o) → o ≡ Some n → inner ≡ take (4 + n - 4) (drop 4 bytes) → new ≡ drop (4 + n) old
    → FitsFrame inner × (old ≡ frame inner ++ new)
taken old bytes inner new o n same is some inner_is new_is =
    let here : IsFirstLength bytes (Ok (Some n)) = subst (λ (x : Option ℕ). IsFirstLength bytes (Ok x)) some is in
    let w = whole_frame bytes n here in
    let k : 4 + n - 4 ≡ n = omega arith in
    let inner_same : take n (drop 4 bytes) ≡ inner = sym (inner_is ∙ ap (λ (m : ℕ). take m (drop 4 bytes)) k) in
    let new_same : drop (4 + n) bytes ≡ new = ap (drop (4 + n)) same ∙ sym new_is in
    let P : List ℕ → List ℕ → Type 0 = λ a x. FitsFrame a × (bytes ≡ frame a ++ x) in
    let both : FitsFrame inner × (bytes ≡ frame inner ++ new) = both_same P (take n (drop 4 bytes)) inner (drop (4 + n) bytes) new inner_same new_same w in
    (both.0, sym same ∙ both.1)

pub none_iff : (r : Result (Option (List ℕ)) WireFault) (old bytes : List ℕ) (o : Option ℕ) (n : ℕ) → bytes ≡ old → IsFirstLength bytes (Ok o) → o ≡ Some n → (r ≡ Ok None → ⊥)
    → (r ≡ Ok None) ↔ (HoldsNoFrame old × (BeginsTooLong old → ⊥))
none_iff r old bytes o n same is some not = (
  (λ e. absurd (not e)),
  (λ h. absurd (some_whole bytes n (subst (λ (x : Option ℕ). IsFirstLength bytes (Ok x)) some is) (subst HoldsNoFrame (sym same) h.0))),
)

pub err_is_not : (r : Result (Option (List ℕ)) WireFault) (e : WireFault) → r ≡ Err e → r ≡ Ok None → ⊥
err_is_not r e a b = let h : Err e ≡ Ok None = sym a ∙ b in absurd cc

pub some_is_not : (inner : List ℕ) → given (Some inner) ≡ given None → ⊥
some_is_not inner e = absurd cc
