-- A shuffle moves values by their places alone: what is made of each value is moved alike.
use Rattle.std.proofs.Common.{◌≡◌, ℕ, zero, suc, ◌+◌, ◌-◌, ◌^◌, Bool, true, false, cond, List, [], ◌∷◌, map, length, get_or, set, String, string_bytes, refl, sym, ap, ◌∙◌}
use Rattle.std.specs.Prelude.{nat_lt}
use Rattle.std.specs.List.{swap}
use Rattle.std.proofs.lemmas.List.{length-map, map-set}
use Rattle.rand_core.specs.Stream.{Stream}
use Rattle.rand.specs.Shuffle.{Chooser, chooser_at, chooser_next, narrow_swaps, wide_swaps, shuffled}
use Rattle.rand.specs.Uniform.{usize_single}

read-map : {X Y : Type 0} (f : X → Y) (xs : List X) (j : ℕ) (d : X) → get_or (map f xs) j (f d) ≡ f (get_or xs j d)
read-map f [] j d = refl
read-map f (x ∷ xs) zero d = refl
read-map f (x ∷ xs) (suc j) d = read-map f xs j d

swap-map : {X Y : Type 0} (f : X → Y) (xs : List X) (i j : ℕ) → swap (map f xs) i j ≡ map f (swap xs i j)
swap-map f [] i j = refl
swap-map {Y} f (d ∷ ys) i j =
    let xs = d ∷ ys in
    ap (λ (y : Y). set (set (map f xs) i y) j (get_or (map f xs) i (f d))) (read-map f xs j d)
    ∙ ap (λ (y : Y). set (set (map f xs) i (f (get_or xs j d))) j y) (read-map f xs i d)
    ∙ ap (λ (l : List Y). set l j (f (get_or xs i d))) (sym (map-set f xs i (get_or xs j d)))
    ∙ sym (map-set f (set xs i (get_or xs j d)) j (get_or xs i d))

narrow-map : {X Y : Type 0} (f : X → Y) (xs : List X) (c : Chooser) (s : Stream) (k : ℕ)
    → narrow_swaps (map f xs) c s k ≡ (map f (narrow_swaps xs c s k).0, (narrow_swaps xs c s k).1, (narrow_swaps xs c s k).2)
unfolding narrow_swaps
narrow-map f xs c s zero = refl
narrow-map {Y} f xs c s (suc k) =
    let p = narrow_swaps xs c s k in
    let d = chooser_next p.1 p.2 in
    ap (λ (q : List Y × Chooser × Stream). (swap q.0 q.1.n (chooser_next q.1 q.2).0, (chooser_next q.1 q.2).1, (chooser_next q.1 q.2).2)) (narrow-map f xs c s k)
    ∙ ap (λ (l : List Y). (l, d.1, d.2)) (swap-map f p.0 p.1.n d.0)

wide-map : {X Y : Type 0} (f : X → Y) (xs : List X) (start : ℕ) (s : Stream) (k : ℕ)
    → wide_swaps (map f xs) start s k ≡ (map f (wide_swaps xs start s k).0, (wide_swaps xs start s k).1)
unfolding wide_swaps
wide-map f xs start s zero = refl
wide-map {Y} f xs start s (suc k) =
    let p = wide_swaps xs start s k in
    let d = usize_single 0 (start + k + 1) p.1 in
    ap (λ (q : List Y × Stream). (swap q.0 (start + k) (usize_single 0 (start + k + 1) q.1).0, (usize_single 0 (start + k + 1) q.1).1)) (wide-map f xs start s k)
    ∙ ap (λ (l : List Y). (l, d.1)) (swap-map f p.0 (start + k) d.0)

either-map : {X Y : Type 0} (f : X → Y) (b : Bool) (m n : List Y × Stream) (p q : List X × Stream) → m ≡ (map f p.0, p.1) → n ≡ (map f q.0, q.1)
    → cond b m n ≡ (map f (cond b p q).0, (cond b p q).1)
either-map f true m n p q e g = e
either-map f false m n p q e g = g

-- the shuffled list of what is made of each
pub shuffled-map : {X Y : Type 0} (f : X → Y) (xs : List X) (s : Stream) → shuffled (map f xs) 0 s ≡ (map f (shuffled xs 0 s).0, (shuffled xs 0 s).1)
shuffled-map {Y} f xs s =
    let ys = map f xs in
    let narrow = narrow_swaps xs (chooser_at 0) s (length xs - 0) in
    let same = narrow-map f xs (chooser_at 0) s (length xs - 0) in
    ap (λ (n : ℕ). cond (nat_lt n (2 ^ 32 - 1)) ((narrow_swaps ys (chooser_at 0) s (n - 0)).0, (narrow_swaps ys (chooser_at 0) s (n - 0)).2) (wide_swaps ys 0 s (n - 0))) (length-map xs f)
    ∙ either-map f (nat_lt (length xs) (2 ^ 32 - 1)) _ _ (narrow.0, narrow.2) (wide_swaps xs 0 s (length xs - 0))
    (ap (λ (q : List Y × Chooser × Stream). (q.0, q.2)) same) (wide-map f xs 0 s (length xs - 0))

-- shuffled strings are the shuffled texts
pub shuffled_texts : {A : Type 0} (all : List (List ℕ)) (before moved after : List (String A)) (s t u : Stream) → map string_bytes before ≡ all
    → (moved, t) ≡ shuffled before 0 s → after ≡ moved → u ≡ t → (map string_bytes after, u) ≡ shuffled all 0 s
shuffled_texts {A} all before moved after s t u same drawn now left =
    ap (λ (l : List (String A)). (map string_bytes l, u)) now ∙ ap (λ (x : Stream). (map string_bytes moved, x)) left
    ∙ ap (λ (q : List (String A) × Stream). (map string_bytes q.0, q.1)) drawn
    ∙ sym (shuffled-map string_bytes before s) ∙ ap (λ (l : List (List ℕ)). shuffled l 0 s) same
