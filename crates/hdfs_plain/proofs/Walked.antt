-- How two paths are compared byte by byte, where a path is put among others, and how a walk grows from its end.
use Rattle.std.proofs.Common.{◌≡◌, ℕ, zero, suc, ◌+◌, ◌<◌, ◌≤◌, Bool, true, false, cond, ltb, List, [], ◌∷◌, ◌++◌, length, take, drop, get_or, refl, sym, ◌∙◌, ap, arith, append_assoc, take-append-drop, take_all}
use Rattle.std.proofs.lemmas.Bool.Decides.{nat_tests}
use Rattle.std.proofs.lemmas.List.{drop_more, take_more}
use Rattle.std.specs.Str.{bytes_eq}
use Rattle.hdfs_model.specs.Walks.{comes_before, put_path}

-- behind the end of one of them the lengths decide
pub comes_end : (a b : List ℕ) (k : ℕ) → k ≤ length a → k ≤ length b → (k < length a → k < length b → ⊥) → comes_before (drop k a) (drop k b) ≡ ltb (length a) (length b)
comes_end [] [] zero la lb never = refl
comes_end [] (d ∷ b) zero la lb never = grind (arith, nat_tests)
comes_end (c ∷ a) [] zero la lb never = grind (arith, nat_tests)
comes_end (c ∷ a) (d ∷ b) zero la lb never = absurd (never (omega arith) (omega arith))
comes_end [] b (suc k) la lb never = absurd (omega (arith, la))
comes_end (c ∷ a) [] (suc k) la lb never = absurd (omega (arith, lb))
comes_end (c ∷ a) (d ∷ b) (suc k) la lb never = comes_end a b k (omega (arith, la)) (omega (arith, lb)) (λ x y. never (omega (arith, x)) (omega (arith, y))) ∙ lengths (length a) (length b)
  where
    lengths : (x y : ℕ) → ltb x y ≡ ltb (suc x) (suc y)
    lengths x y = grind (arith, nat_tests)

-- a path goes behind one that neither comes behind it nor is it
pub put_skip : (path : List ℕ) (xs : List (List ℕ)) (k : ℕ) (d : List ℕ) → k < length xs → comes_before path (get_or xs k d) ≡ false → bytes_eq path (get_or xs k d) ≡ false
    → put_path path xs ≡ take k xs ++ put_path path (drop k xs) → put_path path xs ≡ take (k + 1) xs ++ put_path path (drop (k + 1) xs)
put_skip path xs k d lt before other so_far =
    so_far
    ∙ ap (λ (l : List (List ℕ)). take k xs ++ put_path path l) (drop_more xs k d lt)
    ∙ ap (λ (b : Bool). take k xs ++ cond b (path ∷ get_or xs k d ∷ drop (k + 1) xs) (cond (bytes_eq path (get_or xs k d)) (get_or xs k d ∷ drop (k + 1) xs) (get_or xs k d ∷ put_path path (drop (k + 1) xs)))) before
    ∙ ap (λ (b : Bool). take k xs ++ cond b (get_or xs k d ∷ drop (k + 1) xs) (get_or xs k d ∷ put_path path (drop (k + 1) xs))) other
    ∙ sym (append_assoc (take k xs) (get_or xs k d ∷ []) (put_path path (drop (k + 1) xs)))
    ∙ ap (λ (l : List (List ℕ)). l ++ put_path path (drop (k + 1) xs)) (sym (take_more xs k d lt))

-- it goes before one that comes behind it
pub put_here : (path : List ℕ) (xs : List (List ℕ)) (k : ℕ) (d : List ℕ) → k < length xs → comes_before path (get_or xs k d) ≡ true
    → put_path path xs ≡ take k xs ++ put_path path (drop k xs) → put_path path xs ≡ take k xs ++ path ∷ drop k xs
put_here path xs k d lt before so_far =
    so_far
    ∙ ap (λ (l : List (List ℕ)). take k xs ++ put_path path l) (drop_more xs k d lt)
    ∙ ap (λ (b : Bool). take k xs ++ cond b (path ∷ get_or xs k d ∷ drop (k + 1) xs) (cond (bytes_eq path (get_or xs k d)) (get_or xs k d ∷ drop (k + 1) xs) (get_or xs k d ∷ put_path path (drop (k + 1) xs)))) before
    ∙ ap (λ (l : List (List ℕ)). take k xs ++ path ∷ l) (sym (drop_more xs k d lt))

-- it is there already
pub put_same : (path : List ℕ) (xs : List (List ℕ)) (k : ℕ) (d : List ℕ) → k < length xs → comes_before path (get_or xs k d) ≡ false → bytes_eq path (get_or xs k d) ≡ true
    → put_path path xs ≡ take k xs ++ put_path path (drop k xs) → put_path path xs ≡ xs
put_same path xs k d lt before same so_far =
    so_far
    ∙ ap (λ (l : List (List ℕ)). take k xs ++ put_path path l) (drop_more xs k d lt)
    ∙ ap (λ (b : Bool). take k xs ++ cond b (path ∷ get_or xs k d ∷ drop (k + 1) xs) (cond (bytes_eq path (get_or xs k d)) (get_or xs k d ∷ drop (k + 1) xs) (get_or xs k d ∷ put_path path (drop (k + 1) xs)))) before
    ∙ ap (λ (b : Bool). take k xs ++ cond b (get_or xs k d ∷ drop (k + 1) xs) (get_or xs k d ∷ put_path path (drop (k + 1) xs))) same
    ∙ ap (λ (l : List (List ℕ)). take k xs ++ l) (sym (drop_more xs k d lt))
    ∙ take-append-drop k xs

nothing_left : {X : Type 0} (xs : List X) (k : ℕ) → length xs ≤ k → drop k xs ≡ []
nothing_left [] zero le = refl
nothing_left [] (suc k) le = refl
nothing_left (x ∷ xs) zero le = absurd (omega (arith, le))
nothing_left (x ∷ xs) (suc k) le = nothing_left xs k (omega (arith, le))

-- or it goes to the end
pub put_last : (path : List ℕ) (xs : List (List ℕ)) (k : ℕ) → length xs ≤ k → put_path path xs ≡ take k xs ++ put_path path (drop k xs) → put_path path xs ≡ xs ++ path ∷ []
put_last path xs k le so_far =
    so_far
    ∙ ap (λ (l : List (List ℕ)). take k xs ++ put_path path l) (nothing_left xs k le)
    ∙ ap (λ (l : List (List ℕ)). l ++ path ∷ []) (take_all k xs le)
