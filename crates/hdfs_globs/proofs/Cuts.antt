-- Slices of a text between two places.
use Rattle.std.proofs.Common.{◌≡◌, ℕ, suc, ◌+◌, ◌-◌, ◌<◌, ◌≤◌, List, [], ◌∷◌, ◌++◌, length, get_or, take, drop, ap, ◌∙◌, sym, refl, arith}
use Rattle.std.proofs.Math.Seq.{take-add}
use Rattle.std.proofs.lemmas.List.{drop-drop, drop-take, take-take, take_at, drop_at, drop_more, length-drop, length-take, length-append, take_all}

-- the text from the place i up to the place j
abbrev pub cut : List ℕ → ℕ → ℕ → List ℕ
cut text i j = take (j - i) (drop i text)

pub cut-length : (text : List ℕ) (i j : ℕ) → i ≤ j → j ≤ length text → length (cut text i j) ≡ j - i
cut-length text i j h k = simp (length-take, length-drop) (omega arith)

pub cut-nothing : (text : List ℕ) (i : ℕ) → cut text i i ≡ []
cut-nothing text i = let e : i - i ≡ 0 = omega arith in rw e

pub cut-empty : (text : List ℕ) (i j : ℕ) → i ≤ j → j ≤ length text → cut text i j ≡ [] → i ≡ j
cut-empty text i j h k e = let l = cut-length text i j h k in let n : length (cut text i j) ≡ 0 = ap length e in omega arith

pub cut-whole : (text : List ℕ) → cut text 0 (length text) ≡ text
cut-whole text = take_all (length text - 0) text (omega arith)

pub cut-split : (text : List ℕ) (i k j : ℕ) → i ≤ k → k ≤ j → cut text i j ≡ cut text i k ++ cut text k j
cut-split text i k j h l =
    let sum : j - i ≡ (k - i) + (j - k) = omega arith in
    let place : i + (k - i) ≡ k = omega arith in
    ap (λ (n : ℕ). take n (drop i text)) sum ∙ take-add (k - i) (j - k) (drop i text) ∙ ap (λ (x : List ℕ). cut text i k ++ take (j - k) x) (drop-drop (k - i) i text ∙ ap (λ (n : ℕ). drop n text) place)

pub cut-first : (text : List ℕ) (i j : ℕ) → i < j → j ≤ length text → cut text i j ≡ get_or text i 0 ∷ cut text (suc i) j
cut-first text i j h k =
    let e : j - i ≡ suc (j - suc i) = omega arith in
    let one : i + 1 ≡ suc i = omega arith in
    ap (λ (n : ℕ). take n (drop i text)) e ∙ ap (take (suc (j - suc i))) (drop_more text i 0 (omega arith) ∙ ap (λ (n : ℕ). get_or text i 0 ∷ drop n text) one)

module _ (text piece rest : List ℕ) (i j : ℕ) (h : i ≤ j) (k : j ≤ length text) (e : cut text i j ≡ piece ++ rest) where
  pub parts-within : i + length piece ≤ j
  parts-within = let l = cut-length text i j h k in let n = ap length e ∙ length-append piece rest in omega arith

  pub parts-front : piece ≡ cut text i (i + length piece)
  parts-front =
      let within = parts-within in
      let n : i + length piece - i ≡ length piece = omega arith in
      sym (take_at piece rest (length piece) refl) ∙ ap (take (length piece)) (sym e) ∙ take-take (length piece) (j - i) (drop i text) (omega arith) ∙ ap (λ (m : ℕ). take m (drop i text)) (sym n)

  pub parts-back : rest ≡ cut text (i + length piece) j
  parts-back =
      let within = parts-within in
      let n : j - i ≡ length piece + (j - (i + length piece)) = omega arith in
      sym (drop_at piece rest (length piece) refl) ∙ ap (drop (length piece)) (sym e ∙ ap (λ (m : ℕ). take m (drop i text)) n) ∙ drop-take (length piece) (j - (i + length piece)) (drop i text) ∙ ap (take (j - (i + length piece))) (drop-drop (length piece) i text)
