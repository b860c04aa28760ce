-- Results by their cases.
use Rattle.std.proofs.Common.{◌≡◌, List, [], ◌∷◌, ◌++◌, ℕ, ◌+◌, ◌<◌, length, take, drop, get_or, Result, Ok, Err, IsErrAnd, sym, ◌∙◌, ap, subst, add-one, drop-cons}
use Rattle.std.specs.Prelude.{IfOk, IfErr, OnOk}
use Rattle.std.proofs.Math.Seq.{take-add}
use Rattle.std.proofs.lemmas.List.{take-append-drop}

module _ {T E : Type 0} where
  pub err_is : (Q : E → Type 0) (error : E) (result : Result T E) → Q error → IsErrAnd result (λ e. e ≡ error) → IfErr result Q
  err_is Q error (Ok value) so is = absurd is
  err_is Q error (Err e) so is = subst Q (sym is) so

  pub ok_so : (P Q : T → Type 0) (result : Result T E) → ((x : T) → P x → Q x) → IfOk result P → IfOk result Q
  ok_so P Q (Ok value) so is = so value is
  ok_so P Q (Err e) so is = tt

  pub err_so : (P Q : E → Type 0) (result : Result T E) → ((e : E) → P e → Q e) → IfErr result P → IfErr result Q
  err_so P Q (Ok value) so is = tt
  err_so P Q (Err e) so is = so e is

  pub done_so : (P Q : Type 0) (result : Result T E) → (P → Q) → OnOk result P → OnOk result Q
  done_so P Q (Ok value) so is = so is
  done_so P Q (Err e) so is = tt

  pub done_all : (P : Type 0) (result : Result T E) → P → OnOk result P
  done_all P (Ok value) is = is
  done_all P (Err e) is = tt

-- what a loop looks at next
module _ {T : Type 0} (xs : List T) (i : ℕ) (x : T) (low : i < length xs) (is : x ≡ get_or xs i x) where
  pub next_is : drop i xs ≡ x ∷ drop (i + 1) xs
  next_is =
      let next : drop i xs ≡ get_or xs i x ∷ drop (i + 1) xs = rw (add-one, drop-cons xs i x) in
      next ∙ ap (λ (y : T). y ∷ drop (i + 1) xs) (sym is)

  pub front_is : take (i + 1) xs ≡ take i xs ++ x ∷ []
  front_is = take-add i 1 xs ∙ ap (λ (rest : List T). take i xs ++ take 1 rest) next_is

  pub parts_are : xs ≡ take i xs ++ x ∷ drop (i + 1) xs
  parts_are = sym (take-append-drop i xs) ∙ ap (λ (rest : List T). take i xs ++ rest) next_is

-- what was so behind a close is so behind the writer's end
pub after_end : {C T E : Type 0} (Q : C → Type 0) (mid new : C) (result : Result T E) (N : Type 0) → (N → new ≡ mid) → OnOk result (N × Q mid) → OnOk result (Q new)
after_end Q mid new (Ok value) N shut had = subst Q (sym (shut had.0)) had.1
after_end Q mid new (Err error) N shut had = tt
