-- What the state says behind the signs of a glob: a place is reached where the text up to it, from a place before, fits the glob.
use Rattle.std.proofs.Common.{◌≡◌, ℕ, zero, suc, ◌+◌, ◌<◌, ◌≤◌, Bool, true, false, List, [], ◌∷◌, ◌++◌, length, get_or, ap, ◌∙◌, sym, subst, refl, arith, ◌⊎◌, inl, inr, ◌||◌, ◌&&◌, nat_lt, ◌↔◌, ◌==◌, Some}
use Rattle.std.proofs.lemmas.List.{append_assoc, append-nil}
use Rattle.std.proofs.lemmas.Bool.{cases_lt, and_parts, and_from, or_cases, or_left, or_right}
use Rattle.std.proofs.lemmas.Bool.Decides.{nat_tests, Decides-ltb}
use Rattle.hdfs_globs.specs.Globs.{Sign, One, signs}
use Rattle.hdfs_globs.specs.Globs.Sign.{or_else, group_ends}
use Rattle.hdfs_globs.specs.Fits.{Glob, Choice, Fits, Matches, FitsOneOf, IsOne, spelled, spelled_choice}
use Rattle.hdfs_globs.specs.Fits.Glob.{nothing, then_one, then_many, then_group}
use Rattle.hdfs_globs.specs.Fits.Choice.{last, either}
use Rattle.hdfs_globs.specs.Places.{Places, State, Open, shifted, filled, seen, either_of, is_one, run, start}
use Rattle.hdfs_globs.proofs.Cuts.{cut, cut-length, cut-nothing, cut-empty, cut-whole, cut-split, cut-first, parts-within, parts-front, parts-back}
use Rattle.hdfs_globs.proofs.Asked.{one-decides}
use Rattle.hdfs_globs.proofs.Balanced.{spelled-signs}

-- the places behind a glob, and behind a choice where some are reached already
unfoldable mutual
  after : List ℕ → Glob → Places → Places
  after text nothing p = p
  after text (then_one o g) p = after text g (shifted o text p)
  after text (then_many g) p = after text g (filled p)
  after text (then_group choice g) p = after text g (after_choice text choice p (λ j. false))

  after_choice : List ℕ → Choice → Places → Places → Places
  after_choice text (last g) p ended = either_of ended (after text g p)
  after_choice text (either g choice) p ended = after_choice text choice p (either_of ended (after text g p))

mutual
  unfolding spelled spelled_choice run after after_choice

  run-glob : (text : List ℕ) (g : Glob) (rest : List Sign) (p : Places) (os : List Open) → run text (spelled g ++ rest) (record { places = p; groups = os }) ≡ run text rest (record { places = after text g p; groups = os })
  run-glob text nothing rest p os = refl
  run-glob text (then_one o g) rest p os = run-glob text g rest (shifted o text p) os
  run-glob text (then_many g) rest p os = run-glob text g rest (filled p) os
  run-glob text (then_group choice g) rest p os =
      ap (λ (x : List Sign). run text x (record { places = p; groups = record { begun = p; ended = λ j. false } ∷ os })) (append_assoc (spelled_choice choice) (group_ends ∷ spelled g) rest)
      ∙ run-choice text choice (spelled g ++ rest) p (λ j. false) os ∙ run-glob text g rest (after_choice text choice p (λ j. false)) os

  run-choice : (text : List ℕ) (choice : Choice) (rest : List Sign) (p ended : Places) (os : List Open) → run text (spelled_choice choice ++ (group_ends ∷ rest)) (record { places = p; groups = record { begun = p; ended = ended } ∷ os }) ≡ run text rest (record { places = after_choice text choice p ended; groups = os })
  run-choice text (last g) rest p ended os = run-glob text g (group_ends ∷ rest) p (record { begun = p; ended = ended } ∷ os)
  run-choice text (either g choice) rest p ended os =
      ap (λ (x : List Sign). run text x (record { places = p; groups = record { begun = p; ended = ended } ∷ os })) (append_assoc (spelled g) (or_else ∷ spelled_choice choice) (group_ends ∷ rest))
      ∙ run-glob text g ((or_else ∷ spelled_choice choice) ++ (group_ends ∷ rest)) p (record { begun = p; ended = ended } ∷ os)
      ∙ run-choice text choice rest p (either_of ended (after text g p)) os

seen-witness : (p : Places) (k : ℕ) → seen p k ≡ true → (i : ℕ) × (i < k) × (p i ≡ true)
seen-witness p zero e = cc
seen-witness p (suc k) e = at (λ h. seen-witness p k h) (or_cases (seen p k) (p k) e)
  where
    at : (seen p k ≡ true → (i : ℕ) × (i < k) × (p i ≡ true)) → (seen p k ≡ true) ⊎ (p k ≡ true) → (i : ℕ) × (i < suc k) × (p i ≡ true)
    at before (inl h) = let w = before h in (w.0, omega (arith, w.1), w.2)
    at before (inr h) = (k, omega arith, h)

seen-from : (p : Places) (k i : ℕ) → i < k → p i ≡ true → seen p k ≡ true
seen-from p zero i l e = absurd (omega arith)
seen-from p (suc k) i l e = at (λ h. seen-from p k i h e) (cases_lt i k)
  where
    at : (i < k → seen p k ≡ true) → (i < k) ⊎ (k ≤ i) → seen p k || p k ≡ true
    at before (inl h) = or_left (seen p k) (p k) (before h)
    at before (inr h) = let same : i ≡ k = omega arith in or_right (seen p k) (p k) (subst (λ (n : ℕ). p n ≡ true) same e)

-- the place is reached from one of these places by a slice of which F holds
abbrev Ends : List ℕ → Places → (List ℕ → Type 0) → ℕ → Type 0
Ends text p F j = (i : ℕ) × (i ≤ j) × (p i ≡ true) × F (cut text i j)

-- the slices that begin with a character, with any piece, and with a piece of which C holds
abbrev AfterOne : One → (List ℕ → Type 0) → List ℕ → Type 0
AfterOne o F t = (c : ℕ) × (rest : List ℕ) × (t ≡ c ∷ rest) × IsOne o c × F rest

abbrev AfterMany : (List ℕ → Type 0) → List ℕ → Type 0
AfterMany F t = (piece : List ℕ) × (rest : List ℕ) × (t ≡ piece ++ rest) × F rest

abbrev AfterPiece : (List ℕ → Type 0) → (List ℕ → Type 0) → List ℕ → Type 0
AfterPiece C F t = (piece : List ℕ) × (rest : List ℕ) × (t ≡ piece ++ rest) × C piece × F rest

module _ (text : List ℕ) (p : Places) (F : List ℕ → Type 0) (j : ℕ) (h : j ≤ length text) where
  one-at : (o : One) (i : ℕ) → i ≤ j → shifted o text p i ≡ true → F (cut text i j) → Ends text p (AfterOne o F) j
  one-at o zero l e f = cc
  one-at o (suc i) l e f =
      let parts = and_parts (p i) (nat_lt i (length text) && is_one o (get_or text i 0)) e in
      let tests = and_parts (nat_lt i (length text)) (is_one o (get_or text i 0)) parts.1 in
      (i, omega arith, parts.0, (get_or text i 0, cut text (suc i) j, cut-first text i j (omega arith) h, (one-decides o (get_or text i 0)).0 tests.1, f))

  one-to : (o : One) → Ends text (shifted o text p) F j → Ends text p (AfterOne o F) j
  one-to o w = one-at o w.0 w.1 w.2 w.3

  one-back : (o : One) → Ends text p (AfterOne o F) j → Ends text (shifted o text p) F j
  one-back o (i, l, e, (c, rest, s, is, f)) =
      let n = cut-length text i j l h in
      let m : length (cut text i j) ≡ suc (length rest) = ap length s in
      let lt : i < j = omega arith in
      let whole : c ∷ rest ≡ get_or text i 0 ∷ cut text (suc i) j = sym s ∙ cut-first text i j lt h in
      let head : c ≡ get_or text i 0 = cc in
      let tail : rest ≡ cut text (suc i) j = cc in
      let inside : i < length text = omega arith in
      (suc i, omega arith, and_from (p i) _ e (and_from (nat_lt i (length text)) _ ((Decides-ltb i (length text)).1 inside) ((one-decides o (get_or text i 0)).1 (subst (IsOne o) head is))), subst F tail f)

  many-to : Ends text (filled p) F j → Ends text p (AfterMany F) j
  many-to (k, l, e, f) =
      let w = seen-witness p (suc k) e in
      (w.0, omega (arith, w.1), w.2, (cut text w.0 k, cut text k j, cut-split text w.0 k j (omega (arith, w.1)) l, f))

  many-back : Ends text p (AfterMany F) j → Ends text (filled p) F j
  many-back (i, l, e, (piece, rest, s, f)) =
      (i + length piece, parts-within text piece rest i j l h s, seen-from p (suc (i + length piece)) i (omega arith) e, subst F (parts-back text piece rest i j l h s) f)

  piece-to : (q : Places) (C : List ℕ → Type 0) → ((k : ℕ) → k ≤ length text → q k ≡ true → Ends text p C k) → Ends text q F j → Ends text p (AfterPiece C F) j
  piece-to q C reach (k, l, e, f) =
      let w = reach k (omega arith) e in
      (w.0, omega (arith, w.1), w.2, (cut text w.0 k, cut text k j, cut-split text w.0 k j w.1 l, w.3, f))

  piece-back : (q : Places) (C : List ℕ → Type 0) → ((k : ℕ) → k ≤ length text → Ends text p C k → q k ≡ true) → Ends text p (AfterPiece C F) j → Ends text q F j
  piece-back q C reach (i, l, e, (piece, rest, s, fits, f)) =
      let within = parts-within text piece rest i j l h s in
      (i + length piece, within, reach (i + length piece) (omega arith) (i, omega arith, e, subst C (parts-front text piece rest i j l h s) fits), subst F (parts-back text piece rest i j l h s) f)

choice-to : {A B C : Type 0} → (A → C) → (B → C) → A ⊎ B → C
choice-to f g (inl a) = f a
choice-to f g (inr b) = g b

mutual
  unfolding Fits FitsOneOf after after_choice

  fits-glob : (text : List ℕ) (g : Glob) (p : Places) (j : ℕ) → j ≤ length text → (after text g p j ≡ true) ↔ Ends text p (Fits g) j
  fits-glob text nothing p j h = (λ e. (j, omega arith, e, cut-nothing text j), λ w. subst (λ (k : ℕ). p k ≡ true) (cut-empty text w.0 j w.1 h w.3) w.2)
  fits-glob text (then_one o g) p j h =
      let ih = fits-glob text g (shifted o text p) j h in
      (λ e. one-to text p (Fits g) j h o (ih.0 e), λ w. ih.1 (one-back text p (Fits g) j h o w))
  fits-glob text (then_many g) p j h =
      let ih = fits-glob text g (filled p) j h in
      (λ e. many-to text p (Fits g) j h (ih.0 e), λ w. ih.1 (many-back text p (Fits g) j h w))
  fits-glob text (then_group choice g) p j h =
      let q : Places = after_choice text choice p (λ j. false) in
      let ih = fits-glob text g q j h in (
        λ e. piece-to text p (Fits g) j h q (FitsOneOf choice) (λ k l r. choice-to (λ f. cc) (λ w. w) ((fits-choice text choice p (λ j. false) k l).0 r)) (ih.0 e),
        λ w. ih.1 (piece-back text p (Fits g) j h q (FitsOneOf choice) (λ k l r. (fits-choice text choice p (λ j. false) k l).1 (inr r)) w),
      )

  fits-choice : (text : List ℕ) (choice : Choice) (p ended : Places) (k : ℕ) → k ≤ length text → (after_choice text choice p ended k ≡ true) ↔ ((ended k ≡ true) ⊎ Ends text p (FitsOneOf choice) k)
  fits-choice text (last g) p ended k h =
      let ih = fits-glob text g p k h in (
        λ e. choice-to (λ a. inl a) (λ b. inr (ih.0 b)) (or_cases (ended k) (after text g p k) e),
        λ w. choice-to (λ a. or_left (ended k) (after text g p k) a) (λ b. or_right (ended k) (after text g p k) (ih.1 b)) w,
      )
  fits-choice text (either g choice) p ended k h =
      let one = fits-glob text g p k h in
      let more = fits-choice text choice p (either_of ended (after text g p)) k h in (
        λ e. choice-to (λ a. choice-to (λ b. inl b) (λ b. inr (let w = one.0 b in (w.0, w.1, w.2, inl w.3))) (or_cases (ended k) (after text g p k) a)) (λ w. inr (w.0, w.1, w.2, inr w.3)) (more.0 e),
        λ w. more.1 (choice-to (λ a. inl (or_left (ended k) (after text g p k) a)) (λ u. choice-to (λ f. inl (or_right (ended k) (after text g p k) (one.1 (u.0, u.1, u.2, f)))) (λ f. inr (u.0, u.1, u.2, f)) u.3) w),
      )

-- the run over a whole glob
run-whole : (text : List ℕ) (g : Glob) → run text (spelled g) start ≡ record { places = after text g (λ j. j == 0); groups = [] }
unfolding run
run-whole text g = ap (λ (x : List Sign). run text x start) (sym (append-nil (spelled g))) ∙ run-glob text g [] (λ j. j == 0) []

pub passed-matches : (pattern text : List ℕ) (s : List Sign) → signs pattern ≡ Some s → (b : Bool) → b ≡ (run text s start).places (length text) → (b ≡ true) ↔ Matches pattern text
passed-matches pattern text s read b is =
    let found = spelled-signs pattern s read in
    let whole : (g : Glob) → s ≡ spelled g → b ≡ after text g (λ j. j == 0) (length text) = λ g e. is ∙ ap (λ (x : List Sign). (run text x start).places (length text)) e ∙ ap (λ (x : State). x.places (length text)) (run-whole text g) in (
      λ e. let w = (fits-glob text found.0 (λ j. j == 0) (length text) (omega arith)).0 (sym (whole found.0 found.1) ∙ e) in
          let zero : w.0 ≡ 0 = first-place w.0 w.2 in
          (found.0, read ∙ ap (λ (x : List Sign). Some x) found.1, subst (Fits found.0) (ap (λ (i : ℕ). cut text i (length text)) zero ∙ cut-whole text) w.3),
      λ m. let same : s ≡ spelled m.0 = some-same (sym read ∙ m.1) in
          whole m.0 same ∙ (fits-glob text m.0 (λ j. j == 0) (length text) (omega arith)).1 (0, omega arith, refl, subst (Fits m.0) (sym (cut-whole text)) m.2),
    )
  where
    first-place : (i : ℕ) → (i == 0) ≡ true → i ≡ 0
    first-place i e = grind (arith, nat_tests)

    some-same : {x y : List Sign} → Some x ≡ Some y → x ≡ y
    some-same e = cc
