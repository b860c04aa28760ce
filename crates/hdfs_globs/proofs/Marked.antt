-- Marks that a loop has changed are the changed places.
use Rattle.std.proofs.Common.{◌≡◌, ℕ, zero, suc, ◌<◌, Bool, false, List, length, get_or, ap, ◌∙◌, refl, arith, ◌||◌, ◌&&◌, nat_lt}
use Rattle.hdfs_globs.specs.Globs.{One}
use Rattle.hdfs_globs.specs.Places.{Places, Marks, shifted, filled, seen, either_of, is_one}

abbrev shown : List Bool → Places
shown marks j = get_or marks j false

seen-same : (p q : Places) (k : ℕ) → ((j : ℕ) → j < k → p j ≡ q j) → seen p k ≡ seen q k
seen-same p q zero same = refl
seen-same p q (suc k) same =
    let before : seen p k ≡ seen q k = seen-same p q k (λ j h. same j (omega arith)) in
    let here : p k ≡ q k = same k (omega arith) in
    rw (before, here)

shifted-same : (o : One) (text : List ℕ) (p q : Places) (k : ℕ) → ((j : ℕ) → j < k → p j ≡ q j) → shifted o text p k ≡ shifted o text q k
shifted-same o text p q zero same = refl
shifted-same o text p q (suc k) same = ap (λ (b : Bool). b && (nat_lt k (length text) && is_one o (get_or text k 0))) (same k (omega arith))

module _ (n : ℕ) (before after : List Bool) (kept : length after ≡ length before) where
  pub marks-filled : (p : Places) → ((k : ℕ) → k < length before → get_or after k false ≡ filled (shown before) k) → Marks n before p → Marks n after (filled p)
  marks-filled p made marks = record {
    long = kept ∙ marks.long;
    same = λ k h. made k (omega (arith, marks.long)) ∙ seen-same (shown before) p (suc k) (λ j l. marks.same j (omega arith));
  }

  pub marks-shifted : (o : One) (text : List ℕ) (p : Places) → ((k : ℕ) → k < length before → get_or after k false ≡ shifted o text (shown before) k) → Marks n before p → Marks n after (shifted o text p)
  marks-shifted o text p made marks = record {
    long = kept ∙ marks.long;
    same = λ k h. made k (omega (arith, marks.long)) ∙ shifted-same o text (shown before) p k (λ j l. marks.same j (omega arith));
  }

  pub marks-either : (others : List Bool) (p q : Places) → ((k : ℕ) → k < length before → get_or after k false ≡ get_or before k false || get_or others k false) → Marks n before p → Marks n others q → Marks n after (either_of p q)
  marks-either others p q made marks more = record {
    long = kept ∙ marks.long;
    same = λ k h. made k (omega (arith, marks.long)) ∙ ap (λ (b : Bool). b || get_or others k false) (marks.same k h) ∙ ap (λ (b : Bool). p k || b) (more.same k h);
  }
