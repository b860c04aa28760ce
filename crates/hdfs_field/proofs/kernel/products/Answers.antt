use Rattle.std.proofs.Common.{replicate, ◌≡◌, ℕ, zero, suc, ◌+◌, ◌/◌, ◌<◌, List, length, get_or, set, inl, inr, refl, sym, ap, ◌∙◌, arith}
use Rattle.std.specs.Prelude.{bit_xor}
use Rattle.std.proofs.lemmas.Bool.{cases_eq}
use Rattle.std.proofs.lemmas.List.{length-set, get_or-set_same, get_or-set_other}
use Rattle.hdfs_field.specs.Elements.{product, shifted}
use Rattle.hdfs_field.proofs.Halves.{product-zero, product-odd, product-even}
use Rattle.hdfs_field.proofs.kernel.products.Goals.{then-i-eq1, else-i-eq1}
use Rattle.hdfs_field.proofs.kernel.products.Goals as goal

-- the entries before i are there, and one more
more : (c i v : ℕ) (table : List ℕ) → length table ≡ 16 → i < 16 → ((k : ℕ) → k < i → get_or table k 0 ≡ product c k) → v ≡ product c i
    → (k : ℕ) → k < i + 1 → get_or (set table i v) k 0 ≡ product c k
more c i v table long lt done is k below = elim (cases_eq k i) [
  | inl e ↦ ap (λ (n : ℕ). get_or (set table i v) n 0) e ∙ get_or-set_same table i v 0 (omega arith) ∙ is ∙ sym (ap (product c) e)
  | inr apart ↦ get_or-set_other table i k v 0 apart ∙ done k (omega arith)
]

-- the table of zeros has the first entry
first : (c k : ℕ) → c < 256 → k < 1 → get_or (replicate 16 0) k 0 ≡ product c k
first c zero small lt = sym (product-zero c small)
first c (suc k) small lt = absurd (omega arith)

pub loop-i-init : goal.loop-i-init
loop-i-init c = record { long = refl; done = λ k lt. first c.args.c k c.ranges.c.fits lt }

pub loop-i-preserved : goal.loop-i-preserved
loop-i-preserved c =
    let done = c.loop-i.invariant.done in
    let small = c.ranges.c.fits in
    let half : c.shifted-twice.result ≡ shifted (product c.args.c (c.loop-i.i / 2))
    = c.shifted-twice.ensures ∙ ap shifted (done (c.loop-i.i / 2) (omega arith)) in
    let is : c.if-i-eq1.table ≡ product c.args.c c.loop-i.i = elim c.if-i-eq1.branch [
      | then-i-eq1 w ↦ w.table-is ∙ ap (λ (x : ℕ). bit_xor x c.args.c) half ∙ sym (product-odd c.args.c c.loop-i.i small (omega arith) w.if-i-eq1.true)
      | else-i-eq1 w ↦ w.table-is ∙ half ∙ sym (product-even c.args.c c.loop-i.i small (omega arith) (omega arith))
    ] in
    record {
      long = length-set c.loop-i.table c.loop-i.i c.if-i-eq1.table ∙ c.loop-i.invariant.long;
      done = more c.args.c c.loop-i.i c.if-i-eq1.table c.loop-i.table c.loop-i.invariant.long c.loop-i-test.true done is;
    }
