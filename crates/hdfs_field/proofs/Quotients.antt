-- Quotients in a field.
use Rattle.std.proofs.Common.{◌≡◌, ◌≢◌, sym, ap, ◌∙◌}
use Rattle.hdfs_field.specs.Rings.{Operations, IsCommutativeRing, IsField}

-- a quotient is the product with one over the divisor
pub by_inverse : {T : Type 0} (ring : Operations T) → IsCommutativeRing ring → (quotient : T → T → T) → IsField ring quotient → (a b : T) → b ≢ ring.zero
    → ring.product a (quotient ring.one b) ≡ quotient a b
by_inverse {T} ring laws quotient field a b some =
    let inverse = quotient ring.one b in
    let whole = quotient a b in
    sym (ap (λ (x : T). ring.product x inverse) (field.quotient_back a b some))
    ∙ laws.product_assoc whole b inverse
    ∙ ap (ring.product whole) (laws.product_comm b inverse ∙ field.quotient_back ring.one b some)
    ∙ laws.product_one whole
