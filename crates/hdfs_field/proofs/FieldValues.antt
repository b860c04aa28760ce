-- What the field's methods compute is what its operations say.
use Rattle.std.proofs.Common.{◌≡◌, ◌≢◌, ℕ, ◌<◌, sym, ap, ◌∙◌, subst}
use Rattle.std.specs.Prelude.{bit_xor}
use Rattle.hdfs_field.specs.declared.gf256.GF256.{GF256}
use Rattle.hdfs_field.specs.Polynomials.{IsProductOf}
use Rattle.hdfs_field.specs.Elements.{element, product, quotient, gf256, gf256_quotient}
use Rattle.hdfs_field.specs.FieldLaws.{same_element, sum-value, product-value, quotient-value, not_zero}
use Rattle.hdfs_field.specs.Inverses.{quotient-lt, quotient-back}
use Rattle.hdfs_field.proofs.Reduced.{product-is}

pub is_sum : (a b r : GF256) → r.value ≡ bit_xor a.value b.value → r ≡ gf256.sum a b
is_sum a b r e = same_element r (gf256.sum a b) (e ∙ sym (sum-value a b))

pub is_product : (a b r : GF256) → r.value ≡ product a.value b.value → r ≡ gf256.product a b
is_product a b r e = same_element r (gf256.product a b) (e ∙ sym (product-value a b))

pub is_quotient : (a b r : GF256) → r.value ≡ quotient a.value b.value → r ≡ gf256_quotient a b
is_quotient a b r e = same_element r (gf256_quotient a b) (e ∙ sym (quotient-value a b))

pub product-polynomial : (a b : GF256) (n : ℕ) → n ≡ product a.value b.value → IsProductOf a.value b.value n
product-polynomial a b n e = subst (IsProductOf a.value b.value) (sym e) (product-is a.value b.value a.in_range b.in_range)

pub quotient-polynomial : (a b : GF256) (n : ℕ) → b ≢ element 0 → n ≡ quotient a.value b.value → IsProductOf n b.value a.value
quotient-polynomial a b n some e =
    let back : product n b.value ≡ a.value = ap (λ (x : ℕ). product x b.value) e ∙ quotient-back a.value b.value a.in_range b.in_range (not_zero b some) in
    let P : ℕ → Type 0 = λ x. IsProductOf n b.value x in
    let small : n < 256 = subst (λ (x : ℕ). x < 256) (sym e) (quotient-lt a.value b.value b.in_range) in
    subst P back (product-is n b.value small b.in_range)
