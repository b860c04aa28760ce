use Rattle.std.proofs.Common.{◌≡◌, ◌<◌, length, get_or, sym, ◌∙◌, arith, w8, Fits}
use Rattle.std.specs.Prelude.{bit_xor}
use Rattle.std.proofs.lemmas.Simd.{Each1-get_or}
use Rattle.hdfs_field.specs.Elements.{product}
use Rattle.hdfs_field.proofs.Halves.{product-halves}
use Rattle.hdfs_field.proofs.LaneLemmas.{lanes-zip2}
use Rattle.hdfs_field.proofs.kernel.times.Goals as goal

pub returns : goal.returns
returns c = λ e small low high.
    let lows = c.at_low_halves.ensures (product e) low in
    let highs = c.at_high_halves.ensures (product (product e 16)) high in
    let both = lanes-zip2 bit_xor c.at_low_halves.result c.at_high_halves.result lows.long highs.long in
    let long : length c.args.bytes ≡ 32 = c.fits-bytes.0 in
    record {
      long = both.long;
      each = λ k l.
          let b = get_or c.args.bytes k 0 in
          let byte : b < 256 = (Each1-get_or (Fits w8) c.args.bytes k 0 (omega arith) c.fits-bytes.1).fits in
          both.each k l ∙ (λ i. bit_xor (lows.each k l i) (highs.each k l i)) ∙ sym (product-halves e b small byte);
    }
