use Rattle.std.proofs.Common.{ℕ, ◌-◌, length, sym, ap, ◌∙◌}
use Rattle.std.specs.Prelude.{bit_xor}
use Rattle.std.proofs.lemmas.List.{length-drop}
use Rattle.hdfs_wire.specs.Crc.{checksum}
use Rattle.hdfs_wire.proofs.Entered.{entered_more}
use Rattle.hdfs_wire.proofs.crc.checksums.Goals as goal

pub loop-rest-preserved : goal.loop-rest-preserved
loop-rest-preserved c =
    let even = c.loop-rest.invariant.even in
    record {
      even = ap length c.split_at.ensures.back ∙ length-drop 16 c.loop-rest.rest.now ∙ ap (λ (n : ℕ). n - 16) even ∙ sym (length-drop 16 c.loop-rest.others.now) ∙ sym (ap length c.split_at-in-loop-rest.ensures.back);
      first = λ p n f.
          entered_more p 16 c.loop-rest.one c.enter_step-one.result c.args.first.now c.loop-rest.rest.now _ _ c.split_at.ensures.front c.split_at.ensures.back
          (c.enter_step-one.ensures p n f) (c.loop-rest.invariant.first p n f);
      second = λ p n f.
          entered_more p 16 c.loop-rest.other c.enter_step-other.result c.args.second.now c.loop-rest.others.now _ _ c.split_at-in-loop-rest.ensures.front c.split_at-in-loop-rest.ensures.back
          (c.enter_step-other.ensures p n f) (c.loop-rest.invariant.second p n f);
    }

pub returns-clause-first : goal.returns-clause-first
unfolding checksum
returns-clause-first c = λ p n f. ap (λ (x : ℕ). bit_xor x 0xffffffff) (c.enter_bytes.ensures p n ∙ c.loop-rest.invariant.first p n f)

pub returns-clause-second : goal.returns-clause-second
unfolding checksum
returns-clause-second c = λ p n f. ap (λ (x : ℕ). bit_xor x 0xffffffff) (c.enter_bytes-2.ensures p n ∙ c.loop-rest.invariant.second p n f)
