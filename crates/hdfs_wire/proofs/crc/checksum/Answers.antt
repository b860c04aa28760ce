use Rattle.std.proofs.Common.{ℕ, ap, ◌∙◌}
use Rattle.std.specs.Prelude.{bit_xor}
use Rattle.hdfs_wire.specs.Crc.{checksum}
use Rattle.hdfs_wire.proofs.Entered.{entered_more}
use Rattle.hdfs_wire.proofs.crc.checksum.Goals as goal

pub loop-rest-preserved : goal.loop-rest-preserved
loop-rest-preserved c = λ p n f.
    entered_more p 16 c.loop-rest.register c.enter_step-register.result c.args.bytes.now c.loop-rest.rest.now _ _ c.split_at.ensures.front c.split_at.ensures.back
    (c.enter_step-register.ensures p n f) (c.loop-rest.invariant p n f)

pub returns : goal.returns
unfolding checksum
returns c = λ p n f. ap (λ (x : ℕ). bit_xor x 0xffffffff) (c.enter_bytes.ensures p n ∙ c.loop-rest.invariant p n f)
