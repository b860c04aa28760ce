use Rattle.std.proofs.Common.{◌≡◌, ◌%◌, ◌∙◌, take, length, subst, arith}
use Rattle.std.proofs.lemmas.List.{take_rest, length-take-le, get_or-take}
use Rattle.hdfs_wire.specs.Words.{Spells}
use Rattle.hdfs_wire.proofs.Sliced.{Sliced-none, Sliced-more, Sliced-all}
use Rattle.hdfs_wire.proofs.Spelled.{spells_turn}
use Rattle.hdfs_wire.proofs.crc.enter_step.Goals as goal

pub loop-i-init : goal.loop-i-init
loop-i-init c = record {
  sliced = Sliced-none c.args.near.now c.args.far.now c.args.register c.args.bytes.now (omega arith);
  word = c.word_of-word.ensures;
}

pub loop-i-preserved : goal.loop-i-preserved
loop-i-preserved c =
    let l = c.loop-i in
    let bytes = c.args.bytes.now in
    let long : length (take 8 bytes) ≡ 8 = length-take-le 8 bytes (omega arith) in
    let turned = spells_turn l.word (take 8 bytes) l.i (omega (arith, long)) l.invariant.word in
    record {
      sliced = Sliced-more c.args.near.now c.args.far.now c.args.register bytes l.sum l.left l.i (l.word % 256) c.left_behind-sum.result (omega arith) (omega arith) (λ i. omega (arith, c.type_inv.bytes i)) l.invariant.sliced c.left_behind-sum.ensures (turned.0 ∙ get_or-take 8 bytes l.i 0 (omega arith));
      word = turned.1;
    }

pub loop-k-init : goal.loop-k-init
loop-k-init c =
    let bytes = c.args.bytes.now in
    let i-is : c.loop-i.i ≡ 8 = omega arith in
    record {
      sliced = rw (← i-is) c.loop-i.invariant.sliced;
      word = subst (Spells c.word_of-word-2.result) (take_rest bytes 8) c.word_of-word-2.ensures;
    }

pub loop-k-preserved : goal.loop-k-preserved
loop-k-preserved c =
    let l = c.loop-k in
    let bytes = c.args.bytes.now in
    let turned = spells_turn l.word bytes l.k (omega arith) l.invariant.word in
    record {
      sliced = Sliced-more c.args.near.now c.args.far.now c.args.register bytes l.sum l.left l.k (l.word % 256) c.left_behind-sum-in-loop-k.result (omega arith) (omega arith) (λ i. omega (arith, c.type_inv.bytes i)) l.invariant.sliced c.left_behind-sum-in-loop-k.ensures turned.0;
      word = turned.1;
    }

pub returns : goal.returns
returns c = Sliced-all c.args.near.now c.args.far.now c.args.register c.args.bytes.now c.loop-k.sum c.loop-k.left c.loop-k.k (omega arith) (omega arith) c.loop-k.invariant.sliced
