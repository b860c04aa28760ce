use Rattle.std.proofs.Common.{ℕ, ◌≡◌, ◌<◌, length, arith}
use Rattle.hdfs_field.specs.Elements.{gf256}
use Rattle.hdfs_field.specs.Matrices.{entry}
use Rattle.hdfs_ec.specs.Restoring.{restoring_at}
use Rattle.hdfs_ec.proofs.Restoring.{gives_back}
use Rattle.hdfs_ec.proofs.coder.Coder.rows_by.Goals as goal

pub returns : goal.returns
returns c =
    let a = c.args in
    let code = a.self.now in
    let split = c.requires.split in
    let done = c.loop-j.invariant in
    let rows = c.loop-j.invariant.rows in
    let end = c.rows-j-end.ensures.is in
    let first = c.in_ok-rows.ensures.height in
    let test = c.loop-j-test.false in
    let e = length a.missing.now in
    let is : (j i : ℕ) → j < e → i < code.units → entry gf256 c.loop-j.rows j i ≡ restoring_at a.inverse.now a.held.now a.first e j i
    = λ (j i : ℕ) (in_j : j < e) (in_i : i < code.units). done.done j i (omega arith) in_i in
    record {
      rows = done.rows;
      cols = done.cols;
      back = gives_back code.units code.parity split.code a.held.now a.first a.missing.now split a.inverse.now c.loop-j.rows c.requires.inverse is;
    }
