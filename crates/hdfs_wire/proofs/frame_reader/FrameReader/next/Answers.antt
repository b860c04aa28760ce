use Rattle.std.proofs.Common.{◌≡◌, Some}
use Rattle.std.proofs.lemmas.Result.{err_from_is_err_and}
use Rattle.hdfs_wire.proofs.Stream.{taken, none_iff, err_is_not, some_is_not, given}
use Rattle.hdfs_wire.proofs.frame_reader.FrameReader.next.Goals as goal

pub returns-in_err-inner-clause-none : goal.returns-in_err-inner-clause-none
returns-in_err-inner-clause-none c =
    let same : c.as_slice-bytes.result.now ≡ c.args.self.now = cc in
    let p = err_from_is_err_and c.from_residual-in_err-inner.result c.from_residual-in_err-inner.ensures.1 in
    none_iff c.from_residual-in_err-inner.result c.args.self.now c.as_slice-bytes.result.now c.in_ok-len.field-0 c.in-Some.len same c.in_ok-len.ensures c.in-Some.is (err_is_not c.from_residual-in_err-inner.result p.0 p.1)

pub returns-clause-found : goal.returns-clause-found
returns-clause-found c =
    let same : c.as_slice-bytes.result.now ≡ c.args.self.now = cc in
    let inner_is = c.in_ok-inner.ensures.items in
    let inner_same : c.from_vec.result ≡ c.in_ok-inner.inner.items = c.from_vec.ensures in
    let left = c.advance.ensures.items in
    taken c.args.self.now c.as_slice-bytes.result.now c.from_vec.result c.advance.new.self.items c.in_ok-len.field-0 c.in-Some.len same c.in_ok-len.ensures c.in-Some.is (cc) (cc)

pub returns-clause-none : goal.returns-clause-none
returns-clause-none c =
    let same : c.as_slice-bytes.result.now ≡ c.args.self.now = cc in
    none_iff (given (Some c.from_vec.result)) c.args.self.now c.as_slice-bytes.result.now c.in_ok-len.field-0 c.in-Some.len same c.in_ok-len.ensures c.in-Some.is (some_is_not c.from_vec.result)
