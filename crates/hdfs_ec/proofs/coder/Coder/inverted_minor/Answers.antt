-- the square system has one solution, so its matrix has an inverse
use Rattle.hdfs_ec.proofs.Restoring.{regular, inverts}
use Rattle.hdfs_ec.proofs.coder.Coder.inverted_minor.Goals as goal

pub unreachable-requires : goal.unreachable-requires
unreachable-requires c =
    let code = c.args.self.now in
    let singular = rw c.in-None.is at c.in_ok-inverse.ensures.none in
    regular code.units code.parity c.requires.code c.args.held.now c.args.first c.args.missing.now c.requires c.in_ok-minor.minor c.in_ok-minor.ensures singular

pub returns : goal.returns
returns c =
    let code = c.args.self.now in
    let inverse = rw c.in-Some.is at c.in_ok-inverse.ensures.some in
    inverts code.units code.parity c.requires.code c.args.held.now c.args.first c.args.missing.now c.requires c.in_ok-minor.minor c.in_ok-minor.ensures c.in-Some.inverse inverse
