use Rattle.hdfs_ec.proofs.Choices.{parities_from}
use Rattle.hdfs_ec.proofs.coder.Coder.encode.Goals as goal

pub returns : goal.returns
returns c =
    let code = c.args.self.now in
    parities_from code.units code.parity c.in_ok-rows.rows c.args.shards.now c.in_ok-mul_shared.field-0.items c.in_ok-rows.ensures c.requires.even c.in_ok-mul_shared.ensures
