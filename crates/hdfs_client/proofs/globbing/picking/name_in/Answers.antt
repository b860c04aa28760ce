-- A path without a slash behind the directory is none of its entries.
use Rattle.hdfs_client.proofs.Picked.{if_none, no_name}
use Rattle.hdfs_client.proofs.globbing.picking.name_in.Goals as goal

pub returns-in_err-name-clause-none : goal.returns-in_err-name-clause-none
returns-in_err-name-clause-none c =
    if_none _ c.from_residual-in_err-name.result
    (λ name is. absurd (no_name c.args.dir.now c.in_ok-behind.field-0.now c.args.path.now name c.in_ok-behind.ensures.some
    (c.in_err-name.ensures.none name) is))
