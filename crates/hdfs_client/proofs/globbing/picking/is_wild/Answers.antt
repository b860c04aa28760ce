-- The pattern keeps whether there is one.
use Rattle.hdfs_client.proofs.Picked.{same_bool}
use Rattle.hdfs_client.proofs.globbing.picking.is_wild.Goals as goal

pub returns : goal.returns
returns c = same_bool c.has_wildcard.result _ (c.has_wildcard.ensures _ c.requires)
