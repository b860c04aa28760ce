-- By the numbers.
use Rattle.hdfs_client.proofs.Numbers.{scope_is}
use Rattle.hdfs_client.proofs.acl_messages.scope_of.Goals as goal

pub returns : goal.returns
returns c = scope_is c.args.number c.from_number.result c.from_number.ensures.known c.from_number.ensures.other
