-- By the numbers.
use Rattle.hdfs_client.proofs.Numbers.{action_is}
use Rattle.hdfs_client.proofs.acl_messages.action_of.Goals as goal

pub returns : goal.returns
returns c = action_is c.args.number c.from_number.result c.from_number.ensures.known c.from_number.ensures.other
