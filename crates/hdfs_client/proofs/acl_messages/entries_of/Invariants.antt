-- The entries so far.
use Rattle.std.proofs.Common.{◌≡◌, map, take}
use Rattle.hdfs_client.specs.Acls.{entry_of}
use Rattle.hdfs_client.proofs.acl_messages.entries_of.Given as goal

abbrev pub invariant-messages : goal.invariant-messages
invariant-messages l = l.entries.items ≡ map entry_of (take l.message-index l.messages)
