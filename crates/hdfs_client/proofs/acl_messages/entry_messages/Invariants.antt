-- The entries so far.
use Rattle.std.proofs.Common.{◌≡◌, map, take}
use Rattle.hdfs_client.specs.Acls.{entry_message}
use Rattle.hdfs_client.proofs.acl_messages.entry_messages.Given as goal

abbrev pub invariant-entries : goal.invariant-entries
invariant-entries l = l.messages.items ≡ map entry_message (take l.entry-index l.entries)
