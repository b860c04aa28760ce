-- Access control lists, as they are asked for and as a caller is told them.
use Rattle.std.specs.Prelude.{◌≡◌, ◌⊎◌, ℕ, ◌%◌, ◌==◌, map, Option, Some, None, Result, Ok, Err, if◌then◌else◌}
use Rattle.hdfs_cluster.specs.declared.errors.HdfsError.{HdfsError}
use Rattle.hdfs_cluster.specs.declared.errors.HdfsError.TheVariants as errors
use Rattle.hdfs_cluster.specs.declared.messages.AclEntryMsg.{AclEntryMsg}
use Rattle.hdfs_cluster.specs.declared.messages.AclStatusMsg.{AclStatusMsg}
use Rattle.hdfs_names.specs.Acls.{action_number, scope_number, type_number}
use Rattle.hdfs_names.specs.declared.acl_entry.AclEntry.{AclEntry}
use Rattle.hdfs_names.specs.declared.acl_entry.AclStatus.{AclStatus}
use Rattle.hdfs_names.specs.declared.acl_entry_type.AclEntryType.{AclEntryType}
use Rattle.hdfs_names.specs.declared.acl_entry_type.AclEntryType.TheVariants as types
use Rattle.hdfs_names.specs.declared.acl_entry_scope.AclEntryScope.{AclEntryScope}
use Rattle.hdfs_names.specs.declared.acl_entry_scope.AclEntryScope.TheVariants as scopes
use Rattle.hdfs_names.specs.declared.fs_action.FsAction.{FsAction}
use Rattle.hdfs_names.specs.declared.fs_action.FsAction.TheVariants as actions
use Rattle.hdfs_wire.specs.declared.wire_fault.WireFault.TheVariants as wire_faults

-- the entry of a list, as it is asked for
abbrev pub entry_message : AclEntry → AclEntryMsg
entry_message entry = record {
  kind = type_number entry.kind;
  scope = scope_number entry.scope;
  permissions = action_number entry.permissions;
  name = entry.name;
}

-- the type with this number, and the first one for a number that none has
abbrev pub type_of : ℕ → AclEntryType
type_of n = if n == 1 then types.Group else if n == 2 then types.Mask else if n == 3 then types.Other else types.User

-- and the scope
abbrev pub scope_of : ℕ → AclEntryScope
scope_of n = if n == 1 then scopes.Default else scopes.Access

-- and what is allowed
abbrev pub action_of : ℕ → FsAction
action_of n =
    if n == 1 then actions.Execute else if n == 2 then actions.Write else if n == 3 then actions.WriteExecute else if n == 4 then actions.Read
    else if n == 5 then actions.ReadExecute else if n == 6 then actions.ReadWrite else if n == 7 then actions.PermAll else actions.None

-- an entry as a caller is told it
abbrev pub entry_of : AclEntryMsg → AclEntry
entry_of message = record {
  kind = type_of message.kind;
  scope = scope_of message.scope;
  permissions = action_of message.permissions;
  name = message.name;
}

-- a list as a caller is told it, whose permission has these bits; the low sixteen of them count
abbrev pub acl_of : AclStatusMsg → ℕ → AclStatus
acl_of message bits = record {
  owner = message.owner;
  group = message.group;
  sticky = message.sticky;
  entries = map entry_of message.entries;
  permission = bits % 65536;
}

-- An answer without permission bits is cut.
abbrev pub IsAclOf : AclStatusMsg → Option ℕ → Result AclStatus HdfsError → Type 0
IsAclOf message (Some bits) result = (result ≡ Ok (acl_of message bits)) ⊎ (result ≡ Err errors.NoMemory)
IsAclOf message None result = result ≡ Err (errors.InvalidRPCResponse wire_faults.Cut)

-- what a caller has of an answer about a list
abbrev pub IsAcl : Result AclStatusMsg HdfsError → Result AclStatus HdfsError → Type 0
IsAcl (Ok message) result = IsAclOf message message.permission result
IsAcl (Err error) result = result ≡ Err error
