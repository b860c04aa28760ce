-- The texts and numbers of access control lists.
use Rattle.std.specs.Prelude.{ℕ, List, codes}
use Rattle.hdfs_names.specs.declared.acl_entry_type.AclEntryType.{AclEntryType}
use Rattle.hdfs_names.specs.declared.acl_entry_type.AclEntryType.TheVariants as types
use Rattle.hdfs_names.specs.declared.acl_entry_scope.AclEntryScope.{AclEntryScope}
use Rattle.hdfs_names.specs.declared.acl_entry_scope.AclEntryScope.TheVariants as scopes
use Rattle.hdfs_names.specs.declared.fs_action.FsAction.{FsAction}
use Rattle.hdfs_names.specs.declared.fs_action.FsAction.TheVariants as actions

-- whom an entry is about
abbrev pub type_text : AclEntryType → List ℕ
type_text types.User = codes "user"
type_text types.Group = codes "group"
type_text types.Mask = codes "mask"
type_text types.Other = codes "other"

-- its number in messages
abbrev pub type_number : AclEntryType → ℕ
type_number types.User = 0
type_number types.Group = 1
type_number types.Mask = 2
type_number types.Other = 3

-- whether an entry holds for a file itself or for what is made below it
abbrev pub scope_text : AclEntryScope → List ℕ
scope_text scopes.Access = codes "access"
scope_text scopes.Default = codes "default"

-- its number in messages
abbrev pub scope_number : AclEntryScope → ℕ
scope_number scopes.Access = 0
scope_number scopes.Default = 1

-- what an entry allows: reading, writing, executing
abbrev pub action_text : FsAction → List ℕ
action_text actions.None = codes "---"
action_text actions.Execute = codes "--x"
action_text actions.Write = codes "-w-"
action_text actions.WriteExecute = codes "-wx"
action_text actions.Read = codes "r--"
action_text actions.ReadExecute = codes "r-x"
action_text actions.ReadWrite = codes "rw-"
action_text actions.PermAll = codes "rwx"

-- its number in messages
abbrev pub action_number : FsAction → ℕ
action_number actions.None = 0
action_number actions.Execute = 1
action_number actions.Write = 2
action_number actions.WriteExecute = 3
action_number actions.Read = 4
action_number actions.ReadExecute = 5
action_number actions.ReadWrite = 6
action_number actions.PermAll = 7
