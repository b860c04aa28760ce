-- A number is read as the value that has it, or as the first value.
use Rattle.std.proofs.Common.{◌≡◌, ◌⊎◌, ℕ, ◌==◌, true, inl, inr, refl, sym, ◌∙◌, ap}
use Rattle.std.proofs.lemmas.Bool.{cases_Bool}
use Rattle.std.proofs.lemmas.Bool.Decides.{Decides-eqb}
use Rattle.hdfs_names.specs.Acls.{action_number, scope_number, type_number}
use Rattle.hdfs_names.specs.declared.acl_entry_type.AclEntryType.{AclEntryType}
use Rattle.hdfs_names.specs.declared.acl_entry_type.AclEntryType.TheVariants as types
use Rattle.hdfs_names.specs.declared.acl_entry_scope.AclEntryScope.{AclEntryScope}
use Rattle.hdfs_names.specs.declared.acl_entry_scope.AclEntryScope.TheVariants as scopes
use Rattle.hdfs_names.specs.declared.fs_action.FsAction.{FsAction}
use Rattle.hdfs_names.specs.declared.fs_action.FsAction.TheVariants as actions
use Rattle.hdfs_client.specs.Acls.{action_of, scope_of, type_of}

type_back : (k : AclEntryType) → k ≡ type_of (type_number k)
type_back types.User = refl
type_back types.Group = refl
type_back types.Mask = refl
type_back types.Other = refl

scope_back : (k : AclEntryScope) → k ≡ scope_of (scope_number k)
scope_back scopes.Access = refl
scope_back scopes.Default = refl

action_back : (k : FsAction) → k ≡ action_of (action_number k)
action_back actions.None = refl
action_back actions.Execute = refl
action_back actions.Write = refl
action_back actions.WriteExecute = refl
action_back actions.Read = refl
action_back actions.ReadExecute = refl
action_back actions.ReadWrite = refl
action_back actions.PermAll = refl

has : (n m : ℕ) → (n == m) ≡ true → m ≡ n
has n m is = sym ((Decides-eqb n m).0 is)

pub type_is : (n : ℕ) (k : AclEntryType) → ((j : AclEntryType) → type_number j ≡ n → k ≡ j) → (type_number k ≡ n) ⊎ (k ≡ types.User) → k ≡ type_of n
type_is n k known (inl is) = type_back k ∙ ap type_of is
type_is n k known (inr first) = elim (cases_Bool (n == 1)) [
  | inl one ↦ rw one (known types.Group (has n 1 one))
  | inr apart ↦ rw apart (elim (cases_Bool (n == 2)) [
    | inl two ↦ rw two (known types.Mask (has n 2 two))
    | inr apart ↦ rw apart (elim (cases_Bool (n == 3)) [
      | inl three ↦ rw three (known types.Other (has n 3 three))
      | inr apart ↦ rw apart first
    ])
  ])
]

pub scope_is : (n : ℕ) (k : AclEntryScope) → ((j : AclEntryScope) → scope_number j ≡ n → k ≡ j) → (scope_number k ≡ n) ⊎ (k ≡ scopes.Access) → k ≡ scope_of n
scope_is n k known (inl is) = scope_back k ∙ ap scope_of is
scope_is n k known (inr first) = elim (cases_Bool (n == 1)) [
  | inl one ↦ rw one (known scopes.Default (has n 1 one))
  | inr apart ↦ rw apart first
]

pub action_is : (n : ℕ) (k : FsAction) → ((j : FsAction) → action_number j ≡ n → k ≡ j) → (action_number k ≡ n) ⊎ (k ≡ actions.None) → k ≡ action_of n
action_is n k known (inl is) = action_back k ∙ ap action_of is
action_is n k known (inr first) = elim (cases_Bool (n == 1)) [
  | inl one ↦ rw one (known actions.Execute (has n 1 one))
  | inr apart ↦ rw apart (elim (cases_Bool (n == 2)) [
    | inl two ↦ rw two (known actions.Write (has n 2 two))
    | inr apart ↦ rw apart (elim (cases_Bool (n == 3)) [
      | inl three ↦ rw three (known actions.WriteExecute (has n 3 three))
      | inr apart ↦ rw apart (elim (cases_Bool (n == 4)) [
        | inl four ↦ rw four (known actions.Read (has n 4 four))
        | inr apart ↦ rw apart (elim (cases_Bool (n == 5)) [
          | inl five ↦ rw five (known actions.ReadExecute (has n 5 five))
          | inr apart ↦ rw apart (elim (cases_Bool (n == 6)) [
            | inl six ↦ rw six (known actions.ReadWrite (has n 6 six))
            | inr apart ↦ rw apart (elim (cases_Bool (n == 7)) [
              | inl seven ↦ rw seven (known actions.PermAll (has n 7 seven))
              | inr apart ↦ rw apart first
            ])
          ])
        ])
      ])
    ])
  ])
]
