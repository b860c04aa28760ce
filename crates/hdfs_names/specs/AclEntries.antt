-- Equal entries of access control lists.
use Rattle.std.specs.Prelude.{Bool, nat_eq}
use Rattle.std.specs.Option.{option_eq}
use Rattle.std.specs.Ordering.{on, eq_of_both}
use Rattle.std.specs.Cmp.{IsEquivalence, and_equiv, on_equiv, nat_eq_equiv}
use Rattle.std.specs.Cmp.Lexicographic.{pointwise, lists_equiv, options_equiv}
use Rattle.hdfs_names.specs.Acls.{type_number, scope_number, action_number}
use Rattle.hdfs_names.specs.declared.acl_entry.AclEntry.{AclEntry}

-- the two entries are of one type, scope and name, and allow the same
abbrev pub entry_eq : AclEntry → AclEntry → Bool
entry_eq =
    eq_of_both
    (eq_of_both (on (λ e. type_number e.kind) nat_eq) (on (λ e. scope_number e.scope) nat_eq))
    (eq_of_both (on (λ e. action_number e.permissions) nat_eq) (on (λ e. e.name) (option_eq (pointwise nat_eq))))

-- it is an equivalence
pub entry_eq_equiv : IsEquivalence entry_eq
entry_eq_equiv =
    and_equiv
    (and_equiv (on_equiv (λ e. type_number e.kind) nat_eq_equiv) (on_equiv (λ e. scope_number e.scope) nat_eq_equiv))
    (and_equiv (on_equiv (λ e. action_number e.permissions) nat_eq_equiv) (on_equiv (λ e. e.name) (options_equiv (lists_equiv nat_eq_equiv))))
